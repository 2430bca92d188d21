-- Entries moved: one after another, and twice.
-- Assumes nothing.
use Rattle.std.specs.Prelude.{◌≡◌, Bool, ◌&&◌, ◌||◌, length, get_or}
use Rattle.std.proofs.Math.Path.{refl}
use Rattle.std.proofs.Common.{sym, ap, ◌∙◌, arith, eqb-true, ltb-true, ltb-false, eq-eqb, ne_eqb, lt-ltb, le-ltb}
use Rattle.std.proofs.Math.Bool.{true, false, cond, not}
use mathlib.Core.List.{List, [], ◌∷◌, ◌++◌}
use Prim.Native.Nat.{ℕ, suc, ◌≤◌, ◌<◌}
use Rattle.std.proofs.Math.Dec.{eqb, ltb}
use Rattle.unit.specs.declared.Line.{Line}
use Rattle.lines.specs.Lines.{lands, moved}

-- an entry on another place
abbrev pub onto : ℕ → Line → Line
onto q e = record { place = q; line = e.line }

or_false : (t : Bool) → (t || false) ≡ t
or_false true = refl
or_false false = refl

-- ---- twice

module _ (to by : ℕ → ℕ) where
  -- what lands on one place goes on to one place
  lands_on : (q : ℕ) (es : List Line) → lands to q es ≡ true → lands (λ p. by (to p)) (by q) es ≡ true
  unfolding lands
  lands_on q [] e = e
  lands_on q (x ∷ es) e = go (eqb (to x.place) q) refl e (lands_on q es)
    where
      go : (t : Bool) → eqb (to x.place) q ≡ t → (t || lands to q es) ≡ true → (lands to q es ≡ true → lands (λ p. by (to p)) (by q) es ≡ true)
          → (eqb (by (to x.place)) (by q) || lands (λ p. by (to p)) (by q) es) ≡ true
      go true f e ih = rw (eq-eqb (by (to x.place)) (by q) (ap by (eqb-true (to x.place) q f)))
      go false f e ih = rw (ih e) (or_true (eqb (by (to x.place)) (by q)))
        where
          or_true : (t : Bool) → (t || true) ≡ true
          or_true true = refl
          or_true false = refl

  module _ (n m : ℕ) (inside : (q : ℕ) → by q < m → q < n) where
    -- strikes of the first move hide nothing from the second
    lands_moved : (q : ℕ) → q < m → (es : List Line) → lands by q (moved to n es) ≡ lands (λ p. by (to p)) q es
    unfolding lands moved
    lands_moved q h [] = refl
    lands_moved q h (x ∷ es) = go (eqb (by a) q) refl (ltb a n) refl (lands to a es) refl (lands_moved q h es)
      where
        a : ℕ
        a = to x.place

        go : (s : Bool) → eqb (by a) q ≡ s → (t : Bool) → ltb a n ≡ t → (u : Bool) → lands to a es ≡ u → lands by q (moved to n es) ≡ lands (λ p. by (to p)) q es
            → lands by q (cond (t && not u) (onto a x ∷ moved to n es) (moved to n es)) ≡ (s || lands (λ p. by (to p)) q es)
        go true e true f true g ih = ih ∙ ap (λ (k : ℕ). lands (λ p. by (to p)) k es) (sym (eqb-true (by a) q e)) ∙ lands_on a es g
        go true e true f false g ih = rw e
        go true e false f u g ih =
            let there : by a ≡ q = eqb-true (by a) q e in
            let past : n ≤ a = ltb-false a n f in
            let here : a < n = inside a (rw there h) in
            absurd (omega arith)
        go false e true f true g ih = ih
        go false e true f false g ih = rw e ih
        go false e false f u g ih = ih

    -- moving twice, with strikes after each, is moving once
    pub moved_twice : (es : List Line) → moved by m (moved to n es) ≡ moved (λ p. by (to p)) m es
    unfolding moved
    moved_twice [] = refl
    moved_twice (x ∷ es) = go (ltb a n) refl (lands to a es) refl (ltb (by a) m) refl (moved_twice es)
      where
        a : ℕ
        a = to x.place

        once : List Line
        once = moved (λ p. by (to p)) m es

        go : (t : Bool) → ltb a n ≡ t → (u : Bool) → lands to a es ≡ u → (v : Bool) → ltb (by a) m ≡ v → moved by m (moved to n es) ≡ once
            → moved by m (cond (t && not u) (onto a x ∷ moved to n es) (moved to n es)) ≡ cond (v && not (lands (λ p. by (to p)) (by a) es)) (onto (by a) x ∷ once) once
        go true e false f true g ih = rw (g, lands_moved (by a) (ltb-true (by a) m g) es, ih)
        go true e false f false g ih = rw (g, ih)
        go true e true f true g ih = ih ∙ rw (lands_on a es f)
        go true e true f false g ih = ih
        go false e u f true g ih =
            let past : n ≤ a = ltb-false a n e in
            let here : a < n = inside a (ltb-true (by a) m g) in
            absurd (omega arith)
        go false e u f false g ih = ih

-- where entries go is all that counts
module _ (to by : ℕ → ℕ) (f : (p : ℕ) → to p ≡ by p) where
  lands_same : (q : ℕ) (es : List Line) → lands to q es ≡ lands by q es
  unfolding lands
  lands_same q [] = refl
  lands_same q (x ∷ es) = rw (f x.place, lands_same q es)

  pub moved_same : (n : ℕ) (es : List Line) → moved to n es ≡ moved by n es
  unfolding moved
  moved_same n [] = refl
  moved_same n (x ∷ es) = rw (f x.place, lands_same (by x.place) es, moved_same n es)

-- ---- one after another

module _ (to : ℕ → ℕ) (n : ℕ) where
  lands_append : (q : ℕ) (xs ys : List Line) → lands to q (xs ++ ys) ≡ (lands to q xs || lands to q ys)
  unfolding lands
  lands_append q [] ys = refl
  lands_append q (x ∷ xs) ys = rw (lands_append q xs ys) (assoc (eqb (to x.place) q) (lands to q xs) (lands to q ys))
    where
      assoc : (r s t : Bool) → (r || (s || t)) ≡ ((r || s) || t)
      assoc true s t = refl
      assoc false s t = refl

  -- the entries, those that land on b struck too
  unfoldable pub without : ℕ → List Line → List Line
  without b [] = []
  without b (e ∷ es) =
      cond (ltb (to e.place) n && not (lands to (to e.place) es || eqb b (to e.place))) (onto (to e.place) e ∷ without b es) (without b es)

  -- one entry more supersedes those that land where it does
  pub moved_last : (xs : List Line) (e : Line) → to e.place < n → moved to n (xs ++ (e ∷ [])) ≡ without (to e.place) xs ++ (onto (to e.place) e ∷ [])
  unfolding moved without lands
  moved_last [] e h = rw (lt-ltb (to e.place) n h)
  moved_last (x ∷ xs) e h =
      rw (lands_append (to x.place) xs (e ∷ []), or_false (eqb (to e.place) (to x.place)), moved_last xs e h)
      (split (ltb (to x.place) n && not (lands to (to x.place) xs || eqb (to e.place) (to x.place))) (onto (to x.place) x) (without (to e.place) xs) (onto (to e.place) e ∷ []))
    where
      split : (t : Bool) (a : Line) (xs ys : List Line) → cond t (a ∷ (xs ++ ys)) (xs ++ ys) ≡ cond t (a ∷ xs) xs ++ ys
      split true a xs ys = refl
      split false a xs ys = refl

  -- the last entry was one of them
  pub without_last : (b : ℕ) (xs : List Line) (x : Line) → to x.place ≡ b → without b (xs ++ (x ∷ [])) ≡ without b xs
  unfolding without lands
  without_last b [] x e = rw (eq-eqb b (to x.place) (sym e)) (out (ltb (to x.place) n))
    where
      out : (t : Bool) → cond (t && false) (onto (to x.place) x ∷ []) [] ≡ []
      out true = refl
      out false = refl
  without_last b (y ∷ ys) x e =
      rw (lands_append (to y.place) ys (x ∷ []), e, or_false (eqb b (to y.place)), or_again (lands to (to y.place) ys) (eqb b (to y.place)), without_last b ys x e)
    where
      or_again : (s t : Bool) → ((s || t) || t) ≡ (s || t)
      or_again true t = refl
      or_again false true = refl
      or_again false false = refl

  -- there were none
  pub without_free : (b : ℕ) (xs : List Line) (d : Line) → ((i : ℕ) → i < length xs → to (get_or xs i d).place < b) → without b xs ≡ moved to n xs
  unfolding without moved
  without_free b [] d f = refl
  without_free b (x ∷ xs) d f =
      let low : to x.place < b = f 0 (omega arith) in
      rw (ne_eqb b (to x.place) (λ e. omega arith), or_false (lands to (to x.place) xs), without_free b xs d (λ i h. f (suc i) (omega arith)))

  -- what goes past the end is dropped, and supersedes nothing
  never : (q : ℕ) → q < n → (zs : List Line) (d : Line) → ((i : ℕ) → i < length zs → n ≤ to (get_or zs i d).place) → lands to q zs ≡ false
  unfolding lands
  never q h [] d f = refl
  never q h (z ∷ zs) d f =
      let far : n ≤ to z.place = f 0 (omega arith) in
      rw (ne_eqb (to z.place) q (λ e. omega arith)) (never q h zs d (λ i l. f (suc i) (omega arith)))

  pub moved_past : (xs ys : List Line) (d : Line) → ((i : ℕ) → i < length ys → n ≤ to (get_or ys i d).place) → moved to n (xs ++ ys) ≡ moved to n xs
  unfolding moved
  moved_past [] [] d f = refl
  moved_past [] (y ∷ ys) d f = rw (le-ltb (to y.place) n (f 0 (omega arith))) (moved_past [] ys d (λ i h. f (suc i) (omega arith)))
  moved_past (x ∷ xs) ys d f = go (ltb (to x.place) n) refl (moved_past xs ys d f)
    where
      go : (t : Bool) → ltb (to x.place) n ≡ t → moved to n (xs ++ ys) ≡ moved to n xs
          → cond (t && not (lands to (to x.place) (xs ++ ys))) (onto (to x.place) x ∷ moved to n (xs ++ ys)) (moved to n (xs ++ ys))
          ≡ cond (t && not (lands to (to x.place) xs)) (onto (to x.place) x ∷ moved to n xs) (moved to n xs)
      go true e ih =
          rw (lands_append (to x.place) xs ys, never (to x.place) (ltb-true (to x.place) n e) ys d f, or_false (lands to (to x.place) xs), ih)
      go false e ih = ih
