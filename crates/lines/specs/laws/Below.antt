-- How many of a list's rising places lie below a place.
-- Assumes nothing.
use Rattle.std.specs.Prelude.{◌≡◌, refl, Bool, true, false, cond, List, [], ◌∷◌, map, ℕ, zero, suc, ◌+◌, ◌*◌, ◌/◌, ◌≤◌, ◌<◌, ltb, length, get_or}
use Rattle.std.proofs.Common.{ap, arith, ltb-true, ltb-false, lt-ltb, le-ltb}
use Rattle.words.specs.Le.{u32_at}
use Rattle.words.specs.Lists.{tabulate}
use Rattle.words.specs.laws.Lists.{length_tabulate, get_d_tabulate}
use Rattle.unit.specs.Size.{place_size}
use Rattle.lines.specs.Lines.{below}

-- the places of a section
abbrev pub places_in : List ℕ → List ℕ
places_in l = tabulate (length l / place_size) (λ i. u32_at l (place_size * i))

abbrev pub Rising : List ℕ → Type 0
Rising xs = (i j : ℕ) → i < j → j < length xs → get_or xs i 0 < get_or xs j 0

rising_rest : (x : ℕ) (xs : List ℕ) → Rising (x ∷ xs) → Rising xs
rising_rest x xs r i j h l = r (suc i) (suc j) (omega arith) (omega arith)

pub below_most : (xs : List ℕ) (p : ℕ) → below xs p ≤ length xs
unfolding below
below_most [] p = omega arith
below_most (x ∷ xs) p = go (ltb x p) (below_most xs p)
  where
    go : (t : Bool) → below xs p ≤ length xs → cond t (suc (below xs p)) (below xs p) ≤ suc (length xs)
    go true h = omega arith
    go false h = omega arith

pub below_all : (xs : List ℕ) (p : ℕ) → ((i : ℕ) → i < length xs → get_or xs i 0 < p) → below xs p ≡ length xs
unfolding below
below_all [] p f = refl
below_all (x ∷ xs) p f = rw (lt-ltb x p (f 0 (omega arith))) (ap suc (below_all xs p (λ i h. f (suc i) (omega arith))))

pub below_none : (xs : List ℕ) (p : ℕ) → ((i : ℕ) → i < length xs → p ≤ get_or xs i 0) → below xs p ≡ 0
unfolding below
below_none [] p f = refl
below_none (x ∷ xs) p f = rw (le-ltb x p (f 0 (omega arith))) (below_none xs p (λ i h. f (suc i) (omega arith)))

-- of rising places, those below p come first
pub below_inside : (xs : List ℕ) (p : ℕ) → Rising xs → (i : ℕ) → i < below xs p → get_or xs i 0 < p
unfolding below
below_inside [] p r i h = absurd (omega arith)
below_inside (x ∷ xs) p r i h = go (ltb x p) refl i h (below_inside xs p (rising_rest x xs r))
  where
    go : (t : Bool) → ltb x p ≡ t → (i : ℕ) → i < cond t (suc (below xs p)) (below xs p) → ((i : ℕ) → i < below xs p → get_or xs i 0 < p) → get_or (x ∷ xs) i 0 < p
    go true e zero h f = ltb-true x p e
    go true e (suc i) h f = f i (omega arith)
    go false e i h f =
        let past : p ≤ x = ltb-false x p e in
        let none : below xs p ≡ 0 = below_none xs p (λ j l. let g : x < get_or xs j 0 = r 0 (suc j) (omega arith) (omega arith) in omega arith) in
        absurd (omega arith)

pub inside_below : (xs : List ℕ) (p : ℕ) → Rising xs → (i : ℕ) → i < length xs → get_or xs i 0 < p → i < below xs p
unfolding below
inside_below [] p r i l h = absurd (omega arith)
inside_below (x ∷ xs) p r i l h = go (ltb x p) refl i l h (inside_below xs p (rising_rest x xs r))
  where
    go : (t : Bool) → ltb x p ≡ t → (i : ℕ) → i < suc (length xs) → get_or (x ∷ xs) i 0 < p → ((i : ℕ) → i < length xs → get_or xs i 0 < p → i < below xs p) → i < cond t (suc (below xs p)) (below xs p)
    go true e zero l h f = omega arith
    go true e (suc i) l h f = let g = f i (omega arith) h in omega arith
    go false e zero l h f = let past : p ≤ x = ltb-false x p e in absurd (omega arith)
    go false e (suc i) l h f =
        let past : p ≤ x = ltb-false x p e in
        let g : x < get_or xs i 0 = r 0 (suc i) (omega arith) (omega arith) in
        absurd (omega arith)

-- a higher place has as many below it, or more
pub below_mono : (xs : List ℕ) (p q : ℕ) → p ≤ q → below xs p ≤ below xs q
unfolding below
below_mono [] p q h = omega arith
below_mono (x ∷ xs) p q h = go (ltb x p) refl (ltb x q) refl (below_mono xs p q h)
  where
    go : (s : Bool) → ltb x p ≡ s → (t : Bool) → ltb x q ≡ t → below xs p ≤ below xs q → cond s (suc (below xs p)) (below xs p) ≤ cond t (suc (below xs q)) (below xs q)
    go true e true f m = omega arith
    go true e false f m = let a : x < p = ltb-true x p e in let b : q ≤ x = ltb-false x q f in absurd (omega arith)
    go false e true f m = omega arith
    go false e false f m = m

-- ---- places of places: what a second pass retained of what the first did

pub below_placed : (xs ys : List ℕ) → Rising xs → ((i : ℕ) → i < length ys → get_or ys i 0 < length xs) → (p : ℕ) → below (map (λ (y : ℕ). get_or xs y 0) ys) p ≡ below ys (below xs p)
unfolding below
below_placed xs [] r f p = refl
below_placed xs (y ∷ ys) r f p = rw (same, below_placed xs ys r (λ i h. f (suc i) (omega arith)) p)
  where
    same : ltb (get_or xs y 0) p ≡ ltb y (below xs p)
    same = go (ltb (get_or xs y 0) p) refl
      where
        go : (t : Bool) → ltb (get_or xs y 0) p ≡ t → ltb (get_or xs y 0) p ≡ ltb y (below xs p)
        go true e = rw (e, lt-ltb y (below xs p) (inside_below xs p r y (f 0 (omega arith)) (ltb-true (get_or xs y 0) p e)))
        go false e =
            let past : p ≤ get_or xs y 0 = ltb-false (get_or xs y 0) p e in
            let outside : below xs p ≤ y = go' (ltb y (below xs p)) refl past in
            rw (e, le-ltb y (below xs p) outside)
          where
            go' : (t : Bool) → ltb y (below xs p) ≡ t → p ≤ get_or xs y 0 → below xs p ≤ y
            go' true g past = let h : get_or xs y 0 < p = below_inside xs p r y (ltb-true y (below xs p) g) in absurd (omega arith)
            go' false g past = ltb-false y (below xs p) g

-- ---- the walk along the places of a section

module _ (l : List ℕ) (p : ℕ) where
  places_long : length (places_in l) ≡ length l / place_size
  places_long = length_tabulate (length l / place_size) _

  place_in : (b : ℕ) → b < length l / place_size → get_or (places_in l) b 0 ≡ u32_at l (place_size * b)
  place_in b h = get_d_tabulate (length l / place_size) _ b 0 h

  -- a place that is not below p
  pub walk_found : (b : ℕ) → b < length l / place_size → p ≤ u32_at l (place_size * b) → Rising (places_in l) → b ≤ below (places_in l) p → b ≡ below (places_in l) p
  walk_found b h past r low = go (ltb b (below (places_in l) p)) refl
    where
      go : (t : Bool) → ltb b (below (places_in l) p) ≡ t → b ≡ below (places_in l) p
      go true e =
          let inside : u32_at l (place_size * b) < p = rw (place_in b h) at (below_inside (places_in l) p r b (ltb-true b (below (places_in l) p) e)) in
          absurd (omega arith)
      go false e = let up : below (places_in l) p ≤ b = ltb-false b (below (places_in l) p) e in omega arith

  pub walk_more : (b : ℕ) → b < length l / place_size → u32_at l (place_size * b) < p → Rising (places_in l) → b + 1 ≤ below (places_in l) p
  walk_more b h e r =
      let g : b < below (places_in l) p = inside_below (places_in l) p r b (rw places_long h) (rw (place_in b h) e) in
      omega arith

  pub walk_end : (b : ℕ) → length l / place_size ≤ b → b ≤ below (places_in l) p → b ≡ below (places_in l) p
  walk_end b h low = let most = below_most (places_in l) p in let long = places_long in omega arith
