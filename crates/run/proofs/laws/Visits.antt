-- Laws of Visits: runs that visit the same places are the same runs, one after another; what is noted of kept places.
-- Assumes nothing.
use Rattle.std.specs.Prelude.{◌≡◌, ◌⊎◌, Bool, ltb, length, get_or}
use Rattle.std.proofs.Math.Path.{refl}
use Rattle.std.proofs.Common.{sym, ap, ◌∙◌, inl, inr, arith}
use Rattle.std.proofs.Math.Bool.{true, false, cond}
use mathlib.Core.List.{List, [], ◌∷◌, map}
use Prim.Native.Nat.{ℕ, zero, suc, ◌+◌, ◌-◌, ◌≤◌, ◌<◌}
use Rattle.std.proofs.Math.Dec.{eqb}
use borrow.Author.Tests.{eqb-true, eqb-false, eq-eqb, ne_eqb, ltb-true, ltb-false}
use Rattle.words.specs.Lists.{is_in}
use Rattle.effects.specs.Shape.{Cell}
use Rattle.flow.specs.laws.Flags.{Flags}
use Rattle.unit.specs.Result.{Retained}
use Rattle.lines.specs.Lines.{places_of}
use Rattle.lines.specs.laws.Below.{Rising}
use Rattle.pc_map.specs.Boundary.{is_kept, boundary}
use Rattle.pc_map.specs.laws.Boundaries.{boundary_zero, boundary_kept, boundary_dropped, boundary_mono}
use Rattle.pc_map.specs.Relocate.{relocate, retain_from}
use Rattle.run.specs.System.{System, after, Same}
use Rattle.run.specs.laws.System.{same_trans}
use Rattle.run.specs.Machine.{Event, Way, World, Program, State, at, over, system, SameRuns}
use Rattle.run.specs.Visits.{Noted, note_step, noting, visit, visiting, noted_at, SameVisits}

-- ---- notes left out

module _ {R W : Type 0} where
  content_after : (S : System R W) (note : S.State → List ℕ) (k : ℕ) (x : Noted S.State) → (after (noting S note) k x).content ≡ after S k x.content
  unfolding after
  content_after S note zero x = refl
  content_after S note (suc k) x = content_after S note k (note_step S note x)

  module _ (S S' : System R W) (note : S.State → List ℕ) (note' : S'.State → List ℕ) (x : Noted S.State) (y : Noted S'.State) where
    given : (k : ℕ) → (after (noting S note) k x).content ≡ after S k x.content
    given k = content_after S note k x

    returned : (k : ℕ) → (after (noting S' note') k y).content ≡ after S' k y.content
    returned k = content_after S' note' k y

    -- runs that are the same with notes are the same without
    pub forget : Same (noting S note) x (noting S' note') y → Same S x.content S' y.content
    forget s =
        record {
          logs = λ k. let a = s.logs k in (a.0, a.1, rw (← returned a.0, ← given k) (ap (λ (r : Noted R). r.content) a.2));
          ends = λ k w e.
              let a = s.ends k w (rw (given k) e) in
              (a.0, a.1, rw (← returned a.0) a.2, rw (← returned a.0, ← given k) (ap (λ (r : Noted R). r.content) a.3));
          logs⁻ = λ j. let b = s.logs⁻ j in (b.0, rw (← returned j, ← given b.0) (ap (λ (r : Noted R). r.content) b.1));
          ends⁻ = λ j w e.
              let b = s.ends⁻ j w (rw (returned j) e) in
              (b.0, rw (← given b.0) b.1, rw (← returned j, ← given b.0) (ap (λ (r : Noted R). r.content) b.2));
        }

pub visits_runs : {F F' : World → Program} {g : (ℕ → List ℕ) → ℕ → List ℕ} → SameVisits F F' g → SameRuns F F'
visits_runs {F} {F'} {g} v = record { runs = λ W σ. forget _ _ _ _ _ _ (v.visits W σ (λ p. [])) }

-- one after another
pub visits_trans : {F₁ F₂ F₃ : World → Program} {g h : (ℕ → List ℕ) → ℕ → List ℕ} → SameVisits F₁ F₂ g → SameVisits F₂ F₃ h → SameVisits F₁ F₃ (λ f. g (h f))
visits_trans {h = h} p q = record { visits = λ W σ f. same_trans (p.visits W σ (h f)) (q.visits W σ f) }

-- the notes are those of the places alone
module _ (W : World) (P : Program) (f g : ℕ → List ℕ) (same : (p : ℕ) → f p ≡ g p) where
  same_visit : (x : State) → visit f x ≡ visit g x
  unfolding visit
  same_visit (at p σ R) = same p
  same_visit (over w R) = refl

  same_after : (k : ℕ) (x : Noted State) → after (visiting W P f) k x ≡ after (visiting W P g) k x
  unfolding after
  same_after zero x = refl
  same_after (suc k) x = rw (same_visit x.content) (same_after k (note_step (system W P) (visit g) x))

  pub same_noted : (T : System (Noted (List Event)) Way) (x : Noted State) (y : T.State) → Same (visiting W P f) x T y → Same (visiting W P g) x T y
  same_noted T x y s =
      record {
        logs = λ k. rw (← same_after k x) (s.logs k);
        ends = λ k w e. rw (← same_after k x) (s.ends k w (rw (same_after k x) e));
        logs⁻ = λ j. let b = s.logs⁻ j in (b.0, rw (← same_after b.0 x) b.1);
        ends⁻ = λ j w e. let b = s.ends⁻ j w e in (b.0, rw (← same_after b.0 x) b.1, rw (← same_after b.0 x) b.2);
      }

pub visits_noted : {F F' : World → Program} {g : (ℕ → List ℕ) → ℕ → List ℕ} (h : (ℕ → List ℕ) → ℕ → List ℕ) → SameVisits F F' g → ((f : ℕ → List ℕ) (p : ℕ) → g f p ≡ h f p) → SameVisits F F' h
visits_noted {F} {g = g} h v e = record { visits = λ W σ f. same_noted W (F W) (g f) (h f) (e f) _ _ _ (v.visits W σ f) }

-- ---- what is noted of kept places

module _ (keep : List ℕ) (flags : Flags keep) where
  noted_below : (f : ℕ → List ℕ) (xs : List Cell) (q p : ℕ) → p < q → noted_at (places_of (retain_from keep q xs)) f p ≡ []
  unfolding retain_from noted_at
  noted_below f [] q p h = refl
  noted_below f (x ∷ xs) q p h = go (is_kept keep q) (noted_below f xs (suc q) p (omega arith)) (noted_below (λ k. f (suc k)) xs (suc q) p (omega arith))
    where
      rest : List Retained
      rest = retain_from keep (suc q) xs

      head : Retained
      head = record { instruction = (relocate keep q x).instruction; metadata = (relocate keep q x).metadata; place = q }

      go : (t : Bool) → noted_at (places_of rest) f p ≡ [] → noted_at (places_of rest) (λ k. f (suc k)) p ≡ [] → noted_at (places_of (cond t (head ∷ rest) rest)) f p ≡ []
      go true a b = rw (ne_eqb q p (λ e. omega arith)) b
      go false a b = a

  noted_from : (f : ℕ → List ℕ) (xs : List Cell) (q p : ℕ) → q + length xs ≡ length keep → q ≤ p → p < length keep
      → noted_at (places_of (retain_from keep q xs)) f p ≡ cond (is_kept keep p) (f (boundary keep p - boundary keep q)) []
  unfolding retain_from noted_at
  noted_from f [] q p e h l = absurd (omega arith)
  noted_from f (x ∷ xs) q p e h l = go (eqb q p) refl (is_kept keep q) refl (λ g o. noted_from g xs (suc q) p (omega arith) o l)
    where
      rest : List Retained
      rest = retain_from keep (suc q) xs

      head : Retained
      head = record { instruction = (relocate keep q x).instruction; metadata = (relocate keep q x).metadata; place = q }

      go : (s : Bool) → eqb q p ≡ s → (t : Bool) → is_kept keep q ≡ t
          → ((g : ℕ → List ℕ) → suc q ≤ p → noted_at (places_of rest) g p ≡ cond (is_kept keep p) (g (boundary keep p - boundary keep (suc q))) [])
          → noted_at (places_of (cond t (head ∷ rest) rest)) f p ≡ cond (is_kept keep p) (f (boundary keep p - boundary keep q)) []
      go true s true t ih =
          let same : q ≡ p = eqb-true q p s in
          let none : boundary keep p - boundary keep q ≡ 0 = rw same (omega arith) in
          rw (s, none, ← same, t)
      go true s false t ih =
          let same : q ≡ p = eqb-true q p s in
          rw (noted_below f xs (suc q) p (omega arith), ← same, t)
      go false s true t ih =
          let past : suc q ≤ p = let apart = eqb-false q p s in omega arith in
          let one = boundary_kept keep q (omega arith) t in
          let up = boundary_mono keep (suc q) p past in
          let next : boundary keep p - boundary keep q ≡ suc (boundary keep p - boundary keep (suc q)) = omega arith in
          rw (s, next) (ih (λ k. f (suc k)) past)
      go false s false t ih =
          let past : suc q ≤ p = let apart = eqb-false q p s in omega arith in
          let none = boundary_dropped keep flags q (omega arith) t in
          rw (← none) (ih f past)

  module _ (f : ℕ → List ℕ) (cells : List Cell) (long : length cells ≡ length keep) where
    at_place : (p : ℕ) → p < length cells → noted_at (places_of (retain_from keep 0 cells)) f p ≡ cond (is_kept keep p) (f (boundary keep p)) []
    at_place p h =
        let first : boundary keep p - boundary keep 0 ≡ boundary keep p = rw (boundary_zero keep) (omega arith) in
        rw first at (noted_from f cells 0 p (omega arith) (omega arith) (omega arith))

    -- what is noted of the place that a kept one goes to, and nothing of one that is dropped
    pub noted_kept : (p : ℕ) → p < length cells → is_kept keep p ≡ true → f (boundary keep p) ≡ noted_at (places_of (retain_from keep 0 cells)) f p
    noted_kept p h k = sym (rw k at (at_place p h))

    pub noted_dropped : (p : ℕ) → p < length cells → is_kept keep p ≡ false → noted_at (places_of (retain_from keep 0 cells)) f p ≡ []
    noted_dropped p h k = rw k at (at_place p h)

-- ---- over several passes

-- where a place stands among rising ones, or that it does not
place_in : (xs : List ℕ) (p : ℕ) → ((i : ℕ) × (i < length xs) × (get_or xs i 0 ≡ p)) ⊎ ((i : ℕ) → i < length xs → get_or xs i 0 ≡ p → ⊥)
place_in [] p = inr (λ i h e. omega arith)
place_in (x ∷ xs) p = go (eqb x p) refl (place_in xs p)
  where
    go : (t : Bool) → eqb x p ≡ t → ((i : ℕ) × (i < length xs) × (get_or xs i 0 ≡ p)) ⊎ ((i : ℕ) → i < length xs → get_or xs i 0 ≡ p → ⊥)
        → ((i : ℕ) × (i < length (x ∷ xs)) × (get_or (x ∷ xs) i 0 ≡ p)) ⊎ ((i : ℕ) → i < length (x ∷ xs) → get_or (x ∷ xs) i 0 ≡ p → ⊥)
    go true e r = inl (0, omega arith, eqb-true x p e)
    go false e (inl (i, h, q)) = inl (suc i, omega arith, q)
    go false e (inr n) = inr (λ i h q. none i h q)
      where
        none : (i : ℕ) → i < length (x ∷ xs) → get_or (x ∷ xs) i 0 ≡ p → ⊥
        none zero h q = eqb-false x p e q
        none (suc i) h q = n i (omega arith) q

noted_in : (xs : List ℕ) (f : ℕ → List ℕ) (i : ℕ) → Rising xs → i < length xs → noted_at xs f (get_or xs i 0) ≡ f i
unfolding noted_at
noted_in [] f i r h = absurd (omega arith)
noted_in (x ∷ xs) f zero r h = rw (eq-eqb x x refl)
noted_in (x ∷ xs) f (suc i) r h =
    let past : x < get_or xs i 0 = r 0 (suc i) (omega arith) h in
    rw (ne_eqb x (get_or xs i 0) (λ e. omega arith)) (noted_in xs (λ k. f (suc k)) i (λ a b o l. r (suc a) (suc b) (omega arith) (omega arith)) (omega arith))

noted_none : (xs : List ℕ) (f : ℕ → List ℕ) (p : ℕ) → ((i : ℕ) → i < length xs → get_or xs i 0 ≡ p → ⊥) → noted_at xs f p ≡ []
unfolding noted_at
noted_none [] f p n = refl
noted_none (x ∷ xs) f p n = rw (ne_eqb x p (n 0 (omega arith))) (noted_none xs (λ k. f (suc k)) p (λ i h e. n (suc i) (omega arith) e))

module _ (before : List ℕ) (rise : Rising before) where
  apart : (q i : ℕ) → q < length before → i < length before → (q ≡ i → ⊥) → get_or before q 0 ≡ get_or before i 0 → ⊥
  apart q i h l n e = go (ltb q i) refl (ltb i q) refl
    where
      go : (t : Bool) → ltb q i ≡ t → (s : Bool) → ltb i q ≡ s → ⊥
      go true o s z = let c = rise q i (ltb-true q i o) l in omega arith
      go false o true z = let c = rise i q (ltb-true i q z) h in omega arith
      go false o false z =
          let a : i ≤ q = ltb-false q i o in
          let b : q ≤ i = ltb-false i q z in
          n (omega arith)

  abbrev placed : List ℕ → List ℕ
  placed xs = map (λ (q : ℕ). get_or before q 0) xs

  found : (xs : List ℕ) → ((i : ℕ) → i < length xs → get_or xs i 0 < length before) → (f : ℕ → List ℕ) (i : ℕ) → i < length before
      → noted_at xs f i ≡ noted_at (placed xs) f (get_or before i 0)
  unfolding noted_at
  found [] inside f i h = refl
  found (x ∷ xs) inside f i h = go (eqb x i) refl (found xs (λ j l. inside (suc j) (omega arith)) (λ k. f (suc k)) i h)
    where
      go : (t : Bool) → eqb x i ≡ t → noted_at xs (λ k. f (suc k)) i ≡ noted_at (placed xs) (λ k. f (suc k)) (get_or before i 0)
          → cond (eqb x i) (f 0) (noted_at xs (λ k. f (suc k)) i) ≡ cond (eqb (get_or before x 0) (get_or before i 0)) (f 0) (noted_at (placed xs) (λ k. f (suc k)) (get_or before i 0))
      go true e ih = let same : x ≡ i = eqb-true x i e in rw (e, eq-eqb (get_or before x 0) (get_or before i 0) (rw same))
      go false e ih = rw (e, ne_eqb (get_or before x 0) (get_or before i 0) (apart x i (inside 0 (omega arith)) h (eqb-false x i e))) ih

  lost : (xs : List ℕ) → ((i : ℕ) → i < length xs → get_or xs i 0 < length before) → (f : ℕ → List ℕ) (p : ℕ) → ((i : ℕ) → i < length before → get_or before i 0 ≡ p → ⊥)
      → noted_at (placed xs) f p ≡ []
  unfolding noted_at
  lost [] inside f p n = refl
  lost (x ∷ xs) inside f p n = rw (ne_eqb (get_or before x 0) p (n x (inside 0 (omega arith)))) (lost xs (λ j l. inside (suc j) (omega arith)) (λ k. f (suc k)) p n)

  -- what is noted of places of places
  pub noted_placed : (xs : List ℕ) → ((i : ℕ) → i < length xs → get_or xs i 0 < length before) → (f : ℕ → List ℕ) (p : ℕ) → noted_at before (noted_at xs f) p ≡ noted_at (placed xs) f p
  noted_placed xs inside f p = elim (place_in before p) [
    | inl (i, h, e) ↦ rw (← e) (noted_in before (noted_at xs f) i rise h ∙ found xs inside f i h)
    | inr n ↦ noted_none before (noted_at xs f) p n ∙ sym (lost xs inside f p n)
  ]

-- the returned places noted as old places are the given ones, struck of those not retained
pub old_places_lem : (xs : List ℕ) (p : ℕ) → noted_at xs (λ q. get_or xs q 0 ∷ []) p ≡ cond (is_in p xs) (p ∷ []) []
unfolding noted_at
old_places_lem [] p = refl
old_places_lem (x ∷ xs) p = go (eqb x p) refl (old_places_lem xs p)
  where
    go : (t : Bool) → eqb x p ≡ t → noted_at xs (λ q. get_or xs q 0 ∷ []) p ≡ cond (is_in p xs) (p ∷ []) []
        → cond (eqb x p) (x ∷ []) (noted_at xs (λ q. get_or xs q 0 ∷ []) p) ≡ cond (cond (eqb p x) true (is_in p xs)) (p ∷ []) []
    go true e ih = let same : x ≡ p = eqb-true x p e in rw (eq-eqb p x (sym same), e, same)
    go false e ih = rw (e, ne_eqb p x (λ q. eqb-false x p e (sym q))) ih

-- the old places are the kept ones
pub place_kept : (keep : List ℕ) → Flags keep → (cells : List Cell) → length cells ≡ length keep → (p : ℕ) → p < length cells → is_in p (places_of (retain_from keep 0 cells)) ≡ is_kept keep p
place_kept keep flags cells long p h =
    let places = places_of (retain_from keep 0 cells) in
    alike p (get_or places (boundary keep p) 0) (is_in p places) (is_kept keep p) (sym (old_places_lem places p) ∙ at_place keep flags (λ q. get_or places q 0 ∷ []) cells long p h)
  where
    alike : (x y : ℕ) (a b : Bool) → cond a (x ∷ []) [] ≡ cond b (y ∷ []) [] → a ≡ b
    alike x y true true e = refl
    alike x y true false e = let z : ◌≡◌ {A = ℕ} 1 0 = ap (λ (l : List ℕ). length l) e in absurd (omega arith)
    alike x y false true e = let z : ◌≡◌ {A = ℕ} 0 1 = ap (λ (l : List ℕ). length l) e in absurd (omega arith)
    alike x y false false e = refl
