-- The lines of a result: they rise, and lie below the number of its instructions.
-- Assumes nothing.
use Rattle.std.specs.Prelude.{◌≡◌, Bool, cond, ◌&&◌, ◌||◌, eqb, ltb}
use Rattle.std.proofs.Math.Path.{refl}
use Rattle.std.proofs.Math.Bool.{true, false, not}
use mathlib.Core.List.{List, [], ◌∷◌}
use Prim.Native.Nat.{ℕ, zero, suc, ◌≤◌, ◌<◌}
use native.Mathlib.Omega.{arith}
use Rattle.std.proofs.Math.ListN.{length}
use Rattle.std.proofs.Common.{ltb-true}
use Rattle.std.proofs.lemmas.Bool.{eqb-false}
use Rattle.unit.specs.declared.Line.{Line}
use Rattle.lines.specs.Lines.{lands, moved}
use Rattle.lines.specs.laws.Moved.{onto}
use Rattle.lines.specs.laws.Moving.{RisingLines, line_in}

module _ (to : ℕ → ℕ) (n : ℕ) where
  pub moved_few : (es : List Line) → length (moved to n es) ≤ length es
  unfolding moved
  moved_few [] = omega arith
  moved_few (x ∷ es) = go (ltb (to x.place) n && not (lands to (to x.place) es)) (moved_few es)
    where
      go : (t : Bool) → length (moved to n es) ≤ length es → length (cond t (onto (to x.place) x ∷ moved to n es) (moved to n es)) ≤ suc (length es)
      go true h = omega arith
      go false h = omega arith

  -- each is an entry that was moved below n
  pub moved_each : (P : Line → Type 0) (es : List Line) → ((i : ℕ) → i < length es → to (line_in es i).place < n → P (onto (to (line_in es i).place) (line_in es i)))
      → (i : ℕ) → i < length (moved to n es) → P (line_in (moved to n es) i)
  unfolding moved
  moved_each P [] f i h = absurd (omega arith)
  moved_each P (x ∷ es) f i h = go (ltb (to x.place) n) refl (lands to (to x.place) es) i h (moved_each P es (λ i h. f (suc i) (omega arith)))
    where
      a : ℕ
      a = to x.place

      go : (s : Bool) → ltb a n ≡ s → (t : Bool) (i : ℕ) → i < length (cond (s && not t) (onto a x ∷ moved to n es) (moved to n es))
          → ((i : ℕ) → i < length (moved to n es) → P (line_in (moved to n es) i)) → P (line_in (cond (s && not t) (onto a x ∷ moved to n es) (moved to n es)) i)
      go true e true i h ih = ih i h
      go true e false zero h ih = f 0 (omega arith) (ltb-true a n e)
      go true e false (suc i) h ih = ih i (omega arith)
      go false e t i h ih = ih i h

  -- where none lands on q, and none before it, all land behind it
  moved_above : (q : ℕ) (es : List Line) → ((i : ℕ) → i < length es → q ≤ to (line_in es i).place) → lands to q es ≡ false → (i : ℕ) → i < length (moved to n es) → q < (line_in (moved to n es) i).place
  unfolding moved lands
  moved_above q [] f none i h = absurd (omega arith)
  moved_above q (x ∷ es) f none i h =
      go (eqb (to x.place) q) refl none (ltb (to x.place) n && not (lands to (to x.place) es)) i h (λ e. moved_above q es (λ i h. f (suc i) (omega arith)) e)
    where
      a : ℕ
      a = to x.place

      go : (s : Bool) → eqb a q ≡ s → (s || lands to q es) ≡ false → (t : Bool) (i : ℕ) → i < length (cond t (onto a x ∷ moved to n es) (moved to n es))
          → (lands to q es ≡ false → (i : ℕ) → i < length (moved to n es) → q < (line_in (moved to n es) i).place) → q < (line_in (cond t (onto a x ∷ moved to n es) (moved to n es)) i).place
      go true e none t i h ih = let z : ◌≡◌ {A = ℕ} 0 1 = cc in absurd (omega arith)
      go false e none true zero h ih =
          let other : a ≡ q → ⊥ = eqb-false a q e in
          let past : q ≤ a = f 0 (omega arith) in
          omega arith
      go false e none true (suc i) h ih = ih none i (omega arith)
      go false e none false i h ih = ih none i h

  pub moved_rising : ((p q : ℕ) → p ≤ q → to p ≤ to q) → (es : List Line) → RisingLines es → RisingLines (moved to n es)
  unfolding moved
  moved_rising up [] rise i j h l = absurd (omega arith)
  moved_rising up (x ∷ es) rise i j h l = go (ltb (to x.place) n) (lands to (to x.place) es) refl i j h l (moved_rising up es (λ i j h l. rise (suc i) (suc j) (omega arith) (omega arith)))
    where
      a : ℕ
      a = to x.place

      later : (i : ℕ) → i < length es → a ≤ to (line_in es i).place
      later i h = let above : x.place < (line_in es i).place = rise 0 (suc i) (omega arith) (omega arith) in up x.place (line_in es i).place (omega arith)

      go : (s t : Bool) → lands to a es ≡ t → (i j : ℕ) → i < j → j < length (cond (s && not t) (onto a x ∷ moved to n es) (moved to n es)) → RisingLines (moved to n es)
          → (line_in (cond (s && not t) (onto a x ∷ moved to n es) (moved to n es)) i).place < (line_in (cond (s && not t) (onto a x ∷ moved to n es) (moved to n es)) j).place
      go true true e i j h l ih = ih i j h l
      go true false e i zero h l ih = absurd (omega arith)
      go true false e zero (suc j) h l ih = moved_above a es later e j (omega arith)
      go true false e (suc i) (suc j) h l ih = ih i j (omega arith) (omega arith)
      go false t e i j h l ih = ih i j h l
