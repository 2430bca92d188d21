-- Free slots: scalar slots that are not in a set. A store is dead, by its class, if all that it writes are free.
-- Assumes nothing.
use Rattle.std.specs.Prelude.{◌≡◌, ℕ, ◌+◌, ◌*◌, ◌<◌, ◌≤◌, Bool, true, false, cond, not, ◌&&◌, ◌||◌, List, length, ◌==◌, slice_index_or, refl}
use Rattle.std.proofs.Common.{sym, add-zero, arith}
use Rattle.std.proofs.Math.Decide.{ℕ_discrete}
use Rattle.words.specs.laws.Bits.{member}
use Rattle.words.specs.Lists.{every}
use Rattle.words.specs.laws.Lists.{every_all, every_not}
use Rattle.instruction.specs.declared.Instruction.{Instruction}
use Rattle.instruction.specs.Class.{is_pure}
use Rattle.instruction.specs.Instruction.{class}
use Rattle.unit.specs.Entry.{type_value, type_float}
use Rattle.effects.specs.declared.Range.{Range}
use Rattle.effects.specs.Effects.{range_within}
use Rattle.effects.specs.laws.Form.{empty_range}
use Rattle.effects.specs.laws.ByClass.{writes_by_class}

-- a scalar slot that is not in the set
abbrev pub free_slot : List ℕ → List ℕ → ℕ → Bool
free_slot types row t = (slice_index_or types t 1 == type_value || slice_index_or types t 1 == type_float) && not (member row t)

-- every slot of the range is
abbrev pub free_range : List ℕ → List ℕ → Range → Bool
free_range types row r = every r.count (λ k. free_slot types row (r.start + k))

pub one_free : (types row : List ℕ) (r : Range) → r.count ≡ 1 → free_range types row r ≡ free_slot types row r.start
unfolding every
one_free types row r e = rw (e, add-zero r.start) (go (free_slot types row r.start))
  where
    go : (x : Bool) → cond x true false ≡ x
    go true = refl
    go false = refl

-- a store is dead, by its class
abbrev pub dead_by : List ℕ → List ℕ → Instruction → Bool
dead_by types row i = cond (is_pure (class i)) (free_range types row (slice_index_or (writes_by_class (class i) i) 0 empty_range)) false

-- a range whose slots all have a type and a bit
pub record Spans (types row : List ℕ) (r : Range) : Type 0 where
  pub few : length row ≤ 1024
  pub typed : range_within (length types) r ≡ true
  pub inside : range_within (64 * length row) r ≡ true

-- a loop over the slots of a range
pub not_free : (types row : List ℕ) (start count k : ℕ) → k < count → free_slot types row (start + k) ≡ false → false ≡ free_range types row (record { start = start; count = count })
not_free types row start count k h e = sym (every_not count (λ k. free_slot types row (start + k)) k h e)

pub all_free : (types row : List ℕ) (start count : ℕ) → ((k : ℕ) → k < count → free_slot types row (start + k) ≡ true) → true ≡ free_range types row (record { start = start; count = count })
all_free types row start count f = sym (every_all count (λ k. free_slot types row (start + k)) f)

pub free_more : (types row : List ℕ) (start k : ℕ) → ((j : ℕ) → j < k → free_slot types row (start + j) ≡ true) → free_slot types row (start + k) ≡ true → (j : ℕ) → j < k + 1 → free_slot types row (start + j) ≡ true
free_more types row start k f e j h = elim (ℕ_discrete j k) [ yes d ↦ rw d e | no d ↦ f j (omega arith) ]
