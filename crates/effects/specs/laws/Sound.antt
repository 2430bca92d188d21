-- What the layers above know of code whose operands were checked.
-- Assumes nothing.
use Rattle.std.specs.Prelude.{◌≡◌, refl, Bool, true, false, cond, ◌&&◌, ◌||◌, List, [], ◌∷◌, ◌++◌, ℕ, zero, suc, ◌+◌, ◌≤◌, ◌<◌, eqb, leb, ltb, length}
use Rattle.std.proofs.Common.{sym, ◌∙◌, add-zero, add-suc, suc-add, arith, eqb-true, leb-true, ltb-false}
use Rattle.instruction.specs.Opcode as op
use Rattle.unit.specs.Refusal.{invalid_opcode, effect_error, slot_outside}
use Rattle.effects.specs.Check.{Passed}
use Rattle.unit.specs.Refusal.{Refused}
use Rattle.effects.specs.declared.Range.{Range}
use Rattle.effects.specs.Shape.{Tables, Cell, cell_at}
use Rattle.effects.specs.Effects.{all_reads, sure_writes, perhaps_writes, writes, demands_met, range_fits, range_within, all_of}
use Rattle.effects.specs.Check.{lowest, effects_sound, operand_refusal, operand_check}
use Rattle.words.specs.laws.Truth.{left_true, right_true}
use Rattle.effects.specs.laws.Operands.{all_append}

-- ---- every cell of code that passed

pub lowest_passed : (test : ℕ → Cell → ℕ) (p : ℕ) (cells : List Cell) → lowest test p cells ≡ Passed → (k : ℕ) → k < length cells → test (p + k) (cell_at cells k) ≡ 0
unfolding lowest
lowest_passed test p [] e k h = absurd (omega arith)
lowest_passed test p (x ∷ xs) e k h = go (eqb (test p x) 0) refl e k h (λ e k h. lowest_passed test (suc p) xs e k h)
  where
    go : (t : Bool) → eqb (test p x) 0 ≡ t → cond t (lowest test (suc p) xs) (Refused (test p x) p) ≡ Passed → (k : ℕ) → k < suc (length xs)
        → (lowest test (suc p) xs ≡ Passed → (k : ℕ) → k < length xs → test (suc p + k) (cell_at xs k) ≡ 0) → test (p + k) (cell_at (x ∷ xs) k) ≡ 0
    go true q e zero h f = rw add-zero (eqb-true (test p x) 0 q)
    go true q e (suc k) h f = rw (add-suc p k, ← suc-add p k) (f e k (omega arith))
    go false q e k h f = let z : ◌≡◌ {A = ℕ} 0 1 = cc in absurd (omega arith)

pub passed_at : (s : ℕ) (T : Tables) (cells : List Cell) → operand_check s T cells ≡ Passed → (p : ℕ) → p < length cells → operand_refusal s T (cell_at cells p) ≡ 0
unfolding operand_check
passed_at s T cells e p h = lowest_passed (λ p x. operand_refusal s T x) 0 cells e p h

-- ---- an instruction that passed

pub record Sound (s : ℕ) (T : Tables) (x : Cell) : Type 0 where
  pub valid : x.instruction.op ≤ op.max_valid
  pub demand : demands_met T x ≡ true
  pub fit : all_of range_fits (all_reads T x ++ writes T x) ≡ true
  pub reads_within : all_of (range_within s) (all_reads T x) ≡ true
  pub writes_within : all_of (range_within s) (writes T x) ≡ true

pub sound : (s : ℕ) (T : Tables) (x : Cell) → operand_refusal s T x ≡ 0 → Sound s T x
unfolding operand_refusal effects_sound
sound s T x e = go (ltb op.max_valid x.instruction.op) refl (demands_met T x) refl (all_of range_fits ranges) refl (all_of (range_within s) ranges) refl e
  where
    ranges : List Range
    ranges = all_reads T x ++ writes T x

    go : (v : Bool) → ltb op.max_valid x.instruction.op ≡ v → (d : Bool) → demands_met T x ≡ d → (f : Bool) → all_of range_fits ranges ≡ f → (w : Bool) → all_of (range_within s) ranges ≡ w
        → cond v invalid_opcode (cond (cond d f false) (cond w 0 slot_outside) effect_error) ≡ 0 → Sound s T x
    go false v true d true f true w e =
        let both : (all_of (range_within s) (all_reads T x) && all_of (range_within s) (writes T x)) ≡ true = sym (all_append (range_within s) (all_reads T x) (writes T x)) ∙ w in
        record {
          valid = ltb-false op.max_valid x.instruction.op v;
          demand = d;
          fit = f;
          reads_within = left_true (all_of (range_within s) (all_reads T x)) (all_of (range_within s) (writes T x)) both;
          writes_within = right_true (all_of (range_within s) (all_reads T x)) (all_of (range_within s) (writes T x)) both;
        }
    go true v d q f r w t e = absurd (omega arith)
    go false v false q f r w t e = absurd (omega arith)
    go false v true q false r w t e = absurd (omega arith)
    go false v true q true r false t e = absurd (omega arith)

pub sure_within : {s : ℕ} {T : Tables} {x : Cell} → Sound s T x → all_of (range_within s) (sure_writes T x) ≡ true
unfolding writes
sure_within {s} {T} {x} d =
    left_true (all_of (range_within s) (sure_writes T x)) (all_of (range_within s) (perhaps_writes T x))
    (sym (all_append (range_within s) (sure_writes T x) (perhaps_writes T x)) ∙ d.writes_within)

-- a slot of a range that is within s is below s
pub within_slot : (s t : ℕ) (r : Range) → range_within s r ≡ true → r.start ≤ t → t < r.start + r.count → t < s
unfolding range_within
within_slot s t r e from to = go (eqb r.count 0) refl (leb (r.start + r.count) s) refl e
  where
    go : (a : Bool) → eqb r.count 0 ≡ a → (b : Bool) → leb (r.start + r.count) s ≡ b → (a || b) ≡ true → t < s
    go true p b q e =
        let none : r.count ≡ 0 = eqb-true r.count 0 p in
        absurd (omega arith)
    go false p true q e =
        let end : r.start + r.count ≤ s = leb-true (r.start + r.count) s q in
        omega arith
    go false p false q e = let z : ◌≡◌ {A = ℕ} 0 1 = cc in absurd (omega arith)
