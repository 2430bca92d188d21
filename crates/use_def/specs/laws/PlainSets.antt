-- The ranges of a plain opcode are the same with any metadata, so that those of one place do for another.
-- Assumes nothing.
use Rattle.std.specs.Prelude.{◌≡◌, ℕ, zero, suc, ◌/◌, ◌%◌, ◌^◌, ◌<◌, Bool, true, false, cond, not, ◌&&◌, List, ◌∷◌, map, ◌==◌, nat_lt}
use Rattle.std.proofs.Math.Path.{refl}
use Rattle.std.proofs.Common.{sym, ◌∙◌, ltb-true}
use native.Mathlib.Omega.{arith}
use Rattle.std.proofs.lemmas.Bool.{eqb-false, not-true}
use Rattle.words.specs.laws.Truth.{left_true, right_true}
use Rattle.instruction.specs.Opcode as op
use Rattle.instruction.specs.declared.Instruction.{Instruction}
use Rattle.unit.specs.declared.Metadata.{Metadata}
use Rattle.unit.specs.Entry.{metadata_at}
use Rattle.effects.specs.declared.Range.{Range}
use Rattle.effects.specs.Shape.{Tables, Cell, range_of}
use Rattle.effects.specs.Effects.{all_reads, sure_writes}
use Rattle.effects.specs.laws.Form.{form_at, unpack, row_of}
use Rattle.effects.specs.laws.TableRows.{rows_read, rows_write}
use Rattle.effects.specs.laws.Ranges.{CasesInside}
use Rattle.effects.proofs.laws.Ranges.{reads_other, sure_parts}
use Rattle.effects.specs.laws.Plain.{is_plain, slot_form}

-- what an instruction reads and surely writes with metadata m is what it does with m'
pub record SameRanges (i : Instruction) (m m' : Metadata) : Type 0 where
  pub reads : (T : Tables) → all_reads T (record { instruction = i; metadata = m }) ≡ all_reads T (record { instruction = i; metadata = m' })
  pub writes : (T : Tables) → sure_writes T (record { instruction = i; metadata = m }) ≡ sure_writes T (record { instruction = i; metadata = m' })
  pub cases : (l : List ℕ) → CasesInside l (record { instruction = i; metadata = m' }) → CasesInside l (record { instruction = i; metadata = m })

module _ (i : Instruction) (m m' : Metadata) where
  module _ (T : Tables) where
    abbrev x : Cell
    x = record { instruction = i; metadata = m }

    abbrev x' : Cell
    x' = record { instruction = i; metadata = m' }

    -- forms 0, 1 and 2 are slots of the instruction
    one : (form : ℕ) → form < 3 → range_of T x (form_at form) ≡ range_of T x' (form_at form)
    one form h = slot_form T x form h ∙ sym (slot_form T x' form h)

    more : {a b : Range} {k l : List Range} → a ≡ b → k ≡ l → a ∷ k ≡ b ∷ l
    more h t = cc

    none : (n : ℕ) → map (range_of T x) (unpack n 0) ≡ map (range_of T x') (unpack n 0)
    unfolding unpack
    none zero = refl
    none (suc n) = more (one 0 (omega arith)) (none n)

    last : (n v : ℕ) → v < 3 → map (range_of T x) (unpack n v) ≡ map (range_of T x') (unpack n v)
    unfolding unpack
    last zero v h = refl
    last (suc n) v h =
        let past : v / 256 ≡ 0 = omega arith in
        more (one (v % 256) (omega arith)) (rw past (none n))

    -- all that v packs are such forms
    each : (n v : ℕ) → v % 256 < 3 → v / 256 < 3 → map (range_of T x) (unpack n v) ≡ map (range_of T x') (unpack n v)
    unfolding unpack
    each zero v h g = refl
    each (suc n) v h g = more (one (v % 256) h) (last n (v / 256) g)

  plain_alike : is_plain i.op (row_of i.op) ≡ true → SameRanges i m m'
  plain_alike e =
      let row = row_of i.op in
      let tests : (not (i.op == op.SelectExec) && nat_lt row 0x30000) ≡ true = left_true (not (i.op == op.SelectExec) && nat_lt row 0x30000) (nat_lt (row / 256 % 256) 3) e in
      let other = eqb-false i.op op.SelectExec (not-true (i.op == op.SelectExec) (left_true (not (i.op == op.SelectExec)) (nat_lt row 0x30000) tests)) in
      let low : row < 0x30000 = ltb-true row 0x30000 (right_true (not (i.op == op.SelectExec)) (nat_lt row 0x30000) tests) in
      let form : row / 256 % 256 < 3 = ltb-true (row / 256 % 256) 3 (right_true (not (i.op == op.SelectExec) && nat_lt row 0x30000) (nat_lt (row / 256 % 256) 3) e) in
      let v : ℕ = row / 256 in
      let few : v < 0x300 = omega arith in
      let second : v / 256 < 3 = omega arith in
      let past : row / 2 ^ 40 ≡ 0 = omega arith in
      record {
        reads = λ T. rw (reads_other T (x T) other, reads_other T (x' T) other, ← rows_read i.op) (each T (row % 16) v form second);
        writes = λ T. rw (sure_parts T (x T), sure_parts T (x' T), ← rows_write i.op, past) (none T (row / 16 % 16));
        cases = λ l f e. absurd (other e);
      }

alike_refl : (i : Instruction) (m : Metadata) → SameRanges i m m
alike_refl i m = record { reads = λ T. refl; writes = λ T. refl; cases = λ l f. f }

-- the metadata of place p, or of place 0 where the opcode is plain
pub same_ranges : (i : Instruction) (l : List ℕ) (p at : ℕ) (when : Bool) (m : Metadata) → when ≡ is_plain i.op (row_of i.op) → at ≡ cond (not when) p 0
    → m ≡ metadata_at l at → SameRanges i m (metadata_at l p)
same_ranges i l p at when m e a d = rw (d, a) (go when e)
  where
    go : (t : Bool) → t ≡ is_plain i.op (row_of i.op) → SameRanges i (metadata_at l (cond (not t) p 0)) (metadata_at l p)
    go true q = plain_alike i (metadata_at l 0) (metadata_at l p) (sym q)
    go false q = alike_refl i (metadata_at l p)
