-- Plain opcodes: they demand nothing, and read and write single slots, at most two of a, b and c, and a. Most code is made of them,
-- and its operands are checked without a loop.
-- Assumes nothing.
use Rattle.std.specs.Prelude.{◌≡◌, true, false, cond, not, ◌&&◌, ◌||◌, ◌++◌, map, eqb, leb, ltb}
use Rattle.std.proofs.Math.Path.{refl}
use Rattle.std.proofs.Common.{sym, ap, ◌∙◌, arith, eqb-true, ltb-true, leb-true}
use Rattle.std.proofs.Math.Bool.{and-true}
use Prim.Native.Nat.{ℕ, zero, suc, ◌/◌, ◌%◌, ◌^◌, ◌≤◌, ◌<◌}
use Rattle.std.proofs.Math.Nat.{div-div-eq-div-mul}
use Rattle.std.proofs.lemmas.Bool.{eqb-false, not-true}
use Rattle.words.specs.laws.Lists.{every_at}
use Rattle.instruction.specs.Opcode as op
use Rattle.instruction.specs.laws.Instruction.{Fields}
use Rattle.unit.specs.Refusal.{slot_outside}
use Rattle.effects.specs.Shape.{Tables, Cell, range_of, met}
use Rattle.effects.specs.Effects.{all_reads, sure_writes, writes, demands_met, all_of}
use Rattle.effects.specs.Check.{operand_refusal}
use Rattle.effects.specs.laws.Form.{form_at, unpack, row_of, demand_row_of, demand_at, reads_of, writes_of, read_parts, write_parts}
use Rattle.effects.specs.laws.TableRows.{rows_read, rows_write}
use Rattle.effects.proofs.laws.Ranges.{reads_other, perhaps_none, sure_parts, writes_sure, demands_row}
use Rattle.words.specs.laws.Truth.{left_true, right_true}
use Rattle.effects.specs.laws.Operands.{slots, range_holds, holds_one, all_append, not_refused, refused_within}
use Rattle.effects.specs.laws.Plain.{Plain, few, is_plain, plain_few, plain_within, slot_fits, slot_form, slot_of, within_all}

pub plain_row : (o row : ℕ) → row ≡ row_of o → o ≤ op.max_valid → is_plain o row ≡ true → Plain o row
plain_row o row r h e =
    let tests : (not (eqb o op.SelectExec) && ltb row 0x30000) ≡ true = left_true (not (eqb o op.SelectExec) && ltb row 0x30000) (ltb (row / 256 % 256) 3) e in
    let plain : is_plain o (row_of o) ≡ true = rw (← r) e in
    let all : few o ≡ true = rw plain at (every_at 136 (λ o. cond (is_plain o (row_of o)) (few o) true) plain_few o (omega arith)) in
    let counts : (leb (row_of o % 16) 2 && leb (row_of o / 16 % 16) 1) ≡ true = left_true (leb (row_of o % 16) 2 && leb (row_of o / 16 % 16) 1) (eqb (demand_row_of o) 0) all in
    record {
      other = eqb-false o op.SelectExec (not-true (eqb o op.SelectExec) (left_true (not (eqb o op.SelectExec)) (ltb row 0x30000) tests));
      low = ltb-true row 0x30000 (right_true (not (eqb o op.SelectExec)) (ltb row 0x30000) tests);
      form = ltb-true (row / 256 % 256) 3 (right_true (not (eqb o op.SelectExec) && ltb row 0x30000) (ltb (row / 256 % 256) 3) e);
      reads = rw r (leb-true (row_of o % 16) 2 (left_true (leb (row_of o % 16) 2) (leb (row_of o / 16 % 16) 1) counts));
      writes = rw r (leb-true (row_of o / 16 % 16) 1 (right_true (leb (row_of o % 16) 2) (leb (row_of o / 16 % 16) 1) counts));
      free = eqb-true (demand_row_of o) 0 (right_true (leb (row_of o % 16) 2 && leb (row_of o / 16 % 16) 1) (eqb (demand_row_of o) 0) all);
    }

module _ (s : ℕ) (few : s ≤ slots) (T : Tables) (x : Cell) (f : Fields x.instruction) where
  -- the test of one slot
  slot_holds : (form : ℕ) → form < 3 → range_holds s (range_of T x (form_at form)) ≡ ltb (slot_of form x.instruction) s
  slot_holds form h = ap (range_holds s) (slot_form T x form h) ∙ holds_one s (slot_of form x.instruction) (slot_fits form x.instruction f) few

  two : (n v : ℕ) → n ≤ 2 → v % 256 < 3 → v / 256 % 256 < 3
      → all_of (range_holds s) (map (range_of T x) (unpack n v)) ≡ ((eqb n 0 || ltb (slot_of (v % 256) x.instruction) s) && (ltb n 2 || ltb (slot_of (v / 256 % 256) x.instruction) s))
  unfolding all_of unpack
  two zero v h p q = refl
  two (suc zero) v h p q = rw (slot_holds (v % 256) p)
  two (suc (suc zero)) v h p q = rw (slot_holds (v % 256) p, slot_holds (v / 256 % 256) q, and-true)
  two (suc (suc (suc n))) v h p q = absurd (omega arith)

  once : (n : ℕ) → n ≤ 1 → all_of (range_holds s) (map (range_of T x) (unpack n 0)) ≡ (eqb n 0 || ltb x.instruction.a s)
  unfolding all_of unpack
  once zero h = refl
  once (suc zero) h = rw (slot_holds 0 (omega arith), and-true)
  once (suc (suc n)) h = absurd (omega arith)

  module _ (row : ℕ) (r : row ≡ row_of x.instruction.op) (p : Plain x.instruction.op row) where
    plain_holds : all_of (range_holds s) (all_reads T x ++ writes T x) ≡ plain_within s row x.instruction
    plain_holds =
        let parts : reads_of row ≡ read_parts x.instruction.op = rw r (rows_read x.instruction.op) in
        let written : writes_of row ≡ write_parts x.instruction.op = rw r (rows_write x.instruction.op) in
        let second : row / 256 / 256 ≡ row / 65536 = div-div-eq-div-mul row 256 256 in
        let none : row / 2 ^ 40 ≡ 0 = omega (arith, p.low) in
        let form : row / 65536 % 256 < 3 = omega (arith, p.low) in
        let reading : all_of (range_holds s) (all_reads T x) ≡ ((eqb (row % 16) 0 || ltb (slot_of (row / 256 % 256) x.instruction) s) && (ltb (row % 16) 2 || ltb (slot_of (row / 65536 % 256) x.instruction) s)) =
        rw (reads_other T x p.other, ← parts, ← second) (two (row % 16) (row / 256) p.reads p.form (rw second form)) in
        -- MapIterNext's row is longer
        let other : x.instruction.op ≡ op.MapIterNext → ⊥ = λ e. let long : row ≡ row_of op.MapIterNext = r ∙ ap row_of e in omega (arith, p.low) in
        let sure : writes T x ≡ sure_writes T x = writes_sure T x (perhaps_none T x p.other other) in
        let writing : all_of (range_holds s) (writes T x) ≡ (eqb (row / 16 % 16) 0 || ltb x.instruction.a s) =
        rw (sure, sure_parts T x, ← written, none) (once (row / 16 % 16) p.writes) in
        all_append (range_holds s) (all_reads T x) (writes T x) ∙ rw (reading, writing)

    plain_met : demands_met T x ≡ true
    unfolding demand_at met
    plain_met = demands_row T x 0 (sym p.free)

module _ (s : ℕ) (few : s ≤ slots) (T : Tables) (x : Cell) (f : Fields x.instruction) (h : x.instruction.op ≤ op.max_valid)
    (row : ℕ) (r : row ≡ row_of x.instruction.op) (p : Plain x.instruction.op row) where
  pub plain_passes : plain_within s row x.instruction ≡ true → operand_refusal s T x ≡ 0
  plain_passes e = not_refused T x s h (plain_met s few T x f row r p) (plain_holds s few T x f row r p ∙ e)

  pub plain_outside : plain_within s row x.instruction ≡ false → operand_refusal s T x ≡ slot_outside
  plain_outside e =
      let all : slots ≤ slots = omega arith in
      refused_within T x s h (plain_met s few T x f row r p) (plain_holds s few T x f row r p ∙ e)
      (plain_holds slots all T x f row r p ∙ within_all row x.instruction f)
