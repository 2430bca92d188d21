-- A pass on a unit that was admitted: the answers from each row on.
-- Assumes nothing.
use Rattle.std.specs.Prelude.{Ok, Err, Result, ◌≡◌, Bool, true, ◌&&◌, List, ℕ, ◌*◌, ◌/◌, ◌≤◌}
use Rattle.std.proofs.Common.{◌∙◌}
use native.Mathlib.Omega.{arith}
use Rattle.std.proofs.Math.Dec.{leb}
use Rattle.std.proofs.Math.ListN.{length}
use borrow.Author.Tests.{leb-true}
use Rattle.words.specs.Bytes.{Bytes}
use Rattle.words.specs.laws.Bytes.{bytes_mid}
use Rattle.words.specs.laws.Truth.{left_true, right_true}
use Rattle.unit.proofs.laws.UnitLaws.{unit_laid}
use Rattle.unit.specs.Layout.{header_of, code_of, metadata_of, types_of, cases_of}
use Rattle.unit.specs.Size.{instruction_size, constant_size, case_size, output_room, work32_room, work64_room}
use Rattle.unit.specs.declared.refusal.Refusal.{Refusal}
use Rattle.answer.specs.declared.Admission.TheVariants.{Admitted, Unchanged}
use Rattle.answer.specs.Pass.{unchanged, refused, optimized}
use Rattle.answer.specs.Answer.{lent_of, cells_of, sections_of, room_for, admission, after_admission, answer_with}
use Rattle.run.proofs.Given.{cells_long}
use Rattle.run.specs.Given.{Worked}
use Rattle.run.proofs.laws.Passed.{worked_size}
use Rattle.unit.specs.Refusal.{Refused}
use Rattle.optimize.specs.laws.Given.{Given, WorkRoom, Workable, cells_in, cells_in_lem, outcome_in}

-- ---- what it is given
module _ {u : List ℕ} {room : Bool} (b : Bytes u) (w : Worked u room) where
  abbrev n : ℕ
  n = (header_of u).counts.instructions

  pub typed_unit : length (types_of u) ≡ (header_of u).counts.locals
  typed_unit = (unit_laid u w.laid).lengths.types ∙ w.typed

  pub given_unit : Given (header_of u).counts.instructions (code_of u) (metadata_of u) (sections_of u)
  unfolding sections_of
  given_unit =
      let u-laid = unit_laid u w.laid in
      let cases : length (cases_of u) / case_size ≡ (header_of u).counts.cases = let e = u-laid.lengths.cases in omega arith in
      record {
        some = rw (cells_long u) at (worked_size (length (cells_of u)) w.worked).0;
        few = w.few;
        code_long = let e = u-laid.lengths.code in omega arith;
        metadata_long = rw (← w.described) u-laid.lengths.metadata;
        slots = u-laid.locals;
        typed = typed_unit;
        good = λ p h. rw cases (u-laid.entries.metadata p (rw w.described h));
        code_bytes_lem = bytes_mid (header_of u).offsets.code (instruction_size * n) u b;
        constant_bytes = bytes_mid (header_of u).offsets.constants (constant_size * (header_of u).counts.constants) u b;
      }

  pub same_cells : cells_in (header_of u).counts.instructions (code_of u) (metadata_of u) ≡ cells_of u
  unfolding cells_of
  same_cells = cells_in_lem n (code_of u) (metadata_of u) (bytes_mid (header_of u).offsets.code (instruction_size * n) u b)

-- ---- the room that was lent
module _ (u : List ℕ) (out work32 work64 : ℕ) (e : room_for (header_of u).counts (lent_of out work32 work64) ≡ true) where
  pub room_out : output_room (header_of u).counts.instructions (header_of u).counts.lines ≤ out
  unfolding room_for
  room_out =
      let c = (header_of u).counts in
      let a = leb (output_room c.instructions c.lines) out in
      let b = leb (work32_room c.instructions) work32 in
      leb-true (output_room c.instructions c.lines) out (left_true a b (left_true _ (leb (work64_room c.instructions c.locals) work64) e))

  pub room_work : WorkRoom (header_of u).counts.instructions (sections_of u).locals work32 work64
  unfolding room_for sections_of
  room_work =
      let c = (header_of u).counts in
      let a = leb (output_room c.instructions c.lines) out in
      let b = leb (work32_room c.instructions) work32 in
      let d = leb (work64_room c.instructions c.locals) work64 in
      record {
        room32 = leb-true (work32_room c.instructions) work32 (right_true a b (left_true (a && b) d e));
        room64 = leb-true (work64_room c.instructions c.locals) work64 (right_true (a && b) d e);
      }

-- what the sections were found to be is what a pass may be given
module _ {u : List ℕ} {room : Bool} (b : Bytes u) (w : Worked u room) (n : ℕ) (code metadata : List ℕ) (e₀ : n ≡ (header_of u).counts.instructions) (e₁ : code ≡ code_of u) (e₂ : metadata ≡ metadata_of u) where
  pub work_workable : (out work32 work64 : ℕ) → room_for (header_of u).counts (lent_of out work32 work64) ≡ true → Workable n u code metadata work32 work64
  work_workable out work32 work64 r = rw (e₀, e₁, e₂) (record { laid = w.laid; given = given_unit b w; room = room_work u out work32 work64 r })

  pub work_outcome : optimized (sections_of u) (cells_of u) ≡ outcome_in n u code metadata
  work_outcome = rw (e₀, e₁, e₂, same_cells b w)

-- ---- the rows before the work
module _ (u : List ℕ) (room : Bool) where
  pub answer_refused : (k p : ℕ) → admission room u ≡ Refused k p → answer_with room u ≡ refused k p
  unfolding answer_with after_admission
  answer_refused k p e = rw e

  pub answer_unchanged : admission room u ≡ Ok Unchanged → answer_with room u ≡ unchanged
  unfolding answer_with after_admission
  answer_unchanged e = rw e

  pub answer_admitted : admission room u ≡ Ok Admitted → answer_with room u ≡ optimized (sections_of u) (cells_of u)
  unfolding answer_with after_admission
  answer_admitted e = rw e
