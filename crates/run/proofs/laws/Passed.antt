-- One pass over cells: what it returns runs as what it was given.
-- Assumes nothing.
use Rattle.std.specs.Prelude.{Err, ◌≡◌, refl, Bool, true, cond, not, ◌&&◌, List, ℕ, ◌+◌, ◌≤◌, ◌<◌, ltb}
use Rattle.std.proofs.Common.{sym, ◌∙◌, arith, ltb-true, ltb-false}
use Rattle.std.proofs.Math.Logic.{inl, inr}
use Rattle.std.proofs.Math.Bool.{false}
use Rattle.std.proofs.lemmas.Bool.{false≢true, not-true}
use Rattle.std.proofs.Math.Nat.{zero-add}
use Rattle.std.proofs.Math.ListN.{length}
use Rattle.std.proofs.lemmas.List.{length-map}
use Rattle.unit.specs.Result.{Retained}
use Rattle.unit.specs.Size.{max_instructions}
use Rattle.effects.specs.Check.{Check}
use Rattle.effects.specs.Check.{Passed}
use Rattle.unit.specs.Refusal.{Refused}
use Rattle.effects.specs.Shape.{Sections, Cell, cell_at}
use Rattle.effects.specs.Check.{operand_check}
use Rattle.flow.specs.Branch.{branch_check}
use Rattle.flow.specs.Block.{leaders}
use Rattle.flow.specs.Loop.{is_plain_hint, reached_places, loop_check}
use Rattle.instruction.specs.Instruction.{class}
use Rattle.values.specs.Number.{number_code}
use Rattle.pc_map.specs.Boundary.{is_kept}
use Rattle.pc_map.specs.Relocate.{relocation_check, retain_from}
use Rattle.answer.specs.Pass.{Outcome, unchanged, rewritten, checked, same_code, all_kept, kept_places, removal, after_loops, after_branches, after_operands, optimized, is_worked_on, pass}
use Rattle.answer.specs.Clean.{retained_cell}
use Rattle.run.specs.Visits.{StandsFor, SamePlaces}
use Rattle.run.proofs.laws.Opcodes.{number_op, kept_plain, stands_from}
use Rattle.run.proofs.laws.Visits.{visits_trans}
use Rattle.run.specs.Program.{Function}
use Rattle.run.specs.Returned.{result_function}
use Rattle.words.specs.laws.Truth.{left_true, right_true}
use Rattle.run.proofs.laws.Numbered.{Numberable, numbered_function, numbered_long, numbered_at, table, numbering}
use Rattle.run.proofs.laws.Kept.{kept_visits, kept_runnable}
use Rattle.run.specs.laws.Runnable.{Runnable}
use Rattle.run.proofs.laws.Checked.{Well, numberable, removing, numbered_fields, retained_fields}

-- What a pass says that it rewrote runs as it did, by the same places, may be given to the next pass, and can be run.
pub record Good (F : Function) (kept : List Retained) : Type 0 where
  pub places : SamePlaces F kept
  pub well : Well (result_function F.sections kept)
  pub runs : Runnable (result_function F.sections kept)

-- a check that is followed by a rewriting passed
passed_check : (c : Check) (rest : Outcome) (kept : List Retained) → checked c rest ≡ rewritten kept → (c ≡ Passed) × (rest ≡ rewritten kept)
unfolding checked
passed_check Passed rest kept e = (refl, e)
passed_check (Err r) rest kept e = let z : ◌≡◌ {A = ℕ} 0 1 = cc in absurd (omega arith)

-- how many instructions are worked on
pub worked_size : (n : ℕ) → is_worked_on n ≡ true → (1 < n) × (n ≤ max_instructions)
unfolding is_worked_on
worked_size n w =
    (ltb-true 1 n (left_true (ltb 1 n) (not (ltb max_instructions n)) w), ltb-false max_instructions n (not-true (ltb max_instructions n) (right_true (ltb 1 n) (not (ltb max_instructions n)) w)))

module _ (F : Function) (w : Well F) (worked : is_worked_on (length F.cells) ≡ true) where
  abbrev S : Sections
  S = F.sections

  abbrev cells : List Cell
  cells = F.cells

  pub some_code : 0 < length cells
  some_code = omega (arith, (worked_size (length cells) worked).0)

  pub few : length cells ≤ 65536
  few = (worked_size (length cells) worked).1

  abbrev code : List Cell
  code = number_code S (leaders cells) cells

  abbrev keep : List ℕ
  keep = kept_places S (leaders cells) (reached_places code) code

  -- the code that is returned is what is retained of the numbered code
  retained : (t : Bool) (kept : List Retained) → cond t unchanged (checked (relocation_check keep code) (rewritten (retain_from keep 0 code))) ≡ rewritten kept → retain_from keep 0 code ≡ kept
  retained true kept e = let z : ◌≡◌ {A = ℕ} 0 1 = cc in absurd (omega arith)
  retained false kept e = let f : rewritten (retain_from keep 0 code) ≡ rewritten kept = (passed_check (relocation_check keep code) (rewritten (retain_from keep 0 code)) kept e).1 in cc

  -- a kept instruction of the numbered code stands for its origin
  kept_stands : Numberable F (leaders cells) → (k : ℕ) → k < length code → is_kept keep (0 + k) ≡ true → StandsFor (cell_at cells (0 + k)).instruction (cell_at code k).instruction
  unfolding numbered_function
  kept_stands N k h e =
      let first : 0 + k ≡ k = zero-add k in
      let l : k < length cells = rw (numbered_long F (leaders cells) N) at h in
      let here = numbered_at F (leaders cells) N k l in
      let plain : is_plain_hint (cell_at code k).instruction ≡ false = kept_plain S (leaders cells) (reached_places code) code k h (rw first at e) in
      rw (first, here) (elim (number_op S k (class (cell_at cells k).instruction) (cell_at cells k).instruction (table F (leaders cells) N k) refl) [
        | inl s ↦ s
        | inr q ↦ absurd (false≢true (sym (rw here at plain) ∙ q))
      ])

  good : operand_check S.locals S.tables cells ≡ Passed → branch_check cells ≡ Passed → Good F (retain_from keep 0 code)
  unfolding numbered_function result_function
  good o b =
      record {
        places = record {
          visits = visits_trans (numbering F (leaders cells) (numberable F w some_code few o b)) (kept_visits _ (leaders cells) (removing F w some_code few o b));
          stands = stands_from keep (λ p. (cell_at cells p).instruction) code 0 (kept_stands (numberable F w some_code few o b));
        };
        well = record {
          locals = w.locals;
          described = rw (length-map (retain_from keep 0 code) retained_cell) (omega arith);
          typed = w.typed;
          fields = retained_fields keep code 0 (numbered_fields F w some_code few o b);
          constants = w.constants;
        };
        runs = kept_runnable _ (leaders cells) (removing F w some_code few o b);
      }

  -- what a rewriting went through
  pub optimized_kept : (kept : List Retained) → optimized S cells ≡ rewritten kept
      → (operand_check S.locals S.tables cells ≡ Passed) × (branch_check cells ≡ Passed) × (retain_from keep 0 code ≡ kept)
  unfolding optimized after_operands after_branches after_loops removal
  optimized_kept kept e =
      let operands = passed_check (operand_check S.locals S.tables cells) _ kept e in
      let branches = passed_check (branch_check cells) _ kept operands.1 in
      let loops = passed_check (loop_check (reached_places code) code) _ kept branches.1 in
      (operands.0, branches.0, retained (same_code cells code && all_kept keep) kept loops.1)

  pub optimized_runs : (kept : List Retained) → optimized S cells ≡ rewritten kept → Good F kept
  optimized_runs kept e = let k = optimized_kept kept e in rw (← k.2) (good k.0 k.1)

pub pass_worked : (S : Sections) (cells : List Cell) (kept : List Retained) → pass S cells ≡ rewritten kept → (is_worked_on (length cells) ≡ true) × (optimized S cells ≡ rewritten kept)
unfolding pass
pass_worked S cells kept e = go (is_worked_on (length cells)) refl e
  where
    go : (t : Bool) → is_worked_on (length cells) ≡ t → cond t (optimized S cells) unchanged ≡ rewritten kept → (is_worked_on (length cells) ≡ true) × (optimized S cells ≡ rewritten kept)
    go true h e = (h, e)
    go false h e = let z : ◌≡◌ {A = ℕ} 0 1 = cc in absurd (omega arith)

pub pass_runs : (F : Function) → Well F → (kept : List Retained) → pass F.sections F.cells ≡ rewritten kept → Good F kept
pass_runs F w kept e = let worked = pass_worked F.sections F.cells kept e in optimized_runs F w worked.0 kept worked.1
