-- Definitions. The answers at the desk, for every bytes, every frame and every limit or place.
-- Assumes nothing.
use Rattle.std.specs.Prelude.{Ok, Err, Result, ℕ, suc, cond, List, length, ◌==◌, nat_lt}
use Rattle.unit.specs.Layout.{header_of, layout_of}
use Rattle.unit.specs.Refusal.{frame_length}
use Rattle.unit.specs.declared.Header.{Header}
use Rattle.unit.specs.declared.refusal.Refusal.{Refusal}
use Rattle.effects.specs.Check.{Check}
use Rattle.effects.specs.Check.{Passed}
use Rattle.unit.specs.Refusal.{Refused}
use Rattle.effects.specs.Check.{operand_check}
use Rattle.effects.specs.Shape.{Sections, Cell}
use Rattle.flow.specs.Branch.{branch_check_in}
use Rattle.answer.specs.Answer.{cells_of, sections_of, count_check}
use Rattle.desk.specs.declared.Next.{Next}
use Rattle.desk.specs.declared.Next.TheVariants.{Goes, Stops}
use Rattle.desk.specs.declared.Stop.{Stop}
use Rattle.desk.specs.declared.Stop.TheVariants.{Ended, Other}
use Rattle.desk.specs.Desk.{Stopped, Due, goes, stops, not_executed, due_at, run_from}

-- ---- the refusals

-- a row of the table, and the rows below it
unfoldable pub and_then : Check → Check → Check
and_then Passed rest = rest
and_then (Err r) rest = Err r

-- the rows of the unit's own bytes: refusals 1, 11 and 13
unfoldable pub layout_check : Result Header Refusal → Check
layout_check (Ok h) = Passed
layout_check (Err r) = Err r

-- "12, place 0: frame not s words"
unfoldable pub frame_check : ℕ → ℕ → Check
frame_check s words = cond (words == s) Passed (Refused frame_length 0)

-- 1, 11 and 13, 3 and 4, 5 to 7, 8, and 12 "checked after 8, and 9 and 10 do not apply here"; "a branch to n itself .. ends the run and is not
-- refused", so that the branches may go to one place more
unfoldable pub desk_check : List ℕ → ℕ → Check
desk_check u words =
    let S = sections_of u in
    let cells = cells_of u in
    let frame = frame_check S.locals words in
    let branches = and_then (branch_check_in (suc (length cells)) cells) frame in
    let operands = and_then (operand_check S.locals S.tables cells) branches in
    let counts = and_then (count_check (header_of u).counts) operands in
    and_then (layout_check (layout_of u)) counts

-- ---- the run

-- how a run stopped or why it was refused, and the frame then
pub record Answered : Type 0 where
  pub stop : Result Stop Refusal
  pub frame : List ℕ

abbrev pub answered_with : Result Stop Refusal → List ℕ → Answered
answered_with s f = record { stop = s; frame = f }

-- "The frame .. is unaltered by a refusal."
unfoldable pub stopped_by : Check → List ℕ → Stopped → Answered
stopped_by Passed f run = answered_with (Ok run.stop) run.frame
stopped_by (Err r) f run = answered_with (Err r) f

unfoldable pub desk_answer : List ℕ → List ℕ → ℕ → Answered
desk_answer u f limit = let run = run_from (sections_of u) (cells_of u) limit 0 f in stopped_by (desk_check u (length f)) f run

-- ---- one step of it

-- what a step does or why it was refused, and the frame then
pub record Stepped : Type 0 where
  pub next : Result Next Refusal
  pub frame : List ℕ

abbrev pub stepped_with : Result Next Refusal → List ℕ → Stepped
stepped_with n f = record { next = n; frame = f }

unfoldable pub stepped : ℕ → List ℕ → Due → Stepped
stepped p f (goes q g) = stepped_with (Ok (Goes q)) g
stepped p f (stops s) = stepped_with (Ok (Stops s)) f
stepped p f not_executed = stepped_with (Ok (Stops (Other p))) f

-- from any place; behind the last instruction is the end of the code
unfoldable pub step_from : Sections → List Cell → ℕ → List ℕ → Stepped
step_from S cells p f = let step = stepped p f (due_at S cells p f) in cond (nat_lt p (length cells)) step (stepped_with (Ok (Stops Ended)) f)

unfoldable pub stepped_by : Check → List ℕ → Stepped → Stepped
stepped_by Passed f step = step
stepped_by (Err r) f step = stepped_with (Err r) f

unfoldable pub step_answer : List ℕ → List ℕ → ℕ → Stepped
step_answer u f p = let step = step_from (sections_of u) (cells_of u) p f in stepped_by (desk_check u (length f)) f step
