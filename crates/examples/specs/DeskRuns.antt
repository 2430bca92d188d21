-- Document 02, L6: runs at the desk, computed. A table of runs and one of whole units' answers, and one theorem for each.
-- Assumes nothing.
use Rattle.std.specs.Prelude.{Ok, Result, ◌≡◌, refl, List, [], ◌∷◌, map, ℕ, replicate, length}
use Rattle.instruction.specs.Opcode as op
use Rattle.unit.specs.Entry.{type_value}
use Rattle.unit.specs.Refusal.{Refused}
use Rattle.unit.specs.declared.refusal.Refusal.{Refusal}
use Rattle.effects.specs.Shape.{Sections, Cell, tables_of}
use Rattle.desk.specs.declared.Stop.{Stop}
use Rattle.desk.specs.declared.Stop.TheVariants.{Returned, Panicked, Ended, Other, Limit}
use Rattle.desk.specs.Desk.{stopped_with, run_from}
use Rattle.desk.specs.Answer.{answered_with, desk_answer}
use Rattle.examples.specs.Computed.{desk}
use Rattle.examples.specs.Unit.{load_int, jump, jump_if, three, return, bytes_of, metadata_of, numbers, unit}

-- a function, a frame and a limit; how the run stops, and the frame then
pub record Case : Type 0 where
  pub cells : List Cell
  pub frame : List ℕ
  pub limit : ℕ
  pub stop : Stop
  pub after : List ℕ

-- constant 0 is a String
abbrev strings : List ℕ
strings = 4 ∷ replicate 15 0

abbrev pub sections : Case → Sections
sections x = record { locals = length x.frame; types = replicate (length x.frame) type_value; constants = strings; tables = tables_of [] [] [] }

abbrev pub cases : List Case
cases =
    -- "Return and Panic are steps"
    record { cells = load_int 0 5 ∷ return 0 1 ∷ []; frame = 0 ∷ 0 ∷ []; limit = 2; stop = Returned 0 1; after = 5 ∷ 0 ∷ [] }
    ∷ record { cells = load_int 0 5 ∷ return 0 1 ∷ []; frame = 0 ∷ 0 ∷ []; limit = 1; stop = Limit; after = 5 ∷ 0 ∷ [] }
    ∷ record { cells = return 0 0 ∷ []; frame = 3 ∷ []; limit = 0; stop = Limit; after = 3 ∷ [] }
    ∷ record { cells = three op.Panic 0 0 0 ∷ []; frame = 7 ∷ 8 ∷ []; limit = 1; stop = Panicked 0 2; after = 7 ∷ 8 ∷ [] }
    -- "the end of the code and another instruction are not"
    ∷ record { cells = []; frame = []; limit = 0; stop = Ended; after = [] }
    ∷ record { cells = three op.AddF 0 0 0 ∷ []; frame = 3 ∷ []; limit = 0; stop = Other 0; after = 3 ∷ [] }
    ∷ record { cells = load_int 0 1 ∷ three op.LoadConst 0 0 0 ∷ []; frame = 0 ∷ []; limit = 1; stop = Other 1; after = 1 ∷ [] }
    -- "a branch to n itself .. ends the run"
    ∷ record { cells = jump 2 ∷ return 0 0 ∷ []; frame = []; limit = 1; stop = Ended; after = [] }
    -- a jump to itself
    ∷ record { cells = jump 0 ∷ []; frame = []; limit = 1000; stop = Limit; after = [] }
    -- CopyN reads all before it writes
    ∷ record { cells = three op.CopyN 1 0 2 ∷ []; frame = 1 ∷ 2 ∷ 3 ∷ []; limit = 1; stop = Ended; after = 1 ∷ 1 ∷ 2 ∷ [] }
    ∷ record { cells = three op.NegI 1 0 0 ∷ return 1 1 ∷ []; frame = 5 ∷ 0 ∷ []; limit = 2; stop = Returned 1 1; after = 5 ∷ 18446744073709551611 ∷ [] }
    -- a given function, and what one pass makes of it: the same word is read, of another slot
    ∷ record { cells = three op.Copy 1 0 0 ∷ return 1 1 ∷ []; frame = 9 ∷ 0 ∷ []; limit = 2; stop = Returned 1 1; after = 9 ∷ 9 ∷ [] }
    ∷ record { cells = return 0 1 ∷ []; frame = 9 ∷ 0 ∷ []; limit = 2; stop = Returned 0 1; after = 9 ∷ 0 ∷ [] }
    ∷ []

pub desk_runs : map (λ (x : Case). run_from (sections x) x.cells x.limit 0 x.frame) cases ≡ map (λ (x : Case). stopped_with x.stop x.after) cases
unfolding desk
desk_runs = refl

-- a unit's bytes, a frame and a limit; how the run stops or why it is refused, and the frame then
pub record UnitCase : Type 0 where
  pub unit : List ℕ
  pub frame : List ℕ
  pub limit : ℕ
  pub stop : Result Stop Refusal
  pub after : List ℕ

abbrev pub unit_cases : List UnitCase
unit_cases =
    -- a function of one instruction is looked at too
    record { unit = unit 0 (return 0 1 ∷ []); frame = []; limit = 9; stop = Refused 7 0; after = [] }
    -- a branch to n is not refused, one past it is, reached or not
    ∷ record { unit = unit 1 (jump 2 ∷ return 0 1 ∷ []); frame = 4 ∷ []; limit = 9; stop = Ok Ended; after = 4 ∷ [] }
    ∷ record { unit = unit 1 (jump 2 ∷ jump_if 0 10 ∷ []); frame = 4 ∷ []; limit = 9; stop = Refused 8 1; after = 4 ∷ [] }
    -- 12 for a frame too short or too long, and after 8
    ∷ record { unit = unit 1 (return 0 1 ∷ []); frame = []; limit = 9; stop = Refused 12 0; after = [] }
    ∷ record { unit = unit 1 (return 0 1 ∷ []); frame = 4 ∷ 5 ∷ []; limit = 9; stop = Refused 12 0; after = 4 ∷ 5 ∷ [] }
    ∷ record { unit = unit 1 (jump_if 0 2 ∷ []); frame = 4 ∷ 5 ∷ []; limit = 9; stop = Refused 8 0; after = 4 ∷ 5 ∷ [] }
    -- bytes that are no unit
    ∷ record { unit = []; frame = 4 ∷ []; limit = 9; stop = Refused 1 0; after = 4 ∷ [] }
    -- "(a and 0 for none)"
    ∷ record { unit = unit 0 (return 65535 0 ∷ []); frame = []; limit = 1; stop = Ok (Returned 65535 0); after = [] }
    ∷ record { unit = unit 0 []; frame = []; limit = 0; stop = Ok Ended; after = [] }
    ∷ []

pub desk_answers : map (λ (x : UnitCase). desk_answer x.unit x.frame x.limit) unit_cases ≡ map (λ (x : UnitCase). answered_with x.stop x.after) unit_cases
unfolding desk unit bytes_of metadata_of numbers
desk_answers = refl
