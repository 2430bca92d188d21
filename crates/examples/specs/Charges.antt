-- Document 02, L12: charges, computed. What is charged, that each premise is needed, and the highest charge.
-- Assumes nothing.
use Rattle.std.specs.Prelude.{Ok, Result, ◌≡◌, refl, Bool, true, false, cond, not, List, [], ◌∷◌, map, ℕ, ◌-◌, ◌^◌, ◌<◌, ltb, length, get_or, set, replicate}
use Rattle.std.proofs.Common.{arith}
use Rattle.words.specs.Lists.{every, sum, tabulate}
use Rattle.instruction.specs.Opcode as op
use Rattle.instruction.specs.Class.{class_of}
use Rattle.unit.specs.Refusal.{Refused}
use Rattle.unit.specs.declared.refusal.Refusal.{Refusal}
use Rattle.effects.specs.Check.{Passed}
use Rattle.effects.specs.Shape.{Cell}
use Rattle.answer.specs.Answer.{cells_of, sections_of, pass_answer}
use Rattle.answer.specs.Clean.{cells_after}
use Rattle.answer.specs.Pass.{Outcome, unchanged, refused, rewritten}
use Rattle.run.specs.Visits.{is_operator, is_conditional}
use Rattle.again.specs.Again.{unit_of}
use Rattle.desk.specs.declared.Stop.{Stop}
use Rattle.desk.specs.declared.Stop.TheVariants.{Returned, Panicked, Ended, Other, Limit}
use Rattle.desk.specs.Charge.{prices, highest_price, price_at, to_cents, charge_check, charge_answer, charged_by, charge_cents, most_cents}
use Rattle.desk.specs.Desk.{goes, due_at}
use Rattle.desk.proofs.laws.Spent.{spent_there}
use Rattle.examples.specs.Computed.{answers, desk}
use Rattle.examples.specs.Starred.{lent}
use Rattle.examples.specs.Unit.{load_int, jump, jump_by, jump_if, three, return, bytes_of, metadata_of, numbers, unit}

-- one price for all opcodes, and a price for one of them alone
abbrev pub flat : ℕ → List ℕ
flat v = replicate prices v

abbrev pub only : ℕ → ℕ → List ℕ
only o v = set (flat 0) o v

-- ---- what is charged

-- a function, a frame, a limit and a tariff; how the run stops or why it is refused, and the cents
pub record Case : Type 0 where
  pub cells : List Cell
  pub frame : List ℕ
  pub slots : ℕ
  pub limit : ℕ
  pub tariff : List ℕ
  pub stop : Result Stop Refusal
  pub cents : ℕ

abbrev case : List Cell → List ℕ → ℕ → List ℕ → Result Stop Refusal → ℕ → Case
case cells f limit tariff s cents = record { cells = cells; frame = f; slots = length f; limit = limit; tariff = tariff; stop = s; cents = cents }

abbrev pub cases : List Case
cases =
    -- Return, Panic, hints and a jump to n are steps
    case (return 0 0 ∷ []) [] 9 (only op.Return 1) (Ok (Returned 0 0)) 1
    ∷ case (three op.Panic 0 0 0 ∷ []) (7 ∷ 8 ∷ []) 9 (only op.Panic 1000) (Ok (Panicked 0 2)) 1
    ∷ case (three op.Hint 0 0 0 ∷ []) [] 9 (only op.Hint 1001) (Ok Ended) 2
    ∷ case (jump 1 ∷ []) [] 9 (only op.Jump 999) (Ok Ended) 1
    -- the end of the code and another instruction are none
    ∷ case [] [] 9 (flat highest_price) (Ok Ended) 0
    ∷ case (three op.AddF 0 0 0 ∷ []) (3 ∷ []) 9 (flat highest_price) (Ok (Other 0)) 0
    -- a charge goes with the limit too, and with another instruction that is met
    ∷ case (jump 0 ∷ []) [] 1000 (flat 1) (Ok Limit) 1
    ∷ case (load_int 0 5 ∷ three op.AddF 0 0 0 ∷ []) (3 ∷ []) 9 (flat 2000) (Ok (Other 1)) 2
    ∷ case (return 0 0 ∷ []) [] 0 (flat highest_price) (Ok Limit) 0
    -- the sum is rounded up, once
    ∷ case (load_int 0 5 ∷ return 0 1 ∷ []) (3 ∷ []) 9 (flat 500) (Ok (Returned 0 1)) 1
    ∷ case (load_int 0 5 ∷ return 0 1 ∷ []) (3 ∷ []) 9 (flat 501) (Ok (Returned 0 1)) 2
    -- 15 for a tariff too short or too long, after 12; a refusal costs nothing
    ∷ case (return 0 0 ∷ []) [] 9 [] (Refused 15 0) 0
    ∷ case (return 0 0 ∷ []) [] 9 (replicate 255 9) (Refused 15 0) 0
    ∷ case (return 0 0 ∷ []) [] 9 (replicate 257 9) (Refused 15 0) 0
    ∷ record { cells = return 0 0 ∷ []; frame = 4 ∷ []; slots = 0; limit = 9; tariff = []; stop = Refused 12 0; cents = 0 }
    ∷ record { cells = return 0 0 ∷ []; frame = 4 ∷ []; slots = 0; limit = 9; tariff = flat 9; stop = Refused 12 0; cents = 0 }
    ∷ []

pub charges_stop : map (λ (x : Case). (charge_answer (unit x.slots x.cells) x.frame x.limit x.tariff).stop) cases ≡ map (λ (x : Case). x.stop) cases
unfolding desk unit bytes_of metadata_of numbers
charges_stop = refl

pub charges : map (λ (x : Case). charge_cents (unit x.slots x.cells) x.frame x.limit x.tariff) cases ≡ map (λ (x : Case). x.cents) cases
unfolding desk unit bytes_of metadata_of numbers
charges = refl

-- ---- each premise is needed

-- "any unary or binary pure opcode" is one of 47
pub operators : sum (tabulate 256 (λ o. cond (is_operator (class_of o)) 1 0)) ≡ 47
unfolding answers
operators = refl

-- does an opcode cost no more than each of some others?
abbrev pub at_most : ℕ → (ℕ → Bool) → List ℕ → Bool
at_most o others tariff = every 256 (λ k. cond (others k) (not (ltb (get_or tariff k 0) (get_or tariff o 0))) true)

-- the three premises of a tariff, in their order
abbrev pub premises : List ℕ → List Bool
premises tariff =
    at_most op.LoadInt (λ k. is_operator (class_of k)) tariff
    ∷ at_most op.Copy (λ k. is_operator (class_of k)) tariff
    ∷ at_most op.Jump (λ k. is_conditional (class_of k)) tariff
    ∷ []

-- what one pass makes of a unit, as a unit again
unfoldable pub again : List ℕ → Outcome → List ℕ
again u unchanged = u
again u (refused k p) = u
again u (rewritten kept) = unit_of u (cells_after kept) []

-- A function that one pass rewrites, and a tariff; its premises, how the given function stops, its cents and those of the rewritten one, which are
-- more.
pub record Needed : Type 0 where
  pub cells : List Cell
  pub frame : List ℕ
  pub limit : ℕ
  pub tariff : List ℕ
  pub kept : List Bool
  pub stop : Stop
  pub given : ℕ
  pub result : ℕ

abbrev pub needed : List Needed
needed =
    -- LoadInt: NegI of a known word becomes one
    record {
      cells = load_int 0 1 ∷ three op.NegI 1 0 0 ∷ return 0 2 ∷ [];
      frame = 0 ∷ 0 ∷ [];
      limit = 9;
      tariff = only op.LoadInt 1000;
      kept = false ∷ true ∷ true ∷ [];
      stop = Returned 0 2;
      given = 1;
      result = 2;
    }
    -- Copy: the second of two equal sums becomes one
    ∷ record {
      cells = three op.AddI 2 0 1 ∷ three op.AddI 3 0 1 ∷ return 2 2 ∷ [];
      frame = 0 ∷ 0 ∷ 0 ∷ 0 ∷ [];
      limit = 9;
      tariff = only op.Copy 1000;
      kept = true ∷ false ∷ true ∷ [];
      stop = Returned 2 2;
      given = 0;
      result = 1;
    }
    -- Jump: JumpIf and JumpIfNot on a known word become one
    ∷ record {
      cells = jump_if 0 3 ∷ load_int 0 1 ∷ jump_if 0 (2 ^ 32 - 2) ∷ return 0 0 ∷ [];
      frame = 0 ∷ [];
      limit = 9;
      tariff = only op.Jump 1000;
      kept = true ∷ true ∷ false ∷ [];
      stop = Returned 0 0;
      given = 0;
      result = 1;
    }
    ∷ record {
      cells = jump_by op.JumpIfNot 0 3 ∷ load_int 0 0 ∷ jump_by op.JumpIfNot 0 (2 ^ 32 - 2) ∷ return 0 0 ∷ [];
      frame = 1 ∷ [];
      limit = 9;
      tariff = only op.Jump 1000;
      kept = true ∷ true ∷ false ∷ [];
      stop = Returned 0 0;
      given = 0;
      result = 1;
    }
    -- the end: within one step the rewritten function comes further, and so it does where AddF, which the desk does not execute, is removed
    ∷ record {
      cells = three op.Hint 0 0 0 ∷ return 0 0 ∷ [];
      frame = [];
      limit = 1;
      tariff = only op.Return 1000;
      kept = true ∷ true ∷ true ∷ [];
      stop = Limit;
      given = 0;
      result = 1;
    }
    ∷ record {
      cells = three op.AddF 0 0 0 ∷ return 0 0 ∷ [];
      frame = 3 ∷ [];
      limit = 9;
      tariff = only op.Return 1000;
      kept = true ∷ true ∷ true ∷ [];
      stop = Other 0;
      given = 0;
      result = 1;
    }
    ∷ []

pub premises_kept : map (λ (x : Needed). premises x.tariff) needed ≡ map (λ (x : Needed). x.kept) needed
unfolding answers
premises_kept = refl

abbrev pub given : Needed → List ℕ
given x = unit (length x.frame) x.cells

pub given_stop : map (λ (x : Needed). (charge_answer (given x) x.frame x.limit x.tariff).stop) needed ≡ map (λ (x : Needed). Ok x.stop) needed
unfolding desk unit bytes_of metadata_of numbers
given_stop = refl

pub given_cents : map (λ (x : Needed). charge_cents (given x) x.frame x.limit x.tariff) needed ≡ map (λ (x : Needed). x.given) needed
unfolding desk unit bytes_of metadata_of numbers
given_cents = refl

pub result_cents : map (λ (x : Needed). charge_cents (again (given x) (pass_answer (given x) lent)) x.frame x.limit x.tariff) needed ≡ map (λ (x : Needed). x.result) needed
unfolding desk again unit bytes_of metadata_of numbers
result_cents = refl

-- ---- the highest charge

-- "which a jump to itself at the highest limit and price reaches": the sum is that of its price for every step
abbrev pub itself : List ℕ
itself = unit 0 (jump 0 ∷ [])

itself_passed : charge_check itself (length {A = ℕ} []) (length (flat highest_price)) ≡ Passed
unfolding desk unit bytes_of metadata_of numbers
itself_passed = refl

itself_inside : 0 < length (cells_of itself)
unfolding desk unit bytes_of metadata_of numbers
itself_inside = omega arith

itself_due : due_at (sections_of itself) (cells_of itself) 0 [] ≡ goes 0 []
unfolding desk unit bytes_of metadata_of numbers
itself_due = refl

itself_price : price_at (flat highest_price) (cells_of itself) 0 ≡ highest_price
unfolding desk unit bytes_of metadata_of numbers
itself_price = refl

pub most_reached : charge_cents itself [] 4294967295 (flat highest_price) ≡ most_cents
unfolding charge_cents charged_by to_cents
most_reached =
    let spent = spent_there (sections_of itself) (cells_of itself) (flat highest_price) 0 [] itself_inside itself_due 4294967295 in
    rw (itself_passed, spent, itself_price) refl
