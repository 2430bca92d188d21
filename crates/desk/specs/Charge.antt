-- Definitions. Document 02, L12: the charge for a run at the desk.
-- Assumes nothing.
use Rattle.std.specs.Prelude.{Ok, Err, Result, ◌≡◌, ℕ, ◌+◌, ◌/◌, ◌≤◌, true, cond, List, [], ◌∷◌, length, ◌==◌, slice_index}
use Rattle.words.specs.Lists.{sum}
use Rattle.instruction.specs.Class.{class_of}
use Rattle.instruction.specs.Opcode as op
use Rattle.unit.specs.Refusal.{tariff_length}
use Rattle.effects.specs.Check.{Check}
use Rattle.effects.specs.Check.{Passed}
use Rattle.unit.specs.Refusal.{Refused}
use Rattle.unit.specs.declared.refusal.Refusal.{Refusal}
use Rattle.effects.specs.Shape.{Sections, Cell, cell_at}
use Rattle.answer.specs.Answer.{cells_of, sections_of}
use Rattle.run.specs.Visits.{is_operator, is_conditional}
use Rattle.desk.specs.declared.Charged.{Charged}
use Rattle.desk.specs.declared.Stop.{Stop}
use Rattle.desk.specs.Desk.{run_from, notes_from}
use Rattle.desk.specs.Answer.{Answered, and_then, desk_check, stopped_by}

-- ---- the price of a run

-- "A tariff holds 256 prices of 16 bits, one per opcode byte"
abbrev pub prices : ℕ
prices = 256

abbrev pub highest_price : ℕ
highest_price = 65535

abbrev pub price_at : List ℕ → List Cell → ℕ → ℕ
price_at tariff cells p = slice_index tariff (cell_at cells p).instruction.op

-- "the price of all executed instructions": its price is what is noted of each place that the run steps from
abbrev pub priced : List ℕ → List Cell → ℕ → List ℕ
priced tariff cells p = price_at tariff cells p ∷ []

unfoldable pub spent_from : Sections → List Cell → List ℕ → ℕ → ℕ → List ℕ → ℕ
spent_from S cells tariff k p f = sum (notes_from S cells (priced tariff cells) k p f)

-- "divided by 1,000 and rounded up to a whole cent"
unfoldable pub to_cents : ℕ → ℕ
to_cents spent = (spent + 999) / 1000

-- "If LoadInt and Copy cost no more than any unary or binary pure opcode, and Jump no more than either conditional jump"
pub record Premises (tariff : List ℕ) : Type 0 where
  pub load : (o : ℕ) → is_operator (class_of o) ≡ true → slice_index tariff op.LoadInt ≤ slice_index tariff o
  pub copy : (o : ℕ) → is_operator (class_of o) ≡ true → slice_index tariff op.Copy ≤ slice_index tariff o
  pub jump : (o : ℕ) → is_conditional (class_of o) ≡ true → slice_index tariff op.Jump ≤ slice_index tariff o

-- ---- the answers

-- "15, place 0: tariff not 256 prices"
unfoldable pub tariff_check : ℕ → Check
tariff_check count = cond (count == prices) Passed (Refused tariff_length 0)

-- "checked after 12"
unfoldable pub charge_check : List ℕ → ℕ → ℕ → Check
charge_check u words count = and_then (desk_check u words) (tariff_check count)

-- how the run stops and the frame then: those of the run without a charge
unfoldable pub charge_answer : List ℕ → List ℕ → ℕ → List ℕ → Answered
charge_answer u f limit tariff = let run = run_from (sections_of u) (cells_of u) limit 0 f in stopped_by (charge_check u (length f) (length tariff)) f run

-- a charge goes with every answer but a refusal
unfoldable pub charged_by : Check → ℕ → ℕ
charged_by Passed cents = cents
charged_by (Err r) cents = 0

unfoldable pub charge_cents : List ℕ → List ℕ → ℕ → List ℕ → ℕ
charge_cents u f limit tariff =
    let cents = to_cents (spent_from (sections_of u) (cells_of u) tariff limit 0 f) in
    charged_by (charge_check u (length f) (length tariff)) cents

-- how a charged run stops or why it was refused, and what it is charged: nothing with a refusal
unfoldable pub stop_of : Result Charged Refusal → Result Stop Refusal
stop_of (Ok c) = Ok c.stop
stop_of (Err r) = Err r

unfoldable pub cents_of : Result Charged Refusal → ℕ
cents_of (Ok c) = c.cents
cents_of (Err r) = 0

-- "No charge exceeds 281,470,681,678 cents"
abbrev pub most_cents : ℕ
most_cents = 281470681678
