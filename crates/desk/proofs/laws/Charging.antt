-- The answers of a charged run.
-- Assumes nothing.
use Rattle.std.specs.Prelude.{Ok, Err, Result, ◌≡◌, ℕ, ◌+◌, ◌*◌, ◌/◌, ◌^◌, ◌<◌, ◌≤◌, Bool, true, false, cond, List, length, ◌==◌, nat_lt, slice_index, refl}
use Rattle.std.proofs.Common.{ap, arith, eqb-true, ltb-true}
use Rattle.unit.specs.Refusal.{tariff_length}
use Rattle.effects.specs.Check.{Passed}
use Rattle.unit.specs.declared.refusal.Refusal.{Refusal}
use Rattle.effects.specs.Shape.{Sections, Cell}
use Rattle.answer.specs.Answer.{cells_of, sections_of}
use Rattle.desk.specs.declared.Charged.{Charged}
use Rattle.desk.specs.declared.Stop.{Stop}
use Rattle.desk.specs.declared.Stop.TheVariants.{Ended}
use Rattle.desk.specs.Answer.{desk_check, stopped_by}
use Rattle.desk.specs.Charge.{prices, highest_price, price_at, spent_from, to_cents, tariff_check, charge_check, charge_answer, charged_by, charge_cents, stop_of, cents_of, most_cents}
use Rattle.desk.specs.Desk.{due_at}
use Rattle.desk.specs.laws.Advance.{stop_by, stop_at}
use Rattle.desk.specs.laws.Priced.{Placed, advanced}
use Rattle.desk.proofs.laws.Priced.{run_advances}
use Rattle.desk.proofs.laws.Checking.{if_passed}
use Rattle.desk.proofs.laws.Passed.{and_passed}
use Rattle.desk.specs.laws.Spent.{stop_price}
use Rattle.desk.proofs.laws.Spent.{spent_advances, spent_most}

-- what passes: the run, and a tariff of 256 prices
pub charge_passed : (u : List ℕ) (words count : ℕ) → charge_check u words count ≡ Passed → (desk_check u words ≡ Passed) × (count ≡ prices)
unfolding charge_check tariff_check
charge_passed u words count e =
    let both = and_passed (desk_check u words) (tariff_check count) e in
    (both.0, eqb-true count prices (if_passed (count == prices) Passed tariff_length 0 both.1).0)

-- what a charged run answers, beside its frame
pub record Charges (u f : List ℕ) (limit : ℕ) (tariff : List ℕ) (r : Result Charged Refusal) (g : List ℕ) : Type 0 where
  pub answer : stop_of r ≡ (charge_answer u f limit tariff).stop
  pub frame : g ≡ (charge_answer u f limit tariff).frame
  pub charge : cents_of r ≡ charge_cents u f limit tariff
  pub most : cents_of r ≤ most_cents

pub charge_refused : (u f : List ℕ) (limit : ℕ) (tariff : List ℕ) (r : Refusal) → charge_check u (length f) (length tariff) ≡ Err r → Charges u f limit tariff (Err r) f
unfolding charge_answer stopped_by charge_cents charged_by stop_of cents_of
charge_refused u f limit tariff r e = record { answer = rw e refl; frame = rw e refl; charge = rw e refl; most = omega arith }

-- a run that stops by a step stops at an instruction
pub stop_inside : (S : Sections) (cells : List Cell) (k p : ℕ) (f : List ℕ) → 0 < stop_price 1 (Ok (stop_at S cells k p f)) → p < length cells
unfolding stop_at stop_price
stop_inside S cells k p f h = go (nat_lt p (length cells)) refl h
  where
    go : (t : Bool) → nat_lt p (length cells) ≡ t → 0 < stop_price 1 (Ok (cond t (stop_by p k (due_at S cells p f)) Ended)) → p < length cells
    go true e h = ltb-true p (length cells) e
    go false e h = absurd (omega arith)

-- rounded up, and never too much
pub cents_most : (spent limit : ℕ) → limit < 2 ^ 32 → spent ≤ highest_price * limit → to_cents spent ≤ most_cents
unfolding to_cents
cents_most spent limit l h = omega arith

module _ (u f : List ℕ) (limit : ℕ) (tariff : List ℕ) (priced : (o : ℕ) → slice_index tariff o ≤ highest_price) where
  module _ {q l v : ℕ} {g : List ℕ} {s : Stop} {last : ℕ} (a : Placed (advanced (sections_of u) (cells_of u) tariff limit 0 0 f) q l v g)
      (e : s ≡ stop_at (sections_of u) (cells_of u) l q g) (c : last ≡ stop_price (price_at tariff (cells_of u) q) (Ok s)) where
    -- what was spent on the way, and on the last step
    all_spent : v + last ≡ spent_from (sections_of u) (cells_of u) tariff limit 0 f
    all_spent =
        let all = spent_advances (sections_of u) (cells_of u) tariff limit 0 0 f in
        rw (a.spent, c, e, a.place, a.left, a.frame) (omega (arith, all))

    pub spent_bound : v + last ≤ highest_price * limit
    spent_bound = rw all_spent (spent_most (sections_of u) (cells_of u) tariff highest_price priced limit 0 f)

    pub charged : charge_check u (length f) (length tariff) ≡ Passed → limit < 2 ^ 32 → Charges u f limit tariff (Ok (record { stop = s; cents = (v + last + 999) / 1000 })) g
    unfolding charge_answer stopped_by charge_cents charged_by to_cents stop_of cents_of
    charged passed small =
        let run = run_advances (sections_of u) (cells_of u) tariff limit 0 0 f in
        record {
          answer = rw (passed, run, ← a.place, ← a.left, ← a.frame) (ap Ok e);
          frame = rw (passed, run, ← a.frame) refl;
          charge = rw (passed, all_spent) refl;
          most = cents_most (v + last) limit small spent_bound;
        }
