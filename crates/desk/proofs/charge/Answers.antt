use Rattle.std.proofs.lemmas.Result.{err_from_is_err_and}
use Rattle.std.proofs.Common.{ℕ, ◌+◌, ◌*◌, ◌≤◌, get_or, sym, ◌∙◌, arith}
use Rattle.answer.specs.Answer.{cells_of, sections_of}
use Rattle.desk.specs.Charge.{highest_price}
use Rattle.desk.proofs.laws.Charging.{charge_passed, charge_refused, stop_inside, spent_bound, charged}
use Rattle.desk.proofs.laws.Passed.{passed_run}
use Rattle.desk.proofs.charge.Goals as goal
use Rattle.desk.proofs.charge.Goals.{After-stop_price-last}

-- what was spent, before it is rounded: a price has 16 bits
spent-few : (c : After-stop_price-last) → c.advance_priced-paid.result.spent + c.stop_price-last.result ≤ highest_price * c.args.limit
spent-few c =
    let few : (o : ℕ) → get_or c.args.tariff.now o 0 ≤ highest_price = λ o. omega (arith, c.type_inv.tariff o) in
    spent_bound c.args.unit.now c.args.frame.now c.args.limit c.args.tariff.now few c.advance_priced-paid.ensures.reached (c.stop_at-stop.ensures.answer _) c.stop_price-last.ensures.price

-- ---- the goals

pub advance_priced-paid-requires : goal.advance_priced-paid-requires
advance_priced-paid-requires c =
    let passed = charge_passed c.args.unit.now _ _ (sym c.check_charge.ensures.answer ∙ c.in_ok-check_charge.was) in
    let r = passed_run _ _ passed.0 in
    record { laid = r.laid; runnable = r.runnable; frame = r.frame; tariff = passed.1 }

pub stop_at-stop-requires : goal.stop_at-stop-requires
stop_at-stop-requires c =
    let passed = charge_passed c.args.unit.now _ _ (sym c.check_charge.ensures.answer ∙ c.in_ok-check_charge.was) in
    record { laid = (passed_run _ _ passed.0).laid }

pub stop_price-last-requires : goal.stop_price-last-requires
stop_price-last-requires c =
    let u = c.args.unit.now in
    let passed = charge_passed u _ _ (sym c.check_charge.ensures.answer ∙ c.in_ok-check_charge.was) in
    record {
      laid = (passed_run _ _ passed.0).laid;
      tariff = passed.1;
      place = λ h. stop_inside (sections_of u) (cells_of u) _ _ _ (rw (c.stop_at-stop.ensures.answer c.advance_priced-paid.new.frame) at h);
    }

pub overflow_add-spent : goal.overflow_add-spent
overflow_add-spent c = omega (arith, spent-few (goal.at.overflow_add-spent c).After-stop_price-last)

pub overflow_add-cents : goal.overflow_add-cents
overflow_add-cents c = omega (arith, spent-few (goal.at.overflow_add-cents c).After-stop_price-last)

pub returns-in_err-check_charge : goal.returns-in_err-check_charge
returns-in_err-check_charge c =
    let p = err_from_is_err_and c.from_residual.result c.from_residual.ensures.1 in
    let r = charge_refused c.args.unit.now c.args.frame.now c.args.limit c.args.tariff.now _ (sym c.check_charge.ensures.answer ∙ c.in_err-check_charge.was) in
    record { answer = rw (p.1, p.2) r.answer; frame = r.frame; cents = rw (p.1, p.2) r.charge; most = rw (p.1, p.2) r.most }

pub returns : goal.returns
returns c =
    let few : (o : ℕ) → get_or c.args.tariff.now o 0 ≤ highest_price = λ o. omega (arith, c.type_inv.tariff o) in
    let r =
    charged c.args.unit.now c.args.frame.now c.args.limit c.args.tariff.now few c.advance_priced-paid.ensures.reached (c.stop_at-stop.ensures.answer _) c.stop_price-last.ensures.price
    (sym c.check_charge.ensures.answer ∙ c.in_ok-check_charge.was) (omega arith) in
    record { answer = r.answer; frame = r.frame; cents = r.charge; most = r.most }
