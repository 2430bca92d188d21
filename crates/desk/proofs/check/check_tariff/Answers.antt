use Rattle.std.specs.Prelude.{Err}
use Rattle.std.proofs.Common.{ap, ◌∙◌, eq-eqb, ne_eqb}
use Rattle.desk.specs.Charge.{prices, tariff_check}
use Rattle.desk.proofs.check.check_tariff.Goals as goal

pub returns-then-count-ne-PRICES : goal.returns-then-count-ne-PRICES
unfolding tariff_check
returns-then-count-ne-PRICES c = record { answer = ap Err c.at.ensures.refusal ∙ rw (ne_eqb c.args.count prices c.if-count-ne-PRICES.true) }

pub returns : goal.returns
unfolding tariff_check
returns c = record { answer = rw (eq-eqb c.args.count prices c.if-count-ne-PRICES.false) }
