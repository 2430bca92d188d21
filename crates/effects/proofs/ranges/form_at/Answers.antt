use Rattle.effects.specs.laws.TableRows.{pow_bytes}
use Rattle.effects.proofs.ranges.form_at.Goals as goal

pub returns : goal.returns
returns c = rw (pow_bytes c.args.k)
