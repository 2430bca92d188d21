use mathlib.Core.Path.{sym}
use Rattle.effects.proofs.laws.Ranges.{sure_count_row}
use Rattle.effects.proofs.ranges.sure_count.Goals as goal

pub returns : goal.returns
returns c = λ T m. sym (sure_count_row T (record { instruction = c.args.i; metadata = m }) c.row.result c.row.ensures)
