use Rattle.values.proofs.Scanning.{scan_first}
use Rattle.values.proofs.table.lowest_typed.Goals as goal

pub returns-then-types-from : goal.returns-then-types-from
returns-then-types-from c = scan_first c.requires.3 c.if-types-from.true
