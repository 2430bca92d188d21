use Prim.Native.Nat.{zero-le}
use lib.ListN.{get_or-eq_default}
use Rattle.effects.specs.laws.Form.{rows}
use Rattle.words.specs.laws.Keys.{past}
use Rattle.effects.proofs.table.row.Goals as goal

pub returns-in_default : goal.returns-in_default
returns-in_default c = rw (get_or-eq_default rows 0x10 (past 0 136 zero-le c.in_default.in_default-own.rest))
