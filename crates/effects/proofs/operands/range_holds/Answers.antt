use mathlib.Core.Path.{sym}
use Rattle.effects.specs.laws.Operands.{holds_late, holds_empty, holds_long, holds_sum}
use Rattle.effects.proofs.operands.range_holds.Goals as goal

pub returns-then-r-gt65535 : goal.returns-then-r-gt65535
returns-then-r-gt65535 c = sym (holds_late _ _ c.if-r-gt65535.true)

pub returns-then-r-eq0 : goal.returns-then-r-eq0
returns-then-r-eq0 c = sym (holds_empty _ _ c.if-r-gt65535.false c.if-r-eq0.true)

pub returns-then-r-gt65535-2 : goal.returns-then-r-gt65535-2
returns-then-r-gt65535-2 c = sym (holds_long _ _ c.if-r-gt65535.false c.if-r-eq0.false c.if-r-gt65535-2.true)

pub returns : goal.returns
returns c = sym (holds_sum _ _ c.if-r-gt65535.false c.if-r-eq0.false c.if-r-gt65535-2.false c.requires)
