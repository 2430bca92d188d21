use borrow.Author.Tests.{le-ltb, lt-ltb, eq-eqb, ne_eqb}
use native.Mathlib.Omega.{arith}
use Rattle.lines.proofs.position.Goals as goal

pub returns-then-count-eq0 : goal.returns-then-count-eq0
returns-then-count-eq0 c = let a = c.args in (omega arith, rw (le-ltb 0 a.count (omega arith)) (omega arith))

pub returns-then-b-q : goal.returns-then-b-q
returns-then-b-q c = let a = c.args in (omega arith, rw (lt-ltb 0 a.count (omega arith), eq-eqb a.b a.q c.if-b-q.true))

pub returns-else-b-q : goal.returns-else-b-q
returns-else-b-q c = let a = c.args in (omega arith, rw (lt-ltb 0 a.count (omega arith), ne_eqb a.b a.q c.if-b-q.false))
