use Rattle.std.proofs.Common.{◌+◌, ◌-◌, refl, arith}
use Rattle.desk.specs.laws.Copying.{none_copied, down_more, copied_all}
use Rattle.desk.proofs.copy.copy_down.Goals as goal

pub loop-k-init : goal.loop-k-init
loop-k-init c = let a = c.args in none_copied a.frame.now (a.a + a.c) (a.b + a.c) (a.c - a.c) (omega arith)

pub loop-k-preserved : goal.loop-k-preserved
loop-k-preserved c =
    let a = c.args in
    let l = c.loop-k in
    down_more a.frame.now a.a a.b a.c l.frame l.k (l.k - 1) _ c.requires.order c.requires.written (omega arith) (omega arith) l.invariant refl

pub returns : goal.returns
returns c =
    let a = c.args in
    let l = c.loop-k in
    record { frame = copied_all a.frame.now a.a a.b a.c l.frame l.k (omega arith) l.invariant }
