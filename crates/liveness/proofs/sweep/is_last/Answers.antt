use mathlib.Core.Path.{◌≡◌}
use Prim.Native.Nat.{suc}
use native.Mathlib.Numerals.{add-one}
use native.Mathlib.Omega.{arith}
use lib.ListN.{length}
use borrow.Author.Tests.{eq-eqb, ne_eqb}
use Rattle.liveness.proofs.sweep.is_last.Goals as goal

pub returns-then-p-leaders : goal.returns-then-p-leaders
returns-then-p-leaders c =
    let e : suc c.args.p ≡ length c.args.leaders.now = omega arith in
    rw (eq-eqb (suc c.args.p) (length c.args.leaders.now) e)

pub returns : goal.returns
returns c =
    let d : suc c.args.p ≡ length c.args.leaders.now → ⊥ = λ e. c.if-p-leaders.false (omega arith) in
    rw (add-one c.args.p, ne_eqb (suc c.args.p) (length c.args.leaders.now) d)
