use Prim.Native.Nat.{◌/◌}
use mathlib.Core.Path.{◌≡◌, sym, ◌∙◌}
use native.Mathlib.Omega.{arith}
use lib.ListN.{length}
use Rattle.unit.specs.Size.{place_size}
use Rattle.lines.specs.laws.Below.{walk_found, walk_more, walk_end}
use Rattle.lines.proofs.boundary.Goals as goal

pub loop-b-init : goal.loop-b-init
loop-b-init c = λ r low. low

pub returns-then-read_u32-p : goal.returns-then-read_u32-p
returns-then-read_u32-p c =
    let a = c.args in
    let read = c.read_u32.ensures in
    (omega arith, omega arith, λ r low. walk_found a.places.now a.p c.loop-b.b (omega arith) (omega arith) r (c.loop-b.invariant r low))

pub loop-b-preserved : goal.loop-b-preserved
loop-b-preserved c =
    let a = c.args in
    let read = c.read_u32.ensures in
    λ r low. walk_more a.places.now a.p c.loop-b.b (omega arith) (omega arith) r

pub returns : goal.returns
returns c =
    let a = c.args in
    let end : c.loop-b.b ≡ length a.places.now / place_size = omega arith in
    (omega arith, omega arith, λ r low. sym end ∙ walk_end a.places.now a.p c.loop-b.b (omega arith) (c.loop-b.invariant r low))
