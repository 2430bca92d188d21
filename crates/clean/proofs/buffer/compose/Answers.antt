use mathlib.Core.Path.{◌≡◌, refl, ◌∙◌}
use native.Mathlib.Omega.{arith}
use Rattle.clean.specs.laws.Placing.{composed, place_left, compose_turn, compose_end}
use Rattle.clean.proofs.buffer.compose.Goals as goal

pub loop-p-init : goal.loop-p-init
unfolding composed
loop-p-init c = refl

pub read_u32-requires : goal.read_u32-requires
read_u32-requires c =
    let old = c.read_u32-old.ensures ∙ place_left c.args.from.now c.args.to.now c.loop-p.to c.loop-p.p c.loop-p.invariant in
    rw old (c.requires.2 c.loop-p.p (omega arith))

pub loop-p-preserved : goal.loop-p-preserved
loop-p-preserved c =
    let l = c.loop-p in
    let old = c.read_u32-old.ensures ∙ place_left c.args.from.now c.args.to.now l.to l.p l.invariant in
    compose_turn c.args.from.now c.args.to.now l.to l.p l.invariant _ c.read_u32.result (omega arith) (c.read_u32.ensures ∙ rw old) c.write_u32.ensures

pub returns : goal.returns
returns c =
    let e : c.loop-p.p ≡ c.args.k = omega arith in
    compose_end c.args.from.now c.args.to.now c.loop-p.to c.args.k (c.loop-p.invariant ∙ rw e) c.requires.1
