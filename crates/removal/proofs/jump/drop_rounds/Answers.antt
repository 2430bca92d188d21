use mathlib.Core.Path.{◌≡◌}
use Prim.Native.Nat.{◌+◌, ◌-◌}
use native.Mathlib.Omega.{arith}
use Rattle.removal.specs.laws.JumpRounds.{rounding_begin, rounding_asks, rounding_turn, rounding_last, rounding_end}
use Rattle.removal.proofs.jump.drop_rounds.Goals as goal

pub loop-init : goal.loop-init
loop-init c = rounding_begin _ _ c.requires.2

pub drop_idle-requires : goal.drop_idle-requires
drop_idle-requires c = (rounding_asks _ _ _ _ c.requires.0 c.loop.invariant, c.requires.1, c.loop.invariant.flags)

pub returns-then-not-drop_idle : goal.returns-then-not-drop_idle
returns-then-not-drop_idle c metadata =
    rounding_last _ _ _ _ c.requires.0 c.loop.invariant metadata _ (c.drop_idle.ensures.0 metadata) (c.drop_idle.ensures.1 c.if-not-drop_idle.true)

pub loop-preserved : goal.loop-preserved
loop-preserved c =
    let one : 16 - (c.loop.counter + 1) ≡ 16 - c.loop.counter - 1 = omega arith in
    rw one (rounding_turn _ _ _ _ c.requires.0 c.loop.invariant _ c.drop_idle.ensures.0 (omega arith))

pub returns : goal.returns
returns c metadata = rounding_end _ _ _ _ c.requires.0 c.loop.invariant metadata (omega arith)
