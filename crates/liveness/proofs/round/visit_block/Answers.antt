use Prim.Native.Nat.{◌+◌}
use native.Mathlib.Omega.{arith}
use Rattle.liveness.specs.laws.SetMemory.{in_rows, visited}
use Rattle.liveness.specs.laws.Shown.{row_before}
use Rattle.liveness.proofs.round.visit_block.Goals as goal

pub overflow_mul-at : goal.overflow_mul-at
overflow_mul-at c =
    omega (arith, row_before c.args.sets.width c.args.b c.args.sets.count c.requires.1, c.requires.0.coded.laid.end)

pub overflow_cast-end : goal.overflow_cast-end
overflow_cast-end c = omega (arith, c.shared_slice_known-3-1.given (c.args.b + 1))

pub overflow_sub-end : goal.overflow_sub-end
overflow_sub-end c = omega (arith, (c.requires.0.rising c.args.b c.requires.1).0)

pub live_out-requires : goal.live_out-requires
live_out-requires c =
    let rise = c.requires.0.rising c.args.b c.requires.1 in
    (c.requires.0.coded, omega (arith, rise.0, rise.1))

pub overflow_add-sets : goal.overflow_add-sets
overflow_add-sets c =
    omega (arith, row_before c.args.sets.width c.args.b c.args.sets.count c.requires.1, c.requires.0.coded.laid.end)

pub overflow_add-sets-2 : goal.overflow_add-sets-2
overflow_add-sets-2 c =
    let l = c.requires.0.coded.laid in
    omega (arith, row_before c.args.sets.width c.args.b c.args.sets.count c.requires.1, l.preserved, l.live, l.end)

pub overflow_add-sets-3 : goal.overflow_add-sets-3
overflow_add-sets-3 c =
    let l = c.requires.0.coded.laid in
    omega (arith, row_before c.args.sets.width c.args.b c.args.sets.count c.requires.1, l.live, l.end)

pub transfer-requires : goal.transfer-requires
transfer-requires c =
    let l = c.requires.0.coded.laid in
    let room = row_before c.args.sets.width c.args.b c.args.sets.count c.requires.1 in
    (omega (arith, room, l.preserved, l.live), omega (arith, room, l.live), omega (arith, l.uses, l.preserved, l.live), rw c.live_out.auto.memory (omega (arith, room, l.end)))

pub returns : goal.returns
returns c =
    let x = c.live_out in
    let y = c.transfer in
    let l = c.requires.0.coded.laid in (
      visited c.args.sets c.args.memory.now x.new.memory y.new.memory c.args.b l c.requires.1 x.ensures.1 y.ensures.2 _ _ c.args.blocks.now _ x.ensures.0 y.ensures.0 y.ensures.1,
      in_rows c.args.sets c.args.memory.now x.new.memory y.new.memory c.args.b l c.requires.1 x.ensures.1 y.ensures.2,
    )
