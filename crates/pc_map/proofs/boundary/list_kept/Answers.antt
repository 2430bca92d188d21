use Rattle.std.proofs.Common.{arith}
use Rattle.pc_map.proofs.Listing.{listing_begin, listing_few, listing_flag, listing_turn, listing_end}
use Rattle.pc_map.proofs.boundary.list_kept.Goals as goal

pub loop-p-init : goal.loop-p-init
loop-p-init c = listing_begin _ _ _ c.requires.0 c.requires.2 c.requires.3

pub overflow_add-work : goal.overflow_add-work
overflow_add-work c = omega (arith, listing_few _ _ _ c.requires.0 c.requires.2 c.requires.3 _ _ _ c.loop-p.invariant)

pub offset_bounds-work-at : goal.offset_bounds-work-at
offset_bounds-work-at c = omega (arith, listing_few _ _ _ c.requires.0 c.requires.2 c.requires.3 _ _ _ c.loop-p.invariant)

pub bounds-work-at : goal.bounds-work-at
bounds-work-at c = omega (arith, listing_few _ _ _ c.requires.0 c.requires.2 c.requires.3 _ _ _ c.loop-p.invariant)

pub overflow_add-next : goal.overflow_add-next
overflow_add-next c =
    let l = c.loop-p in
    omega (arith, listing_few _ _ _ c.requires.0 c.requires.2 c.requires.3 _ _ _ l.invariant, listing_flag _ _ _ c.requires.0 c.requires.2 c.requires.3 _ _ _ l.invariant c.loop-p-test.true, c.requires.0 l.p)

pub loop-p-preserved : goal.loop-p-preserved
loop-p-preserved c = listing_turn _ _ _ c.requires.0 c.requires.2 c.requires.3 _ _ _ c.loop-p.invariant c.loop-p-test.true

pub returns : goal.returns
returns c = listing_end _ _ _ c.requires.0 c.requires.2 c.requires.3 _ _ _ c.loop-p.invariant c.loop-p-test.false
