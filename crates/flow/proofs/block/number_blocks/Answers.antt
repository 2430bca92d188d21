use Rattle.std.proofs.Common.{◌≡◌, ℕ, ◌+◌, ◌<◌, ◌≤◌, List, get_or, set, length, arith}
use borrow.Rule.Slice.PartMut.{mid_of}
use Rattle.unit.specs.laws.Region.{starts_at, keep_at}
use Rattle.flow.specs.laws.Flags.{Flags}
use Rattle.flow.proofs.Numbering.{Buffered, buffered_begin, buffered_few, buffered_flag, buffered_some, buffered_turn, buffered_end}
use Rattle.flow.proofs.block.number_blocks.Goals as goal

-- the flag that is read, after a store beyond it
flag : {xs w : List ℕ} {n p count starts : ℕ} (f : Flags (mid_of 0 n xs)) (room : keep_at n ≤ length xs) → Buffered xs n w p count → p < n → starts ≡ starts_at n → get_or (set w (starts + count) p) p 0 ≤ 1
flag {p = p} f room b h there = rw (there, buffered_flag _ _ f room _ _ _ b h) (f p)

pub loop-p-init : goal.loop-p-init
loop-p-init c = buffered_begin _ _ c.requires.0 c.requires.3

pub overflow_add-work : goal.overflow_add-work
overflow_add-work c = omega (arith, buffered_few _ _ c.requires.0 c.requires.3 _ _ _ c.loop-p.invariant, c.starts_at-starts.ensures)

pub offset_bounds-work-starts : goal.offset_bounds-work-starts
offset_bounds-work-starts c = omega (arith, buffered_few _ _ c.requires.0 c.requires.3 _ _ _ c.loop-p.invariant, c.starts_at-starts.ensures)

pub bounds-work-starts : goal.bounds-work-starts
bounds-work-starts c = omega (arith, buffered_few _ _ c.requires.0 c.requires.3 _ _ _ c.loop-p.invariant, c.starts_at-starts.ensures, c.loop-p.invariant.long)

pub overflow_add-count : goal.overflow_add-count
overflow_add-count c =
    let l = c.loop-p in
    omega (arith, flag c.requires.0 c.requires.3 l.invariant c.loop-p-test.true c.starts_at-starts.ensures, buffered_few _ _ c.requires.0 c.requires.3 _ _ _ l.invariant)

pub overflow_sub-work : goal.overflow_sub-work
overflow_sub-work c = rw c.starts_at-starts.ensures (buffered_some _ _ c.requires.0 c.requires.3 _ _ _ c.loop-p.invariant c.loop-p-test.true c.requires.1)

pub overflow_cast-work-in-loop-p : goal.overflow_cast-work-in-loop-p
overflow_cast-work-in-loop-p c =
    let l = c.loop-p in
    omega (arith, flag c.requires.0 c.requires.3 l.invariant c.loop-p-test.true c.starts_at-starts.ensures, buffered_few _ _ c.requires.0 c.requires.3 _ _ _ l.invariant)

pub loop-p-preserved : goal.loop-p-preserved
loop-p-preserved c = rw c.starts_at-starts.ensures (buffered_turn _ _ c.requires.0 c.requires.3 _ _ _ c.loop-p.invariant c.loop-p-test.true)

pub overflow_add-work-2 : goal.overflow_add-work-2
overflow_add-work-2 c = omega (arith, buffered_few _ _ c.requires.0 c.requires.3 _ _ _ c.loop-p.invariant, c.starts_at-starts.ensures)

pub offset_bounds-work-starts-2 : goal.offset_bounds-work-starts-2
offset_bounds-work-starts-2 c = omega (arith, buffered_few _ _ c.requires.0 c.requires.3 _ _ _ c.loop-p.invariant, c.starts_at-starts.ensures)

pub bounds-work-starts-2 : goal.bounds-work-starts-2
bounds-work-starts-2 c = omega (arith, buffered_few _ _ c.requires.0 c.requires.3 _ _ _ c.loop-p.invariant, c.starts_at-starts.ensures, c.loop-p.invariant.long)

pub returns : goal.returns
returns c = rw c.starts_at-starts.ensures (buffered_end _ _ c.requires.0 c.requires.3 _ _ _ c.loop-p.invariant c.loop-p-test.false)
