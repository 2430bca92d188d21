use Rattle.std.proofs.Common.{◌≡◌, ◌+◌, ◌^◌, ◌<◌, ◌≤◌, length, get_or, sym, ◌∙◌, arith}
use lib.Bits.{or_lt, and_lt}
use borrow.Rule.Slice.PartMut.{mid_of}
use Rattle.words.specs.laws.Regions.{mid_long}
use Rattle.use_def.specs.laws.Wordwise.{transfer_past, transferred_sets, stored_end, moved, part_only, part_other, part_moves}
use Rattle.use_def.proofs.row.transfer.Goals as goal

pub loop-k-preserved : goal.loop-k-preserved
loop-k-preserved c =
    let s = c.args in
    let l = c.loop-k in
    let m = s.memory.now in
    let room : s.live + s.w ≤ length m = omega arith in
    let h = c.loop-k-test.true in
    let old : get_or l.memory (s.live + l.k) 0 < 2 ^ 64 = omega (arith, c.slice_known-in-loop-k-3-1.given (s.live + l.k)) in
    let eu = part_other m l.memory s.live s.w l.k l.invariant.1 room h s.uses (λ i. omega (arith, i.0)) in
    let eo = part_other m l.memory s.live s.w l.k l.invariant.1 room h s.out (λ i. omega (arith, i.0)) in
    let ep = part_other m l.memory s.live s.w l.k l.invariant.1 room h s.preserved (λ i. omega (arith, i.0)) in
    let u : get_or (mid_of s.uses s.w m) l.k 0 < 2 ^ 64 = rw (← eu) (omega (arith, c.slice_known-in-loop-k-3-1.given (s.uses + l.k))) in
    let o : get_or (mid_of s.out s.w m) l.k 0 < 2 ^ 64 = rw (← eo) (omega (arith, c.slice_known-in-loop-k-3-1.given (s.out + l.k))) in
    let p : get_or (mid_of s.preserved s.w m) l.k 0 < 2 ^ 64 = rw (← ep) (omega (arith, c.slice_known-in-loop-k-3-1.given (s.preserved + l.k))) in
    let only = part_only m l.memory s.live s.w l.k l.invariant.1 room h _ in
    (only.long, only, part_moves m l.memory s.live s.w l.k l.invariant.1 room h _ _ _ l.invariant.2 (rw (eu, eo, ep)) old (or_lt 64 _ _ u (and_lt 64 _ _ o p)))

pub returns : goal.returns
returns c =
    let s = c.args in
    let l = c.loop-k in
    let m = s.memory.now in
    let long : length (mid_of s.live s.w m) ≡ s.w = mid_long m s.live s.w (omega arith) in
    let lu : length (mid_of s.uses s.w m) ≡ s.w = mid_long m s.uses s.w (omega arith) in
    let lo : length (mid_of s.out s.w m) ≡ s.w = mid_long m s.out s.w (omega arith) in (
      transferred_sets (mid_of s.uses s.w m) (mid_of s.out s.w m) (mid_of s.preserved s.w m) _
          (stored_end _ _ _ _ l.invariant.2.stored (omega arith) (transfer_past (mid_of s.uses s.w m) (mid_of s.out s.w m) (mid_of s.preserved s.w m) _ (lu ∙ sym long) (lo ∙ sym long))),
      moved _ _ _ _ _ l.invariant.2 (omega arith),
      l.invariant.1,
    )
