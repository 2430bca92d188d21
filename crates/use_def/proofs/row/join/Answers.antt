use Rattle.std.proofs.Common.{◌≡◌, ◌+◌, ◌≤◌, length, arith}
use borrow.Rule.Slice.PartMut.{mid_of}
use Rattle.words.specs.laws.Regions.{mid_long}
use Rattle.use_def.specs.laws.Wordwise.{join_past, joined_sets, stored_end, part_only, part_other, part_turn}
use Rattle.use_def.proofs.row.join.Goals as goal

pub loop-k-preserved : goal.loop-k-preserved
loop-k-preserved c =
    let s = c.before.before.before.before in
    let l = c.loop-k in
    let m = s.args.memory.now in
    let room : s.args.a + s.args.w ≤ length m = omega arith in
    let h = c.loop-k-test.true in
    let one = part_other m l.memory s.args.a s.args.w l.k l.invariant.1 room h s.args.b (λ i. omega (arith, i.1)) in
    let other = part_other m l.memory s.args.a s.args.w l.k l.invariant.1 room h s.args.c (λ i. omega (arith, i.1)) in
    let only = part_only m l.memory s.args.a s.args.w l.k l.invariant.1 room h _ in
    (only.long, only, part_turn m l.memory s.args.a s.args.w l.k l.invariant.1 room h _ _ l.invariant.2 (rw (one, other)))

pub returns : goal.returns
returns c =
    let s = c.before.before in
    let l = c.loop-k in
    let m = s.args.memory.now in
    let w = s.args.w in
    let long : length (mid_of s.args.a w m) ≡ w = mid_long m s.args.a w (omega arith) in
    let one : length (mid_of s.args.b w m) ≡ w = mid_long m s.args.b w (omega arith) in
    let other : length (mid_of s.args.c w m) ≡ w = mid_long m s.args.c w (omega arith) in
    (joined_sets s.args.f s.args.s (mid_of s.args.b w m) (mid_of s.args.c w m) _ (stored_end _ _ _ _ l.invariant.2 (omega arith) (λ j h. join_past s.args.f s.args.s (mid_of s.args.b w m) (mid_of s.args.c w m) w one other j (omega arith))), l.invariant.1)
