use mathlib.Core.Path.{◌≡◌, refl, ap, ◌∙◌}
use mathlib.Core.Bool.{Bool, cond, ◌&&◌}
use Prim.Native.Nat.{ℕ, ◌+◌, ◌<◌}
use native.Mathlib.Omega.{arith}
use lib.Dec.{ltb}
use lib.Bits.{bit_and}
use borrow.Rule.Slice.PartMut.{mid_of}
use Rattle.instruction.specs.Instruction.{class}
use Rattle.flow.specs.Branch.{falls, branches}
use Rattle.use_def.specs.laws.Wordwise.{all_bits}
use Rattle.liveness.specs.laws.SetMemory.{live_of, start_inside, start_row}
use Rattle.flow.specs.laws.BranchLaws.{byte_below}
use Rattle.liveness.specs.laws.Out.{both_bits, place_if, next_place, target_place, target_inside, out_joined}
use Rattle.liveness.proofs.out.live_out.Goals as goal
use Rattle.liveness.proofs.out.live_out.Tie as tie
use Rattle.liveness.proofs.out.live_out.Lts
use Rattle.liveness.proofs.out.live_out.Reads

abbrev After-branch_target : Type 0
After-branch_target = Lts.After-branch_target tie.the-claims Reads.Pre Reads.Post

abbrev After-falls : Type 0
After-falls = Lts.After-falls tie.the-claims Reads.Pre Reads.Post

abbrev After-mask-first : Type 0
After-mask-first = Lts.After-mask tie.the-claims Reads.Pre Reads.Post

-- does it go on at the next place?
abbrev goes_on : After-falls → Bool
goes_on c = falls (class c.from_word-i.result) && ltb (c.args.p + 1) c.args.sets.code

pub mask-first-requires : goal.mask-first-requires
mask-first-requires c = rw (c.falls.ensures, c.class-class.ensures, both_bits) (byte_below (goes_on c.before))

pub mask-second-requires : goal.mask-second-requires
mask-second-requires c = rw (rw c.class-class.ensures at c.branches.ensures) (byte_below (branches (class c.from_word-i.result)))

-- the next place, if it goes on there, or place 0
abbrev nextPlace : After-mask-first → ℕ
nextPlace c = cond (goes_on c.before) (c.args.p + 1) 0

next-inside : (c : After-mask-first) → nextPlace c < c.args.sets.code
next-inside c = next_place (falls (class c.from_word-i.result)) c.args.p c.args.sets.code c.requires.1

goes_on_lem : (c : After-mask-first) → c.mask-first.result ≡ all_bits (goes_on c.before)
goes_on_lem c = c.mask-first.ensures (goes_on c.before) (rw (rw c.class-class.ensures at c.falls.ensures) (both_bits (falls (class c.from_word-i.result)) (ltb (c.args.p + 1) c.args.sets.code)))

next-masked : (c : After-mask-first) → bit_and (c.args.p + 1) c.mask-first.result ≡ nextPlace c
next-masked c =
    rw (goes_on_lem c) (place_if (c.args.p + 1) (goes_on c.before) (omega (arith, c.requires.1, c.requires.0.most)))

pub row_of-a-requires : goal.row_of-a-requires
row_of-a-requires c =
    let k = c.requires.0 in
    let h = next-inside c.before.before.before in
    rw (next-masked c.before.before.before) (omega (arith, k.laid.end), rw k.long_blocks h, k.rows_inside _ h)

-- the target, if it branches, or place 0
abbrev branching : After-branch_target → Bool
branching c = branches (class c.from_word-i.result)

abbrev targetPlace : After-branch_target → ℕ
targetPlace c = cond (branching c) c.branch_target.result 0

branches-to : (c : After-branch_target) → c.mask-second.result ≡ all_bits (branching c)
branches-to c = c.mask-second.ensures (branching c) (rw c.class-class.ensures at c.branches.ensures)

target-masked : (c : After-branch_target) → bit_and c.branch_target.result c.mask-second.result ≡ targetPlace c
target-masked c = rw (branches-to c) (place_if c.branch_target.result (branching c) (omega arith))

target-inside-code : (c : After-branch_target) → targetPlace c < c.args.sets.code
target-inside-code c =
    target_place (branching c) c.branch_target.result c.args.sets.code (omega (arith, c.requires.1))
    (λ e. rw (c.branch_target.ensures e) (target_inside _ _ _ (rw c.from_word-i.ensures (c.requires.0.inside c.args.p c.requires.1)) e))

pub row_of-b-requires : goal.row_of-b-requires
row_of-b-requires c =
    let k = c.requires.0 in
    let h = target-inside-code c.before in
    rw (target-masked c.before) (omega (arith, k.laid.end), rw k.long_blocks h, k.rows_inside _ h)

pub join-requires : goal.join-requires
join-requires c =
    let a = start_inside c.args.sets _ _ c.requires.0 _ (next-inside c.before.before.before.before.before.before.before) in
    let d = start_inside c.args.sets _ _ c.requires.0 _ (target-inside-code c.before.before.before) in
    rw (c.row_of-a.ensures, next-masked c.before.before.before.before.before.before.before, c.row_of-b.ensures, target-masked c.before.before.before) (a.0, a.1, d.0, d.1)

pub returns : goal.returns
returns c =
    let z = c.args.sets in
    let m = c.args.memory.now in
    let i = c.from_word-i in
    let a = ap (λ (j : ℕ). mid_of j z.width m) (rw (next-masked c.before.before.before.before.before.before.before.before.before.before) at c.row_of-a.ensures) ∙ start_row z m _ c.requires.0 (nextPlace c.before.before.before.before.before.before.before.before.before.before) (next-inside c.before.before.before.before.before.before.before.before.before.before) in
    let d = ap (λ (j : ℕ). mid_of j z.width m) (rw (target-masked c.before.before.before.before.before.before) at c.row_of-b.ensures) ∙ start_row z m _ c.requires.0 (targetPlace c.before.before.before.before.before.before) (target-inside-code c.before.before.before.before.before.before) in
    let j = c.join.ensures in
    (rw (← i.ensures) (out_joined z.width (live_of z m) c.args.blocks.now z.code c.args.p c.branch_target.result i.result _ _ _ (goes_on c.before.before.before.before.before.before.before.before.before.before.before) (branching c.before.before.before.before.before.before) refl refl c.branch_target.ensures a d (j.0 (goes_on c.before.before.before.before.before.before.before.before.before.before.before) (branching c.before.before.before.before.before.before) (goes_on_lem c.before.before.before.before.before.before.before.before.before.before) (branches-to c.before.before.before.before.before.before))), j.1)
