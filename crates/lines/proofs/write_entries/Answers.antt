use mathlib.Core.Path.{◌≡◌, refl, ◌∙◌}
use mathlib.Core.List.{List}
use Prim.Native.Nat.{ℕ, ◌/◌, ◌-◌, ◌≤◌}
use native.Mathlib.Omega.{arith}
use lib.ListN.{length}
use borrow.Rule.Slice.PartMut.{mid_of}
use Rattle.unit.specs.Size.{place_size}
use Rattle.words.specs.laws.Regions.{mid_long}
use Rattle.unit.specs.Result.{result_lines_at, result_places_at}
use Rattle.lines.specs.laws.Moving.{moved_none, old_part, swept_past, swept_turn, swept_all}
use Rattle.lines.proofs.write_entries.Goals as goal

pub loop-j-init : goal.loop-j-init
loop-j-init c = (omega arith, omega arith, refl, λ r s. moved_none _ _ _ _)

-- the old places of the result, as a part of the output
old-size : (k o a : ℕ) (out : List ℕ) → o ≡ result_places_at k → a ≡ result_lines_at k → a ≤ length out → length (mid_of o (a - o) out) / place_size ≡ k
old-size k o a out e f h = let size = mid_long out o (a - o) (omega arith) in omega arith

pub boundary-b-requires : goal.boundary-b-requires
boundary-b-requires c =
    let many = old-size c.args.k _ _ c.loop-j.out c.places_at-old.ensures c.lines_at-at.ensures (let l = c.loop-j.invariant.2 in omega arith) in
    omega arith

pub shape_of-out-then-b-k : goal.shape_of-out-then-b-k
shape_of-out-then-b-k c = c.loop-j.invariant.2

pub returns-then-b-k : goal.returns-then-b-k
returns-then-b-k c =
    let a = c.args in
    let i = c.loop-j.invariant in (
      omega arith,
      swept_past a.k a.lines.now a.out.now c.loop-j.out _ _ _ i.3 c.requires.1 i.0 (omega arith) (omega arith) _ c.line-e.ensures _
          (old_part a.k _ _ c.loop-j.out c.places_at-old.ensures c.lines_at-at.ensures) _ c.boundary-b.ensures.2 c.if-b-k.true,
    )

pub overflow_cast-b : goal.overflow_cast-b
overflow_cast-b c =
    let many = old-size c.args.k _ _ c.loop-j.out c.places_at-old.ensures c.lines_at-at.ensures (let l = c.loop-j.invariant.2 in omega arith) in
    record { fits = omega arith }

pub write_line-requires : goal.write_line-requires
write_line-requires c = let l = c.loop-j.invariant.2 in omega arith

pub loop-j-preserved : goal.loop-j-preserved
loop-j-preserved c =
    let a = c.args in
    let i = c.loop-j.invariant in
    let many = old-size a.k _ _ c.loop-j.out c.places_at-old.ensures c.lines_at-at.ensures (let l = i.2 in omega arith) in (
      omega arith,
      omega arith,
      c.write_line.auto.d ∙ i.2,
      swept_turn a.k a.lines.now a.out.now c.loop-j.out _ _ _ i.3 c.requires.1 i.0 (omega arith) (omega arith) _ c.line-e.ensures _
          (old_part a.k _ _ c.loop-j.out c.places_at-old.ensures c.lines_at-at.ensures) _ c.boundary-b.ensures.2 _ _ (omega arith) c.position-i.ensures.1 (rw c.lines_at-at.ensures at c.write_line.ensures),
    )

pub shape_of-out : goal.shape_of-out
shape_of-out c = c.loop-j.invariant.2

pub returns : goal.returns
returns c =
    let a = c.args in
    let i = c.loop-j.invariant in
    (omega arith, swept_all a.k a.lines.now a.out.now c.loop-j.out _ _ _ i.3 c.requires.1 i.0 (omega arith) (omega arith))
