use mathlib.Core.Path.{◌≡◌, refl, sym, ◌∙◌}
use mathlib.Core.Bool.{true, false, not}
use Prim.Native.Nat.{◌+◌, ◌*◌, ◌-◌, ◌%◌, ◌≤◌}
use native.Mathlib.Omega.{arith}
use lib.ListN.{length, get_or}
use borrow.Author.Tests.{eq-eqb, ne_eqb, not-false}
use Rattle.instruction.specs.Class.{class_of}
use Rattle.instruction.specs.Instruction.{of_word}
use Rattle.unit.specs.Size.{metadata_size}
use Rattle.effects.specs.Shape.{Cell, tables_in}
use Rattle.effects.specs.laws.Cells.{cell_of}
use Rattle.effects.specs.laws.Single.{is_single}
use Rattle.effects.specs.laws.Branching.{is_branching}
use Rattle.use_def.specs.laws.SingleSets.{single_fits, single_absent}
use Rattle.use_def.specs.laws.BranchSets.{branch_fits, branch_not_dead}
use Rattle.use_def.specs.laws.Free.{dead_by}
use Rattle.liveness.specs.laws.SetMemory.{row_of, row_inside}
use Rattle.words.specs.laws.Only.{only_none, lent_long}
use Rattle.liveness.specs.laws.Sweeping.{swept_off, lent_gone, lent_on, lent_either}
use Rattle.liveness.proofs.sweep.sweep_place.Goals as goal
use Rattle.liveness.proofs.sweep.sweep_place.Goals.{Start, Then-is_branching, Then-is_single}

abbrev cell : Start → Cell
cell s = cell_of s.args.metadata.now s.args.p (get_or s.args.memory.now s.args.p 0)

pub returns-then-keep-p-ne1 : goal.returns-then-keep-p-ne1
returns-then-keep-p-ne1 c =
    let dead = dead_by c.args.types.now (row_of c.args.sets c.args.memory.now) (cell (goal.at.returns-then-keep-p-ne1 c).Start).instruction in
    (swept_off (tables_in c.args.tables) _ dead (cell (goal.at.returns-then-keep-p-ne1 c).Start) c.args.p _ _ (ne_eqb _ _ c.if-keep-p-ne1.true), only_none _ _)

single : (c : Then-is_single) → is_single (class_of (get_or c.args.memory.now c.args.p 0 % 256)) ≡ true
single c = sym (rw c.class_of-class.ensures at c.is_single.ensures) ∙ c.if-is_single.true

pub is_single_dead-live-requires : goal.is_single_dead-live-requires
is_single_dead-live-requires c =
    let part : c.args.sets.row + c.args.sets.width - c.args.sets.row ≡ c.args.sets.width = omega arith in
    (single (goal.at.is_single_dead-live-requires c).Then-is_single, rw part c.requires.4)

pub single_before-requires : goal.single_before-requires
unfolding of_word
single_before-requires c =
    rw (lent_long _ _ _ (row_inside _ _ c.requires.0)) (single_fits _ _ (tables_in c.args.tables) (cell (goal.at.single_before-requires c).Start).metadata c.requires.6 (single (goal.at.single_before-requires c).Then-is_single) c.requires.5, c.class_of-class.ensures)

pub returns-then-is_single : goal.returns-then-is_single
unfolding of_word
returns-then-is_single c =
    let r = c.is_single_dead-live in
    let v = c.single_before in
    let one = c.if-keep-p-ne1.false in
    lent_either (tables_in c.args.tables) (cell (goal.at.returns-then-is_single c).Start) _ (eq-eqb _ _ one) c.args.p _ c.args.types.now _ _ _ _ r.ensures (not r.result) refl one (row_inside _ _ c.requires.0) _ v.auto.row
    (λ l. v.ensures.0 l (tables_in c.args.tables) (cell (goal.at.returns-then-is_single c).Start).metadata)
    (λ d. v.ensures.1 d (single_absent c.args.types.now _ (cell (goal.at.returns-then-is_single c).Start).instruction (single (goal.at.returns-then-is_single c).Then-is_single) (sym r.ensures ∙ not-false r.result d)))

branching : (c : Then-is_branching) → is_branching (class_of (get_or c.args.memory.now c.args.p 0 % 256)) ≡ true
branching c = sym (rw c.class_of-class.ensures at c.is_branching.ensures) ∙ c.if-is_branching.true

pub branch_before-requires : goal.branch_before-requires
unfolding of_word
branch_before-requires c =
    rw (lent_long _ _ _ (row_inside _ _ c.requires.0)) (branch_fits _ _ (tables_in c.args.tables) (cell (goal.at.branch_before-requires c).Start).metadata c.requires.6 (branching (goal.at.branch_before-requires c).Then-is_branching) c.requires.5, c.class_of-class.ensures)

pub returns-then-is_branching : goal.returns-then-is_branching
unfolding of_word
returns-then-is_branching c =
    let v = c.branch_before in
    let dead = branch_not_dead c.args.types.now _ (cell (goal.at.returns-then-is_branching c).Start).instruction (branching (goal.at.returns-then-is_branching c).Then-is_branching) in
    lent_on (tables_in c.args.tables) (cell (goal.at.returns-then-is_branching c).Start) _ (eq-eqb _ _ c.if-keep-p-ne1.false) c.args.p _ c.args.types.now _ _ _ false (sym dead) refl (row_inside _ _ c.requires.0) _ v.auto.row (v.ensures (tables_in c.args.tables) (cell (goal.at.returns-then-is_branching c).Start).metadata)

pub is_dead-requires : goal.is_dead-requires
is_dead-requires c =
    let part : c.args.sets.row + c.args.sets.width - c.args.sets.row ≡ c.args.sets.width = omega arith in
    rw (part, c.from_word-i.ensures) c.requires.4

pub returns-then-is_dead : goal.returns-then-is_dead
returns-then-is_dead c =
    lent_gone (tables_in c.args.tables) (cell (goal.at.returns-then-is_dead c).Start) _ (eq-eqb _ _ c.if-keep-p-ne1.false) c.args.p _ c.args.types.now _ _ _ _ (rw c.from_word-i.ensures at c.is_dead.ensures) c.if-is_dead.true

pub live_before-requires : goal.live_before-requires
live_before-requires c =
    let room : metadata_size * c.args.p + metadata_size ≤ length c.args.metadata.now = omega arith in
    rw (c.from_word-i.ensures, lent_long c.args.memory.now c.args.sets.row c.args.sets.width (row_inside _ _ c.requires.0)) (room, c.requires.5)

pub returns : goal.returns
returns c =
    let i = c.from_word-i.ensures in
    let b = c.live_before in
    lent_on (tables_in c.args.tables) (cell (goal.at.returns c).Start) _ (eq-eqb _ _ c.if-keep-p-ne1.false) c.args.p _ c.args.types.now _ _ _ _ (rw i at c.is_dead.ensures) c.if-is_dead.false (row_inside _ _ c.requires.0) _ b.auto.row (rw i at b.ensures)
