use mathlib.Core.Path.{refl, sym, ◌∙◌}
use Prim.Native.Nat.{ℕ}
use native.Mathlib.Omega.{arith}
use lib.ListN.{get_or}
use borrow.Author.Tests.{eq-eqb, ne_eqb}
use Rattle.instruction.specs.Instruction.{of_word}
use Rattle.unit.specs.Entry.{metadata_at}
use Rattle.effects.specs.Shape.{Cell, tables_in}
use Rattle.effects.specs.laws.Cells.{cell_of}
use Rattle.words.specs.laws.Only.{only_none, lent_long, second_long}
use Rattle.use_def.specs.laws.Touched.{writes_fit_any}
use Rattle.use_def.specs.laws.SingleSets.{SingleFits, single_fits}
use Rattle.use_def.specs.laws.BranchSets.{BranchFits, branch_fits}
use Rattle.liveness.specs.laws.Through.{not_placed, lent_placed}
use Rattle.liveness.proofs.block.summarize_place.Goals as goal
use Rattle.liveness.proofs.block.summarize_place.Goals.{Start, Then-is_branching, Then-is_single}

pub returns-then-keep-p-ne1 : goal.returns-then-keep-p-ne1
returns-then-keep-p-ne1 c = record { sets = not_placed _ _ _ _ _ (ne_eqb _ _ c.if-keep-p-ne1.true); rest = only_none _ _ }

abbrev word : Start → ℕ
word s = get_or s.args.memory.now s.args.p 0

abbrev cell : Start → Cell
cell s = cell_of s.args.metadata.now s.args.p (word s)

-- such an instruction's slots are in the sets
fits : (c : Then-is_single) → SingleFits c.args.sets.width (get_or c.args.memory.now c.args.p 0)
unfolding of_word
fits c =
    single_fits _ _ (tables_in c.args.tables) (metadata_at c.args.metadata.now c.args.p) c.requires.fits.some (sym (rw c.class_of-class.ensures at c.is_single.ensures) ∙ c.if-is_single.true) (c.requires.fits.fits _ (omega arith))

pub take_single_write-requires : goal.take_single_write-requires
take_single_write-requires c = rw (lent_long _ _ _ c.requires.fits.room) (fits (goal.at.take_single_write-requires c).Then-is_single)

pub single_before-requires : goal.single_before-requires
unfolding of_word
single_before-requires c =
    rw (second_long _ _ _ _ _ c.requires.fits.apart c.requires.fits.room c.take_single_write.auto.row) (fits (goal.at.single_before-requires c).Then-is_single, c.class_of-class.ensures)

pub returns-then-is_single : goal.returns-then-is_single
returns-then-is_single c =
    let v = c.take_single_write in
    let u = c.single_before in let all = lent_placed (tables_in c.args.tables) (cell (goal.at.returns-then-is_single c).Start) _ (eq-eqb _ _ c.if-keep-p-ne1.false) _ _ _ _ _ _ c.requires.fits.apart c.requires.fits.room v.auto.row u.auto.row (v.ensures.0 _ _) (u.ensures.0 refl _ _) _ refl in record { sets = all.0; rest = all.1 }

-- so are those of a hint, a jump or a loop
branches : (c : Then-is_branching) → BranchFits c.args.sets.width (get_or c.args.memory.now c.args.p 0)
unfolding of_word
branches c =
    branch_fits _ _ (tables_in c.args.tables) (metadata_at c.args.metadata.now c.args.p) c.requires.fits.some (sym (rw c.class_of-class.ensures at c.is_branching.ensures) ∙ c.if-is_branching.true) (c.requires.fits.fits _ (omega arith))

pub take_loop_write-requires : goal.take_loop_write-requires
unfolding of_word
take_loop_write-requires c = rw (lent_long _ _ _ c.requires.fits.room) (branches (goal.at.take_loop_write-requires c).Then-is_branching, c.class_of-class.ensures)

pub branch_before-requires : goal.branch_before-requires
unfolding of_word
branch_before-requires c =
    rw (second_long _ _ _ _ _ c.requires.fits.apart c.requires.fits.room c.take_loop_write.auto.row) (branches (goal.at.branch_before-requires c).Then-is_branching, c.class_of-class.ensures)

pub returns-then-is_branching : goal.returns-then-is_branching
returns-then-is_branching c =
    let v = c.take_loop_write in
    let u = c.branch_before in let all = lent_placed (tables_in c.args.tables) (cell (goal.at.returns-then-is_branching c).Start) _ (eq-eqb _ _ c.if-keep-p-ne1.false) _ _ _ _ _ _ c.requires.fits.apart c.requires.fits.room v.auto.row u.auto.row (v.ensures _ _) (u.ensures _ _) _ refl in record { sets = all.0; rest = all.1 }

pub put_writes-requires : goal.put_writes-requires
put_writes-requires c =
    rw (c.from_word-i.ensures, lent_long c.args.memory.now c.args.sets.preserved c.args.sets.width c.requires.fits.room) (omega (arith, c.requires.fits.entries), writes_fit_any (c.requires.fits.fits _ (omega arith)))

pub live_before-requires : goal.live_before-requires
live_before-requires c =
    rw (c.from_word-i.ensures, second_long c.args.memory.now c.args.sets.uses c.args.sets.preserved c.args.sets.width _ c.requires.fits.apart c.requires.fits.room c.put_writes.auto.row) (omega (arith, c.requires.fits.entries), c.requires.fits.fits _ (omega arith))

pub returns : goal.returns
returns c =
    let i = c.from_word-i.ensures in
    let v = c.put_writes in
    let u = c.live_before in let all = lent_placed (tables_in c.args.tables) (cell (goal.at.returns c).Start) _ (eq-eqb _ _ c.if-keep-p-ne1.false) _ _ _ _ _ _ c.requires.fits.apart c.requires.fits.room v.auto.row u.auto.row (rw i at (v.ensures c.args.tables.cases.now)) (rw i at u.ensures) _ refl in record { sets = all.0; rest = all.1 }
