use Rattle.std.proofs.Common.{◌≡◌, ℕ, ◌+◌, ◌-◌, ◌*◌, ◌<◌, ◌≤◌, List, [], ◌∷◌, length, get_or, set, sym, ◌∙◌, add-one, arith, length-set, ltb-true}
use borrow.Rule.Slice.PartMut.{mid_of}
use Rattle.words.specs.laws.Regions.{mid_long}
use Rattle.words.specs.laws.Truth.{both}
use Rattle.instruction.specs.Instruction.{of_word}
use Rattle.unit.specs.laws.Region.{stack_end}
use Rattle.effects.specs.laws.Cells.{cell_of, cells_by}
use Rattle.flow.specs.laws.Successors.{following, successors_few, following_at, goes_on_lem}
use Rattle.flow.proofs.Running.{run_begin, run_fits, run_place, run_old, run_free, run_push, run_less, run_next}
use Rattle.flow.proofs.reach.mark_run.Goals as goal
use Rattle.flow.proofs.reach.mark_run.Tie as tie
use Rattle.flow.proofs.reach.mark_run.Lts
use Rattle.flow.proofs.reach.mark_run.Reads

abbrev At-loop-work : Type 0
At-loop-work = Lts.At-loop tie.the-claims Reads.Pre Reads.Post goal.the-invariant-loop-work goal.the-decreases-loop-work

abbrev In-loop-work : Type 0
In-loop-work = Lts.Then1 tie.the-claims Reads.Pre Reads.Post goal.the-invariant-loop-work goal.the-decreases-loop-work

abbrev Start : Type 0
Start = Lts.Start tie.the-claims Reads.Pre Reads.Post goal.the-invariant-loop-work goal.the-decreases-loop-work

abbrev Then-goes_on-p : Type 0
Then-goes_on-p = Lts.Then2 tie.the-claims Reads.Pre Reads.Post goal.the-invariant-loop-work goal.the-decreases-loop-work

abbrev Head : Type 0
Head = At-loop-work

abbrev start : Head → Start
start h = h.before.before.before.before.before

abbrev size : Head → ℕ
size h = length (start h).args.words.now

abbrev next : Head → ℕ → List ℕ
next h = following (cells_by (start h).args.words.now (start h).args.metadata.now)

few : (h : Head) (p : ℕ) → length (next h p) ≤ 4
few h p = successors_few _ p _

room : (h : Head) → stack_end (size h) ≤ length h.loop-work.work
room h = rw h.loop-work.invariant.walked.long (start h).requires.2

below : (h : Head) → h.loop-work.p < size h
below h = run_place (few h) (room h) h.loop-work.invariant

fits : (h : Head) → (start h).args.sp < 4 * size h + 4
fits h = run_fits (few h) (room h) h.loop-work.invariant

-- the head of a turn that marks a place
abbrev turn : In-loop-work → Head
turn c = c.before.before

-- what the tests say where the run goes on
module _ (c : Then-goes_on-p) where
  abbrev head : Head
  head = turn c.before.before.before

  more : head.loop-work.p + 1 < size head
  more = ltb-true _ _ (both c.goes_on.result _ c.if-goes_on-p.true).1

  one : next head head.loop-work.p ≡ (head.loop-work.p + 1) ∷ []
  unfolding of_word
  one =
      let words = (start head).args.words.now in
      let metadata = (start head).args.metadata.now in
      let p = head.loop-work.p in
      let goes = sym c.goes_on.ensures ∙ (both c.goes_on.result _ c.if-goes_on-p.true).0 in
      rw (add-one p) (following_at words metadata p (below head) ∙ goes_on_lem (length words) p (cell_of metadata p (get_or words p 0)) goes)

pub loop-work-init : goal.loop-work-init
loop-work-init c = let s = c.before.before.before.before.before in run_begin _ _ _ _ _ s.requires.3 s.requires.4

pub offset_bounds-work-p : goal.offset_bounds-work-p
offset_bounds-work-p c = omega (arith, below c.before)

pub bounds-work-p : goal.bounds-work-p
bounds-work-p c = omega (arith, below c.before.before, room c.before.before)

pub offset_bounds-work-p-in-loop-work : goal.offset_bounds-work-p-in-loop-work
offset_bounds-work-p-in-loop-work c = omega (arith, below (turn c.before))

pub bounds-work-p-in-loop-work : goal.bounds-work-p-in-loop-work
bounds-work-p-in-loop-work c = omega (arith, below (turn c.before), room (turn c.before))

pub offset_bounds-words-p : goal.offset_bounds-words-p
offset_bounds-words-p c = omega (arith, below (turn c.before))

pub bounds-words-p : goal.bounds-words-p
bounds-words-p c = below (turn c.before.before)

pub overflow_add-p : goal.overflow_add-p
overflow_add-p c = omega (arith, below (turn c.before.before.before))

pub overflow_add-p-then-goes_on-p : goal.overflow_add-p-then-goes_on-p
overflow_add-p-then-goes_on-p c = omega (arith, below (head c.before))

pub overflow_cast-work : goal.overflow_cast-work
overflow_cast-work c = omega (arith, below (head c.before))

pub overflow_add-work : goal.overflow_add-work
overflow_add-work c = omega (arith, fits (head c.before))

pub offset_bounds-work-n : goal.offset_bounds-work-n
offset_bounds-work-n c = omega (arith, fits (head c.before))

pub bounds-work-n : goal.bounds-work-n
bounds-work-n c = omega (arith, fits (head c.before), room (head c.before), length-set (head c.before).loop-work.work (head c.before).loop-work.p 1)

pub loop-work-smaller : goal.loop-work-smaller
loop-work-smaller c = let h = head c.before in run_less (few h) (room h) h.loop-work.invariant c.loop-work-test.true (one c.before) (more c.before)

pub loop-work-preserved : goal.loop-work-preserved
loop-work-preserved c = let h = head c.before in run_next (few h) (room h) h.loop-work.invariant c.loop-work-test.true (one c.before) (more c.before)

-- the stack's end as the code has it
abbrev end : Head → ℕ
end h = h.stack_end-end.result

stack-part : (h : Head) → end h - size h ≡ 4 * size h + 4
stack-part h = omega (arith, h.stack_end-end.ensures)

pub slice_bounds-push_successors-end : goal.slice_bounds-push_successors-end
slice_bounds-push_successors-end c = let h = turn c.before.before.before.before in omega (arith, room h, h.stack_end-end.ensures, length-set h.loop-work.work h.loop-work.p 1)

pub push_successors-requires : goal.push_successors-requires
push_successors-requires c =
    let t = c.before.before.before.before.before in
    let h = turn t in
    let free = run_free (few h) (room h) h.loop-work.invariant t.loop-work-test.true in
    let marked = set h.loop-work.work h.loop-work.p 1 in
    let part : length (mid_of (size h) (end h - size h) marked) ≡ 4 * size h + 4
    = mid_long marked (size h) (end h - size h) (omega (arith, room h, stack-part h, length-set h.loop-work.work h.loop-work.p 1)) ∙ stack-part h in
    (omega arith, below h, omega arith, omega arith)

pub returns-else-goes_on-p : goal.returns-else-goes_on-p
returns-else-goes_on-p c =
    let v = c.before.before.before in
    let t = v.before.before.before.before.before in
    let h = turn t in
    run_push (few h) (room h) h.loop-work.invariant t.loop-work-test.true _ (stack-part h) v.push_successors.new.stack v.push_successors.result v.push_successors.auto.stack
    (rw (following_at (start h).args.words.now (start h).args.metadata.now h.loop-work.p (below h)) v.push_successors.ensures)

pub shape_of-work-else-goes_on-p : goal.shape_of-work-else-goes_on-p
shape_of-work-else-goes_on-p c = (returns-else-goes_on-p c).walked.long

pub shape_of-work : goal.shape_of-work
shape_of-work c = c.loop-work.invariant.walked.long

pub returns : goal.returns
returns c = let h = c.before.before.before in run_old (few h) (room h) h.loop-work.invariant c.loop-work-test.false
