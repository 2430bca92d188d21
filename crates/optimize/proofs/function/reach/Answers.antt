use Rattle.optimize.specs.laws.Steps.{reach_marks}
use borrow.Author.Rules.{rules}
use Rattle.optimize.proofs.function.reach.Goals as goal

pub keep_at-at-requires : goal.keep_at-at-requires
keep_at-at-requires c = search rules

pub offset_bounds-work32-at : goal.offset_bounds-work32-at
offset_bounds-work32-at c = search rules

pub slice_bounds-mark_reached-count : goal.slice_bounds-mark_reached-count
slice_bounds-mark_reached-count c = search rules

pub slice_bounds-mark_reached-start : goal.slice_bounds-mark_reached-start
slice_bounds-mark_reached-start c = search rules

pub slice_bounds-mark_reached-end : goal.slice_bounds-mark_reached-end
slice_bounds-mark_reached-end c = search rules

pub mark_reached-requires : goal.mark_reached-requires
mark_reached-requires c = search rules

pub overflow_add-at : goal.overflow_add-at
overflow_add-at c = search rules

pub offset_bounds-work32-at-2 : goal.offset_bounds-work32-at-2
offset_bounds-work32-at-2 c = search rules

pub slice_bounds-check_loops-count : goal.slice_bounds-check_loops-count
slice_bounds-check_loops-count c = search rules

pub slice_bounds-check_loops-start : goal.slice_bounds-check_loops-start
slice_bounds-check_loops-start c = search rules

pub slice_bounds-check_loops-end : goal.slice_bounds-check_loops-end
slice_bounds-check_loops-end c = search rules

pub check_loops-requires : goal.check_loops-requires
check_loops-requires c = search rules

pub shape_of-work32 : goal.shape_of-work32
shape_of-work32 c = search rules

pub returns : goal.returns
returns c =
    record {
      reached = rw c.keep_at-at.ensures
          (reach_marks c.args.n c.args.metadata.now c.args.words.now c.args.work32.now c.mark_reached.new.work _ c.requires.4 c.requires.1 (rw c.keep_at-at.ensures at c.mark_reached.auto.work) c.mark_reached.ensures.0 (rw c.keep_at-at.ensures at c.check_loops.ensures));
    }
