use Prim.Native.Nat.{◌-◌}
use native.Mathlib.Omega.{arith}
use lib.ListN.{length}
use Rattle.removal.specs.laws.Retained.{hints_useful}
use borrow.Author.Rules.{rules}
use Rattle.removal.proofs.retain.drop_hints.Goals as goal

pub loop_ends_in-requires : goal.loop_ends_in-requires
loop_ends_in-requires c = search rules

pub mark_anchors-requires : goal.mark_anchors-requires
mark_anchors-requires c = search rules

pub slice_bounds-drop_hints-count : goal.slice_bounds-drop_hints-count
slice_bounds-drop_hints-count c = search rules

pub slice_bounds-drop_hints-start : goal.slice_bounds-drop_hints-start
slice_bounds-drop_hints-start c = search rules

pub slice_bounds-drop_hints-end : goal.slice_bounds-drop_hints-end
slice_bounds-drop_hints-end c = search rules

pub drop_hints-requires : goal.drop_hints-requires
drop_hints-requires c = search rules

pub shape_of-work : goal.shape_of-work
shape_of-work c = search rules

pub returns : goal.returns
returns c =
    let a = c.args in
    hints_useful a.words.now a.metadata.now a.work.now c.mark_anchors.new.work c.drop_hints.new.keep (length a.words.now - 0) (omega arith) c.requires.2
    (rw c.loop_ends_in.ensures at c.mark_anchors.ensures) (c.drop_hints.ensures a.metadata.now)
