use Rattle.numbering.proofs.Keeping.{same_limit, same_then, room_kept, kept_then}
use Rattle.numbering.proofs.Walking.{operator_becomes}
use Rattle.numbering.proofs.walk.number_operator.Goals as goal

pub fold_numbers-folded-requires : goal.fold_numbers-folded-requires
fold_numbers-folded-requires c = (c.second-c.ensures.kept.ready, same_limit (same_then c.representative-b.ensures.same c.second-c.ensures.same) c.number-left.ensures.1, same_limit c.second-c.ensures.same c.second_number-right.ensures.1)

pub by_value-requires : goal.by_value-requires
by_value-requires c = (room_kept c.requires.0 (kept_then c.representative-b.ensures.kept c.second-c.ensures.kept), c.requires.3, c.requires.4, same_limit (same_then c.representative-b.ensures.same c.second-c.ensures.same) c.number-left.ensures.1, same_limit c.second-c.ensures.same c.second_number-right.ensures.1)

pub returns : goal.returns
returns c = operator_becomes c.args.i c.args.p c.args.binary _ c.requires.1 c.requires.2 c.number-left.ensures.0 c.representative-b.ensures c.second_number-right.ensures.0 c.second-c.ensures c.fold_numbers-folded.ensures c.by_value.ensures
