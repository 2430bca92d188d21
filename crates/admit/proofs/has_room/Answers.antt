use Rattle.admit.specs.laws.Rows.{room_test}
use borrow.Author.Rules.{rules}
use Rattle.admit.proofs.has_room.Goals as goal

pub output_room-requires : goal.output_room-requires
output_room-requires c = search rules

pub work32_room-requires : goal.work32_room-requires
work32_room-requires c = search rules

pub work64_room-requires : goal.work64_room-requires
work64_room-requires c = search rules

pub returns : goal.returns
returns c = let a = c.args in record { answer = room_test a.c a.out a.work32 a.work64 _ _ _ c.output_room.ensures c.work32_room.ensures c.work64_room.ensures }
