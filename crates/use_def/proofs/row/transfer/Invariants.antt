use Rattle.std.proofs.Common.{◌≡◌, length}
use borrow.Rule.Slice.PartMut.{mid_of}
use Rattle.words.specs.laws.Only.{At, Only}
use Rattle.use_def.specs.laws.Wordwise.{transfer_words, Storing}
use Rattle.use_def.proofs.row.transfer.Given as goal

abbrev pub invariant-loop-k : goal.invariant-loop-k
invariant-loop-k l =
    (length l.memory ≡ length l.initial.memory) × Only (At l.live l.w) l.initial.memory l.memory
    × Storing (transfer_words (mid_of l.uses l.w l.initial.memory) (mid_of l.out l.w l.initial.memory) (mid_of l.preserved l.w l.initial.memory)) (mid_of l.live l.w l.initial.memory) (mid_of l.live l.w l.memory) l.k l.changes
