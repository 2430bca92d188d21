use Rattle.std.proofs.Common.{◌≡◌, length}
use borrow.Rule.Slice.PartMut.{mid_of}
use Rattle.words.specs.laws.Only.{At, Only}
use Rattle.use_def.specs.laws.Wordwise.{join_words, Stored}
use Rattle.use_def.proofs.row.join.Given as goal

abbrev pub invariant-loop-k : goal.invariant-loop-k
invariant-loop-k l = (length l.memory ≡ length l.initial.memory) × Only (At l.a l.w) l.initial.memory l.memory × Stored (join_words l.f (mid_of l.b l.w l.initial.memory) l.s (mid_of l.c l.w l.initial.memory)) (mid_of l.a l.w l.initial.memory) (mid_of l.a l.w l.memory) l.k
