use mathlib.Core.Path.{◌≡◌}
use mathlib.Core.List.{List}
use Prim.Native.Nat.{ℕ, ◌/◌}
use native.Mathlib.Omega.{arith}
use lib.ListN.{length}
use Rattle.words.specs.Lists.{every}
use Rattle.unit.specs.Size.{line_size}
use Rattle.unit.specs.Entry.{good_line}
use Rattle.unit.specs.Layout.{header_of, lines_of, lines_rise}
use Rattle.unit.specs.laws.UnitLaws.{Lengths, lengths, within}
use Rattle.parse.proofs.lines_rise.Goals as goal

by_length : (u : List ℕ) → Lengths u → every (length (lines_of u) / line_size) (λ k. good_line (header_of u).counts.instructions (lines_of u) k) ≡ lines_rise u
unfolding lines_rise
by_length u l = let lines : length (lines_of u) / line_size ≡ (header_of u).counts.lines = omega (arith, l.lines) in rw lines

pub part-requires-clause-within : goal.part-requires-clause-within
unfolding header_of
part-requires-clause-within c = (within _ _ c.requires).lines

pub returns : goal.returns
unfolding header_of
returns c =
    rw (c.every_line.ensures, c.part.ensures, c.word-n.ensures.0) (by_length c.args.unit.now (lengths _ (within _ _ c.requires)))
