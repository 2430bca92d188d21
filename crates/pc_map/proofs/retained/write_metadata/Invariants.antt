use Rattle.std.proofs.Common.{ℕ, List, length}
use Rattle.unit.specs.Result.{metadata_bytes_all}
use Rattle.pc_map.specs.laws.Listed.{Listed}
use Rattle.pc_map.proofs.Writing.{WrittenTo}
use Rattle.pc_map.proofs.retained.write_metadata.Given as goal

abbrev pub invariant-loop-q : goal.invariant-loop-q
invariant-loop-q l = (keep : List ℕ) → Listed keep l.map.boundaries.now l.kept (length l.words) → WrittenTo 16 metadata_bytes_all keep l.kept l.words l.metadata l.a l.initial.out l.out l.q
