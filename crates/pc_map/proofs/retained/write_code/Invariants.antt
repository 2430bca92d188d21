use Rattle.std.proofs.Common.{ℕ, List, length}
use Rattle.unit.specs.Result.{code_bytes}
use Rattle.unit.specs.Size.{result_header_size}
use Rattle.pc_map.specs.laws.Listed.{Listed}
use Rattle.pc_map.proofs.Writing.{WrittenTo}
use Rattle.pc_map.proofs.retained.write_code.Given as goal

abbrev pub invariant-loop-q : goal.invariant-loop-q
invariant-loop-q l = (keep metadata : List ℕ) → Listed keep l.map.boundaries.now l.kept (length l.words) → WrittenTo 8 code_bytes keep l.kept l.words metadata result_header_size l.initial.out l.out l.q
