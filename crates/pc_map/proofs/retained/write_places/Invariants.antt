use Rattle.std.proofs.Common.{◌≡◌, ℕ, List, length}
use Rattle.unit.specs.Result.{place_bytes}
use Rattle.pc_map.specs.laws.Listed.{kept_list}
use Rattle.pc_map.proofs.Writing.{WrittenTo}
use Rattle.pc_map.proofs.retained.write_places.Given as goal

abbrev pub invariant-loop-q : goal.invariant-loop-q
invariant-loop-q l = (keep words metadata : List ℕ) → l.kept ≡ kept_list keep → length keep ≡ length words → WrittenTo 4 place_bytes keep l.kept words metadata l.a l.initial.out l.out l.q
