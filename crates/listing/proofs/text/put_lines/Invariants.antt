use Rattle.std.proofs.Common.{◌+◌, ◌*◌, ◌≤◌, ◌-◌}
use Rattle.listing.specs.Text.{lines}
use Rattle.listing.specs.laws.Puts.{Puts}
use Rattle.listing.proofs.text.put_lines.Given as goal

abbrev pub invariant-loop-k : goal.invariant-loop-k
invariant-loop-k l = (l.end ≤ l.at + 77 * l.k) × Puts l.at (lines l.out l.n l.k) l.initial.text l.text l.end
