use mathlib.Core.Path.{◌≡◌}
use Prim.Native.Nat.{◌*◌}
use borrow.Rule.Slice.PartMut.{put_mid}
use Rattle.unit.specs.Size.{place_size}
use Rattle.clean.specs.laws.Placing.{composed}
use Rattle.clean.proofs.buffer.compose.Given as goal

abbrev pub invariant-loop-p : goal.invariant-loop-p
invariant-loop-p l = l.to ≡ put_mid 0 (place_size * l.p) l.initial.to (composed l.from l.initial.to l.p)
