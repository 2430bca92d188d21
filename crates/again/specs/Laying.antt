-- What one pass or the cleaning rewrites, at the front of a buffer, is laid out as the very unit again that `UnitAgain` speaks of.
-- Assumes nothing.
use Rattle.std.specs.Prelude.{Ok, Err, Result, Option, Some, None, ◌≡◌, drop}
use mathlib.Core.List.{List, ◌++◌}
use Prim.Native.Nat.{ℕ, ◌≤◌}
use Rattle.std.proofs.Math.ListN.{length}
use Rattle.unit.specs.Result.{Retained, result_bytes}
use Rattle.unit.specs.declared.Line.{Line}
use Rattle.answer.specs.Clean.{cells_after}
use Rattle.again.specs.Again.{unit_of}
use Rattle.again.specs.LaidOut.{laid_answer, output_laid}
use Rattle.unit.specs.Refusal.{Refused}

-- A result with its lines, at the front of a buffer, is laid out as a unit again wherever there is room for it: the buffer begins with that
-- unit, and its rest is as it was.
pub record LaidAgain (u : List ℕ) (kept : List Retained) (lines : List Line) : Type 0 where
  pub answer : (rest : List ℕ) (room : ℕ) → length (unit_of u (cells_after kept) lines) ≤ room
      → laid_answer u (result_bytes kept lines ++ rest) room ≡ Ok (Some (length (unit_of u (cells_after kept) lines)))
  pub output : (rest out : List ℕ) → length (unit_of u (cells_after kept) lines) ≤ length out
      → output_laid u (result_bytes kept lines ++ rest) out ≡ unit_of u (cells_after kept) lines ++ drop (length (unit_of u (cells_after kept) lines)) out
