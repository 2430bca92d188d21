-- What one pass or the cleaning rewrites, laid out as a unit again, is a unit of bytes, and its function is the one returned.
-- Assumes nothing.
use Rattle.std.specs.Prelude.{Ok, Err, Result, ◌≡◌, List, ℕ, length}
use Rattle.words.specs.Bytes.{Bytes}
use Rattle.unit.specs.Entry.{lines_in}
use Rattle.unit.specs.Layout.{header_of, lines_of, layout_of}
use Rattle.unit.specs.Result.{Retained}
use Rattle.unit.specs.declared.Line.{Line}
use Rattle.answer.specs.Answer.{sections_of}
use Rattle.answer.specs.Clean.{cells_after}
use Rattle.run.specs.Returned.{given_function, result_function}
use Rattle.again.specs.Again.{header_with, unit_of}

-- A result and its lines laid out with u's other sections: bytes that are a unit, with the result's function and these lines.
pub record UnitAgain (u : List ℕ) (kept : List Retained) (lines : List Line) : Type 0 where
  pub bytes : Bytes (unit_of u (cells_after kept) lines)
  pub unit : layout_of (unit_of u (cells_after kept) lines) ≡ Ok (header_with (header_of u).counts (length kept) (length lines))
  pub function : given_function (unit_of u (cells_after kept) lines) ≡ result_function (sections_of u) kept
  pub lined : lines_in (lines_of (unit_of u (cells_after kept) lines)) ≡ lines
