-- A result found at the front of a buffer: what is read of it has the bytes that stand there, and so has the unit again.
-- Assumes nothing.
use Rattle.std.specs.Prelude.{◌≡◌, true, ℕ, ◌+◌, ◌*◌, ◌≤◌}
use mathlib.Core.List.{List}
use Rattle.std.proofs.Math.ListN.{length}
use Rattle.words.specs.Le.{u32_at}
use Rattle.unit.specs.Layout.{header_of, is_unit}
use Rattle.unit.specs.Result.{result_metadata_at, result_places_at, result_lines_at}
use Rattle.unit.specs.Size.{header_size, instruction_size, metadata_size, constant_size, function_size, extern_size, case_size, result_header_size, result_size}
use Rattle.unit.specs.declared.Counts.{Counts}
use Rattle.unit.specs.declared.Header.{Header}
use Rattle.again.specs.Again.{header_with}
use Rattle.again.specs.laws.Laid.{size_with}

-- ---- a result of a unit with counts c

pub record ResultOf (c : Counts) (b : List ℕ) : Type 0 where
  pub header : result_header_size ≤ length b
  pub code : u32_at b 4 ≡ result_header_size
  pub metadata : u32_at b 8 ≡ result_metadata_at (u32_at b 0)
  pub places : u32_at b 12 ≡ result_places_at (u32_at b 0)
  pub lines : u32_at b 20 ≡ result_lines_at (u32_at b 0)
  pub whole : result_size (u32_at b 0) (u32_at b 16) ≤ length b
  pub instructions : u32_at b 0 ≤ c.instructions
  pub described : u32_at b 0 ≤ c.metadata
  pub lined : u32_at b 16 ≤ c.lines

-- ---- what is written

-- where the lines of a unit with these counts start
abbrev pub lines_at : Counts → ℕ
lines_at c =
    header_size
    + instruction_size * c.instructions
    + metadata_size * c.metadata
    + c.types
    + constant_size * c.constants
    + function_size * c.functions
    + extern_size * c.externs
    + case_size * c.cases

-- what may be written: a unit, a result of it, the header of both as a unit again, and room for that
pub record Writable (u b : List ℕ) (room : ℕ) (h : Header) : Type 0 where
  pub laid : is_unit u ≡ true
  pub result : ResultOf (header_of u).counts b
  pub header : h ≡ header_with (header_of u).counts (u32_at b 0) (u32_at b 16)
  pub fits : size_with (header_of u).counts (u32_at b 0) (u32_at b 16) ≤ room
