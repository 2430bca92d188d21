-- The header and the sections of a unit again.
-- Assumes nothing.
use Rattle.std.specs.Prelude.{ℕ, ◌+◌, ◌*◌}
use Rattle.unit.specs.Size.{line_size}
use Rattle.unit.specs.declared.Counts.{Counts}
use Rattle.again.specs.Again.{counts_with, offsets_of}

-- bytes of a unit with n instructions and l lines
abbrev pub size_with : Counts → ℕ → ℕ → ℕ
size_with c n l = (offsets_of (counts_with c n l)).lines + line_size * l
