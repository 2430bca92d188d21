-- Where the regions of the 32-bit work stand, for n instructions: the table in docs/ARCHITECTURE.md.
-- Assumes nothing.
use Rattle.std.specs.Prelude.{ℕ, ◌+◌, ◌*◌}

-- the starts of the blocks, behind the leaders and the block of each place
abbrev pub starts_at : ℕ → ℕ
starts_at n = 2 * n

-- the kept places, behind at most n starts and the end of the last block
abbrev pub keep_at : ℕ → ℕ
keep_at n = 3 * n + 1

-- counted from the kept places: the loop ends, behind the boundaries; the list of the kept places; where the stack of the walk ends
abbrev pub loop_ends_in : ℕ → ℕ
loop_ends_in n = 2 * n + 1

abbrev pub list_in : ℕ → ℕ
list_in n = 3 * n + 1

abbrev pub stack_end : ℕ → ℕ
stack_end n = 5 * n + 4

-- the list, counted from the start of the work
abbrev pub list_at : ℕ → ℕ
list_at n = keep_at n + list_in n
