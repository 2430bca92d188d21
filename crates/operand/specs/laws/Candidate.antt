-- Candidates: one word for each opcode, in place of a search.
-- Assumes nothing.
use Rattle.std.specs.Prelude.{◌≡◌, ℕ, ◌^◌, ◌<◌, ◌≤◌, Bool}

-- if some word gives what is wanted, then this one does, and is no larger
abbrev pub Candidate : (ℕ → ℕ) → ℕ → ℕ → Type 0
Candidate f wanted c = (r : ℕ) → r < 2 ^ 64 → f r ≡ wanted → (c ≤ r) × (f c ≡ wanted)

-- the same for a test and its outcome
abbrev pub Tips : (ℕ → Bool) → Bool → ℕ → Type 0
Tips test holds c = (r : ℕ) → r < 2 ^ 64 → test r ≡ holds → (c ≤ r) × (test c ≡ holds)
