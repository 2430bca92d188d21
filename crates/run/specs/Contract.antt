-- Definitions. What one pass and the cleaning promise, of what they are given and what they leave: a definition for each.
-- Assumes nothing.
use Rattle.std.specs.Prelude.{◌≡◌, List, ℕ, length, replicate}
use Rattle.answer.specs.Pass.{Outcome, output_after}
use Rattle.answer.specs.Answer.{Lent, lent_of, pass_answer, pass_lines}
use Rattle.unit.specs.declared.Line.{Line}
use Rattle.answer.specs.Clean.{Cleaned, clean_answer, clean_lines}
use Rattle.run.specs.Returned.{PreservesRuns}

-- what the lent buffers hold
pub record Buffers : Type 0 where
  pub out : List ℕ
  pub work32 : List ℕ
  pub work64 : List ℕ

abbrev pub buffers : List ℕ → List ℕ → List ℕ → Buffers
buffers out work32 work64 = record { out = out; work32 = work32; work64 = work64 }

abbrev pub lengths : Buffers → Lent
lengths b = lent_of (length b.out) (length b.work32) (length b.work64)

-- "work buffers end as zeros after every answer"
abbrev pub Zeroed : List ℕ → List ℕ → Type 0
Zeroed before after = after ≡ replicate (length before) 0

-- One pass on the bytes u, lent the buffers `before`, answers r and leaves the buffers `after`. An answer is given in some form of
-- the caller's.
pub record PassContract {A : Type 0} (form : Outcome → A) (u : List ℕ) (before : Buffers) (r : A) (after : Buffers) : Type 0 where
  -- demand 2: the answer that is defined
  pub answer : r ≡ form (pass_answer u (lengths before))
  pub output : after.out ≡ output_after (pass_answer u (lengths before)) (pass_lines u (lengths before)) before.out
  pub work32 : Zeroed before.work32 after.work32
  pub work64 : Zeroed before.work64 after.work64
  -- demand 3: what is returned runs as what was given
  pub runs : PreservesRuns u (pass_answer u (lengths before)) after.out

-- The cleaning is lent two spare buffers too.
pub record Spare : Type 0 where
  pub first : List ℕ
  pub second : List ℕ

abbrev pub spares : List ℕ → List ℕ → Spare
spares first second = record { first = first; second = second }

abbrev pub cleaning : List ℕ → Buffers → Spare → Cleaned
cleaning u b s = clean_answer u (lengths b) (length s.first) (length s.second)

abbrev pub cleaning_lines : List ℕ → Buffers → Spare → List Line
cleaning_lines u b s = clean_lines u (lengths b) (length s.first) (length s.second)

pub record CleanContract {A : Type 0} (form : Cleaned → A) (u : List ℕ) (before : Buffers) (spare : Spare) (r : A) (after : Buffers) (spare' : Spare) : Type 0 where
  pub answer : r ≡ form (cleaning u before spare)
  pub output : after.out ≡ output_after (cleaning u before spare).outcome (cleaning_lines u before spare) before.out
  pub work32 : Zeroed before.work32 after.work32
  pub work64 : Zeroed before.work64 after.work64
  pub first : Zeroed spare.first spare'.first
  pub second : Zeroed spare.second spare'.second
  pub runs : PreservesRuns u (cleaning u before spare).outcome after.out
