-- Definitions. The function given and the function returned, and demand 3 as a claim about an answer and the output's bytes after it.
-- Assumes nothing.
use Rattle.std.specs.Prelude.{List, ℕ, length}
use Rattle.unit.specs.Layout.{header_of}
use Rattle.unit.specs.Result.{Retained, read_result}
use Rattle.effects.specs.Shape.{Sections}
use Rattle.answer.specs.Pass.{Outcome, unchanged, refused, rewritten}
use Rattle.answer.specs.Answer.{cells_of, sections_of}
use Rattle.answer.specs.Clean.{cells_after}
use Rattle.run.specs.Machine.{SameRuns}
use Rattle.run.specs.Program.{Function, program_of}

-- the function of a unit
unfoldable pub given_function : List ℕ → Function
given_function u = record { cells = cells_of u; described = (header_of u).counts.metadata; sections = sections_of u }

-- the function of a result: "Both use the unit's other sections"
unfoldable pub result_function : Sections → List Retained → Function
result_function S kept = record { cells = cells_after kept; described = length kept; sections = S }

-- the function that a caller finds in the output's bytes: n', code and metadata by the result's header
unfoldable pub output_function : List ℕ → List ℕ → Function
output_function u out = result_function (sections_of u) (read_result out)

-- Demand 3, of a unit, an answer and the output after it. "Unchanged returns the function given"; rewritten returns the function in
-- the output; of a refusal nothing is claimed.
unfoldable pub PreservesRuns : List ℕ → Outcome → List ℕ → Type 0
PreservesRuns u unchanged out = SameRuns (program_of (given_function u)) (program_of (given_function u))
PreservesRuns u (refused k p) out = Unit {0}
PreservesRuns u (rewritten kept) out = SameRuns (program_of (given_function u)) (program_of (output_function u out))
