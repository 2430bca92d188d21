-- Definitions. Document 01's answer as the value that the cleaning returns.
-- Assumes nothing.
use Rattle.std.specs.Prelude.{◌≡◌, List, [], ℕ}
use Rattle.answer.specs.Clean.{Cleaned as Cleaning}
use Rattle.answer.specs.Pass.{output_after}
use Rattle.clean.specs.declared.Cleaned.{Cleaned}
use Rattle.optimize.specs.PassAnswer.{answer_of}

-- document 01's answer of the cleaning as the value that is returned
unfoldable pub cleaned_of : Cleaning → Cleaned
cleaned_of c = record { answer = answer_of c.outcome; passes = c.passes }

-- and what the output holds then, the result without lines
abbrev pub AnswersCleaned : Cleaning → Cleaned → List ℕ → List ℕ → Type 0
AnswersCleaned c r out out' = (r ≡ cleaned_of c) × (out' ≡ output_after c.outcome [] out)
