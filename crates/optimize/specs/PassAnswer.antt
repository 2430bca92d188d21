-- Definitions. Document 01's answer as the value that a pass returns.
-- Assumes nothing.
use Rattle.std.specs.Prelude.{Ok, Err, Result, ◌≡◌, List, [], ℕ, length}
use Rattle.answer.specs.Pass.{Outcome, unchanged, refused, rewritten, output_after}
use Rattle.unit.specs.declared.refusal.Refusal.{Refusal}
use Rattle.unit.specs.Refusal.{Refused}
use Rattle.optimize.specs.declared.Answer.{Answer}
use Rattle.optimize.specs.declared.Answer.TheVariants.{Unchanged, Rewritten}

-- document 01's answer as the value that is returned
unfoldable pub answer_of : Outcome → Result Answer Refusal
answer_of unchanged = Ok Unchanged
answer_of (refused k p) = Refused k p
answer_of (rewritten kept) = Ok (Rewritten (length kept))

-- an answer r, and the output before and after it, are those of an outcome; the result has no lines yet
abbrev pub Answers : Outcome → Result Answer Refusal → List ℕ → List ℕ → Type 0
Answers o r out out' = (r ≡ answer_of o) × (out' ≡ output_after o [] out)
