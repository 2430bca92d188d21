-- Definitions. How many short functions one pass leaves unchanged, rewrites and refuses (document 02, L11).
-- Assumes nothing.
use Rattle.std.specs.Prelude.{Result, Ok, Err, cond, ℕ, zero, suc, Bool, true, false}
use Rattle.answer.specs.Answer.{Lent, lent_of, pass_answer}
use Rattle.optimize.specs.declared.Answer.{Answer}
use Rattle.optimize.specs.declared.Answer.TheVariants.{Unchanged, Rewritten}
use Rattle.unit.specs.declared.refusal.Refusal.{Refusal}
use Rattle.optimize.specs.PassAnswer.{answer_of}
use Rattle.short.specs.Short.{unit_of}
use Rattle.survey.specs.declared.AnswerKind.{AnswerKind}
use Rattle.survey.specs.declared.AnswerKind.TheVariants as kind

-- the answers by kind
unfoldable pub kind_of : Result Answer Refusal → AnswerKind
kind_of (Ok Unchanged) = kind.Unchanged
kind_of (Ok (Rewritten n)) = kind.Rewritten
kind_of (Err r) = kind.Refused

unfoldable pub same_kind : AnswerKind → AnswerKind → Bool
same_kind kind.Unchanged kind.Unchanged = true
same_kind kind.Rewritten kind.Rewritten = true
same_kind kind.Refused kind.Refused = true
same_kind _ _ = false

-- the lengths of the buffers that the program lends: more than a short function asks for
abbrev pub lent : Lent
lent = lent_of 256 128 256

abbrev pub kind_at : ℕ → AnswerKind
kind_at k = kind_of (answer_of (pass_answer (unit_of k) lent))

-- how many of the first n get an answer of that kind
unfoldable pub counted : AnswerKind → ℕ → ℕ
counted kind zero = 0
counted kind (suc n) = let rest = counted kind n in cond (same_kind (kind_at n) kind) (suc rest) rest
