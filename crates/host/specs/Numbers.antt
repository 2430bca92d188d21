-- Definitions. Answers as numbers, for programs in other languages.
-- Assumes nothing.
use Rattle.std.specs.Prelude.{Ok, Err, Result}
use Rattle.answer.specs.Pass.{Outcome}
use Rattle.answer.specs.Clean.{Cleaned as Cleaning}
use Rattle.optimize.specs.PassAnswer.{answer_of}
use Rattle.unit.specs.declared.refusal.Refusal.{Refusal}
use Rattle.optimize.specs.declared.Answer.{Answer}
use Rattle.optimize.specs.declared.Answer.TheVariants.{Unchanged, Rewritten}
use Rattle.clean.specs.CleanAnswer.{cleaned_of}
use Rattle.clean.specs.declared.Cleaned.{Cleaned}
use Rattle.host.specs.declared.Numbers.{Numbers}
use Rattle.host.specs.declared.CleanedNumbers.{CleanedNumbers}

unfoldable pub numbers_of : Result Answer Refusal → Numbers
numbers_of (Ok Unchanged) = record { kind = 0; number = 0; place = 0 }
numbers_of (Err r) = record { kind = 1; number = r.number; place = r.place }
numbers_of (Ok (Rewritten n)) = record { kind = 2; number = n; place = 0 }

unfoldable pub cleaned_numbers_of : Cleaned → CleanedNumbers
cleaned_numbers_of c =
    let n = numbers_of c.answer in
    record { kind = n.kind; number = n.number; place = n.place; passes = c.passes }

-- the answers that are defined, in numbers
abbrev pub numbers_of_outcome : Outcome → Numbers
numbers_of_outcome o = numbers_of (answer_of o)

abbrev pub numbers_of_cleaning : Cleaning → CleanedNumbers
numbers_of_cleaning c = cleaned_numbers_of (cleaned_of c)
