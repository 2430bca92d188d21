-- Laws of Numbers.
-- Assumes nothing.
use Rattle.std.specs.Prelude.{◌≡◌, refl, Result, ℕ}
use Rattle.clean.specs.declared.Cleaned.{Cleaned}
use Rattle.unit.specs.declared.refusal.Refusal.{Refusal}
use Rattle.desk.specs.declared.Stop.{Stop}
use Rattle.host.specs.declared.ChargedNumbers.{ChargedNumbers}
use Rattle.host.specs.declared.Numbers.{Numbers}
use Rattle.host.specs.declared.StopNumbers.{StopNumbers}
use Rattle.host.specs.declared.CleanedNumbers.{CleanedNumbers}
use Rattle.host.specs.DeskNumbers.{stop_numbers_of, charged_numbers_of}
use Rattle.host.specs.Numbers.{cleaned_numbers_of, numbers_of}

pub cleaned_numbers : (c : Cleaned) (n : Numbers) → n ≡ numbers_of c.answer → ◌≡◌ {A = CleanedNumbers} (record { kind = n.kind; number = n.number; place = n.place; passes = c.passes }) (cleaned_numbers_of c)
unfolding cleaned_numbers_of
cleaned_numbers c n e = rw e

pub charged_numbers : {s t : Result Stop Refusal} {n : StopNumbers} {cents v : ℕ} → n ≡ stop_numbers_of s → s ≡ t → cents ≡ v
    → ◌≡◌ {A = ChargedNumbers} (record { kind = n.kind; first = n.first; second = n.second; cents = cents }) (charged_numbers_of t v)
unfolding charged_numbers_of
charged_numbers e f g = rw (e, f, g) refl
