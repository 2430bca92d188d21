-- Definitions. How a run at the desk stops, what a step does, what a run costs, and a result as a unit again, as numbers.
-- Assumes nothing.
use Rattle.std.specs.Prelude.{Ok, Err, Result, Option, Some, None, ℕ}
use Rattle.unit.specs.declared.refusal.Refusal.{Refusal}
use Rattle.desk.specs.declared.Next.{Next}
use Rattle.desk.specs.declared.Next.TheVariants.{Goes, Stops}
use Rattle.desk.specs.declared.Stop.{Stop}
use Rattle.desk.specs.declared.Stop.TheVariants.{Returned, Panicked, Ended, Other, Limit}
use Rattle.host.specs.declared.ChargedNumbers.{ChargedNumbers}
use Rattle.host.specs.declared.LaidNumbers.{LaidNumbers}
use Rattle.host.specs.declared.StopNumbers.{StopNumbers}

unfoldable pub stop_numbers_of : Result Stop Refusal → StopNumbers
stop_numbers_of (Ok (Returned a b)) = record { kind = 0; first = a; second = b }
stop_numbers_of (Err r) = record { kind = 1; first = r.number; second = r.place }
stop_numbers_of (Ok (Panicked a b)) = record { kind = 2; first = a; second = b }
stop_numbers_of (Ok Ended) = record { kind = 3; first = 0; second = 0 }
stop_numbers_of (Ok (Other p)) = record { kind = 4; first = p; second = 0 }
stop_numbers_of (Ok Limit) = record { kind = 5; first = 0; second = 0 }

unfoldable pub next_numbers_of : Result Next Refusal → StopNumbers
next_numbers_of (Ok (Goes p)) = record { kind = 6; first = p; second = 0 }
next_numbers_of (Ok (Stops s)) = stop_numbers_of (Ok s)
next_numbers_of (Err r) = record { kind = 1; first = r.number; second = r.place }

-- a charged run: how it stops, and the cents
unfoldable pub charged_numbers_of : Result Stop Refusal → ℕ → ChargedNumbers
charged_numbers_of s cents = let n = stop_numbers_of s in record { kind = n.kind; first = n.first; second = n.second; cents = cents }

unfoldable pub laid_numbers_of : Result (Option ℕ) Refusal → LaidNumbers
laid_numbers_of (Ok (Some size)) = record { kind = 0; number = 0; place = 0; length = size }
laid_numbers_of (Err r) = record { kind = 1; number = r.number; place = r.place; length = 0 }
laid_numbers_of (Ok None) = record { kind = 2; number = 0; place = 0; length = 0 }
