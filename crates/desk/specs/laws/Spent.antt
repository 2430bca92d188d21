-- What a run spends, and that it is never too much.
-- Assumes nothing.
use Rattle.std.specs.Prelude.{Ok, Err, Result, ℕ}
use Rattle.unit.specs.declared.refusal.Refusal.{Refusal}
use Rattle.desk.specs.declared.Stop.{Stop}
use Rattle.desk.specs.declared.Stop.TheVariants.{Returned, Panicked, Ended, Other, Limit}

-- the price of the step by which a run stops: of Return and Panic; a refusal has none
unfoldable pub stop_price : ℕ → Result Stop Refusal → ℕ
stop_price v (Ok (Returned a b)) = v
stop_price v (Ok (Panicked a b)) = v
stop_price v (Ok Ended) = 0
stop_price v (Ok (Other p)) = 0
stop_price v (Ok Limit) = 0
stop_price v (Err r) = 0
