-- The desk run is document 01's run, in every world: after as many steps, that run stands where the desk run stopped.
-- Assumes nothing.
use Rattle.std.specs.Prelude.{ℕ, Bool, true, false, List, map}
use Rattle.run.specs.Program.{slots_from}
use Rattle.desk.specs.declared.Stop.{Stop}
use Rattle.desk.specs.declared.Stop.TheVariants.{Returned, Panicked, Ended, Other, Limit}
use Rattle.desk.specs.Desk.{Due, goes, stops, not_executed}
use Rattle.desk.specs.laws.Step.{words_in}

-- the words of a range of slots
abbrev pub read_words : ℕ → ℕ → List ℕ → List ℕ
read_words a b f = map (words_in f) (slots_from a b)

unfoldable pub is_executed : Due → Bool
is_executed (goes q g) = true
is_executed (stops s) = true
is_executed not_executed = false

-- "returns, panics or runs out at its end"
unfoldable pub IsEnd : Stop → Type 0
IsEnd (Returned a b) = Unit {0}
IsEnd (Panicked a b) = Unit {0}
IsEnd Ended = Unit {0}
IsEnd (Other q) = ⊥
IsEnd Limit = ⊥
