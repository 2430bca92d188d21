use lib.ListN.{length, get_or}
use Rattle.removal.specs.laws.Cleared.{Cleared}
use Rattle.removal.specs.laws.PlainHints.{hint_at}
use Rattle.removal.proofs.plain.drop_hints.Given as goal

abbrev pub invariant-loop-place : goal.invariant-loop-place
invariant-loop-place l = Cleared (hint_at l.words) l.initial.keep l.keep 0 (get_or l.list l.place-index (length l.words))
