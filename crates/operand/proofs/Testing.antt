-- A candidate that does it is the smallest right word, and one that does not says that there is none.
-- Assumes nothing.
use Rattle.std.proofs.Common.{◌≡◌, ℕ, ◌^◌, ◌<◌, true, arith}
use Rattle.words.specs.Lists.{is_in}
use Rattle.values.specs.Fold.{fold_word, folding_binary}
use Rattle.operand.specs.Operand.{RightOperand}
use Rattle.operand.specs.laws.Candidate.{Candidate}
use Rattle.std.specs.Prelude.{Ok, Some, None}

module _ (o l : ℕ) {w c : ℕ} (covered : is_in o folding_binary ≡ true) (candidate : Candidate (fold_word o 0 l) w c) where
  pub gives_it : c < 2 ^ 64 → fold_word o 0 l c ≡ w → RightOperand o l w (Ok (Some c))
  unfolding RightOperand
  gives_it h e = (
    covered,
    record {
      word = h;
      gives = e;
      least = λ s less d. let low = (candidate s (omega arith) d).0 in omega arith;
    },
  )

  pub gives_none : (fold_word o 0 l c ≡ w → ⊥) → RightOperand o l w (Ok None)
  unfolding RightOperand
  gives_none n = (covered, λ s h d. n (candidate s h d).1)
