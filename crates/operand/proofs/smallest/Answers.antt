use Rattle.std.proofs.Common.{◌≡◌, ℕ, ◌<◌, false, List, [], ◌∷◌, refl, ap, arith}
use Rattle.words.specs.Lists.{is_in, every}
use Rattle.words.specs.laws.Lists.{every_at}
use Rattle.words.specs.laws.Keys.{NoneOf, none_of}
use Rattle.values.specs.Fold.{bool, fold_word, folding_binary}
use Rattle.values.specs.laws.Folded.{agree, agree_same}
use Rattle.operand.specs.Operand.{RightOperand}
use Rattle.operand.proofs.Candidates.{add_candidate, sub_candidate, and_candidate, or_candidate, xor_candidate, and_not_candidate}
use Rattle.operand.proofs.Tipping.{tipped, turned, opposite, reverse}
use Rattle.operand.proofs.smallest.Goals as goal

-- the opcodes with an arm, the last first
abbrev keys : List ℕ
keys = 51 ∷ 50 ∷ 49 ∷ 48 ∷ 41 ∷ 40 ∷ 39 ∷ 38 ∷ 37 ∷ 36 ∷ 35 ∷ 34 ∷ 33 ∷ 32 ∷ 21 ∷ 20 ∷ 19 ∷ []

others : (o : ℕ) → o < 256 → NoneOf keys o → is_in o folding_binary ≡ false
unfolding every agree
others o h none = rw (agree_same (is_in o folding_binary) (is_in o keys) (every_at 256 (λ o. agree (is_in o folding_binary) (is_in o keys)) refl o h)) (none_of keys o none)

pub returns-in-19 : goal.returns-in-19
unfolding fold_word
returns-in-19 c = c.tested.ensures (rw c.in-19.is) (rw c.in-19.is (add_candidate _ _ (omega arith) (omega arith) (omega arith)))

pub returns-in-20 : goal.returns-in-20
unfolding fold_word
returns-in-20 c = c.tested-in-20.ensures (rw c.in-20.is) (rw c.in-20.is (sub_candidate _ _ (omega arith) (omega arith) (omega arith)))

pub returns-in-21 : goal.returns-in-21
returns-in-21 c = rw c.in-21.is c.factor.ensures

pub returns-in-32 : goal.returns-in-32
unfolding fold_word
returns-in-32 c = c.tested-in-32.ensures (rw c.in-32.is) (rw c.in-32.is (tipped (λ r. refl) c.equal.ensures))

pub returns-in-33 : goal.returns-in-33
unfolding fold_word
returns-in-33 c = c.tested-in-33.ensures (rw c.in-33.is) (rw c.in-33.is (turned (λ r. refl) c.equal-in-33.ensures))

pub returns-in-34 : goal.returns-in-34
unfolding fold_word
returns-in-34 c = c.tested-in-34.ensures (rw c.in-34.is) (rw c.in-34.is (tipped (λ r. refl) c.signed_less.ensures))

pub returns-in-35 : goal.returns-in-35
unfolding fold_word
returns-in-35 c = c.tested-in-35.ensures (rw c.in-35.is) (rw c.in-35.is (tipped (λ r. refl) c.less.ensures))

pub returns-in-36 : goal.returns-in-36
unfolding fold_word
returns-in-36 c = c.tested-in-36.ensures (rw c.in-36.is) (rw c.in-36.is (turned (λ r. refl) c.signed_greater.ensures))

pub returns-in-37 : goal.returns-in-37
unfolding fold_word
returns-in-37 c = c.tested-in-37.ensures (rw c.in-37.is) (rw c.in-37.is (tipped (λ r. refl) c.at_most.ensures))

pub returns-in-38 : goal.returns-in-38
unfolding fold_word
returns-in-38 c = c.tested-in-38.ensures (rw c.in-38.is) (rw c.in-38.is (tipped (λ r. refl) c.signed_greater-in-38.ensures))

pub returns-in-39 : goal.returns-in-39
unfolding fold_word
returns-in-39 c = c.tested-in-39.ensures (rw c.in-39.is) (rw c.in-39.is (turned (λ r. ap bool (opposite r _)) c.at_most-in-39.ensures))

pub returns-in-40 : goal.returns-in-40
unfolding fold_word
returns-in-40 c = c.tested-in-40.ensures (rw c.in-40.is) (rw c.in-40.is (turned (λ r. refl) c.signed_less-in-40.ensures))

pub returns-in-41 : goal.returns-in-41
unfolding fold_word
returns-in-41 c = c.tested-in-41.ensures (rw c.in-41.is) (rw c.in-41.is (turned (λ r. ap bool (reverse r _)) c.less-in-41.ensures))

pub returns-in-48 : goal.returns-in-48
unfolding fold_word
returns-in-48 c = c.tested-in-48.ensures (rw c.in-48.is) (rw c.in-48.is (and_candidate _ _))

pub returns-in-49 : goal.returns-in-49
unfolding fold_word
returns-in-49 c = c.tested-in-49.ensures (rw c.in-49.is) (rw c.in-49.is (or_candidate _ _ (omega arith) (omega arith) (omega arith)))

pub returns-in-50 : goal.returns-in-50
unfolding fold_word
returns-in-50 c = c.tested-in-50.ensures (rw c.in-50.is) (rw c.in-50.is (xor_candidate _ _ (omega arith) (omega arith)))

pub returns-in-51 : goal.returns-in-51
unfolding fold_word
returns-in-51 c = c.tested-in-51.ensures (rw c.in-51.is) (rw c.in-51.is (and_not_candidate _ _ (omega arith) (omega arith) (omega arith)))

pub returns-in_default : goal.returns-in_default
unfolding RightOperand
returns-in_default c = others _ (omega arith) c.in_default.in_default-own.rest
