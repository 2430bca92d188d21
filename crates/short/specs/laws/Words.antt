-- The words of the 24 instructions: they fit 64 bits, and no two are the same.
-- Assumes nothing.
use Rattle.std.specs.Prelude.{◌≡◌, refl, true, cond, ℕ, ◌^◌, ◌<◌, eqb, ltb}
use Rattle.std.proofs.Common.{eqb-true, eq-eqb, ltb-true}
use Rattle.words.specs.Lists.{every}
use Rattle.words.specs.laws.Lists.{every_at}
use Rattle.instruction.specs.Instruction.{to_word}
use Rattle.short.specs.Short.{short_at}

abbrev word_of : ℕ → ℕ
word_of d = to_word (short_at d)

pub word_fits : (d : ℕ) → d < 24 → to_word (short_at d) < 2 ^ 64
unfolding every to_word
word_fits d h = ltb-true _ _ (every_at 24 (λ e. ltb (word_of e) (2 ^ 64)) table d h)
  where
    table : every 24 (λ e. ltb (word_of e) (2 ^ 64)) ≡ true
    table = refl

-- equal words are of equal places: all pairs
pub distinct : (d e : ℕ) → d < 24 → e < 24 → to_word (short_at d) ≡ to_word (short_at e) → d ≡ e
unfolding every to_word
distinct d e h k same =
    let pair = every_at 24 (λ j. cond (eqb (word_of d) (word_of j)) (eqb d j) true) (every_at 24 (λ i. every 24 (λ j. cond (eqb (word_of i) (word_of j)) (eqb i j) true)) table d h) e k in
    eqb-true d e (rw (eq-eqb (word_of d) (word_of e) same) at pair)
  where
    table : every 24 (λ i. every 24 (λ j. cond (eqb (word_of i) (word_of j)) (eqb i j) true)) ≡ true
    table = refl
