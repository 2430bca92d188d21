-- Words that folding gives are of 64 bits.
-- Assumes nothing.
use Rattle.std.specs.Prelude.{Bool, true, false, cond, not, ℕ, zero, suc, ◌-◌, ◌/◌, ◌%◌, ◌^◌, ◌<◌, ◌≤◌, min, max, eqb, leb, ltb}
use Rattle.std.proofs.Math.Nat.{pow-succ'}
use Rattle.std.proofs.Common.{mod-lt, arith, pow_pos, pow_mono}
use Rattle.words.specs.Word.{sign_extend, signed_less}
use Rattle.instruction.specs.Opcode as op
use Rattle.values.specs.Fold.{bitwise, differ, word_and, word_or, word_xor, word_not, bool, low_bits, trunc, bit_word, fold_word}

either : (b : Bool) {x y k : ℕ} → x < k → y < k → cond b x y < k
either true h g = h
either false h g = g

bits_small : (f : ℕ → ℕ → ℕ) → ((x y : ℕ) → x < 2 → y < 2 → f x y < 2) → (k x y : ℕ) → bitwise f k x y < 2 ^ k
unfolding bitwise
bits_small f h zero x y = omega arith
bits_small f h (suc k) x y =
    let a = h (x % 2) (y % 2) (omega arith) (omega arith) in
    let r = bits_small f h k (x / 2) (y / 2) in
    rw pow-succ' (omega arith)

and_small : (x y : ℕ) → word_and x y < 2 ^ 64
and_small = bits_small min (λ x y h g. omega arith) 64

or_small : (x y : ℕ) → word_or x y < 2 ^ 64
or_small = bits_small max (λ x y h g. omega arith) 64

xor_small : (x y : ℕ) → word_xor x y < 2 ^ 64
unfolding differ
xor_small = bits_small differ (λ x y h g. omega arith) 64

bool_small : (b : Bool) → bool b < 2 ^ 64
bool_small b = either b (omega arith) (omega arith)

pub sign_small : (k x : ℕ) → k ≤ 64 → x < 2 ^ k → sign_extend k x < 2 ^ 64
unfolding sign_extend
sign_small k x l h =
    let m : 2 ^ k ≤ 2 ^ 64 = pow_mono l in
    either (ltb x (2 ^ (k - 1))) (omega arith) (omega arith)

low_small : (k flags x : ℕ) → k ≤ 64 → low_bits k flags x < 2 ^ 64
unfolding low_bits
low_small k flags x l =
    let m : 2 ^ k ≤ 2 ^ 64 = pow_mono l in
    let r : x % 2 ^ k < 2 ^ k = mod-lt x (pow_pos k) in
    either (leb 128 flags) (sign_small k (x % 2 ^ k) l r) (omega arith)

trunc_small : (flags x : ℕ) → x < 2 ^ 64 → trunc flags x < 2 ^ 64
unfolding trunc
trunc_small flags x h =
    either (eqb (flags % 128) 1) (low_small 8 flags x (omega arith))
    (either (eqb (flags % 128) 2) (low_small 16 flags x (omega arith)) (either (eqb (flags % 128) 4) (low_small 32 flags x (omega arith)) h))

bit_small : (o flags x y : ℕ) → x < 2 ^ 64 → bit_word o flags x y < 2 ^ 64
unfolding bit_word
bit_small o flags x y h =
    either (eqb o op.And) (and_small x y)
    (either (eqb o op.Or) (or_small x y)
    (either (eqb o op.Xor) (xor_small x y)
    (either (eqb o op.AndNot) (and_small x (word_not y))
    (either (eqb o op.Not) (omega arith)
    (either (eqb o op.BoolNot) (bool_small (eqb x 0))
    (trunc_small flags x h))))))

pub fold_small : (o flags x y : ℕ) → x < 2 ^ 64 → fold_word o flags x y < 2 ^ 64
unfolding fold_word
fold_small o flags x y h =
    either (eqb o op.AddI) (omega arith)
    (either (eqb o op.SubI) (omega arith)
    (either (eqb o op.MulI) (omega arith)
    (either (eqb o op.NegI) (omega arith)
    (either (eqb o op.EqI) (bool_small (eqb x y))
    (either (eqb o op.NeI) (bool_small (not (eqb x y)))
    (either (eqb o op.LtI) (bool_small (signed_less x y))
    (either (eqb o op.LtU) (bool_small (ltb x y))
    (either (eqb o op.LeI) (bool_small (not (signed_less y x)))
    (either (eqb o op.LeU) (bool_small (leb x y))
    (either (eqb o op.GtI) (bool_small (signed_less y x))
    (either (eqb o op.GtU) (bool_small (ltb y x))
    (either (eqb o op.GeI) (bool_small (not (signed_less x y)))
    (either (eqb o op.GeU) (bool_small (leb y x))
    (bit_small o flags x y h))))))))))))))
