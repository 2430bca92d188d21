-- Definitions. Words of 64 bits: products modulo 2 ^ 64, and signed readings.
-- Assumes nothing.
use Rattle.std.specs.Prelude.{ℕ, ◌+◌, ◌-◌, ◌*◌, ◌/◌, ◌%◌, ◌^◌, Bool, cond, nat_lt}

-- the product of the low halves of two words and, 32 bits up, the sum of the cross products, modulo 2 ^ 64
abbrev pub product_of_halves : ℕ → ℕ → ℕ
product_of_halves a b =
    let a0 = a % 4294967296 in
    let a1 = a / 4294967296 in
    let b0 = b % 4294967296 in
    let b1 = b / 4294967296 in
    (a0 * b0 + (a0 * b1 % 4294967296 + a1 * b0 % 4294967296) % 4294967296 * 4294967296) % 2 ^ 64

-- a before b in the order of signed readings: turning the sign bit over makes it the order of the words
abbrev pub signed_less : ℕ → ℕ → Bool
signed_less a b = nat_lt ((a + 2 ^ 63) % 2 ^ 64) ((b + 2 ^ 63) % 2 ^ 64)

-- the word with the signed reading of a number of k bits
unfoldable pub sign_extend : ℕ → ℕ → ℕ
sign_extend k x = cond (nat_lt x (2 ^ (k - 1))) x (2 ^ 64 - (2 ^ k - x))
