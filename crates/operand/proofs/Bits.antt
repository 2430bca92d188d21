-- The bitwise opcodes, bit by bit: what r gives with l, and what r must have at least.
-- Assumes nothing.
use Rattle.std.proofs.Common.{◌≡◌, ℕ, zero, suc, ◌+◌, ◌-◌, ◌*◌, ◌/◌, ◌%◌, ◌^◌, ◌<◌, ◌≤◌, min, max, refl, pow-suc, arith}
use Rattle.values.specs.Fold.{bitwise, differ}

half : {x : ℕ} (k : ℕ) → x < 2 ^ suc k → x / 2 < 2 ^ k
half {x} k h = let w : x < 2 ^ k * 2 = rw pow-suc at h in omega arith

-- And: the outcome's bits are bits of r, and give the same
pub and_right : (k x y : ℕ) → bitwise min k x y ≤ y
unfolding bitwise
and_right zero x y = omega arith
and_right (suc k) x y = omega (arith, and_right k (x / 2) (y / 2))

pub and_left : (k x y : ℕ) → bitwise min k x y ≤ x
unfolding bitwise
and_left zero x y = omega arith
and_left (suc k) x y = omega (arith, and_left k (x / 2) (y / 2))

pub and_again : (k x y : ℕ) → bitwise min k x (bitwise min k x y) ≡ bitwise min k x y
unfolding bitwise
and_again zero x y = refl
and_again (suc k) x y =
    let rest = bitwise min k (x / 2) (y / 2) in
    let low : (min (x % 2) (y % 2) + 2 * rest) % 2 ≡ min (x % 2) (y % 2) = omega arith in
    let high : (min (x % 2) (y % 2) + 2 * rest) / 2 ≡ rest = omega arith in
    rw (low, high, and_again k (x / 2) (y / 2)) (omega arith)

-- Or: r has at least the bits that l lacks
pub or_left : (k x y : ℕ) → x < 2 ^ k → x ≤ bitwise max k x y
unfolding bitwise
or_left zero x y h = omega arith
or_left (suc k) x y h = omega (arith, or_left k (x / 2) (y / 2) (half k h))

pub or_most : (k x y : ℕ) → bitwise max k x y ≤ x + y
unfolding bitwise
or_most zero x y = omega arith
or_most (suc k) x y = omega (arith, or_most k (x / 2) (y / 2))

pub or_rest : (k x y : ℕ) → x < 2 ^ k → bitwise max k x (bitwise max k x y - x) ≡ bitwise max k x y
unfolding bitwise
or_rest zero x y h = refl
or_rest (suc k) x y h =
    let rest = bitwise max k (x / 2) (y / 2) in
    let more : x / 2 ≤ rest = or_left k (x / 2) (y / 2) (half k h) in
    let low : (max (x % 2) (y % 2) + 2 * rest - x) % 2 ≡ max (x % 2) (y % 2) - x % 2 = omega arith in
    let high : (max (x % 2) (y % 2) + 2 * rest - x) / 2 ≡ rest - x / 2 = omega arith in
    rw (low, high, or_rest k (x / 2) (y / 2) (half k h)) (omega arith)

-- Xor undoes itself
pub xor_back : (k x y : ℕ) → y < 2 ^ k → bitwise differ k x (bitwise differ k x y) ≡ y
unfolding bitwise differ
xor_back zero x y h = omega arith
xor_back (suc k) x y h =
    let rest = bitwise differ k (x / 2) (y / 2) in
    let bit = (x % 2 + y % 2) % 2 in
    let low : (bit + 2 * rest) % 2 ≡ bit = omega arith in
    let high : (bit + 2 * rest) / 2 ≡ rest = omega arith in
    let same : (x % 2 + bit) % 2 ≡ y % 2 = omega arith in
    rw (low, high, xor_back k (x / 2) (y / 2) (half k h), same) (omega arith)

-- AndNot: r, whose complement is y, has at least the bits that the outcome lacks
pub not_least : (k x y : ℕ) → x < 2 ^ k → y < 2 ^ k → x + y < bitwise min k x y + 2 ^ k
unfolding bitwise
not_least zero x y h g = omega arith
not_least (suc k) x y h g = rw pow-suc (omega (arith, not_least k (x / 2) (y / 2) (half k h) (half k g)))

-- what r has at least, in two digits
module _ (x rest bit n : ℕ) (less : rest ≤ x / 2) (in_x : bit ≤ x % 2) (fits : x / 2 < n) where
  least_low : (n * 2 - 1 - (x - (bit + 2 * rest))) % 2 ≡ 1 - (x % 2 - bit)
  least_low = omega arith

  least_high : (n * 2 - 1 - (x - (bit + 2 * rest))) / 2 ≡ n - 1 - (x / 2 - rest)
  least_high = omega arith

pub not_rest : (k x y : ℕ) → x < 2 ^ k → bitwise min k x ((2 ^ k - 1) - (x - bitwise min k x y)) ≡ bitwise min k x y
unfolding bitwise
not_rest zero x y h = refl
not_rest (suc k) x y h =
    let rest = bitwise min k (x / 2) (y / 2) in
    let bit = min (x % 2) (y % 2) in
    let less = and_left k (x / 2) (y / 2) in
    let in_x : bit ≤ x % 2 = omega arith in
    let fits = half k h in
    let kept : min (x % 2) (1 - (x % 2 - bit)) ≡ bit = omega arith in
    rw (pow-suc, least_low x rest bit (2 ^ k) less in_x fits, least_high x rest bit (2 ^ k) less in_x fits, not_rest k (x / 2) (y / 2) fits, kept)
