-- Laws of Le.
-- Assumes nothing.
use Rattle.std.specs.Prelude.{◌≡◌, ℕ, zero, suc, ◌+◌, ◌*◌, ◌/◌, ◌%◌, ◌^◌, ◌<◌, ◌≤◌, List, [], ◌∷◌, ◌++◌, length, slice_index, slice_set, take, refl}
use Rattle.std.specs.Int.{byte_worth, bytes_low_first, sum_through}
use Rattle.std.proofs.Common.{ap, sym, add-one, ◌∙◌, mul-add, mul_assoc, mul_comm, one-mul, pow-suc, div-one, zero-add, suc-add, arith, drop-cons, lit<}
use Rattle.std.proofs.lemmas.List.{take_all}
use Rattle.std.proofs.Math.Nat.{one-le-pow, div-div-eq-div-mul}
use Rattle.std.proofs.Math.Arith.{mod-mul}
use borrow.Rule.Slice.PartMut.{mid_of, put_mid}
use Rattle.words.specs.laws.Regions.{mid_add, mid_long, put_one, put_more, put_put}
use Rattle.words.specs.Le.{from_le, le_at, to_le, u16_at, u32_at, u64_at}

pub length_to_le : (k v : ℕ) → length (to_le k v) ≡ k
unfolding to_le
length_to_le zero v = refl
length_to_le (suc k) v = ap suc (length_to_le k (v / 256))

pub from_le_append : (xs ys : List ℕ) → from_le (xs ++ ys) ≡ from_le xs + 256 ^ length xs * from_le ys
unfolding from_le
from_le_append [] ys = simp (one-mul, zero-add)
from_le_append (x ∷ xs) ys = rw (from_le_append xs ys, pow-suc, mul-add, mul_comm (256 ^ length xs) 256, mul_assoc 256) (omega arith)

pub to_le_add : (j k v : ℕ) → to_le (j + k) v ≡ to_le j v ++ to_le k (v / 256 ^ j)
unfolding to_le
to_le_add zero k v = simp (zero-add, div-one)
to_le_add (suc j) k v = rw (suc-add j k, to_le_add j k (v / 256), div-div-eq-div-mul, pow-suc, mul_comm (256 ^ j) 256)

-- only the low k bytes of a number count
pub to_le_mod : (k v : ℕ) → to_le k (v % 256 ^ k) ≡ to_le k v
unfolding to_le
to_le_mod zero v = refl
to_le_mod (suc k) v =
    let x : ℕ = v / 256 % 256 ^ k in
    let split : v % 256 ^ suc k ≡ x * 256 + v % 256 = rw pow-suc (mod-mul v (one-le-pow k 256 (lit< tt)) (lit< tt)) in
    let low : (x * 256 + v % 256) % 256 ≡ v % 256 = omega arith in
    let high : (x * 256 + v % 256) / 256 ≡ x = omega arith in
    rw (split, low, high, to_le_mod k (v / 256))

-- what is written is read back, if it fits
pub from_to : (k v : ℕ) → v < 256 ^ k → from_le (to_le k v) ≡ v
unfolding from_le to_le
from_to zero v h = omega arith
from_to (suc k) v h =
    let small : v / 256 < 256 ^ k = let g : v < 256 ^ k * 256 = rw pow-suc at h in omega arith in
    rw (from_to k (v / 256) small) (omega arith)

-- a number is the sum of its lower part and its upper part
pub le_at_add : (j k : ℕ) (l : List ℕ) (i : ℕ) → i + j ≤ length l → le_at (j + k) l i ≡ le_at j l i + 256 ^ j * le_at k l (i + j)
le_at_add j k l i h = ap from_le (mid_add l i j k) ∙ from_le_append (mid_of i j l) (mid_of (i + j) k l) ∙ rw (mid_long l i j h)

pub le_at_one : (l : List ℕ) (i : ℕ) → i < length l → le_at 1 l i ≡ slice_index l i
unfolding from_le
le_at_one l i h = rw (drop-cons l i 0 h) (omega arith)

-- the three widths, each from the next smaller
pub u16_bytes : (l : List ℕ) (i : ℕ) → i + 2 ≤ length l → u16_at l i ≡ slice_index l i + 256 * slice_index l (i + 1)
u16_bytes l i h =
    let lo : i + 1 ≤ length l = omega arith in
    let hi : i + 1 < length l = omega arith in
    le_at_add 1 1 l i lo ∙ omega (arith, le_at_one l i (omega arith), le_at_one l (i + 1) hi)

pub u32_halves : (l : List ℕ) (i : ℕ) → i + 4 ≤ length l → u32_at l i ≡ u16_at l i + 65536 * u16_at l (i + 2)
u32_halves l i h = le_at_add 2 2 l i (omega arith)

pub u64_halves : (l : List ℕ) (i : ℕ) → i + 8 ≤ length l → u64_at l i ≡ u32_at l i + 4294967296 * u32_at l (i + 4)
u64_halves l i h = le_at_add 4 4 l i (omega arith)

-- a number written in two parts, the lower first
pub put_parts : (j k : ℕ) (xs : List ℕ) (i v : ℕ) → i + (j + k) ≤ length xs
    → put_mid (i + j) k (put_mid i j xs (to_le j (v % 256 ^ j))) (to_le k (v / 256 ^ j)) ≡ put_mid i (j + k) xs (to_le (j + k) v)
put_parts j k xs i v h =
    let room : i + j ≤ length xs = omega arith in
    rw (to_le_mod j v, to_le_add j k v) (put_put xs i j (to_le j v) (length_to_le j v) room k (to_le k (v / 256 ^ j)))

-- the two bytes of a number of 16 bits, written one by one
pub put_two : (xs : List ℕ) (i v : ℕ) → i + 2 ≤ length xs → v < 65536 → slice_set (slice_set xs i (v % 256)) (i + 1) (v / 256) ≡ put_mid i 2 xs (to_le 2 v)
unfolding to_le
put_two xs i v h f =
    let room : i + 1 ≤ length xs = omega arith in
    let more : i + 1 < length xs = omega arith in
    let high : v / 256 % 256 ≡ v / 256 = omega arith in
    rw (put_one xs i (v % 256) room, high) (put_more xs i 1 (v % 256 ∷ []) refl room (v / 256) more)

-- std's `to_le_bytes` writes these bytes
low_first : (i k v : ℕ) → bytes_low_first i k v ≡ to_le k (v / 256 ^ i)
unfolding to_le
low_first i zero v = refl
low_first zero (suc k) v = rw (low_first 1 k v, div-one)
low_first (suc i) (suc k) v = rw (low_first (suc (suc i)) k v, div-div-eq-div-mul, pow-suc 256 (suc i))

pub to_le_low : (k v : ℕ) → bytes_low_first 0 k v ≡ to_le k v
to_le_low k v = rw (low_first 0 k v, div-one)

-- and `from_le_bytes` reads the number of a region
sum_le : (l : List ℕ) (k : ℕ) → k < length l → sum_through (λ i. byte_worth i (slice_index l i)) k ≡ le_at (suc k) l 0
sum_le l zero h = sym (le_at_one l 0 h)
sum_le l (suc k) h =
    let low : k < length l = omega arith in
    let room : 0 + suc k ≤ length l = omega arith in
    rw (← add-one (suc k), le_at_add (suc k) 1 l 0 room, sum_le l k low, zero-add, le_at_one l (suc k) h, mul_comm (slice_index l (suc k)))

pub mid_le : (k : ℕ) (l ys : List ℕ) (i : ℕ) → ys ≡ mid_of i (suc k) l → i + suc k ≤ length l
    → sum_through (λ j. byte_worth j (slice_index ys j)) k ≡ le_at (suc k) l i
mid_le k l ys i e h =
    let long : length ys ≡ suc k = rw e (mid_long l i (suc k) h) in
    let whole : take (suc k) ys ≡ ys = take_all (suc k) ys (omega arith) in
    sum_le ys k (omega arith) ∙ ap from_le (whole ∙ e)
