-- Laws of Bytes.
-- Assumes nothing.
use Rattle.std.specs.Prelude.{◌≡◌, ℕ, zero, suc, ◌+◌, ◌*◌, ◌^◌, ◌<◌, List, [], ◌∷◌, take, drop, slice_index}
use Rattle.std.proofs.Common.{◌∙◌, mul_comm, pow-suc, arith, get_or-drop}
use Rattle.words.specs.Le.{from_le, le_at}
use Rattle.words.specs.Bytes.{Bytes}

-- a front part of numbers below m
pub take_below : (m : ℕ) → 0 < m → (k : ℕ) (l : List ℕ) → ((i : ℕ) → slice_index l i < m) → (i : ℕ) → slice_index (take k l) i < m
take_below m h zero l b i = h
take_below m h (suc k) [] b i = h
take_below m h (suc k) (x ∷ xs) b zero = b 0
take_below m h (suc k) (x ∷ xs) b (suc i) = take_below m h k xs (λ i. b (suc i)) i

bytes_take : (k : ℕ) (l : List ℕ) → Bytes l → Bytes (take k l)
bytes_take = take_below 256 (omega arith)

bytes_drop : (a : ℕ) (l : List ℕ) → Bytes l → Bytes (drop a l)
bytes_drop a l b i = rw (get_or-drop a l i 0) (b (a + i))

pub bytes_mid : (a k : ℕ) (l : List ℕ) → Bytes l → Bytes (take k (drop a l))
bytes_mid a k l b = bytes_take k (drop a l) (bytes_drop a l b)

take_fits : (k : ℕ) (l : List ℕ) → Bytes l → from_le (take k l) < 256 ^ k
unfolding from_le
take_fits zero l b = omega arith
take_fits (suc k) [] b = let h = take_fits k [] b in
    let e : 256 ^ suc k ≡ 256 * 256 ^ k = pow-suc 256 k ∙ mul_comm (256 ^ k) 256 in
    rw e (omega arith)
take_fits (suc k) (x ∷ xs) b =
    let h : from_le (take k xs) < 256 ^ k = take_fits k xs (λ i. b (suc i)) in
    let first : x < 256 = b 0 in
    let e : 256 ^ suc k ≡ 256 * 256 ^ k = pow-suc 256 k ∙ mul_comm (256 ^ k) 256 in
    rw e (omega arith)

pub le_fits : (k : ℕ) (l : List ℕ) (i : ℕ) → Bytes l → le_at k l i < 256 ^ k
le_fits k l i b = take_fits k (drop i l) (bytes_drop i l b)
