-- The digits of a rank, and what stands at each byte of a unit.
-- Assumes nothing.
use Rattle.std.specs.Prelude.{◌≡◌, refl, List, [], ◌∷◌, ◌++◌, map, ℕ, zero, suc, ◌+◌, ◌*◌, ◌-◌, ◌/◌, ◌%◌, ◌^◌, ◌≤◌, ◌<◌, get_or}
use Rattle.std.proofs.Common.{sym, ◌∙◌, zero-add, mul-zero, mul-suc, pow-suc, div-one, mul_comm, arith}
use Rattle.std.proofs.Math.Path.{ap}
use Rattle.std.proofs.Math.Nat.{div-div-eq-div-mul}
use Rattle.std.proofs.Math.ListN.{length, length-append, get_or-append}
use Rattle.std.proofs.lemmas.List.{length-map}
use borrow.Rule.Slice.PartMut.{mid_of}
use Rattle.words.specs.Le.{to_le, from_le, u64_at}
use Rattle.words.specs.laws.Le.{length_to_le, from_to}
use Rattle.words.specs.laws.Inside.{mid_inside}
use Rattle.words.specs.Lists.{tabulate}
use Rattle.words.specs.laws.Lists.{length_tabulate, get_d_tabulate}
use Rattle.instruction.specs.declared.Instruction.{Instruction}
use Rattle.instruction.specs.Instruction.{to_word}
use Rattle.unit.specs.Size.{header_size, instruction_size, metadata_size}
use Rattle.short.specs.laws.Words.{word_fits}
use Rattle.short.specs.Short.{short_at, digits, little_endian, header_words, unit_size, unit_of_code, unit_at}

-- ---- digits

pub digits_long : (n r : ℕ) → length (digits n r) ≡ n
unfolding digits
digits_long zero r = refl
digits_long (suc n) r = ap suc (digits_long n r)

pub below_base : (q : ℕ) → q % 24 < 24
below_base q = omega arith

-- e is how many digits stand behind place p
pub digit_at : (n r p e : ℕ) → p + suc e ≡ n → get_or (digits n r) p 0 ≡ r / 24 ^ e % 24
unfolding digits
digit_at zero r p e h = absurd (omega arith)
digit_at (suc n) r zero e h = let same : n ≡ e = omega arith in rw same
digit_at (suc n) r (suc p) e h = digit_at n r p e (omega arith)

-- ---- numbers of w bytes each

pub byte_in : (w v j : ℕ) → j < w → get_or (to_le w v) j 0 ≡ v / 256 ^ j % 256
unfolding to_le
byte_in zero v j h = absurd (omega arith)
byte_in (suc w) v zero h = rw (div-one v)
byte_in (suc w) v (suc j) h = byte_in w (v / 256) j (omega arith) ∙ rw (div-div-eq-div-mul v 256 (256 ^ j), pow-suc 256 j, mul_comm (256 ^ j) 256)

pub little_endian_long : (w : ℕ) (xs : List ℕ) → length (little_endian w xs) ≡ w * length xs
unfolding little_endian
little_endian_long w [] = sym (mul-zero w)
little_endian_long w (x ∷ xs) = rw (length-append, length_to_le, little_endian_long w xs, mul-suc) (omega arith)

-- what stands behind a list
pub get_behind : (a b : List ℕ) (n i : ℕ) → n ≡ length a + i → get_or (a ++ b) n 0 ≡ get_or b i 0
get_behind [] b n i e = let same : n ≡ i = omega arith in rw same
get_behind (x ∷ a) b zero i e = absurd (omega arith)
get_behind (x ∷ a) b (suc n) i e = get_behind a b n i (omega arith)

mid_behind : (a b : List ℕ) (n i k : ℕ) → n ≡ length a + i → mid_of n k (a ++ b) ≡ mid_of i k b
mid_behind [] b n i k e = let same : n ≡ i = omega arith in rw same
mid_behind (x ∷ a) b zero i k e = absurd (omega arith)
mid_behind (x ∷ a) b (suc n) i k e = mid_behind a b n i k (omega arith)

mid_front : (a b : List ℕ) (k : ℕ) → k ≡ length a → mid_of 0 k (a ++ b) ≡ a
mid_front [] b k e = rw e
mid_front (x ∷ a) b zero e = absurd (omega arith)
mid_front (x ∷ a) b (suc k) e = ap (λ (l : List ℕ). x ∷ l) (mid_front a b k (omega arith))

-- the bytes of the q-th number
little_endian_mid : (w : ℕ) (xs : List ℕ) (q : ℕ) → q < length xs → mid_of (w * q) w (little_endian w xs) ≡ to_le w (get_or xs q 0)
unfolding little_endian
little_endian_mid w [] q h = absurd (omega arith)
little_endian_mid w (x ∷ xs) zero h = rw (mul-zero w) (mid_front (to_le w x) (little_endian w xs) w (sym (length_to_le w x)))
little_endian_mid w (x ∷ xs) (suc q) h =
    let at : w * suc q ≡ length (to_le w x) + w * q = rw (mul-suc w q, length_to_le w x) (omega arith) in
    mid_behind (to_le w x) (little_endian w xs) (w * suc q) (w * q) w at ∙ little_endian_mid w xs q (omega arith)

-- the j-th byte of the q-th number
pub little_endian_at : (w : ℕ) (xs : List ℕ) (q j : ℕ) → q < length xs → j < w → get_or (little_endian w xs) (w * q + j) 0 ≡ get_or xs q 0 / 256 ^ j % 256
unfolding little_endian
little_endian_at w [] q j h k = absurd (omega arith)
little_endian_at w (x ∷ xs) zero j h k =
    rw (mul-zero w, zero-add j) (get_or-append (to_le w x) (little_endian w xs) 0 j (rw (length_to_le w x) k) ∙ byte_in w x j k)
little_endian_at w (x ∷ xs) (suc q) j h k =
    let at : w * suc q + j ≡ length (to_le w x) + (w * q + j) = rw (mul-suc w q, length_to_le w x) (omega arith) in
    get_behind (to_le w x) (little_endian w xs) (w * suc q + j) (w * q + j) at ∙ little_endian_at w xs q j (omega arith) k

-- ---- the unit of a function of n instructions

pub header_words_lem : (n : ℕ) → length (header_words n) ≡ 18
unfolding header_words
header_words_lem n = refl

module _ (code : List Instruction) where
  abbrev n : ℕ
  n = length code

  abbrev front : List ℕ
  front = little_endian 4 (header_words (length code))

  abbrev middle : List ℕ
  middle = little_endian instruction_size (map to_word code)

  abbrev zeros : List ℕ
  zeros = tabulate (metadata_size * length code + 2) (λ i. 0)

  front_long : length front ≡ header_size
  front_long = little_endian_long 4 (header_words n) ∙ rw (header_words_lem n)

  middle_long : length middle ≡ instruction_size * n
  middle_long = little_endian_long instruction_size (map to_word code) ∙ rw (length-map code to_word)

  pub unit_long : length (unit_of_code code) ≡ unit_size n
  unfolding unit_of_code
  unit_long = rw (length-append, length-append, front_long, middle_long, length_tabulate) (omega arith)

  words_long : length (front ++ middle) ≡ header_size + instruction_size * n
  words_long = rw (length-append, front_long, middle_long)

  -- a byte of the header, of the code, and behind it
  pub header_byte : (q j : ℕ) → q < 18 → j < 4 → get_or (unit_of_code code) (4 * q + j) 0 ≡ get_or (header_words n) q 0 / 256 ^ j % 256
  unfolding unit_of_code
  header_byte q j h k =
      get_or-append (front ++ middle) zeros 0 (4 * q + j) (rw words_long (omega arith))
      ∙ get_or-append front middle 0 (4 * q + j) (rw front_long (omega arith))
      ∙ little_endian_at 4 (header_words n) q j (rw (header_words_lem n) h) k

  pub code_byte : (p j : ℕ) → p < n → j < 8 → get_or (unit_of_code code) (header_size + (8 * p + j)) 0 ≡ get_or (map to_word code) p 0 / 256 ^ j % 256
  unfolding unit_of_code
  code_byte p j h k =
      get_or-append (front ++ middle) zeros 0 (header_size + (8 * p + j)) (rw words_long (omega arith))
      ∙ get_behind front middle (header_size + (8 * p + j)) (8 * p + j) (rw front_long)
      ∙ little_endian_at 8 (map to_word code) p j (rw (length-map code to_word) h) k

  pub zero_byte : (i : ℕ) → i < metadata_size * n + 2 → get_or (unit_of_code code) (header_size + instruction_size * n + i) 0 ≡ 0
  unfolding unit_of_code
  zero_byte i h =
      get_behind (front ++ middle) zeros (header_size + instruction_size * n + i) i (rw words_long)
      ∙ get_d_tabulate (metadata_size * n + 2) (λ j. 0) i 0 h

  -- the bytes of an instruction
  pub code_mid : (p : ℕ) → p < n → mid_of (header_size + 8 * p) 8 (unit_of_code code) ≡ to_le 8 (get_or (map to_word code) p 0)
  unfolding unit_of_code
  code_mid p h =
      let at : header_size + 8 * p ≡ length front + 8 * p = rw front_long in
      ap (λ (b : ℕ). mid_of b 8 (front ++ middle ++ zeros)) at
      ∙ mid_inside front middle zeros (8 * p) 8 (rw middle_long (omega arith))
      ∙ little_endian_mid 8 (map to_word code) p (rw (length-map code to_word) h)

-- ---- the unit of a rank, byte by byte

mapped_at : (f : ℕ → ℕ) (xs : List ℕ) (p : ℕ) → p < length xs → get_or (map f xs) p 0 ≡ f (get_or xs p 0)
mapped_at f [] p h = absurd (omega arith)
mapped_at f (x ∷ xs) zero h = refl
mapped_at f (x ∷ xs) (suc p) h = mapped_at f xs p (omega arith)

words_of : (xs : List ℕ) → map to_word (map short_at xs) ≡ map (λ d. to_word (short_at d)) xs
words_of [] = refl
words_of (x ∷ xs) = rw (words_of xs)

module _ (n r : ℕ) where
  abbrev code : List Instruction
  code = map short_at (digits n r)

  code_long : length code ≡ n
  code_long = length-map (digits n r) short_at ∙ digits_long n r

  word_at : (p : ℕ) → p < n → get_or (map to_word code) p 0 ≡ to_word (short_at (get_or (digits n r) p 0))
  word_at p h = rw (words_of (digits n r)) (mapped_at (λ d. to_word (short_at d)) (digits n r) p (rw (digits_long n r) h))

  pub unit_at_long : length (unit_at n r) ≡ unit_size n
  unit_at_long = unit_long code ∙ rw code_long

  pub at_header : (i : ℕ) → i < header_size → get_or (header_words n) (i / 4) 0 / 256 ^ (i % 4) % 256 ≡ get_or (unit_at n r) i 0
  at_header i h =
      let split : 4 * (i / 4) + i % 4 ≡ i = omega arith in
      let found = header_byte code (i / 4) (i % 4) (omega arith) (omega arith) in
      sym (rw (split, code_long) at found)

  pub at_code : (i p : ℕ) → header_size ≤ i → i < header_size + instruction_size * n → p ≡ (i - header_size) / 8
      → to_word (short_at (get_or (digits n r) p 0)) / 256 ^ ((i - header_size) % 8) % 256 ≡ get_or (unit_at n r) i 0
  at_code i p low high e =
      let inside : p < n = omega arith in
      let split : header_size + (8 * p + (i - header_size) % 8) ≡ i = omega arith in
      let found = code_byte code p ((i - header_size) % 8) (rw code_long inside) (omega arith) in
      sym (rw (split, word_at p inside) at found)

  pub at_zero : (i : ℕ) → header_size + instruction_size * n ≤ i → i < unit_size n → 0 ≡ get_or (unit_at n r) i 0
  at_zero i low high =
      let split : header_size + instruction_size * n + (i - header_size - instruction_size * n) ≡ i = omega arith in
      let found = zero_byte code (i - header_size - instruction_size * n) (rw code_long (omega arith)) in
      sym (rw (code_long, split) at found)

  -- the word of an instruction, as it is read
  pub read_word : (p e : ℕ) → p + suc e ≡ n → u64_at (unit_at n r) (header_size + 8 * p) ≡ to_word (short_at (r / 24 ^ e % 24))
  read_word p e h =
      let inside : p < n = omega arith in
      let few : r / 24 ^ e % 24 < 24 = below_base (r / 24 ^ e) in
      ap from_le (code_mid code p (rw code_long inside) ∙ rw (word_at p inside, digit_at n r p e h)) ∙ from_to 8 (to_word (short_at (r / 24 ^ e % 24))) (word_fits (r / 24 ^ e % 24) few)
