-- What holds of the units of all numbers: each is a unit, each number has its own, and their order is the one that is asked for.
-- Assumes nothing.
use Rattle.std.specs.Prelude.{Ok, ◌≡◌, refl, Bool, true, false, cond, ◌&&◌, ◌||◌, List, [], ◌∷◌, ℕ, zero, suc, ◌+◌, ◌*◌, ◌-◌, ◌/◌, ◌%◌, ◌^◌, ◌≤◌, ◌<◌, eqb, ltb, length, get_or, Option, Some, None}
use Rattle.std.proofs.Common.{sym, ap, ◌∙◌, true≢false, mul-add, mul_assoc, mul-suc, mul-le-mul_left, mod-lt, mod-eq_of_lt, pow-suc, arith, ext_get_or, le-ltb, eq-eqb, ltb-true, ltb-false}
use Rattle.std.proofs.Math.Nat.{mod-add-div, mod-one, one-le-pow, div-div-eq-div-mul}
use Rattle.words.specs.Le.{u64_at}
use Rattle.words.specs.Le as le
use Rattle.words.specs.Lists as lists
use Rattle.unit.specs.Size.{header_size}
use Rattle.unit.specs.Entry as entry
use Rattle.unit.specs.Layout as layout
use Rattle.unit.specs.Layout.{header_of, layout_of}
use Rattle.short.specs.Short.{length_of, first_of, rank_of, digits, digits_of, little_endian, header_words, unit_of_code, unit_at, unit_of, unit_size, short_count, first_of_three, first_of_four, HasNumber}
use Rattle.short.specs.laws.Ranks.{Parts, by_length, parts}
use Rattle.short.specs.laws.Digits.{digits_long, digit_at, below_base, unit_at_long, read_word}
use Rattle.short.specs.laws.Words.{distinct}

-- "Produce each .. as a unit"
pub each_unit : (k : ℕ) → k < short_count → layout_of (unit_of k) ≡ Ok (header_of (unit_of k))
unfolding digits little_endian header_words unit_of_code le.to_le le.from_le lists.every lists.lowest_below lists.tabulate lists.tabulate_from entry.metadata_at entry.good_metadata entry.is_wide_select entry.good_constant entry.case_at entry.good_case layout.header_of layout.sections_follow layout.good_counts layout.has_sections layout.good_entries layout.is_unit layout.wide_select layout.lines_rise layout.after_lines layout.after_unit layout.layout_of entry.good_line entry.line_at
each_unit k h =
    by_length (λ n. (r : ℕ) → layout_of (unit_at n r) ≡ Ok (header_of (unit_at n r))) (λ r. refl) (λ r. refl) (λ r. refl) (length_of k) (parts k h).two (parts k h).four (rank_of k)

-- ---- "shorter first, then by the earliest differing instruction"

unfoldable pub earlier : List ℕ → List ℕ → Bool
earlier [] ys = false
earlier (x ∷ xs) [] = false
earlier (x ∷ xs) (y ∷ ys) = ltb x y || (eqb x y && earlier xs ys)

unfoldable pub precedes : List ℕ → List ℕ → Bool
precedes xs ys = ltb (length xs) (length ys) || (eqb (length xs) (length ys) && earlier xs ys)

-- a rank is its first digit and the rest
split_rank : (m r : ℕ) → r % (m * 24) ≡ r % m + m * (r / m % 24)
split_rank m r =
    let q = r / m in
    let by_base : r % (m * 24) + m * 24 * (q / 24) ≡ r = rw (div-div-eq-div-mul r m 24) (mod-add-div r (m * 24)) in
    let by_digit : r % m + m * q ≡ r = mod-add-div r m in
    let digit : q % 24 + 24 * (q / 24) ≡ q = mod-add-div q 24 in
    let product : m * q ≡ m * (q % 24) + m * 24 * (q / 24) = ap (λ (x : ℕ). m * x) (sym digit) ∙ mul-add m (q % 24) (24 * (q / 24)) ∙ rw (mul_assoc m 24 (q / 24)) in
    omega arith

-- the first digit decides, or the rest does
by_first : (m a b x y : ℕ) (rest : Bool) → x < m → y < m → x + m * a < y + m * b → (x < y → rest ≡ true) → (ltb a b || (eqb a b && rest)) ≡ true
by_first m a b x y rest hx hy less later = go (ltb a b) refl (ltb b a) refl
  where
    go : (s : Bool) → ltb a b ≡ s → (t : Bool) → ltb b a ≡ t → (ltb a b || (eqb a b && rest)) ≡ true
    go true e t f = rw e
    go false e true f =
        let over : suc b ≤ a = ltb-true b a f in
        let product : m * suc b ≤ m * a = mul-le-mul_left m over in
        let wide : m * b + m ≤ m * a = rw (← mul-suc m b) product in
        absurd (omega arith)
    go false e false f =
        let same : a ≡ b = omega (arith, ltb-false a b e, ltb-false b a f) in
        let less_rest : x < y = let l : x + m * b < y + m * b = rw same at less in omega arith in
        rw (e, eq-eqb a b same, later less_rest)

digits_earlier : (n r s : ℕ) → r % 24 ^ n < s % 24 ^ n → earlier (digits n r) (digits n s) ≡ true
unfolding digits earlier
digits_earlier zero r s h = absurd (let e = mod-one r in let f = mod-one s in omega arith)
digits_earlier (suc n) r s h =
    let m = 24 ^ n in
    let some : 0 < m = one-le-pow n 24 (omega arith) in
    let less : r % m + m * (r / m % 24) < s % m + m * (s / m % 24) = rw (pow-suc 24 n, split_rank m r, split_rank m s) at h in
    by_first m (r / m % 24) (s / m % 24) (r % m) (s % m) (earlier (digits n r) (digits n s)) (mod-lt r some) (mod-lt s some) less (digits_earlier n r s)

alike_earlier : (n m r s : ℕ) → n ≡ m → r % 24 ^ m < s % 24 ^ m → earlier (digits n r) (digits m s) ≡ true
alike_earlier n m r s e h = rw e (digits_earlier m r s h)

length_grows : (j k : ℕ) → j < k → length_of j ≤ length_of k
unfolding length_of
length_grows j k h = go (ltb j first_of_three) refl (ltb j first_of_four) refl (ltb k first_of_three) refl (ltb k first_of_four) refl
  where
    go : (a : Bool) → ltb j first_of_three ≡ a → (b : Bool) → ltb j first_of_four ≡ b → (c : Bool) → ltb k first_of_three ≡ c → (d : Bool) → ltb k first_of_four ≡ d
        → cond a 2 (cond b 3 4) ≤ cond c 2 (cond d 3 4)
    go true e b f true g d i = omega arith
    go true e b f false g true i = omega arith
    go true e b f false g false i = omega arith
    go false e b f true g d i = absurd (let low = ltb-false j first_of_three e in let high = ltb-true k first_of_three g in omega arith)
    go false e true f false g true i = omega arith
    go false e true f false g false i = omega arith
    go false e false f false g true i = absurd (let low = ltb-false j first_of_four f in let high = ltb-true k first_of_four i in omega arith)
    go false e false f false g false i = omega arith

pub in_order : (j k : ℕ) → j < k → k < short_count → precedes (digits_of j) (digits_of k) ≡ true
unfolding precedes
in_order j k less h = rw (digits_long (length_of j) (rank_of j), digits_long (length_of k) (rank_of k)) (go (ltb (length_of j) (length_of k)) refl)
  where
    a : Parts j
    a = parts j (omega arith)

    b : Parts k
    b = parts k h

    ranks : length_of j ≡ length_of k → rank_of j % 24 ^ length_of k < rank_of k % 24 ^ length_of k
    ranks same =
        let first = a.whole in
        let second = b.whole in
        let grows : rank_of j < rank_of k = let e : first_of (length_of j) ≡ first_of (length_of k) = ap first_of same in omega arith in
        rw (mod-eq_of_lt {n = rank_of j} {m = 24 ^ length_of k} (rw (← same) a.inside), mod-eq_of_lt b.inside) grows

    go : (t : Bool) → ltb (length_of j) (length_of k) ≡ t → (t || (eqb (length_of j) (length_of k) && earlier (digits_of j) (digits_of k))) ≡ true
    go true e = refl
    go false e =
        let same : length_of j ≡ length_of k = omega (arith, ltb-false (length_of j) (length_of k) e, length_grows j k less) in
        let rest : earlier (digits (length_of j) (rank_of j)) (digits (length_of k) (rank_of k)) ≡ true = alike_earlier (length_of j) (length_of k) (rank_of j) (rank_of k) same (ranks same) in
        rw (eq-eqb (length_of j) (length_of k) same, rest)

-- ---- "each exactly once"

and_false : (t : Bool) → (t && false) ≡ false
and_false true = refl
and_false false = refl

-- a function comes not before itself
not_earlier : (xs : List ℕ) → earlier xs xs ≡ false
unfolding earlier
not_earlier [] = refl
not_earlier (x ∷ xs) = rw (le-ltb x x (omega arith), not_earlier xs) (and_false (eqb x x))

-- so two numbers with the same digits are the same
same_digits : (j k : ℕ) → j < short_count → k < short_count → digits_of j ≡ digits_of k → j ≡ k
unfolding precedes
same_digits j k h i same = go (ltb j k) refl (ltb k j) refl
  where
    not_itself : (a b : ℕ) → a < b → b < short_count → digits_of a ≡ digits_of b → ⊥
    not_itself a b less few e = true≢false (sym (rw (e, le-ltb (length (digits_of b)) (length (digits_of b)) (omega arith), not_earlier (digits_of b)) at (in_order a b less few)) ∙ and_false (eqb (length (digits_of b)) (length (digits_of b))))

    go : (s : Bool) → ltb j k ≡ s → (t : Bool) → ltb k j ≡ t → j ≡ k
    go true e t f = absurd (not_itself j k (ltb-true j k e) i same)
    go false e true f = absurd (not_itself k j (ltb-true k j f) h (sym same))
    go false e false f = omega (arith, ltb-false j k e, ltb-false k j f)

-- the digits can be read from the unit
same_units : (j k : ℕ) → j < short_count → k < short_count → unit_of j ≡ unit_of k → digits_of j ≡ digits_of k
same_units j k h i same =
    ext_get_or 0 (digits_of j) (digits_of k) (digits_long (length_of j) (rank_of j) ∙ n_same ∙ sym (digits_long (length_of k) (rank_of k)))
    (λ p l. let low : p < length_of j = rw (digits_long (length_of j) (rank_of j)) at l in digit p low)
  where
    n_same : length_of j ≡ length_of k
    n_same =
        let sizes : unit_size (length_of j) ≡ unit_size (length_of k) = sym (unit_at_long (length_of j) (rank_of j)) ∙ ap length same ∙ unit_at_long (length_of k) (rank_of k) in
        omega arith

    digit : (p : ℕ) → p < length_of j → get_or (digits_of j) p 0 ≡ get_or (digits_of k) p 0
    digit p low =
        let e = length_of j - suc p in
        let ej : p + suc e ≡ length_of j = omega arith in
        let ek : p + suc e ≡ length_of k = omega (arith, n_same) in
        let words = sym (read_word (length_of j) (rank_of j) p e ej) ∙ ap (λ (u : List ℕ). u64_at u (header_size + 8 * p)) same ∙ read_word (length_of k) (rank_of k) p e ek in
        digit_at (length_of j) (rank_of j) p e ej
        ∙ distinct (rank_of j / 24 ^ e % 24) (rank_of k / 24 ^ e % 24) (below_base (rank_of j / 24 ^ e)) (below_base (rank_of k / 24 ^ e)) words
        ∙ sym (digit_at (length_of k) (rank_of k) p e ek)

pub each_once : (j k : ℕ) → j < short_count → k < short_count → unit_of j ≡ unit_of k → j ≡ k
each_once j k h i same = same_digits j k h i (same_units j k h i same)

-- there is one right number: two right answers are the same
pub unique : (u : List ℕ) (a b : Option ℕ) → HasNumber u a → HasNumber u b → a ≡ b
unfolding HasNumber
unique u (Some j) (Some k) p q = ap Some (each_once j k p.0 q.0 (sym p.1 ∙ q.1))
unique u (Some j) None p q = absurd (q j p.0 p.1)
unique u None (Some k) p q = absurd (p k q.0 q.1)
unique u None None p q = refl
