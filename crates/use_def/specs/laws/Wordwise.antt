-- Sets of slots worked on word by word.
-- Assumes nothing.
use Rattle.std.specs.Prelude.{◌≡◌, ℕ, zero, suc, ◌+◌, ◌*◌, ◌/◌, ◌%◌, ◌^◌, ◌<◌, ◌≤◌, min, max, Bool, true, false, cond, not, ◌&&◌, ◌||◌, List, length, replicate, ◌==◌, bit_xor, nat_eq, slice_index, slice_index_or, slice_set, refl}
use Rattle.std.proofs.Common.{sym, ap, ◌∙◌, pow-suc, arith, length-set, get_or-set_same, get_or-set_other, ext_get_or, shr-shr, eqb-true}
use Rattle.std.proofs.Math.Bool.{and-true, and-false}
use Rattle.std.proofs.lemmas.Bool.{false≢true, eqb-false}
use Rattle.std.proofs.Math.Nat.{zero-div}
use Rattle.std.proofs.Math.Decide.{ℕ_discrete, dec_le}
use Rattle.std.proofs.lemmas.List.{length-replicate}
use Rattle.std.proofs.Math.ListN.{get_or-eq_default}
use Rattle.std.specs.Int.Bits.{bit_and, bit_or, or_add_and, xor_add_and, xor_self, or_zero_l, and_zero_l}
use Rattle.std.proofs.lemmas.Nat.{and_le_l, and_le_r}
use Rattle.words.specs.Lists.{every}
use Rattle.words.specs.laws.Lists.{every_at}
use borrow.Rule.Slice.PartMut.{mid_of}
use Rattle.words.specs.laws.Bits.{bit, member, bit_or_lem, bit_and_lem}
use Rattle.words.specs.laws.Regions.{mid_long, get_mid, mid_set}
use Rattle.words.specs.laws.Only.{At, Only, only_both, only_set}

-- ---- a loop that stores f k at each place k, from 0 up

pub record Stored (f : ℕ → ℕ) (l₀ l : List ℕ) (k : ℕ) : Type 0 where
  pub long : length l ≡ length l₀
  pub done : (j : ℕ) → j < k → slice_index l j ≡ f j
  pub rest : (j : ℕ) → k ≤ j → slice_index l j ≡ slice_index l₀ j

module _ (f : ℕ → ℕ) (l₀ : List ℕ) where
  pub stored_begin : Stored f l₀ l₀ 0
  stored_begin = record { long = refl; done = λ j h. absurd (omega arith); rest = λ j h. refl }

  pub stored_turn : (l : List ℕ) (k v : ℕ) → Stored f l₀ l k → k < length l → v ≡ f k → Stored f l₀ (slice_set l k v) (k + 1)
  stored_turn l k v s h e = record { long = length-set l k v ∙ s.long; done = done; rest = rest }
    where
      done : (j : ℕ) → j < k + 1 → slice_index (slice_set l k v) j ≡ f j
      done j g = elim (ℕ_discrete j k) [
        | yes d ↦ rw (d, get_or-set_same l k v 0 h) e
        | no d ↦ rw (get_or-set_other l k j v 0 d) (s.done j (omega arith))
      ]

      rest : (j : ℕ) → k + 1 ≤ j → slice_index (slice_set l k v) j ≡ slice_index l₀ j
      rest j g = let d : j ≡ k → ⊥ = λ e. omega arith in rw (get_or-set_other l k j v 0 d) (s.rest j (omega arith))

get_past : (l : List ℕ) (j : ℕ) → length l ≤ j → slice_index l j ≡ 0
get_past l j h = get_or-eq_default l 0 h

-- at the end, at every place
pub stored_end : (f : ℕ → ℕ) (l₀ l : List ℕ) (k : ℕ) → Stored f l₀ l k → length l₀ ≤ k → ((j : ℕ) → length l₀ ≤ j → f j ≡ 0) → (j : ℕ) → slice_index l j ≡ f j
stored_end f l₀ l k s h z j = elim (dec_le k j) [
  | yes g ↦ s.rest j g ∙ get_past l₀ j (omega arith) ∙ sym (z j (omega arith))
  | no g ↦ s.done j (omega arith)
]

pub filled : (v : ℕ) (l₀ l : List ℕ) (k : ℕ) → Stored (λ j. v) l₀ l k → length l₀ ≤ k → l ≡ replicate (length l₀) v
filled v l₀ l k s h =
    ext_get_or 0 l (replicate (length l₀) v) (s.long ∙ sym (length-replicate (length l₀) v))
    (λ j g. let m = s.long in s.done j (omega arith) ∙ sym (get_filled (length l₀) j (omega arith)))
  where
    get_filled : (n j : ℕ) → j < n → slice_index (replicate n v) j ≡ v
    get_filled zero j h = absurd (omega arith)
    get_filled (suc n) zero h = refl
    get_filled (suc n) (suc j) h = get_filled n j (omega arith)

-- ---- bits

or_bit : (x y : ℕ) → x < 2 → y < 2 → (max x y == 1) ≡ (x == 1 || y == 1)
or_bit zero zero h g = refl
or_bit zero (suc zero) h g = refl
or_bit (suc zero) zero h g = refl
or_bit (suc zero) (suc zero) h g = refl
or_bit (suc (suc x)) y h g = absurd (omega arith)
or_bit zero (suc (suc y)) h g = absurd (omega arith)
or_bit (suc zero) (suc (suc y)) h g = absurd (omega arith)

and_bit : (x y : ℕ) → x < 2 → y < 2 → (min x y == 1) ≡ (x == 1 && y == 1)
and_bit zero zero h g = refl
and_bit zero (suc zero) h g = refl
and_bit (suc zero) zero h g = refl
and_bit (suc zero) (suc zero) h g = refl
and_bit (suc (suc x)) y h g = absurd (omega arith)
and_bit zero (suc (suc y)) h g = absurd (omega arith)
and_bit (suc zero) (suc (suc y)) h g = absurd (omega arith)

same_bit : (x y : ℕ) → x < 2 → y < 2 → (x == 1) ≡ (y == 1) → x ≡ y
same_bit zero zero h g e = refl
same_bit zero (suc zero) h g e = absurd (false≢true e)
same_bit (suc zero) zero h g e = absurd (false≢true (sym e))
same_bit (suc zero) (suc zero) h g e = refl
same_bit (suc (suc x)) y h g e = absurd (omega arith)
same_bit zero (suc (suc y)) h g e = absurd (omega arith)
same_bit (suc zero) (suc (suc y)) h g e = absurd (omega arith)

test_or : (a b k : ℕ) → (bit (bit_or a b) k == 1) ≡ (bit a k == 1 || bit b k == 1)
test_or a b k = rw (bit_or_lem a b k) (or_bit (bit a k) (bit b k) (omega arith) (omega arith))

test_and : (a b k : ℕ) → (bit (bit_and a b) k == 1) ≡ (bit a k == 1 && bit b k == 1)
test_and a b k = rw (bit_and_lem a b k) (and_bit (bit a k) (bit b k) (omega arith) (omega arith))

-- ---- the union of two sets, each of which may be left out

abbrev pub all_bits : Bool → ℕ
all_bits when = cond when 18446744073709551615 0

abbrev pub join_words : ℕ → List ℕ → ℕ → List ℕ → ℕ → ℕ
join_words f l s m j = bit_or (bit_and (slice_index l j) f) (bit_and (slice_index m j) s)

pub join_past : (f s : ℕ) (l m : List ℕ) (n : ℕ) → length l ≡ n → length m ≡ n → (j : ℕ) → n ≤ j → join_words f l s m j ≡ 0
join_past f s l m n e d j h = rw (get_past l j (omega arith), get_past m j (omega arith), and_zero_l f, and_zero_l s) (or_zero_l 0)

ones : (k : ℕ) → k < 64 → (bit 18446744073709551615 k == 1) ≡ true
unfolding every
ones k h = every_at 64 (λ k. nat_eq (bit 18446744073709551615 k) 1) refl k h

no_ones : (k : ℕ) → (bit 0 k == 1) ≡ false
no_ones k = rw (zero-div (2 ^ k))

test_masked : (x : Bool) (a k : ℕ) → k < 64 → (bit (bit_and a (all_bits x)) k == 1) ≡ (x && bit a k == 1)
test_masked true a k h = test_and a 18446744073709551615 k ∙ rw (ones k h) (and-true (bit a k == 1))
test_masked false a k h = test_and a 0 k ∙ rw (no_ones k) (and-false (bit a k == 1))

pub joined_sets : (f s : ℕ) (l m l' : List ℕ) → ((j : ℕ) → slice_index l' j ≡ join_words f l s m j) → (x y : Bool) → f ≡ all_bits x → s ≡ all_bits y → (t : ℕ) → member l' t ≡ ((x && member l t) || (y && member m t))
unfolding member
joined_sets f s l m l' e x y ef es t =
    let k : t % 64 < 64 = omega arith in
    rw (e (t / 64), ef, es) (test_or (bit_and (slice_index l (t / 64)) (all_bits x)) (bit_and (slice_index m (t / 64)) (all_bits y)) (t % 64)
    ∙ rw (test_masked x (slice_index l (t / 64)) (t % 64) k, test_masked y (slice_index m (t / 64)) (t % 64) k))

-- ---- what is live at a block's start, of what is live at its end

abbrev pub transfer_words : List ℕ → List ℕ → List ℕ → ℕ → ℕ
transfer_words u o p j = bit_or (slice_index u j) (bit_and (slice_index o j) (slice_index p j))

pub transfer_past : (u o p : List ℕ) (n : ℕ) → length u ≡ n → length o ≡ n → (j : ℕ) → n ≤ j → transfer_words u o p j ≡ 0
transfer_past u o p n e d j h = rw (get_past u j (omega arith), get_past o j (omega arith), and_zero_l (slice_index p j)) (or_zero_l 0)

pub transferred_sets : (u o p l' : List ℕ) → ((j : ℕ) → slice_index l' j ≡ transfer_words u o p j) → (t : ℕ) → member l' t ≡ (member u t || (member o t && member p t))
unfolding member
transferred_sets u o p l' e t =
    rw (e (t / 64)) (test_or (slice_index u (t / 64)) (bit_and (slice_index o (t / 64)) (slice_index p (t / 64))) (t % 64) ∙ rw (test_and (slice_index o (t / 64)) (slice_index p (t / 64)) (t % 64)))

-- ---- the same bits, the same words

word_ext : (n a b : ℕ) → a < 2 ^ n → b < 2 ^ n → ((k : ℕ) → k < n → bit a k ≡ bit b k) → a ≡ b
word_ext zero a b h g f = omega arith
word_ext (suc n) a b h g f =
    let first : a / 1 % 2 ≡ b / 1 % 2 = f 0 (omega arith) in
    let double : 2 ^ suc n ≡ 2 ^ n * 2 = pow-suc 2 n in
    let high : a / 2 ≡ b / 2 = word_ext n (a / 2) (b / 2) (omega arith) (omega arith) (λ k l. ap (λ (m : ℕ). m % 2) (shr-shr a 1 k) ∙ f (1 + k) (omega arith) ∙ sym (ap (λ (m : ℕ). m % 2) (shr-shr b 1 k))) in
    omega arith

abbrev pub Words : List ℕ → Type 0
Words l = (j : ℕ) → slice_index l j < 2 ^ 64

pub set_ext : (l m : List ℕ) → Words l → Words m → length l ≡ length m → ((t : ℕ) → member l t ≡ member m t) → l ≡ m
unfolding member
set_ext l m v w e f = ext_get_or 0 l m e (λ j h. word_ext 64 (slice_index l j) (slice_index m j) (v j) (w j) (λ k g. at j k g (f (64 * j + k))))
  where
    at : (j k : ℕ) → k < 64 → (bit (slice_index l ((64 * j + k) / 64)) ((64 * j + k) % 64) == 1) ≡ (bit (slice_index m ((64 * j + k) / 64)) ((64 * j + k) % 64) == 1)
        → bit (slice_index l j) k ≡ bit (slice_index m j) k
    at j k g e =
        let q : (64 * j + k) / 64 ≡ j = omega arith in
        let r : (64 * j + k) % 64 ≡ k = omega arith in
        same_bit (bit (slice_index l j) k) (bit (slice_index m j) k) (omega arith) (omega arith) (rw (q, r) at e)

-- ---- a loop that tells whether a store changed anything

or_none : (a b : ℕ) → bit_or a b ≡ 0 → (a ≡ 0) × (b ≡ 0)
or_none a b e = (omega (arith, or_add_and a b, and_le_r a b), omega (arith, or_add_and a b, and_le_l a b))

xor_none : (a b : ℕ) → bit_xor a b ≡ 0 → a ≡ b
xor_none a b e = omega (arith, xor_add_and a b, and_le_l a b, and_le_r a b)

pub record Storing (f : ℕ → ℕ) (l₀ l : List ℕ) (k d : ℕ) : Type 0 where
  pub stored : Stored f l₀ l k
  pub same : d ≡ 0 → (j : ℕ) → j < k → f j ≡ slice_index l₀ j
  pub other : ((j : ℕ) → j < k → f j ≡ slice_index l₀ j) → d ≡ 0
  pub fit : (j : ℕ) → j < k → (slice_index l₀ j < 2 ^ 64) × (f j < 2 ^ 64)

module _ (f : ℕ → ℕ) (l₀ : List ℕ) where
  pub storing_begin : Storing f l₀ l₀ 0 0
  storing_begin = record { stored = stored_begin f l₀; same = λ e j h. absurd (omega arith); other = λ g. refl; fit = λ j h. absurd (omega arith) }

  pub storing_turn : (l : List ℕ) (k d v : ℕ) → Storing f l₀ l k d → k < length l → v ≡ f k → slice_index l k < 2 ^ 64 → f k < 2 ^ 64 → Storing f l₀ (slice_set l k v) (k + 1) (bit_or d (bit_xor (slice_index l k) v))
  storing_turn l k d v s h e below new = record { stored = stored_turn f l₀ l k v s.stored h e; same = same; other = other; fit = fit }
    where
      old : slice_index_or l k 0 ≡ slice_index l₀ k
      old = s.stored.rest k (omega arith)

      same : bit_or d (bit_xor (slice_index l k) v) ≡ 0 → (j : ℕ) → j < k + 1 → f j ≡ slice_index l₀ j
      same z j g = let both = or_none d (bit_xor (slice_index l k) v) z in elim (ℕ_discrete j k) [
        | yes q ↦ rw q (sym e ∙ sym (xor_none (slice_index l k) v both.1) ∙ old)
        | no q ↦ s.same both.0 j (omega arith)
      ]

      fit : (j : ℕ) → j < k + 1 → (slice_index l₀ j < 2 ^ 64) × (f j < 2 ^ 64)
      fit j g = elim (ℕ_discrete j k) [ yes q ↦ rw (q, ← old) (below, new) | no q ↦ s.fit j (omega arith) ]

      other : ((j : ℕ) → j < k + 1 → f j ≡ slice_index l₀ j) → bit_or d (bit_xor (slice_index l k) v) ≡ 0
      other g =
          let z : d ≡ 0 = s.other (λ j q. g j (omega arith)) in
          let now : v ≡ slice_index_or l k 0 = e ∙ g k (omega arith) ∙ sym old in
          rw (z, now, xor_self (slice_index l k)) (or_zero_l 0)

-- whether a set is another one now
pub record Moved (r : Bool) (l₀ l : List ℕ) : Type 0 where
  pub no : r ≡ false → l ≡ l₀
  pub yes : r ≡ true → ((t : ℕ) → member l t ≡ member l₀ t) → ⊥

pub moved : (f : ℕ → ℕ) (l₀ l : List ℕ) (k d : ℕ) → Storing f l₀ l k d → length l₀ ≤ k → Moved (not (d == 0)) l₀ l
moved f l₀ l k d s h = go (d == 0) refl
  where
    v : Words l₀
    v j = elim (dec_le k j) [ yes g ↦ rw (get_past l₀ j (omega arith)) (omega arith) | no g ↦ (s.fit j (omega arith)).0 ]

    w : Words l
    w j = elim (dec_le k j) [
      | yes g ↦ let m = s.stored.long in rw (get_past l j (omega arith)) (omega arith)
      | no g ↦ rw (s.stored.done j (omega arith)) (s.fit j (omega arith)).1
    ]

    same : d ≡ 0 → l ≡ l₀
    same z = ext_get_or 0 l l₀ s.stored.long (λ j g. let m = s.stored.long in s.stored.done j (omega arith) ∙ s.same z j (omega arith))

    go : (t : Bool) → (d == 0) ≡ t → Moved (not t) l₀ l
    go true e = record { no = λ q. same (eqb-true d 0 e); yes = λ q f. absurd (false≢true q) }
    go false e = record {
      no = λ q. absurd (false≢true (sym q));
      yes = λ q g.
          let e' : l ≡ l₀ = set_ext l l₀ w v s.stored.long g in
          eqb-false d 0 e (s.other (λ j a. sym (s.stored.done j a) ∙ ap (λ (m : List ℕ). slice_index m j) e'));
    }

-- ---- the same in a region of a larger list

module _ (m₀ m : List ℕ) (a w k : ℕ) (o : Only (At a w) m₀ m) (room : a + w ≤ length m₀) (h : k < w) where
  within : a + w ≤ length m
  within = rw o.long room

  pub part_only : (v : ℕ) → Only (At a w) m₀ (slice_set m (a + k) v)
  part_only v = only_both (At a w) m₀ m (slice_set m (a + k) v) o (only_set m a w within k v h)

  -- another region's word is as it was
  pub part_other : (b : ℕ) → (At a w (b + k) → ⊥) → slice_index m (b + k) ≡ slice_index (mid_of b w m₀) k
  part_other b n = o.same (b + k) n ∙ sym (get_mid m₀ b w k 0 h)

  module _ (f : ℕ → ℕ) where
    -- so is this one's, until it is stored
    pub part_old : Stored f (mid_of a w m₀) (mid_of a w m) k → slice_index m (a + k) ≡ slice_index (mid_of a w m₀) k
    part_old s = sym (get_mid m a w k 0 h) ∙ s.rest k (omega arith)

    pub part_turn : (v : ℕ) → Stored f (mid_of a w m₀) (mid_of a w m) k → v ≡ f k → Stored f (mid_of a w m₀) (mid_of a w (slice_set m (a + k) v)) (k + 1)
    part_turn v s e = rw (mid_set m a w k v h) (stored_turn f (mid_of a w m₀) (mid_of a w m) k v s (rw (mid_long m a w within) h) e)

    pub part_moves : (d v : ℕ) → Storing f (mid_of a w m₀) (mid_of a w m) k d → v ≡ f k → slice_index m (a + k) < 2 ^ 64 → f k < 2 ^ 64
        → Storing f (mid_of a w m₀) (mid_of a w (slice_set m (a + k) v)) (k + 1) (bit_or d (bit_xor (slice_index m (a + k)) v))
    part_moves d v s e old new =
        rw (mid_set m a w k v h, ← get_mid m a w k 0 h)
        (storing_turn f (mid_of a w m₀) (mid_of a w m) k d v s (rw (mid_long m a w within) h) e (rw (get_mid m a w k 0 h) old) new)

-- ---- all slots or none

pub none_in : (n t : ℕ) → member (replicate n 0) t ≡ false
unfolding member
none_in n t = rw (zeros n (t / 64)) (no_ones (t % 64))
  where
    zeros : (n j : ℕ) → ◌≡◌ {A = ℕ} (slice_index (replicate n 0) j) 0
    zeros zero j = refl
    zeros (suc n) zero = refl
    zeros (suc n) (suc j) = zeros n j

pub all_in : (n t : ℕ) → t < 64 * n → member (replicate n 18446744073709551615) t ≡ true
unfolding member
all_in n t h = rw (full n (t / 64) (omega arith)) (ones (t % 64) (omega arith))
  where
    full : (n j : ℕ) → j < n → ◌≡◌ {A = ℕ} (slice_index (replicate n 18446744073709551615) j) 18446744073709551615
    full zero j h = absurd (omega arith)
    full (suc n) zero h = refl
    full (suc n) (suc j) h = full n j (omega arith)
