-- Sets of slots in lent words: what putting slots in and taking them out makes of them.
-- Assumes nothing.
use Rattle.std.specs.Prelude.{◌≡◌, ℕ, ◌+◌, ◌-◌, ◌*◌, ◌/◌, ◌%◌, ◌^◌, ◌<◌, ◌≤◌, Bool, true, false, cond, ◌&&◌, ◌||◌, List, length, ◌==◌, bit_and, bit_or, nat_eq, nat_le, nat_lt, slice_index, slice_index_or, slice_set}
use Rattle.std.proofs.Math.Path.{refl}
use Rattle.std.proofs.Common.{ap, ◌∙◌, arith, eqb-true, leb-true, leb-false, ltb-true, ltb-false}
use Rattle.std.proofs.lemmas.Bool.{false≢true, eqb-false}
use Rattle.std.proofs.Math.Nat.{mod-eq_of_lt}
use Rattle.std.proofs.Math.Seq.{set-get_or}
use Rattle.std.specs.Int.Bits.{or_zero_r, and_mask}
use mir.Val.{bool_byte}
use Rattle.words.specs.laws.Bits.{member, inserted, removed, one_shl, member_inserted, member_removed}
use Rattle.effects.specs.declared.Range.{Range}
use Rattle.effects.specs.Effects.{range_has, range_within}
use Rattle.effects.specs.laws.Form.{empty_range}

-- the slots that f has are in the set if b says so, and else are not; all others are as they were
abbrev pub Put : Bool → (ℕ → Bool) → List ℕ → List ℕ → Type 0
Put b f l l' = (t : ℕ) → member l' t ≡ cond (f t) b (member l t)

-- the same slots
abbrev pub Same : List ℕ → List ℕ → Type 0
Same l l' = (t : ℕ) → member l' t ≡ member l t

pub put_none : (b : Bool) (f : ℕ → Bool) (l : List ℕ) → ((t : ℕ) → f t ≡ false) → Put b f l l
put_none b f l e t = rw (e t)

-- first those of f, then those of g
pub put_more : (b : Bool) (f g h : ℕ → Bool) (l l₁ l₂ : List ℕ) → Put b f l l₁ → Put b g l₁ l₂ → ((t : ℕ) → h t ≡ (f t || g t)) → Put b h l l₂
put_more b f g h l l₁ l₂ p q e t = q t ∙ rw (p t, e t) (go (f t) (g t))
  where
    go : (x y : Bool) → cond y b (cond x b (member l t)) ≡ cond (x || y) b (member l t)
    go true true = refl
    go true false = refl
    go false true = refl
    go false false = refl

pub put_as : (b : Bool) (f h : ℕ → Bool) (l l' : List ℕ) → Put b f l l' → ((t : ℕ) → h t ≡ f t) → Put b h l l'
put_as b f h l l' p e t = p t ∙ rw (e t)

-- one slot
pub put_in : (b : Bool) (l l' : List ℕ) (i : ℕ) → b ≡ true → i < 64 * length l → l' ≡ inserted l i → Put b (λ t. nat_eq t i) l l'
put_in b l l' i o h e t = rw (e, o) (member_inserted l i h t)

pub put_out : (b : Bool) (l l' : List ℕ) (i : ℕ) → b ≡ false → i < 64 * length l → l' ≡ removed l i → Put b (λ t. nat_eq t i) l l'
put_out b l l' i o h e t = rw (e, o) (member_removed l i h t)

-- one slot if it is to be put, and else nothing: the first word stays
pub if_inside : (when : Bool) (t n : ℕ) → 0 < n → (when ≡ true → t < 64 * n) → cond when t 0 / 64 < n
if_inside true t n some h = let g : t < 64 * n = h refl in omega arith
if_inside false t n some h = omega arith

module _ (l : List ℕ) (t : ℕ) where
  abbrev with_bit : Bool → ℕ → ℕ → ℕ
  with_bit on x m = cond on (bit_or x m) (bit_and x (2 ^ 64 - 1 - m))

  pub put_if : (when on : Bool) (at v : ℕ) → (when ≡ true → t < 64 * length l) → at ≡ cond when t 0 → slice_index l (at / 64) < 2 ^ 64
      → v ≡ with_bit on (slice_index l (at / 64)) (bool_byte when * 2 ^ (at % 64) % 2 ^ 64) → Put on (λ k. when && k == t) l (slice_set l (at / 64) v)
  unfolding inserted removed
  put_if true true at v h a f e = rw (e, a, one_shl (t % 64) (omega arith)) (put_in true l (inserted l t) t refl (h refl) refl)
  put_if true false at v h a f e = rw (e, a, one_shl (t % 64) (omega arith)) (put_out false l (removed l t) t refl (h refl) refl)
  put_if false true at v h a f e = rw (e, a, or_zero_r (slice_index l 0), set-get_or l 0 0) (λ k. refl)
  put_if false false at v h a f e =
      let g : slice_index_or l 0 0 < 2 ^ 64 = rw a at f in
      rw (e, a, and_mask (slice_index l 0) 64, mod-eq_of_lt g, set-get_or l 0 0) (λ k. refl)

-- ---- ranges

abbrev pub range : ℕ → ℕ → Range
range start count = record { start = start; count = count }

-- no slot at all
pub has_none : (start t : ℕ) → range_has t (range start 0) ≡ false
unfolding range_has
has_none start t = go (nat_le start t) refl (nat_lt t (start + 0)) refl
  where
    go : (x : Bool) → nat_le start t ≡ x → (y : Bool) → nat_lt t (start + 0) ≡ y → (x && y) ≡ false
    go false p y q = refl
    go true p false q = refl
    go true p true q = absurd (omega (arith, leb-true start t p, ltb-true t (start + 0) q))

-- a slot more at the end
pub has_more : (start k t : ℕ) → range_has t (range start (k + 1)) ≡ (range_has t (range start k) || t == start + k)
unfolding range_has
has_more start k t = go (nat_le start t) refl (nat_lt t (start + (k + 1))) refl (nat_lt t (start + k)) refl (t == start + k) refl
  where
    go : (x : Bool) → nat_le start t ≡ x → (y : Bool) → nat_lt t (start + (k + 1)) ≡ y → (z : Bool) → nat_lt t (start + k) ≡ z → (e : Bool) → (t == start + k) ≡ e
        → (x && y) ≡ ((x && z) || e)
    go false p y q z r false s = refl
    go false p y q z r true s = absurd (omega (arith, leb-false start t p, eqb-true t (start + k) s))
    go true p true q true r e s = refl
    go true p true q false r true s = refl
    go true p true q false r false s = let d : t ≡ start + k → ⊥ = eqb-false t (start + k) s in absurd (omega (arith, ltb-true t (start + (k + 1)) q, ltb-false t (start + k) r))
    go true p false q true r e s = absurd (omega (arith, ltb-false t (start + (k + 1)) q, ltb-true t (start + k) r))
    go true p false q false r false s = refl
    go true p false q false r true s = absurd (omega (arith, ltb-false t (start + (k + 1)) q, eqb-true t (start + k) s))

has_one : (start t : ℕ) → range_has t (range start 1) ≡ (t == start)
has_one start t =
    let z : start + 0 ≡ start = omega arith in
    has_more start 0 t ∙ rw (has_none start t, z)

-- a range of one slot
pub put_one : (b : Bool) (r : Range) (l l' : List ℕ) → r.count ≡ 1 → Put b (λ t. nat_eq t r.start) l l' → Put b (λ t. range_has t r) l l'
put_one b r l l' e p = put_as b (λ t. nat_eq t r.start) (λ t. range_has t r) l l' p one
  where
    one : (t : ℕ) → range_has t r ≡ (t == r.start)
    one t = ap (λ (k : ℕ). range_has t (range r.start k)) e ∙ has_one r.start t

-- the end of a range that is within s, unless it is empty
pub within_end : (s : ℕ) (r : Range) → range_within s r ≡ true → 0 < r.count → r.start + r.count ≤ s
unfolding range_within
within_end s r e h = go (r.count == 0) refl (nat_le (r.start + r.count) s) refl e
  where
    go : (x : Bool) → (r.count == 0) ≡ x → (y : Bool) → nat_le (r.start + r.count) s ≡ y → (x || y) ≡ true → r.start + r.count ≤ s
    go true p y q e = absurd (omega (arith, eqb-true r.count 0 p))
    go false p true q e = leb-true (r.start + r.count) s q
    go false p false q e = absurd (false≢true e)

-- ---- one slot or none

abbrev pub slot_if : Bool → ℕ → Range
slot_if when t = cond when (range t 1) empty_range

pub slot_within : (s t : ℕ) (when : Bool) → range_within s (slot_if when t) ≡ true → when ≡ true → t < s
slot_within s t true e q = omega (arith, within_end s (range t 1) e (omega arith))
slot_within s t false e q = absurd (false≢true q)

pub put_slot : (on when : Bool) (t : ℕ) (l l' : List ℕ) → Put on (λ k. when && k == t) l l' → Put on (λ k. range_has k (slot_if when t)) l l'
put_slot on true t l l' p = put_one on (range t 1) l l' refl p
put_slot on false t l l' p = put_as on (λ k. false) (λ k. range_has k empty_range) l l' p (has_none 0)

-- ---- a loop over the slots of a range

pub record Putting (b : Bool) (start : ℕ) (l₀ l : List ℕ) (k : ℕ) : Type 0 where
  pub long : length l ≡ length l₀
  pub put : Put b (λ t. range_has t (range start k)) l₀ l

pub putting_begin : (b : Bool) (start : ℕ) (l : List ℕ) → Putting b start l l 0
putting_begin b start l = record { long = refl; put = put_none b (λ t. range_has t (range start 0)) l (has_none start) }

pub putting_turn : (b : Bool) (start : ℕ) (l₀ l l' : List ℕ) (k : ℕ) → Putting b start l₀ l k → length l' ≡ length l → Put b (λ t. nat_eq t (start + k)) l l' → Putting b start l₀ l' (k + 1)
putting_turn b start l₀ l l' k p e q =
    record { long = e ∙ p.long; put = put_more b (λ t. range_has t (range start k)) (λ t. nat_eq t (start + k)) (λ t. range_has t (range start (k + 1))) l₀ l l' p.put q (has_more start k) }
