-- The walk with a stack: what holds of the marks m and the stack st (its top is the last) before each turn, and that it stays so.
-- Assumes nothing.
use Rattle.std.specs.Prelude.{◌≡◌, ℕ, ◌+◌, ◌-◌, ◌*◌, ◌<◌, ◌≤◌, Bool, true, false, ◌⊎◌, List, [], ◌∷◌, ◌++◌, length, replicate, nat_lt, slice_index_or, slice_set, refl}
use Rattle.std.proofs.Common.{sym, ◌∙◌, length-set, length-append, get_or-set_same, ltb-true, lt-ltb}
use Rattle.std.proofs.Math.Logic.{inl, inr}
use mathlib.Core.List.Memᴰ
use native.Mathlib.Omega.{arith}
use Rattle.std.proofs.lemmas.List.{length-replicate}
use Rattle.words.specs.Lists.{sum}
use Rattle.flow.specs.Reach.{reached}
use Rattle.flow.specs.laws.Marks.{In, Marked, Grew, grew_set, grew_self, grew_zeros, sum_zeros, no_marks, grew_kept, sum_grew, sum_set, marked_set, same_marks}
use Rattle.flow.specs.laws.Closure.{reached_bits, reached_long, reached_zero, reached_closed, reached_least}

-- ---- the stack

-- v goes onto the stack where it is a place
abbrev pub push_if : Bool → ℕ → List ℕ → List ℕ
push_if true v st = st ++ (v ∷ [])
push_if false v st = st

unfoldable pub push_all : ℕ → List ℕ → List ℕ → List ℕ
push_all n [] st = st
push_all n (v ∷ vs) st = push_all n vs (push_if (nat_lt v n) v st)

pub push_append : (n : ℕ) (us vs st : List ℕ) → push_all n (us ++ vs) st ≡ push_all n vs (push_all n us st)
unfolding push_all
push_append n [] vs st = refl
push_append n (u ∷ us) vs st = push_append n us vs (push_if (nat_lt u n) u st)

module _ (v : ℕ) (st : List ℕ) where
  push_old : (t : Bool) {q : ℕ} → In q st → In q (push_if t v st)
  push_old true i = Memᴰ.append_left (v ∷ []) i
  push_old false i = i

  push_new : (t : Bool) {q : ℕ} → t ≡ true → q ≡ v → In q (push_if t v st)
  push_new t e d = rw e (Memᴰ.append_right st (Memᴰ.head d))

  push_from : (t : Bool) {q : ℕ} → In q (push_if t v st) → In q st ⊎ ((t ≡ true) × (q ≡ v))
  push_from true i = elim (Memᴰ.append_cases st i) [ inl j ↦ inl j | inr j ↦ inr (refl, Memᴰ.eq_of_singleton j) ]
  push_from false i = inl i

  push_long : (t : Bool) → length (push_if t v st) ≤ length st + 1
  push_long true = simp length-append (omega arith)
  push_long false = omega arith

module _ (n : ℕ) where
  all_old : (vs st : List ℕ) {q : ℕ} → In q st → In q (push_all n vs st)
  unfolding push_all
  all_old [] st i = i
  all_old (v ∷ vs) st i = all_old vs _ (push_old v st (nat_lt v n) i)

  all_new : (vs st : List ℕ) {q : ℕ} → In q vs → q < n → In q (push_all n vs st)
  unfolding push_all
  all_new [] st i h = elim i [ ]
  all_new (v ∷ vs) st (Memᴰ.head e) h = all_old vs _ (push_new v st (nat_lt v n) (lt-ltb v n (rw e at h)) e)
  all_new (v ∷ vs) st (Memᴰ.tail i) h = all_new vs _ i h

  all_from : (vs st : List ℕ) {q : ℕ} → In q (push_all n vs st) → In q st ⊎ (In q vs × (q < n))
  unfolding push_all
  all_from [] st i = inl i
  all_from (v ∷ vs) st i = elim (all_from vs (push_if (nat_lt v n) v st) i) [
    | inl j ↦ elim (push_from v st (nat_lt v n) j) [ inl k ↦ inl k | inr k ↦ inr (Memᴰ.head k.1, rw k.1 (ltb-true v n k.0)) ]
    | inr j ↦ inr (Memᴰ.tail j.0, j.1)
  ]

  all_long : (vs st : List ℕ) → length (push_all n vs st) ≤ length st + length vs
  unfolding push_all
  all_long [] st = omega arith
  all_long (v ∷ vs) st = omega (arith, all_long vs (push_if (nat_lt v n) v st), push_long v st (nat_lt v n))

top : {q : ℕ} (p : ℕ) (st : List ℕ) → In q (st ++ (p ∷ [])) → In q st ⊎ (q ≡ p)
top p st i = elim (Memᴰ.append_cases st i) [ inl j ↦ inl j | inr j ↦ inr (Memᴰ.eq_of_singleton j) ]

-- ---- what holds before each turn

pub record Walking (n : ℕ) (next : ℕ → List ℕ) (m st : List ℕ) : Type 0 where
  pub bits : Grew m m
  pub long : length m ≡ n
  -- the stack has room: a place that is not marked yet brings at most four
  pub room : length st + 4 * (n - sum m) ≤ 4 * n + 1
  pub sound : (p : ℕ) → Marked m p → Marked (reached n next) p
  pub waits : (q : ℕ) → In q st → (q < n) × Marked (reached n next) q
  pub begun : Marked m 0 ⊎ In 0 st
  -- a successor of a marked place is marked, or waits
  pub follows : (p q : ℕ) → Marked m p → In q (next p) → q < n → Marked m q ⊎ In q st

module _ (n : ℕ) (next : ℕ → List ℕ) where
  pub walk_begin : 0 < n → Walking n next (replicate n 0) (0 ∷ [])
  walk_begin h = record {
    bits = grew_zeros n;
    long = length-replicate n 0;
    room = rw (sum_zeros n) (omega arith);
    sound = λ p e. absurd (no_marks n p e);
    waits = λ q i. rw (Memᴰ.eq_of_singleton i) (h, reached_zero n next h);
    begun = inr (Memᴰ.head refl);
    follows = λ p q e i lt. absurd (no_marks n p e);
  }

  -- the place taken off is marked already
  pub walk_old : (m st : List ℕ) (p : ℕ) → Walking n next m (st ++ (p ∷ [])) → Marked m p → Walking n next m st
  walk_old m st p w e = record {
    bits = w.bits;
    long = w.long;
    room = omega (arith, w.room, length-append st (p ∷ []));
    sound = w.sound;
    waits = λ q i. w.waits q (Memᴰ.append_left (p ∷ []) i);
    begun = elim w.begun [ inl h ↦ inl h | inr i ↦ drop_top i ];
    follows = λ r q d i lt. elim (w.follows r q d i lt) [ inl h ↦ inl h | inr j ↦ drop_top j ];
  }
    where
      drop_top : {q : ℕ} → In q (st ++ (p ∷ [])) → Marked m q ⊎ In q st
      drop_top i = elim (top p st i) [ inl j ↦ inr j | inr d ↦ inl (rw d e) ]

  -- it is not: it is marked now, and its successors wait
  module _ (m st : List ℕ) (p : ℕ) (few : length (next p) ≤ 4) (w : Walking n next m (st ++ (p ∷ []))) (e : slice_index_or m p 0 ≡ 0) where
    here : (p < n) × Marked (reached n next) p
    here = w.waits p (Memᴰ.append_right st (Memᴰ.head refl))

    grown : Grew m (slice_set m p 1)
    grown = grew_set w.bits p

    now_marked : Marked (slice_set m p 1) p
    now_marked = get_or-set_same m p 1 0 (rw w.long here.0)

    taken : {q : ℕ} → In q (st ++ (p ∷ [])) → Marked (slice_set m p 1) q ⊎ In q (push_all n (next p) st)
    taken i = elim (top p st i) [ inl j ↦ inr (all_old n (next p) st j) | inr d ↦ inl (rw d now_marked) ]

    kept : {q : ℕ} → Marked m q ⊎ In q (st ++ (p ∷ [])) → Marked (slice_set m p 1) q ⊎ In q (push_all n (next p) st)
    kept {q} (inl h) = inl (grew_kept grown q h)
    kept (inr i) = taken i

    pub walk_new : Walking n next (slice_set m p 1) (push_all n (next p) st)
    walk_new = record {
      bits = grew_self grown;
      long = length-set m p 1 ∙ w.long;
      room =
          let lt : p < length m = rw w.long here.0 in
          omega (arith, w.room, w.long, length-append st (p ∷ []), all_long n (next p) st, sum_set w.bits p lt e, sum_grew grown, length-set m p 1);
      sound = λ q d. elim (marked_set m p q d) [ inl h ↦ rw h.0 here.1 | inr h ↦ w.sound q h ];
      waits = λ q i. elim (all_from n (next p) st i) [
        | inl j ↦ w.waits q (Memᴰ.append_left (p ∷ []) j)
        | inr j ↦ (j.1, reached_closed n next p q here.0 here.1 j.0 j.1)
      ];
      begun = kept w.begun;
      follows = λ r q d i lt. elim (marked_set m p r d) [
        | inl h ↦ inr (all_new n (next p) st (rw h.0 at i) lt)
        | inr h ↦ kept (w.follows r q h i lt)
      ];
    }

  -- nothing waits any more
  pub walk_end : {m : List ℕ} → Walking n next m [] → m ≡ reached n next
  walk_end {m} w = same_marks w.bits (reached_bits n next) (w.long ∙ sym (reached_long n next)) w.sound
      (reached_least n next (Marked m) (λ p q d i lt. only (w.follows p q d i lt)) (only w.begun))
    where
      only : {q : ℕ} → Marked m q ⊎ In q [] → Marked m q
      only (inl h) = h
      only (inr i) = absurd (Memᴰ.not-nil i)
