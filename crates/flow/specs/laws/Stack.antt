-- The walk's stack in a lent list st: the first sp numbers, the top last.
-- Assumes nothing.
use Rattle.std.specs.Prelude.{◌≡◌, ℕ, ◌+◌, ◌-◌, ◌*◌, ◌<◌, ◌≤◌, List, [], ◌∷◌, ◌++◌, length, take, replicate, ◌≢◌, slice_index, slice_index_or, slice_set, refl}
use Rattle.std.proofs.Common.{sym, ap, ◌∙◌, inl, inr, length-set, length-append, take-suc, length-take-le, lt-ltb, le-ltb}
use mathlib.Core.List.Memᴰ
use Rattle.std.proofs.Math.Numerals.{add-one}
use native.Mathlib.Omega.{arith}
use Rattle.std.proofs.Math.Seq.{take-suc-set}
use borrow.Rule.Slice.PartMut.{mid_of}
use Rattle.words.specs.Lists.{sum}
use Rattle.words.specs.laws.Regions.{Outside}
use Rattle.unit.specs.laws.Region.{stack_end}
use Rattle.flow.specs.Reach.{reached}
use Rattle.flow.specs.laws.Marks.{bit, grew_set, sum_set, sum_grew}
use Rattle.flow.specs.laws.Walking.{push_all, push_append, Walking, walk_begin, walk_old, walk_new, walk_end}

-- ---- the numbers vs were pushed, each where it is a place

pub record Pushed (n sp : ℕ) (vs st st' : List ℕ) (r : ℕ) : Type 0 where
  pub stack : take r st' ≡ push_all n vs (take sp st)
  pub most : r ≤ sp + length vs

module _ (n sp : ℕ) (st : List ℕ) where
  pub push_none : Pushed n sp [] st st sp
  unfolding push_all
  push_none = record { stack = refl; most = omega arith }

  pub push_yes : (v : ℕ) → v < n → sp < length st → Pushed n sp (v ∷ []) st (slice_set st sp v) (sp + 1)
  unfolding push_all
  push_yes v lt h = record { stack = rw (lt-ltb v n lt, add-one sp, take-suc-set st sp v h); most = omega arith }

  pub push_no : (v : ℕ) → n ≤ v → Pushed n sp (v ∷ []) st st sp
  unfolding push_all
  push_no v le = record { stack = rw (le-ltb v n le); most = omega arith }

  pub push_then : {us vs st₁ st₂ : List ℕ} {r₁ r₂ : ℕ} → Pushed n sp us st st₁ r₁ → Pushed n r₁ vs st₁ st₂ r₂ → Pushed n sp (us ++ vs) st st₂ r₂
  push_then {us} {vs} a b = record {
    stack = b.stack ∙ ap (push_all n vs) a.stack ∙ sym (push_append n us vs (take sp st));
    most = omega (arith, a.most, b.most, length-append us vs);
  }

-- ---- the invariant of the loop

pub record Standing (n : ℕ) (next : ℕ → List ℕ) (m st : List ℕ) (sp : ℕ) : Type 0 where
  pub fits : sp ≤ length st
  pub walking : Walking n next m (take sp st)

-- In one buffer the n marks come first, and the stack after them.
abbrev pub marks_of : ℕ → List ℕ → List ℕ
marks_of n w = mid_of 0 n w

abbrev pub stack_of : ℕ → List ℕ → List ℕ
stack_of n w = mid_of n (4 * n + 4) w

-- the walk came from the buffer xs to w; what lies behind is as it was
pub record Walked (n : ℕ) (next : ℕ → List ℕ) (xs w : List ℕ) (sp : ℕ) : Type 0 where
  pub long : length w ≡ length xs
  pub outside : Outside 0 (stack_end n) xs w
  pub standing : Standing n next (marks_of n w) (stack_of n w) sp

-- what is left to do: each turn makes it less
abbrev pub left : ℕ → List ℕ → ℕ → ℕ
left n m sp = sp + 4 * (n - sum m)

-- what a run does, from the place on the stack at sp on
pub record Ran (n : ℕ) (next : ℕ → List ℕ) (xs w : List ℕ) (sp r : ℕ) : Type 0 where
  pub walked : Walked n next xs w r
  pub less : left n (marks_of n w) r < left n (marks_of n xs) (sp + 1)

module _ (n : ℕ) (next : ℕ → List ℕ) where
  pub stand_begin : (st : List ℕ) → 0 < n → 0 < length st → Standing n next (replicate n 0) (slice_set st 0 0) 1
  stand_begin st h l = record { fits = simp length-set l; walking = rw (take-suc-set st 0 0 l) (walk_begin n next h) }

  pub stand_end : {m st : List ℕ} → Standing n next m st 0 → m ≡ reached n next
  stand_end s = walk_end n next s.walking

  module _ (few : (p : ℕ) → length (next p) ≤ 4) (m st : List ℕ) where
    -- a turn takes the number at sp off the stack
    module _ (sp : ℕ) (s : Standing n next m st (sp + 1)) where
      popped : Walking n next m (take sp st ++ (slice_index st sp ∷ []))
      popped =
          let f = s.fits in
          let split : take (sp + 1) st ≡ take sp st ++ (slice_index st sp ∷ []) = rw (add-one sp) (take-suc st sp 0 (omega arith)) in
          rw split at s.walking

      -- the place on top is one
      pub stand_top : slice_index_or st sp 0 < n
      stand_top = (popped.waits (slice_index st sp) (Memᴰ.append_right (take sp st) (Memᴰ.head refl))).0

      pub stand_marks : length m ≡ n
      stand_marks = s.walking.long

      -- it is marked already
      pub stand_old : (slice_index m (slice_index st sp) ≢ 0) → Standing n next m st sp
      stand_old d =
          let f = s.fits in
          elim (bit s.walking.bits (slice_index st sp)) [
            | inl e ↦ absurd (d e)
            | inr e ↦ record { fits = omega arith; walking = walk_old n next m (take sp st) (slice_index st sp) popped e }
          ]

      -- it is not: it is marked now, one mark more, of at most n
      module _ (e : slice_index_or m (slice_index st sp) 0 ≡ 0) where
        counted : (sum (slice_set m (slice_index st sp) 1) ≡ sum m + 1) × (sum m + 1 ≤ n)
        counted =
            let g = s.walking.bits in
            let lt : slice_index_or st sp 0 < length m = rw stand_marks stand_top in
            let one = sum_set g (slice_index st sp) lt e in
            (one, omega (arith, stand_marks, (sum_grew (grew_set g (slice_index st sp))).1, length-set m (slice_index st sp) 1))

        -- there is room for four more
        pub stand_free : sp + 4 ≤ 4 * n
        stand_free =
            let long : length (take (sp + 1) st) ≡ sp + 1 = length-take-le (sp + 1) st s.fits in
            omega (arith, rw long at s.walking.room, counted.1)

        module _ (st' : List ℕ) (r : ℕ) (v : Pushed n sp (next (slice_index st sp)) st st' r) where
          pub stand_new : length st' ≡ length st → 4 * n ≤ length st → Standing n next (slice_set m (slice_index st sp) 1) st' r
          stand_new l h = record {
            fits = omega (arith, v.most, stand_free, few (slice_index st sp));
            walking = rw v.stack (walk_new n next m (take sp st) (slice_index st sp) (few (slice_index st sp)) popped e);
          }

          pub stand_less : left n (slice_set m (slice_index st sp) 1) r < left n m (sp + 1)
          stand_less = omega (arith, v.most, few (slice_index st sp), counted.0, counted.1)
