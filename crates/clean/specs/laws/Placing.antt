-- The old places of a later pass, composed with those of the code before it.
-- Assumes nothing.
use Rattle.std.specs.Prelude.{◌≡◌, refl, List, [], ◌∷◌, ◌++◌, length, get_or, set, take, drop}
use Rattle.std.proofs.Common.{sym, ap, ◌∙◌, append-nil, mul-suc, add-one, length-append, take-suc, drop_at}
use Prim.Native.Nat.{ℕ, zero, suc, ◌+◌, ◌*◌, ◌^◌, ◌≤◌, ◌<◌}
use Rattle.std.proofs.Math.Nat.{zero-add}
use native.Mathlib.Omega.{arith}
use Rattle.std.proofs.Math.Seq.{take-length, drop-length}
use borrow.Rule.Slice.PartMut.{mid_of, put_mid}
use Rattle.words.specs.Le.{from_le, to_le, u32_at}
use Rattle.words.specs.laws.Le.{length_to_le}
use Rattle.words.specs.laws.Regions.{mid_long, mid_more, put_more, put_put}
use Rattle.unit.specs.Result.{Retained, place_bytes}
use Rattle.answer.specs.Clean.{placed_by}
use Rattle.pc_map.specs.laws.Retaining.{place_section}
use Rattle.unit.specs.Size.{place_size}
use Rattle.run.specs.laws.Reading.{retained_at, no_retained, place_back}
use Rattle.run.proofs.laws.Fitting.{placed_at, placed_long}

-- ---- a buffer's front copied

-- a byte more
pub copy_turn : (from to to' : List ℕ) (i : ℕ) → to' ≡ put_mid 0 i to (mid_of 0 i from) → i < length from → i < length to
    → set to' i (get_or from i 0) ≡ put_mid 0 (i + 1) to (mid_of 0 (i + 1) from)
copy_turn from to to' i e h g =
    let inside : 0 + i < length from = omega arith in
    let room : 0 + i < length to = omega arith in
    let more = mid_more from 0 i 0 inside in
    let put = put_more to 0 i (mid_of 0 i from) (mid_long from 0 i (omega arith)) (omega arith) (get_or from i 0) room in
    let more' : mid_of 0 (i + 1) from ≡ mid_of 0 i from ++ (get_or from i 0 ∷ []) = rw zero-add at more in
    let put' : set (put_mid 0 i to (mid_of 0 i from)) i (get_or from i 0) ≡ put_mid 0 (i + 1) to (mid_of 0 i from ++ (get_or from i 0 ∷ [])) = rw zero-add at put in
    rw (e, more') put'

-- ---- places

-- the bytes of the first k places
unfoldable pub composed : List ℕ → List ℕ → ℕ → List ℕ
composed from to zero = []
composed from to (suc k) = composed from to k ++ to_le place_size (u32_at from (place_size * u32_at to (place_size * k)))

pub composed_long : (from to : List ℕ) (k : ℕ) → length (composed from to k) ≡ place_size * k
unfolding composed
composed_long from to zero = refl
composed_long from to (suc k) = length-append (composed from to k) _ ∙ rw (composed_long from to k, length_to_le place_size, mul-suc) (omega arith)

module _ (from to to' : List ℕ) (k : ℕ) (e : to' ≡ put_mid 0 (place_size * k) to (composed from to k)) where
  -- a place that is not yet written
  pub place_left : u32_at to' (place_size * k) ≡ u32_at to (place_size * k)
  place_left = ap (λ (l : List ℕ). u32_at l (place_size * k)) e ∙ ap (λ (l : List ℕ). from_le (take 4 l)) (drop_at (composed from to k) (drop (place_size * k) to) (place_size * k) (composed_long from to k))

  -- a place more
  pub compose_turn : (to'' : List ℕ) (v : ℕ) → place_size * k ≤ length to → v ≡ u32_at from (place_size * u32_at to (place_size * k))
      → to'' ≡ put_mid (place_size * k) place_size to' (to_le place_size v) → to'' ≡ put_mid 0 (place_size * (k + 1)) to (composed from to (k + 1))
  unfolding composed
  compose_turn to'' v h f g =
      let put = put_put to 0 (place_size * k) (composed from to k) (composed_long from to k) (omega arith) place_size (to_le place_size v) in
      let put' : put_mid (place_size * k) place_size (put_mid 0 (place_size * k) to (composed from to k)) (to_le place_size v) ≡ put_mid 0 (place_size * k + place_size) to (composed from to k ++ to_le place_size v) = rw zero-add at put in
      let size : place_size * suc k ≡ place_size * k + place_size = omega arith in
      g ∙ rw (add-one k, size, e, ← f) put'

-- all of them
pub compose_end : (from to to' : List ℕ) (k : ℕ) → to' ≡ put_mid 0 (place_size * k) to (composed from to k) → length to ≡ place_size * k → to' ≡ composed from to k
compose_end from to to' k e h = e ∙ rw (← h, drop-length to) (append-nil (composed from to k))

-- of two results' places they are the places of the composition
pub composed_places : (before kept : List Retained) → ((p : ℕ) → p < length before → (retained_at before p).place < 2 ^ 32)
    → ((p : ℕ) → p < length kept → (retained_at kept p).place < length before) → ((p : ℕ) → p < length kept → (retained_at kept p).place < 2 ^ 32)
    → composed (place_bytes before) (place_bytes kept) (length kept) ≡ place_bytes (placed_by before kept)
unfolding composed place_bytes to_le
composed_places before kept b a f =
    first (length kept) (omega arith) ∙ ap (λ (k : ℕ). place_bytes (take k (placed_by before kept))) (sym (placed_long before kept)) ∙ ap place_bytes (take-length (placed_by before kept))
  where
    first : (k : ℕ) → k ≤ length kept → composed (place_bytes before) (place_bytes kept) k ≡ place_bytes (take k (placed_by before kept))
    first zero h = refl
    first (suc k) h =
        let l : k < length (placed_by before kept) = rw placed_long (omega arith) in
        let here : u32_at (place_bytes kept) (place_size * k) ≡ (retained_at kept k).place = place_back kept k (omega arith) (f k (omega arith)) in
        let there : u32_at (place_bytes before) (place_size * (retained_at kept k).place) ≡ (retained_at before (retained_at kept k).place).place = place_back before (retained_at kept k).place (a k (omega arith)) (b (retained_at kept k).place (a k (omega arith))) in
        rw (here, there, first k (omega arith), take-suc (placed_by before kept) k no_retained l, place_section.more (take k (placed_by before kept)) (retained_at (placed_by before kept) k ∷ []), placed_at before kept k (omega arith))
