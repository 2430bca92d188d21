-- The kept places as a list, in order.
-- Assumes nothing.
use Rattle.std.specs.Prelude.{◌≡◌, ℕ, zero, suc, ◌+◌, ◌<◌, Bool, true, false, cond, List, [], ◌∷◌, length, ◌==◌, slice_index, refl}
use Rattle.std.proofs.Common.{sym, ◌∙◌, inl, inr, add-zero, zero-add, add-suc, suc-add, arith, eqb-true}
use Rattle.words.specs.Lists.{sum}
use Rattle.flow.specs.laws.Flags.{Flags, flag, sum_whole}
use Rattle.pc_map.specs.Boundary.{boundary}
use Rattle.pc_map.specs.laws.Boundaries.{Mapped}

-- of flags for the places from p on
unfoldable pub kept_from : ℕ → List ℕ → List ℕ
kept_from p [] = []
kept_from p (x ∷ xs) = let rest = kept_from (suc p) xs in cond (x == 1) (p ∷ rest) rest

abbrev pub kept_list : List ℕ → List ℕ
kept_list keep = kept_from 0 keep

-- as many as the last boundary says
many : (p : ℕ) (l : List ℕ) → Flags l → length (kept_from p l) ≡ sum l
unfolding kept_from sum
many p [] f = refl
many p (x ∷ l) f =
    let ih = many (suc p) l (λ i. f (suc i)) in
    elim (flag (x ∷ l) f 0) [
      | inl e ↦ rw (e, zero-add) ih
      | inr e ↦ rw e (omega arith)
    ]

pub kept_many : (keep : List ℕ) → Flags keep → length (kept_list keep) ≡ boundary keep (length keep)
kept_many keep f = many 0 keep f ∙ sym (sum_whole keep)

-- what holds of each kept place holds of each element
each : (P : ℕ → Type 0) (p : ℕ) (l : List ℕ) → ((i : ℕ) → i < length l → slice_index l i ≡ 1 → P (p + i)) → (q : ℕ) → q < length (kept_from p l) → P (slice_index (kept_from p l) q)
unfolding kept_from
each P p [] f q h = absurd (omega arith)
each P p (x ∷ l) f q h = go (x == 1) refl q h (λ q h. each P (suc p) l (λ i g e. rw (suc-add p i, ← add-suc p i) (f (suc i) (omega arith) e)) q h)
  where
    go : (t : Bool) → (x == 1) ≡ t → (q : ℕ) → q < length (cond t (p ∷ kept_from (suc p) l) (kept_from (suc p) l)) → ((q : ℕ) → q < length (kept_from (suc p) l) → P (slice_index (kept_from (suc p) l) q))
        → P (slice_index (cond t (p ∷ kept_from (suc p) l) (kept_from (suc p) l)) q)
    go true e zero h r = rw (add-zero p) at (f 0 (omega arith) (eqb-true x 1 e))
    go true e (suc q) h r = r q (omega arith)
    go false e q h r = r q h

pub kept_each : (P : ℕ → Type 0) (keep : List ℕ) → ((p : ℕ) → p < length keep → slice_index keep p ≡ 1 → P p) → (q : ℕ) → q < length (kept_list keep) → P (slice_index (kept_list keep) q)
kept_each P keep f q h = each P 0 keep (λ i g e. rw (zero-add i) (f i g e)) q h

-- lent memory has the boundaries of these n flags and the list of the places that they keep
pub record Listed (keep bounds kept : List ℕ) (n : ℕ) : Type 0 where
  pub mapped : Mapped keep bounds
  pub list : kept ≡ kept_list keep
  pub long : length keep ≡ n
