-- Document 02, L4: "the next retained place, as of the round's start, as a running value, proved at each place to be the lowest above
-- it that was retained then, or n".
-- Assumes nothing.
use Rattle.std.specs.Prelude.{◌≡◌, refl, ◌⊎◌, Bool, true, false, cond, ◌&&◌, List, [], ◌∷◌, ℕ, zero, suc, ◌+◌, ◌≤◌, ◌<◌, eqb, ltb, leb, length, take}
use Rattle.std.proofs.Common.{ap, inl, inr, arith, eq-eqb, ne_eqb, lt-ltb, le-ltb, le-leb}
use Rattle.std.proofs.lemmas.Bool.{false≢true, eqb-false, lt-leb}
use Rattle.std.proofs.Math.Decide.{dec_le}
use Rattle.words.specs.Lists.{sum}
use Rattle.flow.specs.laws.Flags.{Flags, flag}
use Rattle.pc_map.specs.Boundary.{is_kept, boundary}
use Rattle.pc_map.specs.laws.Boundaries.{boundary_kept, boundary_mono}

-- the lowest kept place from p on, or n
unfoldable pub kept_from : List ℕ → ℕ → ℕ
kept_from [] p = 0
kept_from (x ∷ keep) zero = cond (eqb x 1) 0 (suc (kept_from keep zero))
kept_from (x ∷ keep) (suc p) = suc (kept_from keep p)

-- the lowest above p
abbrev pub next_kept : List ℕ → ℕ → ℕ
next_kept keep p = kept_from keep (suc p)

-- ---- place by place, from the back

pub from_end : (keep : List ℕ) → kept_from keep (length keep) ≡ length keep
unfolding kept_from
from_end [] = refl
from_end (x ∷ keep) = ap suc (from_end keep)

pub from_kept : (keep : List ℕ) (p : ℕ) → is_kept keep p ≡ true → kept_from keep p ≡ p
unfolding kept_from
from_kept [] p e = absurd (false≢true e)
from_kept (x ∷ keep) zero e = rw e refl
from_kept (x ∷ keep) (suc p) e = ap suc (from_kept keep p e)

pub from_dropped : (keep : List ℕ) (p : ℕ) → is_kept keep p ≡ false → kept_from keep p ≡ next_kept keep p
unfolding kept_from
from_dropped [] p e = refl
from_dropped (x ∷ keep) zero e = rw e refl
from_dropped (x ∷ keep) (suc p) e = ap suc (from_dropped keep p e)

-- ---- it is the lowest

-- what is said of it
pub record Lowest (keep : List ℕ) (p r : ℕ) : Type 0 where
  pub above : p ≤ r
  pub most : r ≤ length keep
  pub none : (q : ℕ) → p ≤ q → q < r → is_kept keep q ≡ false
  pub kept : r < length keep → is_kept keep r ≡ true

pub lowest : (keep : List ℕ) (p : ℕ) → p ≤ length keep → Lowest keep p (kept_from keep p)
unfolding kept_from
lowest [] p h = record { above = omega arith; most = omega arith; none = λ q a b. absurd (omega arith); kept = λ l. absurd (omega arith) }
lowest (x ∷ keep) (suc p) h =
    let r = lowest keep p (omega arith) in
    record { above = omega (arith, r.above); most = omega (arith, r.most); none = none r.none; kept = λ l. r.kept (omega arith) }
  where
    none : ((q : ℕ) → p ≤ q → q < kept_from keep p → is_kept keep q ≡ false) → (q : ℕ) → suc p ≤ q → q < suc (kept_from keep p) → is_kept (x ∷ keep) q ≡ false
    none f zero a b = absurd (omega arith)
    none f (suc q) a b = f q (omega arith) (omega arith)
lowest (x ∷ keep) zero h = go (eqb x 1) refl (lowest keep zero (omega arith))
  where
    go : (t : Bool) → eqb x 1 ≡ t → Lowest keep zero (kept_from keep zero) → Lowest (x ∷ keep) zero (cond t 0 (suc (kept_from keep zero)))
    go true e r = record { above = omega arith; most = omega arith; none = λ q a b. absurd (omega arith); kept = λ l. e }
    go false e r = record { above = omega arith; most = omega (arith, r.most); none = none; kept = λ l. r.kept (omega arith) }
      where
        none : (q : ℕ) → zero ≤ q → q < suc (kept_from keep zero) → is_kept (x ∷ keep) q ≡ false
        none zero a b = e
        none (suc q) a b = r.none q (omega arith) (omega arith)

-- ---- "whose target's boundary is its own plus 1": the target lies above, and no higher than the next kept place

-- the boundary does not move up to it
from_boundary : (keep : List ℕ) → Flags keep → (p : ℕ) → p ≤ length keep → boundary keep (kept_from keep p) ≡ boundary keep p
unfolding kept_from sum
from_boundary [] f p h = let e : p ≡ 0 = omega arith in rw e refl
from_boundary (x ∷ keep) f (suc p) h = ap (λ (s : ℕ). x + s) (from_boundary keep (λ q. f (suc q)) p (omega arith))
from_boundary (x ∷ keep) f zero h = go (eqb x 1) refl (flag (x ∷ keep) f 0) (from_boundary keep (λ q. f (suc q)) zero (omega arith))
  where
    go : (t : Bool) → eqb x 1 ≡ t → (x ≡ 0) ⊎ (x ≡ 1) → sum (take (kept_from keep zero) keep) ≡ 0 → sum (take (cond t 0 (suc (kept_from keep zero))) (x ∷ keep)) ≡ 0
    go true e v r = refl
    go false e (inl z) r = omega (arith, z, r)
    go false e (inr z) r = absurd (eqb-false x 1 e z)

pub near_next : (keep : List ℕ) → Flags keep → (p t : ℕ) → p < length keep → is_kept keep p ≡ true → t ≤ length keep
    → eqb (boundary keep t) (boundary keep p + 1) ≡ (ltb p t && leb t (next_kept keep p))
near_next keep f p t h k l =
    let own = boundary_kept keep p h k in
    let same = from_boundary keep f (suc p) h in
    let next = lowest keep (suc p) h in
    elim (dec_le t p) [
      | yes a ↦ let low = boundary_mono keep t p a in rw (le-ltb p t a, ne_eqb (boundary keep t) (boundary keep p + 1) (λ e. omega (arith, low, e))) refl
      | no a ↦
          let past = boundary_mono keep (suc p) t (omega arith) in
          elim (dec_le t (next_kept keep p)) [
            | yes b ↦
                let high = boundary_mono keep t (next_kept keep p) b in
                let equal : boundary keep t ≡ boundary keep p + 1 = omega (arith, own, same, past, high) in
                rw (lt-ltb p t (omega arith), le-leb t (next_kept keep p) b, eq-eqb _ _ equal) refl
            | no b ↦
                let more = boundary_kept keep (next_kept keep p) (omega (arith, l)) (next.kept (omega (arith, l))) in
                let high = boundary_mono keep (suc (next_kept keep p)) t (omega arith) in
                rw (lt-ltb p t (omega arith), lt-leb t (next_kept keep p) (omega arith), ne_eqb (boundary keep t) (boundary keep p + 1) (λ e. omega (arith, own, same, more, high, e))) refl
          ]
    ]
