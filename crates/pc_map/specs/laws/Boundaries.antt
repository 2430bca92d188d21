-- Boundaries: they grow by the flags, and distances between them never grow.
-- Assumes nothing.
use Rattle.std.specs.Prelude.{◌≡◌, ℕ, suc, ◌+◌, ◌-◌, ◌<◌, ◌≤◌, true, false, ◌⊎◌, List, length, slice_index}
use Rattle.std.proofs.Math.Path.{refl}
use Rattle.std.proofs.Common.{ap, ◌∙◌, inl, inr, add-zero, add-one, arith, eqb-true}
use Rattle.std.proofs.lemmas.Bool.{eqb-false}
use Rattle.words.specs.Lists.{sum, tabulate}
use Rattle.words.specs.laws.Lists.{length_tabulate, get_d_tabulate}
use Rattle.unit.specs.Size.{max_instructions}
use Rattle.flow.specs.laws.Flags.{Flags, flag, sum_mono, sum_gap, sum_most, sum_next}
use Rattle.pc_map.specs.Boundary.{is_kept, boundary}

module _ (keep : List ℕ) where
  pub boundary_mono : (p q : ℕ) → p ≤ q → boundary keep p ≤ boundary keep q
  boundary_mono = sum_mono keep

  pub boundary_next : (p : ℕ) → p < length keep → boundary keep (suc p) ≡ boundary keep p + slice_index keep p
  boundary_next = sum_next keep

  pub boundary_zero : boundary keep 0 ≡ 0
  unfolding sum
  boundary_zero = refl

  pub boundary_kept : (p : ℕ) → p < length keep → is_kept keep p ≡ true → boundary keep (suc p) ≡ suc (boundary keep p)
  boundary_kept p h k = boundary_next p h ∙ ap (λ (v : ℕ). boundary keep p + v) (eqb-true (slice_index keep p) 1 k) ∙ add-one (boundary keep p)

  module _ (f : Flags keep) where
    pub boundary_gap : (p q : ℕ) → p ≤ q → boundary keep q ≤ boundary keep p + (q - p)
    boundary_gap = sum_gap keep f

    pub boundary_dropped : (p : ℕ) → p < length keep → is_kept keep p ≡ false → boundary keep (suc p) ≡ boundary keep p
    boundary_dropped p h k = boundary_next p h ∙ go (flag keep f p)
      where
        go : (slice_index keep p ≡ 0) ⊎ (slice_index keep p ≡ 1) → boundary keep p + slice_index keep p ≡ boundary keep p
        go (inl z) = rw z (add-zero (boundary keep p))
        go (inr z) = absurd (eqb-false (slice_index keep p) 1 k z)

    pub boundary_most : (p : ℕ) → boundary keep p ≤ p
    boundary_most = sum_most keep f

-- the numbers in lent memory are the boundaries of these flags
pub record Mapped (keep bounds : List ℕ) : Type 0 where
  pub flags : Flags keep
  pub small : length keep ≤ max_instructions
  pub numbers : bounds ≡ tabulate (length keep + 1) (boundary keep)

module _ (keep bounds : List ℕ) (m : Mapped keep bounds) where
  pub mapped_long : length bounds ≡ length keep + 1
  mapped_long = ap length m.numbers ∙ length_tabulate (length keep + 1) (boundary keep)

  pub mapped_at : (p : ℕ) → p ≤ length keep → slice_index bounds p ≡ boundary keep p
  mapped_at p h =
      let lt : p < length keep + 1 = omega arith in
      ap (λ (l : List ℕ). slice_index l p) m.numbers ∙ get_d_tabulate (length keep + 1) (boundary keep) p 0 lt
