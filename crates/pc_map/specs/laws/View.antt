-- The map's look-up of an instruction.
-- Assumes nothing.
use Rattle.std.specs.Prelude.{◌≡◌, ℕ, ◌+◌, Bool, true, false, cond, ◌&&◌, List, length, ◌==◌, nat_lt, slice_index, slice_index_or, refl, Option, Some, None}
use Rattle.std.proofs.Common.{◌∙◌, inl, inr, add-one, arith, eq-eqb, ne_eqb, lt-ltb, le-ltb, ltb-true, ltb-false}
use Rattle.std.proofs.Math.ListN.{get_or-eq_default}
use Rattle.flow.specs.laws.Flags.{flag}
use Rattle.pc_map.specs.Boundary.{is_kept, boundary}
use Rattle.pc_map.specs.laws.Boundaries.{Mapped, mapped_long, mapped_at, boundary_next}

-- an instruction is retained where the next boundary is one more
abbrev pub is_retained : List ℕ → ℕ → Bool
is_retained bounds pc = nat_lt (pc + 1) (length bounds) && (slice_index bounds pc + 1) == slice_index bounds (pc + 1)

abbrev pub instruction_in : List ℕ → ℕ → Option ℕ
instruction_in bounds pc = cond (is_retained bounds pc) (Some (slice_index bounds pc)) None

-- of the boundaries of these flags: a kept place is retained, and goes to its boundary
module _ (keep bounds : List ℕ) (m : Mapped keep bounds) (pc : ℕ) where
  long : length bounds ≡ length keep + 1
  long = mapped_long keep bounds m

  pub retained_mapped : is_retained bounds pc ≡ is_kept keep pc
  retained_mapped = go (nat_lt pc (length keep)) refl
    where
      go : (t : Bool) → nat_lt pc (length keep) ≡ t → is_retained bounds pc ≡ is_kept keep pc
      go true e =
          let h = ltb-true pc (length keep) e in
          let here = mapped_at keep bounds m pc (omega arith) in
          let there = mapped_at keep bounds m (pc + 1) (omega arith) in
          let next : boundary keep (pc + 1) ≡ boundary keep pc + slice_index_or keep pc 0 = rw (add-one pc) (boundary_next keep pc h) in
          let inside = lt-ltb (pc + 1) (length bounds) (omega (arith, long)) in
          elim (flag keep m.flags pc) [
            | inl f ↦ rw (inside, here, there, next, f, ne_eqb (boundary keep pc + 1) (boundary keep pc + 0) (λ g. omega arith))
            | inr f ↦ rw (inside, here, there, next, f, eq-eqb (boundary keep pc + 1) (boundary keep pc + 1) refl)
          ]
      go false e =
          let h = ltb-false pc (length keep) e in
          rw (le-ltb (pc + 1) (length bounds) (omega (arith, long)), get_or-eq_default keep 0 h)

  pub kept_retained : is_kept keep pc ≡ true → is_retained bounds pc ≡ true
  kept_retained k = retained_mapped ∙ k

  pub instruction_mapped : instruction_in bounds pc ≡ cond (is_kept keep pc) (Some (boundary keep pc)) None
  instruction_mapped = rw retained_mapped (go (nat_lt pc (length keep)) refl)
    where
      go : (t : Bool) → nat_lt pc (length keep) ≡ t → cond (is_kept keep pc) (Some (slice_index bounds pc)) None ≡ cond (is_kept keep pc) (Some (boundary keep pc)) None
      go true e = let h = ltb-true pc (length keep) e in rw (mapped_at keep bounds m pc (omega arith))
      go false e = rw (get_or-eq_default keep 0 (ltb-false pc (length keep) e))

  -- so the number that is found is the boundary
  pub moved_boundary : (q : ℕ) → Some q ≡ instruction_in bounds pc → q ≡ boundary keep pc
  moved_boundary q e = go (is_kept keep pc) (e ∙ instruction_mapped)
    where
      go : (t : Bool) → Some q ≡ cond t (Some (boundary keep pc)) None → q ≡ boundary keep pc
      go true e = cc
      go false e = let z : ◌≡◌ {A = ℕ} 0 1 = cc in absurd (omega arith)

-- a retained instruction is found
pub retained_found : (bounds : List ℕ) (pc : ℕ) → is_retained bounds pc ≡ true → None ≡ instruction_in bounds pc → ⊥
retained_found bounds pc h e = let f : None ≡ Some (slice_index bounds pc) = rw h at e in let z : ◌≡◌ {A = ℕ} 0 1 = cc in omega arith
