-- What relocation asks of the kept places, from the two checks.
-- Assumes nothing.
use Rattle.std.specs.Prelude.{◌≡◌, ℕ, ◌+◌, ◌*◌, ◌<◌, ◌≤◌, Bool, true, false, cond, ◌&&◌, List, length, nat_le, slice_index, refl}
use Rattle.std.proofs.Common.{ap, ◌∙◌, arith, eq-eqb, leb-true}
use Rattle.instruction.specs.declared.Instruction.{Instruction}
use Rattle.instruction.specs.Instruction.{of_word, imm32_unsigned, class}
use Rattle.unit.specs.Entry.{metadata_at}
use Rattle.unit.specs.Refusal.{lost_loop}
use Rattle.unit.specs.Size.{max_instructions, metadata_size, result_size}
use Rattle.effects.specs.Check.{Passed}
use Rattle.effects.specs.laws.Cells.{cell_of, cells_by, cells_long}
use Rattle.flow.specs.Branch.{branches, target}
use Rattle.flow.specs.laws.BranchLaws.{BranchesInside, inside_target}
use Rattle.flow.specs.laws.Checking.{passed_at}
use Rattle.flow.specs.Loop.{is_loop_hint}
use Rattle.pc_map.specs.Boundary.{is_kept, boundary}
use Rattle.pc_map.specs.laws.Boundaries.{mapped_long, boundary_most}
use Rattle.pc_map.specs.laws.Listed.{Listed, kept_many, kept_each}
use Rattle.pc_map.specs.Relocate.{relocation_check}
use Rattle.pc_map.specs.laws.Relocated.{relocation_test}
use Rattle.pc_map.specs.laws.View.{is_retained, kept_retained}

-- a branch's target is a place or the end, and so is a loop hint's exit
abbrev pub Movable : ℕ → ℕ → Instruction → Type 0
Movable n p i = (branches (class i) ≡ true → target p i ≤ n) × (is_loop_hint i ≡ true → imm32_unsigned i ≤ n)

-- the places of a list, and their branches
abbrev pub AllMovable : List ℕ → List ℕ → Type 0
AllMovable kept words = (q : ℕ) → q < length kept → (slice_index kept q < length words) × Movable (length words) (slice_index kept q) (of_word (slice_index words (slice_index kept q)))

-- "a loop end must itself be retained"
abbrev pub EndRetained : List ℕ → List ℕ → List ℕ → ℕ → Type 0
EndRetained words metadata bounds p = is_loop_hint (of_word (slice_index words p)) ≡ true → is_retained bounds (metadata_at metadata p).end ≡ true

abbrev pub EndsRetained : List ℕ → List ℕ → List ℕ → List ℕ → Type 0
EndsRetained kept words metadata bounds = (q : ℕ) → q < length kept → EndRetained words metadata bounds (slice_index kept q)

module _ (keep words metadata : List ℕ) (passed : relocation_check keep (cells_by words metadata) ≡ Passed) where
  -- a kept loop hint's exit and end
  hinted : (p : ℕ) → p < length words → is_kept keep p ≡ true → is_loop_hint (of_word (slice_index words p)) ≡ true
      → (imm32_unsigned (of_word (slice_index words p)) ≤ length words) × (is_kept keep (metadata_at metadata p).end ≡ true)
  unfolding relocation_check
  hinted p h k l =
      let n = length (cells_by words metadata) in
      let zero : relocation_test keep n p (cell_of metadata p (slice_index words p)) ≡ 0 = passed_at (relocation_test keep n) words metadata passed p h in
      let tests : cond (nat_le (imm32_unsigned (of_word (slice_index words p))) n && is_kept keep (metadata_at metadata p).end) 0 lost_loop ≡ 0 = rw (k, l) at zero in
      let r = both (nat_le (imm32_unsigned (of_word (slice_index words p))) n) (is_kept keep (metadata_at metadata p).end) tests in
      (rw (cells_long words metadata) at (leb-true (imm32_unsigned (of_word (slice_index words p))) n r.0), r.1)
    where
      both : (s t : Bool) → cond (s && t) 0 lost_loop ≡ 0 → (s ≡ true) × (t ≡ true)
      both true true e = (refl, refl)
      both true false e = absurd (omega arith)
      both false t e = absurd (omega arith)

-- what the list of the kept places must fulfil to be written: room is that of the result
pub record Writable (words metadata bounds kept : List ℕ) (room : ℕ) : Type 0 where
  pub small : length words ≤ max_instructions
  pub few : length kept ≤ length words
  pub bounds_long : length bounds ≡ length words + 1
  pub entries : metadata_size * length words ≤ length metadata
  pub movable : AllMovable kept words
  pub ends : EndsRetained kept words metadata bounds
  pub fits : result_size (length kept) 0 ≤ room

pub writable : (words metadata keep bounds kept : List ℕ) (room : ℕ) → Listed keep bounds kept (length words) → metadata_size * length words ≤ length metadata → BranchesInside words
    → relocation_check keep (cells_by words metadata) ≡ Passed → result_size (boundary keep (length words)) 0 ≤ room → Writable words metadata bounds kept room
writable words metadata keep bounds kept room l entries inside passed fits = record {
  small = rw (← l.long) l.mapped.small;
  few = rw (l.list, kept_many keep l.mapped.flags) (omega (arith, l.long, boundary_most keep l.mapped.flags (length keep)));
  bounds_long = mapped_long keep bounds l.mapped ∙ ap (λ (k : ℕ). k + 1) l.long;
  entries = entries;
  movable = rw l.list (kept_each (λ p. (p < length words) × Movable (length words) p (of_word (slice_index words p))) keep movable);
  ends = rw l.list (kept_each (EndRetained words metadata bounds) keep (λ p h e g. kept_retained keep bounds l.mapped (metadata_at metadata p).end (hint p h e g).1));
  fits = rw (l.list, kept_many keep l.mapped.flags, l.long) fits;
}
  where
    hint : (p : ℕ) → p < length keep → slice_index keep p ≡ 1 → is_loop_hint (of_word (slice_index words p)) ≡ true → (imm32_unsigned (of_word (slice_index words p)) ≤ length words) × (is_kept keep (metadata_at metadata p).end ≡ true)
    hint p h e g = hinted keep words metadata passed p (omega (arith, l.long)) (eq-eqb (slice_index keep p) 1 e) g

    movable : (p : ℕ) → p < length keep → slice_index keep p ≡ 1 → (p < length words) × Movable (length words) p (of_word (slice_index words p))
    movable p h e =
        let h' : p < length words = omega (arith, l.long) in
        (h', (λ b. let lt = inside_target (length words) p (of_word (slice_index words p)) (inside p h') b in omega arith, λ g. (hint p h e g).0))
