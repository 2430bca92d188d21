-- Relocation by the numbers in lent memory.
-- Assumes nothing.
use Rattle.std.proofs.Common.{◌≡◌, ℕ, suc, ◌+◌, ◌-◌, ◌%◌, ◌^◌, ◌<◌, ◌≤◌, Bool, true, false, ltb, List, length, get_or, Some, sym, refl, ap, ◌∙◌, arith, ltb-false, ltb-true}
use Rattle.instruction.specs.declared.Instruction.{Instruction}
use Rattle.instruction.specs.declared.Class.{Class}
use Rattle.instruction.specs.Instruction.{imm32_unsigned, with_imm32, class}
use Rattle.unit.specs.declared.Metadata.{Metadata}
use Rattle.effects.specs.Shape.{Cell}
use Rattle.flow.specs.Branch.{target}
use Rattle.flow.specs.Loop.{is_loop_hint}
use Rattle.pc_map.specs.Boundary.{boundary}
use Rattle.pc_map.specs.laws.Boundaries.{Mapped, mapped_long, mapped_at, boundary_most}
use Rattle.pc_map.specs.Relocate.{moved_jump, moved_for_loop, relocate_by, relocate}
use Rattle.pc_map.specs.laws.Relocated.{cell, moved_exit, moved_metadata}
use Rattle.pc_map.specs.laws.View.{instruction_in, moved_boundary}

-- the low 16 bits of a difference modulo 2 ^ 32
low : (a b r : ℕ) → a ≤ 65536 → b < 65536 → r < 2 ^ 32 → (r + (b + 1)) % 2 ^ 32 ≡ a → r % 65536 ≡ (a + (65536 - suc b) % 65536) % 65536
low a b r ha hb hr e = go (ltb b a) refl
  where
    below : (d : ℕ) → d ≤ 65535 → (4294967295 - d) % 65536 ≡ 65535 - d
    below d h = omega arith

    above : (a b : ℕ) → b < a → a ≤ 65536 → (a - (b + 1)) % 65536 ≡ (a + (65536 - suc b) % 65536) % 65536
    above a b h k =
        let w : (65536 - suc b) % 65536 ≡ 65536 - suc b = omega arith in
        rw w (omega arith)

    go : (t : Bool) → ltb b a ≡ t → r % 65536 ≡ (a + (65536 - suc b) % 65536) % 65536
    go true q =
        let lt = ltb-true b a q in
        let v : r ≡ a - (b + 1) = omega arith in
        rw v (above a b lt ha)
    go false q =
        let le = ltb-false b a q in
        let v : r ≡ 4294967295 - (b - a) = omega arith in
        let w : (a + (65536 - suc b) % 65536) % 65536 ≡ 65535 - (b - a) = omega arith in
        rw (v, w) (below (b - a) (omega arith))

-- by the class that was asked for
pub relocated : (keep : List ℕ) (p : ℕ) (x : Cell) (k : Class) (j : Instruction) → k ≡ class x.instruction → j ≡ (relocate_by keep k p x).instruction → j ≡ (relocate keep p x).instruction
relocated keep p x k j e f = f ∙ ap (λ (l : Class). (relocate_by keep l p x).instruction) e

module _ (keep bounds : List ℕ) (m : Mapped keep bounds) where
  number : (p : ℕ) → p < length bounds → (get_or bounds p 0 ≡ boundary keep p) × (boundary keep p ≤ p)
  number p h = (mapped_at keep bounds m p (omega (arith, mapped_long keep bounds m)), boundary_most keep m.flags p)

  module _ (p : ℕ) (i : Instruction) (t : ℕ) (goal : t ≡ target p i) (near : t < length bounds) (small : length bounds ≤ 65537) where
    pub jump_moved : (u w : ℕ) (j : Instruction) → p < length bounds → u ≡ get_or bounds p 0 → w ≡ get_or bounds t 0 → j ≡ with_imm32 i ((w + (2 ^ 32 - u)) % 2 ^ 32) → j ≡ moved_jump keep p i
    unfolding moved_jump
    jump_moved u w j h here there same =
        let bp = number p h in
        let bt = number t near in
        same ∙ rw (here, there, bp.0, bt.0, goal)

    pub for_loop_moved : (u w r : ℕ) → p + 1 < length bounds → u ≡ get_or bounds p 0 → w ≡ get_or bounds t 0 → r ≡ (w + (2 ^ 32 - (u + 1) % 2 ^ 32)) % 2 ^ 32
        → record { op = i.op; flags = i.flags; a = i.a; b = i.b; c = r % 65536 } ≡ moved_for_loop keep p i
    unfolding moved_for_loop
    for_loop_moved u w r h here there e =
        let bp = number p (omega arith) in
        let bt = number t near in
        let v = low (boundary keep t) (boundary keep p) r (omega arith) (omega arith) (omega arith) (omega arith) in
        rw (← goal, v)

  module _ (i : Instruction) (h : Bool) (hint : h ≡ is_loop_hint i) where
    pub exit_moved : (x v : ℕ) (j : Instruction) → h ≡ true → x ≡ imm32_unsigned i → x < length bounds → v ≡ get_or bounds x 0 → j ≡ with_imm32 i v → j ≡ moved_exit keep i
    exit_moved x v j e f near there same =
        let b = number x near in
        let t : is_loop_hint i ≡ true = cc in
        rw t (same ∙ rw (there, b.0, f))

    pub exit_none : h ≡ false → i ≡ moved_exit keep i
    exit_none e = let t : is_loop_hint i ≡ false = cc in rw t

    module _ (d : Metadata) (p : ℕ) where
      pub end_moved : (v : ℕ) → h ≡ true → Some v ≡ instruction_in bounds d.end
          → record { kind = d.kind; ok = d.ok; array = d.array; first = d.first; second = d.second; end = v } ≡ (relocate keep p (cell i d)).metadata
      end_moved v e found =
          let t : is_loop_hint i ≡ true = cc in
          rw (moved_boundary keep bounds m d.end v found) (sym (moved_metadata keep p (cell i d) ∙ rw t))

      pub end_none : h ≡ false → d ≡ (relocate keep p (cell i d)).metadata
      end_none e = let t : is_loop_hint i ≡ false = cc in sym (moved_metadata keep p (cell i d) ∙ rw t)
