-- A relocated branch goes to the boundary of its old target.
-- Assumes nothing.
use Rattle.std.specs.Prelude.{◌≡◌, ℕ, suc, ◌+◌, ◌-◌, ◌/◌, ◌%◌, ◌^◌, ◌<◌, ◌≤◌, Bool, true, false, List, length, nat_lt}
use Rattle.std.proofs.Math.Path.{refl, ap}
use Rattle.std.proofs.Common.{sym, ◌∙◌, arith}
use borrow.Author.Tests.{ltb-true, ltb-false}
use Rattle.words.specs.Word.{sign_extend}
use Rattle.words.specs.laws.Word.{sign_plus, sign_minus}
use Rattle.instruction.specs.declared.Instruction.{Instruction}
use Rattle.instruction.specs.declared.Class.{Class}
use Rattle.instruction.specs.declared.Class.TheVariants.{Hint, LoadInt, LoadConst, Copy, CopyN, Unary, Binary, Jump, JumpIf, JumpIfNot, ForLoop, Return, Panic, Outside, Invalid}
use Rattle.instruction.specs.Instruction.{imm32_unsigned, imm32, with_imm32, for_loop_distance, class}
use Rattle.unit.specs.Size.{max_instructions}
use Rattle.effects.specs.Shape.{Cell}
use Rattle.flow.specs.Branch.{branches, target_by, target}
use Rattle.flow.specs.laws.Flags.{Flags}
use Rattle.pc_map.specs.Boundary.{is_kept, boundary}
use Rattle.pc_map.specs.laws.Boundaries.{boundary_mono, boundary_gap, boundary_most, boundary_kept}
use Rattle.pc_map.specs.Relocate.{moved_jump, moved_for_loop, relocate_by, relocate}

-- the immediate that is stored is read back
stored : (i : Instruction) (v : ℕ) → v < 2 ^ 32 → imm32_unsigned (with_imm32 i v) ≡ v
stored i v h = let e : v / 65536 % 65536 ≡ v / 65536 = omega arith in rw e (omega arith)

-- a distance in 32 bits, and in 16, from one place to another
far : (s t : ℕ) → s ≤ max_instructions → t ≤ max_instructions → (s + sign_extend 32 ((t + (2 ^ 32 - s)) % 2 ^ 32)) % 2 ^ 64 ≡ t
far s t hs ht = go (nat_lt t s) refl
  where
    go : (b : Bool) → nat_lt t s ≡ b → (s + sign_extend 32 ((t + (2 ^ 32 - s)) % 2 ^ 32)) % 2 ^ 64 ≡ t
    go true e =
        let lt = ltb-true t s e in
        let v : (t + (2 ^ 32 - s)) % 2 ^ 32 ≡ 2 ^ 32 - (s - t) = omega arith in
        rw (v, sign_minus 32 (2 ^ 32 - (s - t)) (omega arith)) (omega arith)
    go false e =
        let le = ltb-false t s e in
        let v : (t + (2 ^ 32 - s)) % 2 ^ 32 ≡ t - s = omega arith in
        rw (v, sign_plus 32 (t - s) (omega arith)) (omega arith)

near : (s t : ℕ) → s ≤ max_instructions → t ≤ max_instructions → t ≤ s + 32767 → s ≤ t + 32768
    → (s + sign_extend 16 ((t + (65536 - s) % 65536) % 65536)) % 2 ^ 64 ≡ t
near s t hs ht up down = go (nat_lt t s) refl
  where
    go : (b : Bool) → nat_lt t s ≡ b → (s + sign_extend 16 ((t + (65536 - s) % 65536) % 65536)) % 2 ^ 64 ≡ t
    go true e =
        let lt = ltb-true t s e in
        let v : (t + (65536 - s) % 65536) % 65536 ≡ 65536 - (s - t) = omega arith in
        rw (v, sign_minus 16 (65536 - (s - t)) (omega arith)) (omega arith)
    go false e =
        let le = ltb-false t s e in
        let v : (t + (65536 - s) % 65536) % 65536 ≡ t - s = omega arith in
        rw (v, sign_plus 16 (t - s) (omega arith)) (omega arith)

-- ForLoop's target is near the next place
span : (s c t : ℕ) → s ≤ max_instructions → (s + sign_extend 16 c) % 2 ^ 64 ≡ t → t ≤ max_instructions → (t ≤ s + 32767) × (s ≤ t + 32768)
span s c t hs e ht = go (nat_lt c 32768) refl
  where
    go : (b : Bool) → nat_lt c 32768 ≡ b → (t ≤ s + 32767) × (s ≤ t + 32768)
    go true q =
        let small = ltb-true c 32768 q in
        let d : (s + c) % 2 ^ 64 ≡ t = rw (← sign_plus 16 c small) e in
        (omega arith, omega arith)
    go false q =
        let large = ltb-false c 32768 q in
        let d : (s + (2 ^ 64 - (65536 - c))) % 2 ^ 64 ≡ t = rw (← sign_minus 16 c large) e in
        (omega arith, omega arith)

module _ (keep : List ℕ) (f : Flags keep) (small : length keep ≤ max_instructions) (p : ℕ) (h : p < length keep) where
  module _ (i : Instruction) (inside : target p i ≤ length keep) where
    -- the three jumps
    pub jump_moves : (boundary keep p + imm32 (moved_jump keep p i)) % 2 ^ 64 ≡ boundary keep (target p i)
    unfolding moved_jump
    jump_moves =
        let bp = boundary_most keep f p in
        let bt = boundary_most keep f (target p i) in
        rw (stored i ((boundary keep (target p i) + (2 ^ 32 - boundary keep p)) % 2 ^ 32) (omega arith))
        (far (boundary keep p) (boundary keep (target p i)) (omega arith) (omega arith))

    -- ForLoop: its distance still fits 16 bits
    pub for_loop_moves : is_kept keep p ≡ true → (suc p + for_loop_distance i) % 2 ^ 64 ≡ target p i
        → (suc (boundary keep p) + for_loop_distance (moved_for_loop keep p i)) % 2 ^ 64 ≡ boundary keep (target p i)
    unfolding moved_for_loop
    for_loop_moves kept e =
        let r = span (suc p) i.c (target p i) (omega arith) e (omega arith) in
        let next = boundary_kept keep p h kept in
        let bt = boundary_most keep f (target p i) in
        let bp = boundary_most keep f p in
        go (nat_lt (target p i) (suc p)) refl r next bt bp
      where
        go : (b : Bool) → nat_lt (target p i) (suc p) ≡ b → (target p i ≤ suc p + 32767) × (suc p ≤ target p i + 32768) → boundary keep (suc p) ≡ suc (boundary keep p)
            → boundary keep (target p i) ≤ target p i → boundary keep p ≤ p
            → (suc (boundary keep p) + sign_extend 16 ((boundary keep (target p i) + (65536 - suc (boundary keep p)) % 65536) % 65536)) % 2 ^ 64 ≡ boundary keep (target p i)
        go true q r next bt bp =
            let lt = ltb-true (target p i) (suc p) q in
            let m = boundary_mono keep (target p i) (suc p) (omega arith) in
            let g = boundary_gap keep f (target p i) (suc p) (omega arith) in
            near (suc (boundary keep p)) (boundary keep (target p i)) (omega arith) (omega arith) (omega arith) (omega (arith, r.1))
        go false q r next bt bp =
            let le = ltb-false (target p i) (suc p) q in
            let m = boundary_mono keep (suc p) (target p i) le in
            let g = boundary_gap keep f (suc p) (target p i) le in
            near (suc (boundary keep p)) (boundary keep (target p i)) (omega arith) (omega arith) (omega (arith, r.0)) (omega arith)

  -- the instruction at a kept place, moved to the place's boundary, branches to the boundary of its target
  pub target_moves : (x : Cell) → is_kept keep p ≡ true → branches (class x.instruction) ≡ true → target p x.instruction ≤ length keep
      → target (boundary keep p) (relocate keep p x).instruction ≡ boundary keep (target p x.instruction)
  unfolding branches target_by moved_jump moved_for_loop relocate_by
  target_moves x kept b inside = go (class x.instruction) refl b
    where
      moved : (k : Class) → class x.instruction ≡ k → (j : Instruction) → (relocate_by keep k p x).instruction ≡ j → class j ≡ class x.instruction
          → target (boundary keep p) (relocate keep p x).instruction ≡ target_by k (boundary keep p) j
      moved k e j r c =
          ap (λ (l : Instruction). target (boundary keep p) l) (ap (λ (l : Class). (relocate_by keep l p x).instruction) e ∙ r)
          ∙ ap (λ (l : Class). target_by l (boundary keep p) j) (c ∙ e)

      go : (k : Class) → class x.instruction ≡ k → branches k ≡ true → target (boundary keep p) (relocate keep p x).instruction ≡ boundary keep (target p x.instruction)
      go Jump e y = moved Jump e (moved_jump keep p x.instruction) refl refl ∙ jump_moves x.instruction inside
      go JumpIf e y = moved JumpIf e (moved_jump keep p x.instruction) refl refl ∙ jump_moves x.instruction inside
      go JumpIfNot e y = moved JumpIfNot e (moved_jump keep p x.instruction) refl refl ∙ jump_moves x.instruction inside
      go ForLoop e y =
          moved ForLoop e (moved_for_loop keep p x.instruction) refl refl
          ∙ for_loop_moves x.instruction inside kept (sym (ap (λ (k : Class). target_by k p x.instruction) e))
      go Hint e y = let z : ◌≡◌ {A = ℕ} 0 1 = cc in absurd (omega arith)
      go LoadInt e y = let z : ◌≡◌ {A = ℕ} 0 1 = cc in absurd (omega arith)
      go LoadConst e y = let z : ◌≡◌ {A = ℕ} 0 1 = cc in absurd (omega arith)
      go Copy e y = let z : ◌≡◌ {A = ℕ} 0 1 = cc in absurd (omega arith)
      go CopyN e y = let z : ◌≡◌ {A = ℕ} 0 1 = cc in absurd (omega arith)
      go Unary e y = let z : ◌≡◌ {A = ℕ} 0 1 = cc in absurd (omega arith)
      go Binary e y = let z : ◌≡◌ {A = ℕ} 0 1 = cc in absurd (omega arith)
      go Return e y = let z : ◌≡◌ {A = ℕ} 0 1 = cc in absurd (omega arith)
      go Panic e y = let z : ◌≡◌ {A = ℕ} 0 1 = cc in absurd (omega arith)
      go Outside e y = let z : ◌≡◌ {A = ℕ} 0 1 = cc in absurd (omega arith)
      go Invalid e y = let z : ◌≡◌ {A = ℕ} 0 1 = cc in absurd (omega arith)
