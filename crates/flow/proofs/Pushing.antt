-- The calls of a walk's turn, put together.
-- Assumes nothing.
use Rattle.std.proofs.Common.{◌≡◌, ℕ, ◌+◌, Bool, true, false, cond, ◌&&◌, eqb, ltb, List, [], ◌∷◌, add-one}
use Rattle.instruction.specs.declared.Instruction.{Instruction}
use Rattle.instruction.specs.Instruction.{class, of_word, imm32_unsigned}
use Rattle.unit.specs.declared.Metadata.{Metadata}
use Rattle.unit.specs.Entry.{kind_loop_end, metadata_at}
use Rattle.effects.specs.laws.Cells.{cell_of}
use Rattle.flow.specs.Branch.{falls, branches, target}
use Rattle.flow.specs.Loop.{is_loop_hint, successors}
use Rattle.flow.specs.laws.Stack.{Pushed, push_none, push_then}
use Rattle.flow.specs.laws.Successors.{near_successors, loop_successors_of}

module _ (n sp p : ℕ) (i : Instruction) (st : List ℕ) where
  pub push_near : (t : ℕ) (a b : Bool) {st₁ st₂ : List ℕ} {r₁ r₂ : ℕ} → a ≡ falls (class i) → Pushed n sp (cond a ((p + 1) ∷ []) []) st st₁ r₁
      → b ≡ branches (class i) → t ≡ target p i → Pushed n r₁ (cond b (t ∷ []) []) st₁ st₂ r₂ → Pushed n sp (near_successors p i) st st₂ r₂
  push_near t a b f one g h two = push_then n sp st (rw (f, add-one p) at one) (rw (g, h) at two)

  module _ (metadata : List ℕ) (h : Bool) (hint : h ≡ is_loop_hint i) where
    pub push_no_hint : h ≡ false → Pushed n sp (loop_successors_of n i metadata p) st st sp
    push_no_hint f = let e : is_loop_hint i ≡ false = cc in rw e (push_none n sp st)

    module _ (d : Metadata) (s : Bool) (there : d ≡ metadata_at metadata p) (sound : s ≡ (eqb d.kind kind_loop_end && ltb d.end n)) (f : h ≡ true) where
      e : is_loop_hint i ≡ true
      e = cc

      pub push_unsound : s ≡ false → Pushed n sp (loop_successors_of n i metadata p) st st sp
      push_unsound g =
          let u : (eqb (metadata_at metadata p).kind kind_loop_end && ltb (metadata_at metadata p).end n) ≡ false = cc in
          rw (e, u) (push_none n sp st)

      pub push_sound : (x : ℕ) {st₁ st₂ : List ℕ} {r₁ r₂ : ℕ} → s ≡ true → x ≡ imm32_unsigned i → Pushed n sp (d.end ∷ []) st st₁ r₁ → Pushed n r₁ (x ∷ []) st₁ st₂ r₂
          → Pushed n sp (loop_successors_of n i metadata p) st st₂ r₂
      push_sound x g k one two =
          let u : (eqb (metadata_at metadata p).kind kind_loop_end && ltb (metadata_at metadata p).end n) ≡ true = cc in
          rw (e, u) (push_then n sp st (rw there at one) (rw k at two))

pub push_all_lem : (n sp p w : ℕ) (i : Instruction) (metadata st : List ℕ) {st₁ st₂ : List ℕ} {r₁ r₂ : ℕ} → i ≡ of_word w
    → Pushed n sp (near_successors p i) st st₁ r₁ → Pushed n r₁ (loop_successors_of n i metadata p) st₁ st₂ r₂
    → Pushed n sp (successors n p (cell_of metadata p w)) st st₂ r₂
unfolding successors
push_all_lem n sp p w i metadata st e one two = push_then n sp st (rw e at one) (rw e at two)
