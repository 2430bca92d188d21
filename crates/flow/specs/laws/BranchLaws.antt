-- Branches by their class.
-- Assumes nothing.
use Rattle.std.specs.Prelude.{◌≡◌, ℕ, zero, suc, ◌+◌, ◌%◌, ◌^◌, ◌<◌, ◌≤◌, Bool, true, false, cond, List, length, ◌==◌, ◌≢◌, slice_index}
use Rattle.std.proofs.Math.Path.{refl}
use Rattle.std.proofs.lemmas.Bool.{false≢true}
use Rattle.std.proofs.Common.{add-zero, add-one, arith}
use mir.Val.{bool_byte}
use borrow.Author.Tests.{lt-ltb, le-ltb, ltb-true}
use Rattle.instruction.specs.declared.Instruction.{Instruction}
use Rattle.instruction.specs.declared.Class.{Class}
use Rattle.instruction.specs.declared.Class.TheVariants.{Hint, LoadInt, LoadConst, Copy, CopyN, Unary, Binary, Jump, JumpIf, JumpIfNot, ForLoop, Return, Panic, Outside, Invalid}
use Rattle.instruction.specs.Class.{number_of}
use Rattle.instruction.specs.Instruction.{class, of_word, imm32, for_loop_distance}
use Rattle.unit.specs.Refusal.{branch_outside}
use Rattle.effects.specs.Check.{Passed}
use Rattle.effects.specs.laws.Cells.{cells_by, cells_long}
use Rattle.flow.specs.Branch.{branches, target_by, target, branch_inside, branch_check_in, branch_check}
use Rattle.flow.specs.laws.Checking.{passed_at, all_passed}

-- the target of what is no branch is the next place
pub next_target : (x : Class) (p : ℕ) (i : Instruction) → branches x ≡ false → target_by x p i ≡ suc p
unfolding branches target_by
next_target Hint p i e = refl
next_target LoadInt p i e = refl
next_target LoadConst p i e = refl
next_target Copy p i e = refl
next_target CopyN p i e = refl
next_target Unary p i e = refl
next_target Binary p i e = refl
next_target Jump p i e = let z : ◌≡◌ {A = ℕ} 0 1 = cc in absurd (omega arith)
next_target JumpIf p i e = let z : ◌≡◌ {A = ℕ} 0 1 = cc in absurd (omega arith)
next_target JumpIfNot p i e = let z : ◌≡◌ {A = ℕ} 0 1 = cc in absurd (omega arith)
next_target ForLoop p i e = let z : ◌≡◌ {A = ℕ} 0 1 = cc in absurd (omega arith)
next_target Return p i e = refl
next_target Panic p i e = refl
next_target Outside p i e = refl
next_target Invalid p i e = refl

-- a branch's target, by whether it is ForLoop
pub loop_target : (x : Class) (p : ℕ) (i : Instruction) → branches x ≡ true → (p + bool_byte (number_of x == 10) + cond (number_of x == 10) (for_loop_distance i) (imm32 i)) % 2 ^ 64 ≡ target_by x p i
unfolding branches number_of target_by
loop_target Hint p i e = absurd (false≢true e)
loop_target LoadInt p i e = absurd (false≢true e)
loop_target LoadConst p i e = absurd (false≢true e)
loop_target Copy p i e = absurd (false≢true e)
loop_target CopyN p i e = absurd (false≢true e)
loop_target Unary p i e = absurd (false≢true e)
loop_target Binary p i e = absurd (false≢true e)
loop_target Jump p i e = rw (add-zero p)
loop_target JumpIf p i e = rw (add-zero p)
loop_target JumpIfNot p i e = rw (add-zero p)
loop_target ForLoop p i e = rw (add-one p)
loop_target Return p i e = absurd (false≢true e)
loop_target Panic p i e = absurd (false≢true e)
loop_target Outside p i e = absurd (false≢true e)
loop_target Invalid p i e = absurd (false≢true e)

-- a bit of a constant, as a truth value
pub bit_byte : (v : ℕ) (b : Bool) → v < 2 → (v == 1) ≡ b → v ≡ bool_byte b
bit_byte zero b h e = rw (← e)
bit_byte (suc zero) b h e = rw (← e)
bit_byte (suc (suc v)) b h e = absurd (omega arith)

pub byte_below : (x : Bool) → bool_byte x < 2
byte_below true = omega arith
byte_below false = omega arith

pub bit_one : {r : ℕ} (x : Bool) → r ≡ bool_byte x → (r == 1) ≡ x
bit_one true e = rw e
bit_one false e = rw e

pub bit_set : {r : ℕ} (x : Bool) → r ≡ bool_byte x → r ≡ 1 → x ≡ true
bit_set true e f = refl
bit_set false e f = absurd (omega (arith, e))

pub bit_clear : {r : ℕ} (x : Bool) → r ≡ bool_byte x → (r ≢ 1) → x ≡ false
bit_clear true e f = absurd (f e)
bit_clear false e f = refl

-- the three cases of `branch_inside`
module _ (n p : ℕ) (i : Instruction) where
  pub inside_none : branches (class i) ≡ false → branch_inside n p i ≡ true
  unfolding branch_inside
  inside_none e = rw e

  pub inside_yes : branches (class i) ≡ true → target p i < n → branch_inside n p i ≡ true
  unfolding branch_inside
  inside_yes e h = rw (e, lt-ltb (target p i) n h)

  pub inside_no : branches (class i) ≡ true → n ≤ target p i → branch_inside n p i ≡ false
  unfolding branch_inside
  inside_no e h = rw (e, le-ltb (target p i) n h)

  pub inside_target : branch_inside n p i ≡ true → branches (class i) ≡ true → target p i < n
  unfolding branch_inside
  inside_target e b = ltb-true (target p i) n (rw b at e)

-- refusal 8 of the cells in lent memory: none of their branches leaves
abbrev pub BranchesInside : List ℕ → Type 0
BranchesInside words = (p : ℕ) → p < length words → branch_inside (length words) p (of_word (slice_index words p)) ≡ true

module _ (words metadata : List ℕ) where
  pub branches_inside : branch_check (cells_by words metadata) ≡ Passed → BranchesInside words
  unfolding branch_check_in
  branches_inside e p h =
      let zero : cond (branch_inside (length (cells_by words metadata)) p (of_word (slice_index words p))) 0 branch_outside ≡ 0 = passed_at _ words metadata e p h in
      go (branch_inside (length words) p (of_word (slice_index words p))) (rw (cells_long words metadata) at zero)
    where
      go : (t : Bool) → cond t 0 branch_outside ≡ 0 → t ≡ true
      go true z = refl
      go false z = absurd (omega arith)

  pub inside_branches : BranchesInside words → branch_check (cells_by words metadata) ≡ Passed
  unfolding branch_check_in
  inside_branches f =
      all_passed (λ p x. cond (branch_inside (length (cells_by words metadata)) p x.instruction) 0 branch_outside) words metadata (λ p h.
      let yes = f p h in
      rw (cells_long words metadata, yes))
