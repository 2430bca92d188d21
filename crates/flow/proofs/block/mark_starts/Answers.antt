use Rattle.std.proofs.Common.{◌≡◌, ℕ, suc, ◌+◌, Bool, true, false, cond, List, [], ◌∷◌, sym, ◌∙◌, add-one}
use Rattle.instruction.specs.declared.Instruction.{Instruction}
use Rattle.instruction.specs.Instruction.{class}
use Rattle.flow.specs.Branch.{branches, target}
use Rattle.flow.specs.Block.{ends_block}
use Rattle.flow.specs.laws.Block.{no_branch}
use Rattle.flow.specs.laws.BranchLaws.{bit_one}
use Rattle.flow.specs.laws.Leaders.{starts}
use Rattle.flow.specs.laws.Marking.{mark_append}
use Rattle.flow.specs.Reach.{mark_all}
use Rattle.flow.proofs.block.mark_starts.Goals as goal

-- the block goes on
no_marks : (m : List ℕ) (p : ℕ) (i : Instruction) (e : Bool) → e ≡ ends_block (class i) → e ≡ false → m ≡ mark_all m (starts p i)
unfolding mark_all
no_marks m p i e f g =
    let ends : ends_block (class i) ≡ false = sym f ∙ g in
    rw (no_branch (class i) ends, ends)

-- the answers of the calls, put together
two-marks : (m m₁ m₂ : List ℕ) (p t : ℕ) (i : Instruction) (b e : Bool) → b ≡ branches (class i) → t ≡ target p i
    → m₁ ≡ mark_all m (cond b (t ∷ []) []) → e ≡ ends_block (class i) → e ≡ true → m₂ ≡ mark_all m₁ ((p + 1) ∷ []) → m₂ ≡ mark_all m (starts p i)
two-marks m m₁ m₂ p t i b e f g h j n l =
    let ends : ends_block (class i) ≡ true = sym j ∙ n in
    rw (l, h, f, g, add-one p, ends) (sym (mark_append m (cond (branches (class i)) (target p i ∷ []) []) (suc p ∷ [])))

pub returns-then-not-ends_block : goal.returns-then-not-ends_block
returns-then-not-ends_block c = no_marks _ _ _ _ c.ends_block.ensures c.if-not-ends_block.true

pub returns : goal.returns
returns c =
    two-marks _ _ _ _ _ _ _ _ (bit_one _ (rw c.class-class.ensures at c.branches.ensures)) c.target.ensures c.mark_if.ensures c.ends_block.ensures c.if-not-ends_block.false c.mark_if-2.ensures
