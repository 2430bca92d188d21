-- Code that can be run: each of its instructions has a meaning, and its branches go to places or to the end.
-- Assumes nothing.
use Rattle.std.specs.Prelude.{◌≡◌, true, ℕ, ◌≤◌, ◌<◌, length}
use Rattle.std.proofs.Common.{arith, lt-ltb, eq-eqb}
use Rattle.instruction.specs.Instruction.{class}
use Rattle.effects.specs.Shape.{cell_at}
use Rattle.effects.specs.Check.{operand_refusal}
use Rattle.flow.specs.Branch.{branches, target}
use Rattle.run.specs.Program.{Function, class_in, has_meaning}

pub record Runnable (F : Function) : Type 0 where
  pub described : length F.cells ≤ F.described
  pub operands : (p : ℕ) → p < length F.cells → operand_refusal F.sections.locals F.sections.tables (cell_at F.cells p) ≡ 0
  -- place n, behind the last instruction, ends the run
  pub targets : (p : ℕ) → p < length F.cells → branches (class (cell_at F.cells p).instruction) ≡ true
      → target p (cell_at F.cells p).instruction ≤ length F.cells

-- each instruction has the meaning of its class
pub runnable_class : {F : Function} → Runnable F → (p : ℕ) → p < length F.cells → class_in F p (cell_at F.cells p) ≡ class (cell_at F.cells p).instruction
unfolding class_in has_meaning
runnable_class {F} A p h =
    let d = A.described in
    rw (lt-ltb p F.described (omega arith), eq-eqb (operand_refusal F.sections.locals F.sections.tables (cell_at F.cells p)) 0 (A.operands p h))
