-- Removal over lists of cells: conditions on kept places and live slots, apart from how a pass finds them, under which the kept
-- cells, relocated, run as all of them do.
-- Assumes nothing.
use Rattle.std.specs.Prelude.{◌≡◌, Bool, List, ℕ, suc, ◌≤◌, ◌<◌}
use Rattle.std.proofs.Math.Bool.{true, false}
use Rattle.std.proofs.Math.ListN.{length}
use Rattle.instruction.specs.declared.Class.{Class}
use Rattle.instruction.specs.declared.Class.TheVariants.{Hint, LoadInt, LoadConst, Copy, CopyN, Unary, Binary, Jump, JumpIf, JumpIfNot, ForLoop, Return, Panic, Outside, Invalid}
use Rattle.instruction.specs.Instruction.{class}
use Rattle.effects.specs.Shape.{Tables, Cell, cell_at}
use Rattle.effects.specs.Effects.{all_reads, range_has, any_of}
use Rattle.flow.specs.Branch.{target_by, target}
use Rattle.flow.specs.laws.Flags.{Flags}
use Rattle.pc_map.specs.Boundary.{is_kept, boundary}
use Rattle.pc_map.specs.Relocate.{relocate}
use Rattle.run.specs.Program.{Function, given_ranges, slots_of}
use Rattle.run.specs.laws.Step.{Succ}
use Rattle.run.specs.laws.Frame.{In}
use Rattle.run.specs.laws.Runnable.{Runnable}

-- a silent class that does not branch
unfoldable pub passes : Class → Bool
passes Hint = true
passes LoadInt = true
passes LoadConst = true
passes Copy = true
passes CopyN = true
passes Unary = true
passes Binary = true
passes Jump = false
passes JumpIf = false
passes JumpIfNot = false
passes ForLoop = false
passes Return = false
passes Panic = false
passes Outside = false
passes Invalid = false

module _ (F : Function) (keep : List ℕ) (reach : ℕ → Type 0) (live : ℕ → ℕ → Type 0) where
  abbrev cell : ℕ → Cell
  cell p = cell_at F.cells p

  abbrev class_at : ℕ → Class
  class_at p = class (cell p).instruction

  abbrev T : Tables
  T = F.sections.tables

  abbrev pub gives : ℕ → ℕ → Bool
  gives p s = any_of (range_has s) (given_ranges T (cell p))

  -- Why a place may be removed.
  pub data Dropped (p : ℕ) : Type 0 where
    -- a silent instruction that gives no live slot a word
    store : passes (class_at p) ≡ true → ((s : ℕ) → live (suc p) s → live p s) → ((s : ℕ) → live (suc p) s → gives p s ≡ false) → Dropped p
    -- a jump forward over nothing that is kept
    skip : class_at p ≡ Jump → p < target_by Jump p (cell p).instruction → boundary keep (target_by Jump p (cell p).instruction) ≡ boundary keep p
        → ((s : ℕ) → live (target_by Jump p (cell p).instruction) s → live p s) → Dropped p

  -- What must hold of kept places and live slots, at the reached places.
  pub record Removable : Type 0 where
    pub runs : Runnable F
    pub flags : Flags keep
    pub long : length F.cells ≡ length keep
    -- a kept branch goes to the boundary of its target
    pub moved : (p : ℕ) → p < length F.cells → is_kept keep p ≡ true
        → target_by (class_at p) (boundary keep p) (relocate keep p (cell p)).instruction ≡ boundary keep (target p (cell p).instruction)
    pub within : (p : ℕ) → reach p → p ≤ length F.cells
    pub reads : (p : ℕ) → p < length F.cells → reach p → is_kept keep p ≡ true → (s : ℕ) → In s (slots_of (all_reads T (cell p))) → live p s
    pub flows : (p : ℕ) → p < length F.cells → reach p → is_kept keep p ≡ true → (q : ℕ) → Succ (class_at p) p (cell p).instruction q
        → (s : ℕ) → live q s → gives p s ≡ false → live p s
    pub drops : (p : ℕ) → p < length F.cells → reach p → is_kept keep p ≡ false → Dropped p
