-- The successors of a place of the cells in lent memory.
-- Assumes nothing.
use Rattle.std.specs.Prelude.{◌≡◌, ℕ, suc, ◌<◌, ◌≤◌, Bool, true, false, cond, not, ◌&&◌, List, [], ◌∷◌, ◌++◌, length, slice_index}
use Rattle.std.proofs.Common.{ap, arith, length-append}
use Rattle.std.proofs.lemmas.Bool.{not-true}
use Rattle.words.specs.laws.Truth.{both}
use Rattle.instruction.specs.declared.Instruction.{Instruction}
use Rattle.instruction.specs.Class.{class_of}
use Rattle.instruction.specs.Instruction.{class}
use Rattle.unit.specs.Entry.{metadata_at}
use Rattle.effects.specs.Shape.{Cell, cell_at}
use Rattle.effects.specs.laws.Cells.{cell_of, cells_by, cells_long, cell_at_lem}
use Rattle.flow.specs.laws.Block.{no_branch}
use Rattle.flow.specs.Branch.{falls, branches, target}
use Rattle.flow.specs.laws.Control.{is_control, ends_none, no_loop_hint}
use Rattle.flow.specs.Loop.{is_loop_hint, is_sound, loop_end, loop_exit, successors}

-- the next place and the branch's target; a sound loop hint's end and exit
abbrev pub near_successors : ℕ → Instruction → List ℕ
near_successors p i = cond (falls (class i)) (suc p ∷ []) [] ++ cond (branches (class i)) (target p i ∷ []) []

abbrev pub loop_successors : ℕ → Cell → List ℕ
loop_successors n x = cond (is_loop_hint x.instruction && is_sound n x) (loop_end x ∷ loop_exit x ∷ []) []

abbrev pub loop_successors_of : ℕ → Instruction → List ℕ → ℕ → List ℕ
loop_successors_of n i metadata p = loop_successors n (record { instruction = i; metadata = metadata_at metadata p })

pub at_most_one : (t : Bool) (v : ℕ) → length (cond t (v ∷ []) []) ≤ 1
at_most_one true v = omega arith
at_most_one false v = omega arith

pub near_few : (p : ℕ) (i : Instruction) → length (near_successors p i) ≤ 2
near_few p i =
    let f = cond (falls (class i)) (suc p ∷ []) [] in
    let b = cond (branches (class i)) (target p i ∷ []) [] in
    omega (arith, length-append f b, at_most_one (falls (class i)) (suc p), at_most_one (branches (class i)) (target p i))

pub successors_few : (n p : ℕ) (x : Cell) → length (successors n p x) ≤ 4
unfolding successors
successors_few n p x =
    omega (
      arith,
      length-append (near_successors p x.instruction) (loop_successors n x),
      near_few p x.instruction,
      at_most_two (is_loop_hint x.instruction && is_sound n x) (loop_end x) (loop_exit x),
    )
  where
    at_most_two : (t : Bool) (v w : ℕ) → length (cond t (v ∷ w ∷ []) []) ≤ 2
    at_most_two true v w = omega arith
    at_most_two false v w = omega arith

-- an opcode whose only successor is the next place, whatever the metadata
unfoldable pub goes_on : ℕ → Bool
goes_on o = falls (class_of o) && not (is_control (class_of o))

pub goes_on_lem : (n p : ℕ) (x : Cell) → goes_on x.instruction.op ≡ true → successors n p x ≡ suc p ∷ []
unfolding goes_on successors
goes_on_lem n p x e =
    let i = x.instruction in
    let tests = both (falls (class i)) (not (is_control (class i))) e in
    let idle : is_control (class i) ≡ false = not-true (is_control (class i)) tests.1 in
    rw (tests.0, no_branch (class i) (ends_none (class i) idle), no_loop_hint i idle)

-- the walk's `next`
abbrev pub following : List Cell → ℕ → List ℕ
following cells p = successors (length cells) p (cell_at cells p)

pub following_at : (words metadata : List ℕ) (p : ℕ) → p < length words
    → following (cells_by words metadata) p ≡ successors (length words) p (cell_of metadata p (slice_index words p))
following_at words metadata p h = rw (cells_long words metadata) (ap (successors (length words) p) (cell_at_lem words metadata p h))
