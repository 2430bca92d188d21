-- Jump rounds in the work from the kept places on: these, in the end their boundaries, and the loop ends.
-- Assumes nothing.
use Rattle.std.specs.Prelude.{◌≡◌, refl, Bool, true, false, cond, ◌&&◌, not, List, ℕ, ◌+◌, ◌≤◌, ◌<◌, eqb, ltb, leb, length, get_or}
use Rattle.std.proofs.Common.{eq-eqb, ne_eqb, le-leb}
use Rattle.std.proofs.lemmas.Bool.{lt-leb}
use borrow.Rule.Slice.PartMut.{mid_of}
use Rattle.words.specs.Lists.{tabulate}
use Rattle.instruction.specs.declared.Instruction.{Instruction}
use Rattle.instruction.specs.Opcode as op
use Rattle.unit.specs.laws.Region.{loop_ends_in, list_in}
use Rattle.unit.specs.Size.{max_instructions}
use Rattle.flow.specs.Branch.{target}
use Rattle.flow.specs.laws.BranchLaws.{BranchesInside}
use Rattle.pc_map.specs.Boundary.{boundary}

-- what the rounds are given
pub record Rounds (words : List ℕ) (room : ℕ) : Type 0 where
  pub few : length words ≤ max_instructions
  pub long : list_in (length words) ≤ room
  pub inside : BranchesInside words

-- the loop ends
abbrev pub ends_in : ℕ → List ℕ → List ℕ
ends_in n work = mid_of (loop_ends_in n) n work

-- the boundary of each place, and of the end
abbrev pub map_of : List ℕ → List ℕ
map_of keep = tabulate (length keep + 1) (boundary keep)

-- the test of a jump: is it kept, is it no loop end by the memory, and does it go forward, no further than to `next`?
abbrev pub idle_in : ℕ → List ℕ → Bool → ℕ → ℕ → Instruction → Bool
idle_in n work kept next p i = cond (kept && not (eqb (get_or work (loop_ends_in n + p) 0) 1) && eqb i.op op.Jump) (ltb p (target p i) && leb (target p i) next) false

-- the test's answers, one part after the other
module _ (n : ℕ) (work : List ℕ) (kept : Bool) (next p : ℕ) (i i' : Instruction) (same : i' ≡ i) where
  pub no_jump : (i'.op ≡ op.Jump → ⊥) → false ≡ idle_in n work kept next p i
  no_jump f = rw (← same) (rw (ne_eqb _ _ f) (go kept (not (eqb (get_or work (loop_ends_in n + p) 0) 1)) _))
    where
      go : (a b near : Bool) → false ≡ cond (a && b && false) near false
      go true true near = refl
      go true false near = refl
      go false b near = refl

  module _ (t : ℕ) (is : t ≡ target p i') where
    pub too_far : next < t → false ≡ idle_in n work kept next p i
    too_far h = rw (← same) (rw (← is, lt-leb t next h) (go (kept && not (eqb (get_or work (loop_ends_in n + p) 0) 1) && eqb i'.op op.Jump) (ltb p t)))
      where
        go : (a b : Bool) → false ≡ cond a (b && false) false
        go true true = refl
        go true false = refl
        go false b = refl

    pub near_enough : kept ≡ true → i'.op ≡ op.Jump → t ≤ next → (ltb p t && not (eqb (get_or work (loop_ends_in n + p) 0) 1)) ≡ idle_in n work kept next p i
    near_enough e g h = rw (← same) (rw (← is, e, eq-eqb _ _ g, le-leb t next h) (go (ltb p t) (not (eqb (get_or work (loop_ends_in n + p) 0) 1))))
      where
        go : (a b : Bool) → (a && b) ≡ cond (true && b && true) (a && true) false
        go true true = refl
        go true false = refl
        go false true = refl
        go false false = refl
