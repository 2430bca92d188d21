-- Hints, jumps and loops: of slots, a conditional jump reads its condition a, and ForLoop reads its index a and its limit b and
-- writes a.
-- Assumes nothing.
use Rattle.std.specs.Prelude.{◌≡◌, refl, Bool, true, false, [], ◌∷◌}
use Prim.{tt}
use Rattle.words.specs.Lists.{is_in}
use Rattle.instruction.specs.Class.{number_of, named_class}
use Rattle.instruction.specs.laws.Class.{Each, by_number}
use Rattle.instruction.specs.declared.Class.{Class}
use Rattle.instruction.specs.declared.Class.TheVariants.{Hint, Jump, JumpIf, JumpIfNot, ForLoop}
use Rattle.effects.specs.laws.ByClass.{is_outside}

-- Hint, Jump, JumpIf, JumpIfNot, ForLoop
abbrev pub is_branching : Class → Bool
is_branching k = is_in (number_of k) (0 ∷ 7 ∷ 8 ∷ 9 ∷ 10 ∷ [])

-- JumpIf, JumpIfNot, ForLoop
abbrev pub reads_condition : Class → Bool
reads_condition k = is_in (number_of k) (8 ∷ 9 ∷ 10 ∷ [])

-- ForLoop
abbrev pub is_loop : Class → Bool
is_loop k = is_in (number_of k) (10 ∷ [])

-- what holds of each of these classes, holds of one of them
pub by_branching : (P : Class → Type 0) → P Hint → P Jump → P JumpIf → P JumpIfNot → P ForLoop → (k : Class) → is_branching k ≡ true → P k
unfolding Each named_class
by_branching P h j i n l = by_number P (0 ∷ 7 ∷ 8 ∷ 9 ∷ 10 ∷ []) (h, (j, (i, (n, (l, tt)))))

pub branching_inside : (k : Class) → is_branching k ≡ true → is_outside k ≡ false
unfolding is_outside
branching_inside = by_branching (λ k. is_outside k ≡ false) refl refl refl refl refl
