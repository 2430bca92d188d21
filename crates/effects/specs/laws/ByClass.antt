-- What an instruction reads and writes, by its class, and that it demands nothing: of all classes but Outside and Invalid, whose
-- opcodes differ.
-- Assumes nothing.
use Rattle.std.specs.Prelude.{◌≡◌, Bool, true, false, cond, ℕ, ◌<◌, ltb, get_or}
use Rattle.std.proofs.Math.Path.{refl}
use Rattle.std.proofs.Common.{sym, ap, ◌∙◌, true≢false}
use mathlib.Core.List.{List, [], ◌∷◌}
use borrow.Author.Tests.{ltb-true, ltb-false}
use Rattle.words.specs.Lists.{tabulate}
use Rattle.words.specs.laws.Lists.{get_d_tabulate}
use Rattle.instruction.specs.Class.{class_of}
use Rattle.instruction.specs.laws.Class.{class_past}
use Rattle.instruction.specs.declared.Instruction.{Instruction}
use Rattle.instruction.specs.declared.Class.{Class}
use Rattle.instruction.specs.declared.Class.TheVariants.{Hint, LoadInt, LoadConst, Copy, CopyN, Unary, Binary, Jump, JumpIf, JumpIfNot, ForLoop, Return, Panic, Outside, Invalid}
use Rattle.effects.specs.declared.Range.{Range}

-- is it one of those two?
unfoldable pub is_outside : Class → Bool
is_outside Hint = false
is_outside LoadInt = false
is_outside LoadConst = false
is_outside Copy = false
is_outside CopyN = false
is_outside Unary = false
is_outside Binary = false
is_outside Jump = false
is_outside JumpIf = false
is_outside JumpIfNot = false
is_outside ForLoop = false
is_outside Return = false
is_outside Panic = false
is_outside Outside = true
is_outside Invalid = true

abbrev one_slot : ℕ → Range
one_slot t = record { start = t; count = 1 }

-- the ranges read, and those written
unfoldable pub reads_by_class : Class → Instruction → List Range
reads_by_class Hint i = []
reads_by_class LoadInt i = []
reads_by_class LoadConst i = []
reads_by_class Copy i = one_slot i.b ∷ []
reads_by_class CopyN i = record { start = i.b; count = i.c } ∷ []
reads_by_class Unary i = one_slot i.b ∷ []
reads_by_class Binary i = one_slot i.b ∷ one_slot i.c ∷ []
reads_by_class Jump i = []
reads_by_class JumpIf i = one_slot i.a ∷ []
reads_by_class JumpIfNot i = one_slot i.a ∷ []
reads_by_class ForLoop i = one_slot i.a ∷ one_slot i.b ∷ []
reads_by_class Return i = record { start = i.a; count = i.b } ∷ []
reads_by_class Panic i = record { start = i.a; count = 2 } ∷ []
reads_by_class Outside i = []
reads_by_class Invalid i = []

unfoldable pub writes_by_class : Class → Instruction → List Range
writes_by_class Hint i = []
writes_by_class LoadInt i = one_slot i.a ∷ []
writes_by_class LoadConst i = one_slot i.a ∷ []
writes_by_class Copy i = one_slot i.a ∷ []
writes_by_class CopyN i = record { start = i.a; count = i.c } ∷ []
writes_by_class Unary i = one_slot i.a ∷ []
writes_by_class Binary i = one_slot i.a ∷ []
writes_by_class Jump i = []
writes_by_class JumpIf i = []
writes_by_class JumpIfNot i = []
writes_by_class ForLoop i = one_slot i.a ∷ []
writes_by_class Return i = []
writes_by_class Panic i = []
writes_by_class Outside i = []
writes_by_class Invalid i = []

-- ---- the opcodes of the others

pub inside_valid : (o : ℕ) → is_outside (class_of o) ≡ false → o < 136
unfolding is_outside
inside_valid o inside = go (ltb o 136) refl
  where
    go : (t : Bool) → ltb o 136 ≡ t → o < 136
    go true e = ltb-true o 136 e
    go false e = let z : true ≡ false = rw (class_past o (ltb-false o 136 e)) at inside in absurd (true≢false z)

-- one computed test of all valid opcodes: f is told by the class, but for those two
pub by_class : {A : Type 0} (f : ℕ → A) (g : Class → A) → tabulate 136 f ≡ tabulate 136 (λ o. cond (is_outside (class_of o)) (f o) (g (class_of o)))
    → (o : ℕ) → is_outside (class_of o) ≡ false → f o ≡ g (class_of o)
by_class {A} f g e o inside =
    let h : o < 136 = inside_valid o inside in
    sym (get_d_tabulate 136 f o (f 0) h)
    ∙ ap (λ (l : List A). get_or l o (f 0)) e
    ∙ get_d_tabulate 136 (λ o. cond (is_outside (class_of o)) (f o) (g (class_of o))) o (f 0) h
    ∙ rw inside
