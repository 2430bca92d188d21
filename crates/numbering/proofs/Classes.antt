-- A class by its number: which function of the walk it goes to.
-- Assumes nothing.
use mathlib.Core.Path.{◌≡◌, refl, sym, ◌∙◌}
use mathlib.Core.Bool.{true, false}
use mathlib.Core.List.{List, [], ◌∷◌}
use mathlib.Core.Logic.{⊎_elim, ◌⊎◌, inl, inr}
use Prim.Native.Nat.{ℕ, ◌<◌}
use native.Mathlib.Omega.{arith}
use lib.Dec.{eqb}
use types.Run.{OneOf, miss}
use borrow.Author.Tests.{ne_eqb}
use denote.Enum.Declared.{tag_of as variant_of}
use Rattle.instruction.specs.declared.Instruction.{Instruction}
use Rattle.instruction.specs.declared.Class.{Class}
use Rattle.instruction.specs.declared.Class.TheVariants.{Hint, LoadInt, LoadConst, Copy, CopyN, Unary, Binary, Jump, JumpIf, JumpIfNot, ForLoop, Return, Panic, Outside, Invalid}
use Rattle.instruction.specs.contracts.Class.{the_type as class-type}
use Rattle.instruction.specs.Class.{number_of, named_class}
use Rattle.effects.specs.Shape.{Sections}
use Rattle.instruction.specs.laws.Class.{tag}
use Rattle.flow.proofs.Classes.{of_tag}
use Rattle.values.specs.Values.{Values, value_of}
use Rattle.values.specs.Number.{number_unary_with, number_binary_with, number_jump, cleared as clearedBy, number_by, number_by_with}
use Rattle.numbering.specs.laws.Walk.{fold_by, second_of, binary_class, operator_class, on_zero, operated, takes, pure_by, other_by, by_other}
use Rattle.values.specs.laws.Named.{Named}

pub not_number : (k : Class) (ks : List ℕ) (j : ℕ) → (OneOf ks j → ⊥) → OneOf ks (variant_of class-type k) → eqb (number_of k) j ≡ false
not_number k ks j h o = ne_eqb (number_of k) j (λ e. h (rw (sym (tag k) ∙ e) at o))

operator_class_lem : (k : Class) → operator_class k ≡ true → (k ≡ Unary) ⊎ (k ≡ Binary)
unfolding number_of
operator_class_lem Hint e = let w : ◌≡◌ {A = ℕ} 0 1 = cc in absurd (omega arith)
operator_class_lem LoadInt e = let w : ◌≡◌ {A = ℕ} 0 1 = cc in absurd (omega arith)
operator_class_lem LoadConst e = let w : ◌≡◌ {A = ℕ} 0 1 = cc in absurd (omega arith)
operator_class_lem Copy e = let w : ◌≡◌ {A = ℕ} 0 1 = cc in absurd (omega arith)
operator_class_lem CopyN e = let w : ◌≡◌ {A = ℕ} 0 1 = cc in absurd (omega arith)
operator_class_lem Unary e = inl refl
operator_class_lem Binary e = inr refl
operator_class_lem Jump e = let w : ◌≡◌ {A = ℕ} 0 1 = cc in absurd (omega arith)
operator_class_lem JumpIf e = let w : ◌≡◌ {A = ℕ} 0 1 = cc in absurd (omega arith)
operator_class_lem JumpIfNot e = let w : ◌≡◌ {A = ℕ} 0 1 = cc in absurd (omega arith)
operator_class_lem ForLoop e = let w : ◌≡◌ {A = ℕ} 0 1 = cc in absurd (omega arith)
operator_class_lem Return e = let w : ◌≡◌ {A = ℕ} 0 1 = cc in absurd (omega arith)
operator_class_lem Panic e = let w : ◌≡◌ {A = ℕ} 0 1 = cc in absurd (omega arith)
operator_class_lem Outside e = let w : ◌≡◌ {A = ℕ} 0 1 = cc in absurd (omega arith)
operator_class_lem Invalid e = let w : ◌≡◌ {A = ℕ} 0 1 = cc in absurd (omega arith)

pub operator_yes : (k : Class) → OneOf (5 ∷ 6 ∷ []) (variant_of class-type k) → operator_class k ≡ true
unfolding number_of named_class
operator_yes k o = ⊎_elim (λ e. rw (of_tag k 5 e)) (λ e. rw (of_tag k 6 e)) o

jump_class : (k : Class) → OneOf (8 ∷ 9 ∷ []) (variant_of class-type k) → (k ≡ JumpIf) ⊎ (k ≡ JumpIfNot)
unfolding named_class
jump_class k o = ⊎_elim (λ e. inl (of_tag k 8 e)) (λ e. inr (of_tag k 9 e)) o

-- an opcode of one operand or of two
pub operator_named : (k : Class) (s : ℕ) (i : Instruction) → operator_class k ≡ true → Named k s i → (i.b < s) × (binary_class k ≡ true → i.c < s) × (i.a < s)
unfolding Named number_of
operator_named k s i o h =
    ⊎_elim
    (λ e. let g : Named Unary s i = rw e at h in rw e (g.0, (λ z. let f : ◌≡◌ {A = ℕ} 0 1 = cc in absurd (omega arith)), g.1))
    (λ e. let g : Named Binary s i = rw e at h in rw e (g.0, (λ z. g.1), g.2))
    (operator_class_lem k o)

pub operator_pure : (S : Sections) (k : Class) (p : ℕ) (i : Instruction) (v : Values) → operator_class k ≡ true → operated S (binary_class k) p i v ≡ pure_by S k p i v
unfolding pure_by number_of operated second_of fold_by number_unary_with number_binary_with
operator_pure S k p i v o = ⊎_elim (λ e. rw e) (λ e. rw e) (operator_class_lem k o)

-- a jump on a word that is 0, or on one that is not
pub jump_named : (k : Class) (s : ℕ) (i : Instruction) → OneOf (8 ∷ 9 ∷ []) (variant_of class-type k) → Named k s i → i.a < s
unfolding Named
jump_named k s i o h = ⊎_elim (λ e. rw e at h) (λ e. rw e at h) (jump_class k o)

pub jump_by_lem : (S : Sections) (k : Class) (p : ℕ) (i : Instruction) (v : Values) → OneOf (8 ∷ 9 ∷ []) (variant_of class-type k)
    → number_jump S (takes (on_zero k)) i v (value_of v i.a) ≡ number_by S k p i v
unfolding number_by_with number_of takes
jump_by_lem S k p i v o = ⊎_elim (λ e. rw e) (λ e. rw e) (jump_class k o)

-- the other classes
pub pure_none : (S : Sections) (k : Class) (p : ℕ) (i : Instruction) (v : Values) → OneOf (0 ∷ 4 ∷ 5 ∷ 6 ∷ 7 ∷ 8 ∷ 9 ∷ 10 ∷ 11 ∷ 12 ∷ 13 ∷ 14 ∷ []) (variant_of class-type k) → operator_class k ≡ false → pure_by S k p i v ≡ clearedBy S i
unfolding pure_by number_of
pure_none S Hint p i v o e = refl
pure_none S LoadInt p i v o e = absurd (miss (0 ∷ 4 ∷ 5 ∷ 6 ∷ 7 ∷ 8 ∷ 9 ∷ 10 ∷ 11 ∷ 12 ∷ 13 ∷ 14 ∷ []) 1 tt o)
pure_none S LoadConst p i v o e = absurd (miss (0 ∷ 4 ∷ 5 ∷ 6 ∷ 7 ∷ 8 ∷ 9 ∷ 10 ∷ 11 ∷ 12 ∷ 13 ∷ 14 ∷ []) 2 tt o)
pure_none S Copy p i v o e = absurd (miss (0 ∷ 4 ∷ 5 ∷ 6 ∷ 7 ∷ 8 ∷ 9 ∷ 10 ∷ 11 ∷ 12 ∷ 13 ∷ 14 ∷ []) 3 tt o)
pure_none S CopyN p i v o e = refl
pure_none S Unary p i v o e = let w : ◌≡◌ {A = ℕ} 0 1 = cc in absurd (omega arith)
pure_none S Binary p i v o e = let w : ◌≡◌ {A = ℕ} 0 1 = cc in absurd (omega arith)
pure_none S Jump p i v o e = refl
pure_none S JumpIf p i v o e = refl
pure_none S JumpIfNot p i v o e = refl
pure_none S ForLoop p i v o e = refl
pure_none S Return p i v o e = refl
pure_none S Panic p i v o e = refl
pure_none S Outside p i v o e = refl
pure_none S Invalid p i v o e = refl

pub number_other : (S : Sections) (k : Class) (p : ℕ) (i : Instruction) (v : Values) → OneOf (0 ∷ 1 ∷ 2 ∷ 3 ∷ 4 ∷ 5 ∷ 6 ∷ 7 ∷ 10 ∷ 12 ∷ 13 ∷ 14 ∷ []) (variant_of class-type k)
    → number_by S k p i v ≡ other_by S k p i v
number_other S k p i v o =
    by_other S k
    (λ e. miss (0 ∷ 1 ∷ 2 ∷ 3 ∷ 4 ∷ 5 ∷ 6 ∷ 7 ∷ 10 ∷ 12 ∷ 13 ∷ 14 ∷ []) 8 tt (rw e at o))
    (λ e. miss (0 ∷ 1 ∷ 2 ∷ 3 ∷ 4 ∷ 5 ∷ 6 ∷ 7 ∷ 10 ∷ 12 ∷ 13 ∷ 14 ∷ []) 9 tt (rw e at o))
    (λ e. miss (0 ∷ 1 ∷ 2 ∷ 3 ∷ 4 ∷ 5 ∷ 6 ∷ 7 ∷ 10 ∷ 12 ∷ 13 ∷ 14 ∷ []) 11 tt (rw e at o))
    p i v
