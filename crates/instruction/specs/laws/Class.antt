-- Laws of Class.
-- Assumes nothing.
use Rattle.std.specs.Prelude.{◌≡◌, refl, Bool, true, false, cond, not, List, [], ◌∷◌, ℕ, ◌/◌, ◌%◌, ◌^◌, ◌≤◌, ◌<◌, eqb}
use Rattle.std.proofs.Common.{sym, ap, ◌∙◌, arith, eqb-true, lt-ltb}
use Rattle.std.proofs.lemmas.Bool.{false≢true}
use Prim.{Unit}
use denote.Enum.Declared.{tag_of}
use Rattle.words.specs.Lists.{is_in, every}
use Rattle.words.specs.laws.Lists.{count, every_at}
use Rattle.instruction.specs.Opcode as op
use Rattle.instruction.specs.contracts.Class.{the_type}
use Rattle.instruction.specs.declared.Class.{Class}
use Rattle.instruction.specs.declared.Class.TheVariants.{Hint, LoadInt, LoadConst, Copy, CopyN, Unary, Binary, Jump, JumpIf, JumpIfNot, ForLoop, Return, Panic, Outside, Invalid}
use Rattle.instruction.specs.Class.{class_of, is_pure, named_class, number_of, single}

pub named_number : (x : Class) → named_class (number_of x) ≡ x
unfolding number_of named_class
named_number Hint = refl
named_number LoadInt = refl
named_number LoadConst = refl
named_number Copy = refl
named_number CopyN = refl
named_number Unary = refl
named_number Binary = refl
named_number Jump = refl
named_number JumpIf = refl
named_number JumpIfNot = refl
named_number ForLoop = refl
named_number Return = refl
named_number Panic = refl
named_number Outside = refl
named_number Invalid = refl

pub number_past : (x : Class) → 14 ≤ number_of x → x ≡ Invalid
unfolding number_of
number_past Hint h = absurd (omega arith)
number_past LoadInt h = absurd (omega arith)
number_past LoadConst h = absurd (omega arith)
number_past Copy h = absurd (omega arith)
number_past CopyN h = absurd (omega arith)
number_past Unary h = absurd (omega arith)
number_past Binary h = absurd (omega arith)
number_past Jump h = absurd (omega arith)
number_past JumpIf h = absurd (omega arith)
number_past JumpIfNot h = absurd (omega arith)
number_past ForLoop h = absurd (omega arith)
number_past Return h = absurd (omega arith)
number_past Panic h = absurd (omega arith)
number_past Outside h = absurd (omega arith)
number_past Invalid h = refl

pub number_below : (x : Class) → number_of x < 15
unfolding number_of
number_below Hint = omega arith
number_below LoadInt = omega arith
number_below LoadConst = omega arith
number_below Copy = omega arith
number_below CopyN = omega arith
number_below Unary = omega arith
number_below Binary = omega arith
number_below Jump = omega arith
number_below JumpIf = omega arith
number_below JumpIfNot = omega arith
number_below ForLoop = omega arith
number_below Return = omega arith
number_below Panic = omega arith
number_below Outside = omega arith
number_below Invalid = omega arith

-- what a class is as an integer
pub tag : (x : Class) → number_of x ≡ tag_of the_type x
unfolding number_of
tag Hint = refl
tag LoadInt = refl
tag LoadConst = refl
tag Copy = refl
tag CopyN = refl
tag Unary = refl
tag Binary = refl
tag Jump = refl
tag JumpIf = refl
tag JumpIfNot = refl
tag ForLoop = refl
tag Return = refl
tag Panic = refl
tag Outside = refl
tag Invalid = refl

-- what holds of the classes with these numbers, holds of each of them
unfoldable pub Each : (Class → Type 0) → List ℕ → Type 0
Each P [] = Unit {0}
Each P (k ∷ ks) = P (named_class k) × Each P ks

pub by_number : (P : Class → Type 0) (ks : List ℕ) → Each P ks → (x : Class) → is_in (number_of x) ks ≡ true → P x
unfolding Each
by_number P [] all x e = absurd (false≢true e)
by_number P (k ∷ ks) all x e = go (eqb (number_of x) k) refl e (by_number P ks all.1 x)
  where
    go : (t : Bool) → eqb (number_of x) k ≡ t → cond t true (is_in (number_of x) ks) ≡ true → (is_in (number_of x) ks ≡ true → P x) → P x
    go true q r rest = let name : named_class k ≡ x = ap named_class (sym (eqb-true (number_of x) k q)) ∙ named_number x in rw name at all.0
    go false q r rest = rest r

-- a test of classes is a bit of a constant, by the class's number
abbrev agrees : ℕ → (Class → Bool) → ℕ → Bool
agrees set f k = cond (eqb (set / 2 ^ k % 2) 1) (f (named_class k)) (not (f (named_class k)))

pub class_bit : (set : ℕ) (f : Class → Bool) → every 15 (agrees set f) ≡ true → (x : Class) (k : ℕ) → k ≡ number_of x → eqb (set / 2 ^ k % 2) 1 ≡ f x
class_bit set f e x k q =
    let h : k < 15 = rw q (number_below x) in
    let name : named_class k ≡ x = ap named_class q ∙ named_number x in
    same (eqb (set / 2 ^ k % 2) 1) (f (named_class k)) (every_at 15 (agrees set f) e k h) ∙ ap f name
  where
    same : (x y : Bool) → cond x y (not y) ≡ true → x ≡ y
    same true y e = sym e
    same false true e = absurd (false≢true e)
    same false false e = refl

-- the same of a class as an integer
pub class_cast : (set : ℕ) (f : Class → Bool) → every 15 (agrees set f) ≡ true → (x : Class) → eqb (set / 2 ^ tag_of the_type x % 2) 1 ≡ f x
class_cast set f e x = class_bit set f e x _ (sym (tag x))

pub pure_opcodes : count 256 (λ o. is_pure (class_of o)) ≡ 51
unfolding is_pure class_of single
pure_opcodes = refl

-- past the last valid opcode all are Invalid
pub class_past : (o : ℕ) → 136 ≤ o → class_of o ≡ Invalid
unfolding class_of
class_past o h = rw (lt-ltb op.max_valid o h)
