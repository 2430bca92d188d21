-- What an arm of a `match` on a class knows: the class is one of those with the arm's tags, which are the classes' numbers.
-- Assumes nothing.
use Rattle.std.proofs.Common.{◌≡◌, ℕ, Bool, true, ◌&&◌, List, [], ◌∷◌, sym, ap, ◌∙◌, inl, inr}
use types.Run.{OneOf}
use denote.Enum.Declared.{tag_of}
use Rattle.words.specs.laws.Truth.{both}
use Rattle.instruction.specs.contracts.Class.{the_type}
use Rattle.instruction.specs.declared.Class.{Class}
use Rattle.instruction.specs.Class.{named_class}
use Rattle.instruction.specs.laws.Class.{named_number, tag}

pub of_tag : (x : Class) (k : ℕ) → tag_of the_type x ≡ k → x ≡ named_class k
of_tag x k e = sym (named_number x) ∙ ap named_class (tag x ∙ e)

-- what holds of each class that is named there, holds of one of them
abbrev Each : (Class → Type 0) → ℕ → List ℕ → Type 0
Each P k [] = P (named_class k)
Each P k (j ∷ js) = P (named_class k) × Each P j js

pub by_tags : (P : Class → Type 0) (k : ℕ) (ks : List ℕ) → Each P k ks → (x : Class) → OneOf (k ∷ ks) (tag_of the_type x) → P x
by_tags P k [] h x e = rw (of_tag x k e) h
by_tags P k (j ∷ js) h x (inl e) = rw (of_tag x k e) h.0
by_tags P k (j ∷ js) h x (inr o) = by_tags P j js h.1 x o

-- the same of a test, which antt computes
abbrev all : (Class → Bool) → List ℕ → Bool
all f [] = true
all f (k ∷ ks) = f (named_class k) && all f ks

pub by_test : (f : Class → Bool) (k : ℕ) (ks : List ℕ) → all f (k ∷ ks) ≡ true → (x : Class) → OneOf (k ∷ ks) (tag_of the_type x) → f x ≡ true
by_test f k [] h x e = rw (of_tag x k e) (both (f (named_class k)) true h).0
by_test f k (j ∷ js) h x (inl e) = rw (of_tag x k e) (both (f (named_class k)) (all f (j ∷ js)) h).0
by_test f k (j ∷ js) h x (inr o) = by_test f j js (both (f (named_class k)) (all f (j ∷ js)) h).1 x o
