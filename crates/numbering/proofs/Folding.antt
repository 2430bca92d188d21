-- Folding looks at known integers alone.
-- Assumes nothing.
use Rattle.std.specs.Prelude.{Option, None, Some}
use mathlib.Core.Path.{◌≡◌, refl, sym, ap, ◌∙◌}
use mathlib.Core.Bool.{Bool, true, false, cond, ◌||◌, false≢true}
use mathlib.Core.List.{List}
use Prim.Native.Nat.{ℕ, ◌+◌}
use lib.Dec.{ltb}
use Rattle.words.specs.Lists.{is_in}
use Rattle.values.specs.Fold.{folding_unary, folding_binary, fold_word}
use Rattle.values.specs.Values.{Expression}
use Rattle.values.specs.Number.{fold_unary, fold_binary}
use Rattle.values.specs.laws.Folded.{integer_of, expression_of}
use Rattle.values.specs.laws.Memory.{integer_at, atom_at}
use Rattle.numbering.specs.laws.Walk.{fold_by}
use Rattle.values.specs.declared.Atom.{Atom}
use Rattle.values.specs.declared.Atom.TheVariants.{Integer, Float, Definition}
use Rattle.values.proofs.Atoms.{integer_at_lem}

unfoldable fold_one : ℕ → ℕ → Option ℕ → Option ℕ
fold_one op flags (Some x) = cond (is_in op folding_unary) (Some (fold_word op flags x 0)) None
fold_one op flags None = None

unfoldable fold_two : ℕ → ℕ → Option ℕ → Option ℕ → Option ℕ
fold_two op flags (Some x) (Some y) = cond (is_in op folding_binary) (Some (fold_word op flags x y)) None
fold_two op flags (Some x) None = None
fold_two op flags None y = None

fold_one_lem : (e : Expression) (v : Atom) → fold_unary e v ≡ fold_one e.opcode e.flags (integer_of v)
unfolding fold_unary fold_one integer_of
fold_one_lem e (Integer x) = refl
fold_one_lem e (Float x) = refl
fold_one_lem e (Definition p s) = refl

fold_two_lem : (e : Expression) (v w : Atom) → fold_binary e v w ≡ fold_two e.opcode e.flags (integer_of v) (integer_of w)
unfolding fold_binary fold_two integer_of
fold_two_lem e (Integer x) (Integer y) = refl
fold_two_lem e (Integer x) (Float y) = refl
fold_two_lem e (Integer x) (Definition q t) = refl
fold_two_lem e (Float x) w = refl
fold_two_lem e (Definition p s) w = refl

none_right : (op flags : ℕ) (o : Option ℕ) → None ≡ fold_two op flags o None
unfolding fold_two
none_right op flags (Some x) = refl
none_right op flags None = refl

module _ (n S : ℕ) (c : List ℕ) (op flags left right : ℕ) where
  -- two values fold as the known integers with their numbers do
  fold_known : (dest : ℕ → ℕ) → fold_two op flags (integer_at n S c left) (integer_at n S c right)
      ≡ fold_by true (expression_of op flags (atom_at n S dest c left) (atom_at n S dest c right))
  unfolding fold_by
  fold_known dest =
      let x = atom_at n S dest c left in
      let y = atom_at n S dest c right in
      rw (integer_at_lem n S dest c left, integer_at_lem n S dest c right) (sym (fold_two_lem (expression_of op flags x y) x y))

  pub fold_binary_numbers : {b : Bool} (x y : Atom) {o : Option ℕ} → b ≡ true → integer_of x ≡ integer_at n S c left → integer_of y ≡ integer_at n S c right
      → o ≡ fold_binary (expression_of op flags x y) x y
      → (dest : ℕ → ℕ) → o ≡ fold_by b (expression_of op flags (atom_at n S dest c left) (atom_at n S dest c right))
  fold_binary_numbers x y e p q z dest =
      rw e
      (z
      ∙ fold_two_lem (expression_of op flags x y) x y
      ∙ ap (λ (o : Option ℕ). fold_two op flags o (integer_of y)) p
      ∙ ap (fold_two op flags (integer_at n S c left)) q
      ∙ fold_known dest)

  -- nothing folds where a number is a definition's
  pub fold_definition : {b : Bool} → b ≡ true → ltb left (S + n) || ltb right (S + n) ≡ true
      → (dest : ℕ → ℕ) → None ≡ fold_by b (expression_of op flags (atom_at n S dest c left) (atom_at n S dest c right))
  unfolding fold_two integer_at
  fold_definition e d dest = rw e (go (ltb left (S + n)) refl (ltb right (S + n)) refl d ∙ fold_known dest)
    where
      go : (p : Bool) → ltb left (S + n) ≡ p → (q : Bool) → ltb right (S + n) ≡ q → p || q ≡ true
          → None ≡ fold_two op flags (integer_at n S c left) (integer_at n S c right)
      go true l q r d = rw l
      go false l true r d = rw r (none_right op flags (integer_at n S c left))
      go false l false r d = absurd (false≢true d)

  pub fold_unary_number : {b : Bool} (x : Atom) {o : Option ℕ} → b ≡ false → integer_of x ≡ integer_at n S c left → ((y : Atom) → o ≡ fold_unary (expression_of op flags x y) x)
      → (dest : ℕ → ℕ) → o ≡ fold_by b (expression_of op flags (atom_at n S dest c left) (atom_at n S dest c right))
  unfolding fold_by
  fold_unary_number x e p z dest =
      let lefts : integer_of x ≡ integer_of (atom_at n S dest c left) = p ∙ integer_at_lem n S dest c left in
      rw e
      (z (Integer 0)
      ∙ fold_one_lem (expression_of op flags x (Integer 0)) x
      ∙ ap (fold_one op flags) lefts
      ∙ sym (fold_one_lem (expression_of op flags (atom_at n S dest c left) (atom_at n S dest c right)) (atom_at n S dest c left)))
