-- The loops of `load` and `is_same`.
-- Assumes nothing.
use Rattle.std.specs.Prelude.{◌≡◌, Bool, ◌&&◌, ℕ, ◌+◌, ◌≤◌, ◌<◌, eqb, take, set}
use Rattle.std.proofs.Math.Path.{refl, ap}
use Rattle.std.proofs.Common.{sym, ◌∙◌, arith, length-set, eqb-true, eq-eqb}
use Rattle.std.proofs.Math.Bool.{true, false}
use Rattle.std.proofs.lemmas.Bool.{false≢true}
use mathlib.Core.List.{List, [], ◌∷◌}
use Rattle.std.proofs.Math.ListN.{length, get_or}
use Rattle.std.proofs.lemmas.List.{set-get_or}
use Rattle.words.specs.Lists.{tabulate}
use Rattle.words.specs.laws.Lists.{get_d_tabulate}
use Rattle.words.specs.laws.Tabulate.{tabulated_turn, tabulated_end}
use Rattle.instruction.specs.Instruction.{instruction_at, to_word}
use Rattle.optimize.specs.laws.Given.{words_in, same_words}

-- the first p words are the code's
pub record Loaded (code words : List ℕ) (p : ℕ) : Type 0 where
  pub within : p ≤ length words
  pub same : take p words ≡ words_in p code

module _ (code words : List ℕ) where
  pub loaded_none : Loaded code words 0
  unfolding words_in tabulate
  loaded_none = record { within = omega arith; same = refl }

  module _ (p : ℕ) (l : Loaded code words p) where
    module _ (h : p < length words) where
      pub loaded_set : (v : ℕ) → v ≡ to_word (instruction_at code p) → Loaded code (set words p v) (p + 1)
      unfolding words_in
      loaded_set v e = record { within = rw (length-set words p v) (omega arith); same = tabulated_turn (λ q. to_word (instruction_at code q)) words p v l.same h e }

      pub loaded_next : to_word (instruction_at code p) ≡ get_or words p 0 → Loaded code words (p + 1)
      loaded_next e = rw (set-get_or words p 0) at (loaded_set (get_or words p 0) (sym e))

    pub loaded_all : (n : ℕ) → length words ≡ n → length words ≤ p → words ≡ words_in n code
    unfolding words_in
    loaded_all n f h =
        let e : p ≡ length words = omega (arith, l.within) in
        rw (← f, ← e) (tabulated_end (λ q. to_word (instruction_at code q)) words p l.same e)

pub same_all : (xs : List ℕ) → same_words xs xs ≡ true
unfolding same_words
same_all [] = refl
same_all (x ∷ xs) = rw (eq-eqb x x refl) (same_all xs)

same_sound : (xs ys : List ℕ) → same_words xs ys ≡ true → xs ≡ ys
unfolding same_words
same_sound [] [] e = refl
same_sound [] (y ∷ ys) e = absurd (false≢true e)
same_sound (x ∷ xs) [] e = absurd (false≢true e)
same_sound (x ∷ xs) (y ∷ ys) e = go (eqb x y) refl e (same_sound xs ys)
  where
    go : (t : Bool) → eqb x y ≡ t → t && same_words xs ys ≡ true → (same_words xs ys ≡ true → xs ≡ ys) → x ∷ xs ≡ y ∷ ys
    go true q e f = rw (eqb-true x y q, f e) refl
    go false q e f = absurd (false≢true e)

module _ (code words : List ℕ) where
  pub same_yes : words ≡ words_in (length words) code → true ≡ same_words (words_in (length words) code) words
  same_yes e = sym (ap (λ (l : List ℕ). same_words l words) (sym e) ∙ same_all words)

  -- one word differs
  pub same_no : (p : ℕ) → p < length words → (to_word (instruction_at code p) ≡ get_or words p 0 → ⊥) → false ≡ same_words (words_in (length words) code) words
  unfolding words_in
  same_no p h n = go (same_words (words_in (length words) code) words) refl
    where
      go : (t : Bool) → same_words (words_in (length words) code) words ≡ t → false ≡ t
      go true e =
          absurd (n (sym (get_d_tabulate (length words) (λ q. to_word (instruction_at code q)) p 0 h) ∙ ap (λ (l : List ℕ). get_or l p 0) (same_sound (words_in (length words) code) words e)))
      go false e = refl
