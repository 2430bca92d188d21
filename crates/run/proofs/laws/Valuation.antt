-- What the values of value numbering stand for: a valuation gives each definition and each slot at the last clearing a word, and
-- a table is valid where all its entries are true of it.
-- Assumes nothing.
use Rattle.std.proofs.Math.Path.{◌≡◌, refl, ap₂}
use Rattle.std.proofs.Common.{sym, ap, ◌∙◌, arith, eqb-true, eq-eqb, ne_eqb}
use Rattle.std.specs.Prelude.{Some, Bool, ◌&&◌, ℕ, suc, ◌^◌, ◌<◌, eqb}
use Rattle.std.proofs.Math.Bool.{true, false, cond}
use Rattle.std.proofs.lemmas.Bool.{false≢true}
use Rattle.instruction.specs.declared.Class.{Class}
use Rattle.instruction.specs.declared.Class.TheVariants.{Hint, LoadInt, LoadConst, Copy, CopyN, Unary, Binary, Jump, JumpIf, JumpIfNot, ForLoop, Return, Panic, Outside, Invalid}
use Rattle.instruction.specs.Class.{class_of}
use Rattle.values.specs.declared.Atom.{Atom}
use Rattle.values.specs.declared.Atom.TheVariants.{Integer, Float, Definition}
use Rattle.values.specs.Values.{same_atom, Expression, same_expression, Values, empty, at_start, value_in, expression_in, value_of, store, learn}
use Rattle.values.specs.laws.Lowest.{same_atom_lem}
use Rattle.run.specs.Machine.{Words, World, put}
use Rattle.run.specs.Program.{unary_word, binary_word}
use Rattle.words.specs.laws.Truth.{left_true, right_true}

-- ---- the tests say what they seem to

abbrev expression_of : ℕ → ℕ → Atom → Atom → Expression
expression_of o f l r = record { opcode = o; flags = f; left = l; right = r }

pub same_expression_lem : (d e : Expression) → same_expression d e ≡ true → d ≡ e
unfolding same_expression
same_expression_lem d e q = go (eqb d.opcode e.opcode && eqb d.flags e.flags) refl q
  where
    go : (t : Bool) → (eqb d.opcode e.opcode && eqb d.flags e.flags) ≡ t
        → cond t (same_atom d.left e.left && same_atom d.right e.right) false ≡ true → d ≡ e
    go false t q = absurd (false≢true q)
    go true t q =
        let o : d.opcode ≡ e.opcode = eqb-true _ _ (left_true (eqb d.opcode e.opcode) (eqb d.flags e.flags) t) in
        let f : d.flags ≡ e.flags = eqb-true _ _ (right_true (eqb d.opcode e.opcode) (eqb d.flags e.flags) t) in
        let l : d.left ≡ e.left = same_atom_lem _ _ (left_true (same_atom d.left e.left) (same_atom d.right e.right) q) in
        let r : d.right ≡ e.right = same_atom_lem _ _ (right_true (same_atom d.left e.left) (same_atom d.right e.right) q) in
        ap (λ (z : ℕ). expression_of z d.flags d.left d.right) o
        ∙ ap (λ (z : ℕ). expression_of e.opcode z d.left d.right) f
        ∙ ap₂ (λ (y z : Atom). expression_of e.opcode e.flags y z) l r

-- ---- valuations

pub record Valuation : Type 0 where
  -- the word that the instruction at a place gave; the word that a slot had when the table was last cleared
  pub defined : ℕ → ℕ
  pub initial : ℕ → ℕ

unfoldable pub word_of : Valuation → Atom → ℕ
word_of ρ (Integer v) = v
word_of ρ (Float v) = v
word_of ρ (Definition q s) = cond (eqb q at_start) (ρ.initial s) (ρ.defined q)

-- an atom that no place from p on defines; known integers are words of 64 bits
pub data Below (p : ℕ) : Atom → Type 0 where
  integer : {v : ℕ} → v < 2 ^ 64 → Below p (Integer v)
  float : {v : ℕ} → Below p (Float v)
  initially : {s : ℕ} → Below p (Definition at_start s)
  before : {q s : ℕ} → q < p → Below p (Definition q s)

pub record BelowBoth (p : ℕ) (e : Expression) : Type 0 where
  pub left : Below p e.left
  pub right : Below p e.right

pub below_suc : {p : ℕ} {v : Atom} → Below p v → Below (suc p) v
below_suc (integer h) = integer h
below_suc float = float
below_suc initially = initially
below_suc {p} (before {q = q} h) = let k : q < suc p = omega arith in before k

below_both_suc : {p : ℕ} {e : Expression} → BelowBoth p e → BelowBoth (suc p) e
below_both_suc b = record { left = below_suc b.left; right = below_suc b.right }

-- the word of an expression
unfoldable pub expression_word : Class → World → ℕ → ℕ → ℕ → ℕ → ℕ
expression_word Hint W o f x y = 0
expression_word LoadInt W o f x y = 0
expression_word LoadConst W o f x y = 0
expression_word Copy W o f x y = 0
expression_word CopyN W o f x y = 0
expression_word Unary W o f x y = unary_word W o f x
expression_word Binary W o f x y = binary_word W o f x y
expression_word Jump W o f x y = 0
expression_word JumpIf W o f x y = 0
expression_word JumpIfNot W o f x y = 0
expression_word ForLoop W o f x y = 0
expression_word Return W o f x y = 0
expression_word Panic W o f x y = 0
expression_word Outside W o f x y = 0
expression_word Invalid W o f x y = 0

abbrev pub word_of_expression : World → Valuation → Expression → ℕ
word_of_expression W ρ e = expression_word (class_of e.opcode) W e.opcode e.flags (word_of ρ e.left) (word_of ρ e.right)

-- ρ with the word that place p defines
unfoldable pub define : Valuation → ℕ → ℕ → Valuation
define ρ p w = record { defined = λ q. cond (eqb q p) w (ρ.defined q); initial = ρ.initial }

pub word_old : {p : ℕ} {v : Atom} (ρ : Valuation) (w : ℕ) → Below p v → word_of (define ρ p w) v ≡ word_of ρ v
unfolding word_of define
word_old ρ w (integer h) = refl
word_old ρ w float = refl
word_old ρ w initially = refl
word_old {p} ρ w (before {q = q} h) = rw (ne_eqb q p (λ e. omega arith))

pub word_new : (ρ : Valuation) (p s w : ℕ) → p < at_start → word_of (define ρ p w) (Definition p s) ≡ w
unfolding word_of define
word_new ρ p s w h = rw (ne_eqb p at_start (λ e. omega arith), eq-eqb p p refl)

-- ---- tables

-- What holds of the table before place p whatever the slots hold: it names no later definition.
pub record Static (t : Values) (p : ℕ) : Type 0 where
  pub slot< : (s : ℕ) → Below p (value_of t s)
  pub expression< : (e : Expression) (v : Atom) → expression_in t.expressions e ≡ Some v → Below p v × BelowBoth p e

-- It is true of the words of the slots.
pub record Valid (W : World) (ρ : Valuation) (t : Values) (σ : Words) : Type 0 where
  pub slot= : (s : ℕ) → word_of ρ (value_of t s) ≡ σ s
  pub expression= : (e : Expression) (v : Atom) → expression_in t.expressions e ≡ Some v → word_of ρ v ≡ word_of_expression W ρ e

pub static_empty : (p : ℕ) → Static empty p
unfolding value_in expression_in
static_empty p = record { slot< = λ s. initially; expression< = λ e v q. let z : ◌≡◌ {A = ℕ} 0 1 = cc in absurd (omega arith) }

pub static_suc : {t : Values} {p : ℕ} → Static t p → Static t (suc p)
static_suc h = record {
  slot< = λ s. below_suc (h.slot< s);
  expression< = λ e v q. let b = h.expression< e v q in (below_suc b.0, below_both_suc b.1);
}

-- slot a holds value v
pub static_store : {t : Values} {p : ℕ} (a : ℕ) (v : Atom) → Static t p → Below p v → Static (store t a v) p
unfolding store value_in
static_store {t} {p} a v h b = record { slot< = λ s. under s (eqb a s); expression< = h.expression< }
  where
    under : (s : ℕ) (u : Bool) → Below p (cond u v (value_in t.slots s))
    under s true = b
    under s false = h.slot< s

-- a fresh definition at place p
pub static_learn : {t : Values} {p : ℕ} (e : Expression) (a : ℕ) → Static t p → BelowBoth p e → Static (learn t e (Definition p a)) (suc p)
unfolding learn expression_in
static_learn {t} {p} e a h be = record { slot< = λ s. below_suc (h.slot< s); expression< = λ d v m. go d v (same_expression e d) refl m }
  where
    go : (d : Expression) (v : Atom) (u : Bool) → same_expression e d ≡ u → cond u (Some (Definition p a)) (expression_in t.expressions d) ≡ Some v
        → Below (suc p) v × BelowBoth (suc p) d
    go d v true i m =
        let d= : e ≡ d = same_expression_lem e d i in
        let v= : Definition p a ≡ v = cc in
        let k : p < suc p = omega arith in
        rw (← d=, ← v=) (before k, below_both_suc be)
    go d v false i m = let b = h.expression< d v m in (below_suc b.0, below_both_suc b.1)

module _ {W : World} where
  -- each slot holds the word that it has
  pub valid_empty : (σ : Words) → Valid W (record { defined = λ q. 0; initial = σ }) empty σ
  unfolding value_in expression_in word_of
  valid_empty σ = record {
    slot= = λ s. refl;
    expression= = λ e v q. let z : ◌≡◌ {A = ℕ} 0 1 = cc in absurd (omega arith);
  }

  -- the slots that g names are slot a alone, which is given the word of v
  pub valid_store : {ρ : Valuation} {t : Values} {σ : Words} (g : ℕ → Bool) (a : ℕ) (v : Atom) (w : ℕ) → ((s : ℕ) → g s ≡ eqb a s)
      → Valid W ρ t σ → word_of ρ v ≡ w → Valid W ρ (store t a v) (put g (λ s. w) σ)
  unfolding store put value_in
  valid_store {ρ} {t} {σ} g a v w is h e = record { slot= = λ s. rw (is s) (same s (eqb a s)); expression= = h.expression= }
    where
      same : (s : ℕ) (u : Bool) → word_of ρ (cond u v (value_in t.slots s)) ≡ cond u w (σ s)
      same s true = e
      same s false = h.slot= s

  -- a fresh definition: its word is the expression's
  pub valid_learn : {ρ : Valuation} {t : Values} {p : ℕ} {σ : Words} (e : Expression) (a w : ℕ) → p < at_start → Static t p → Valid W ρ t σ → BelowBoth p e
      → word_of_expression W ρ e ≡ w → Valid W (define ρ p w) (learn t e (Definition p a)) σ
  unfolding learn expression_in
  valid_learn {ρ} {t} {p} {σ} e a w l k h be q = record {
    slot= = λ s. word_old ρ w (k.slot< s) ∙ h.slot= s;
    expression= = λ d v m. eq d v (same_expression e d) refl m;
  }
    where
      old_expression : (d : Expression) → BelowBoth p d → word_of_expression W (define ρ p w) d ≡ word_of_expression W ρ d
      old_expression d b = ap₂ (λ (x y : ℕ). expression_word (class_of d.opcode) W d.opcode d.flags x y) (word_old ρ w b.left) (word_old ρ w b.right)

      eq : (d : Expression) (v : Atom) (u : Bool) → same_expression e d ≡ u → cond u (Some (Definition p a)) (expression_in t.expressions d) ≡ Some v
          → word_of (define ρ p w) v ≡ word_of_expression W (define ρ p w) d
      eq d v true i m =
          let d= : e ≡ d = same_expression_lem e d i in
          let v= : Definition p a ≡ v = cc in
          rw (← d=, ← v=) (word_new ρ p a w l ∙ sym q ∙ sym (old_expression e be))
      eq d v false i m =
          let b = k.expression< d v m in
          word_old ρ w b.0 ∙ h.expression= d v m ∙ sym (old_expression d b.1)
