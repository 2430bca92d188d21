-- What each function of the walk does, from what the functions that it calls do.
-- Assumes nothing.
use mathlib.Core.Path.{◌≡◌, refl, sym, ap, ◌∙◌}
use mathlib.Core.Bool.{Bool, true, false, cond, ◌&&◌}
use mathlib.Core.List.{List, [], ◌∷◌}
use Rattle.std.specs.Prelude.{Some, None, Option}
use Prim.Native.Nat.{ℕ, ◌+◌, ◌≤◌, ◌<◌}
use native.Mathlib.Omega.{arith}
use lib.Dec.{eqb}
use lib.ListN.{length}
use types.Run.{OneOf, miss}
use borrow.Author.Tests.{eq-eqb}
use denote.Enum.Declared.{tag_of as variant_of}
use Rattle.instruction.specs.declared.Instruction.{Instruction}
use Rattle.instruction.specs.declared.Class.{Class}
use Rattle.instruction.specs.declared.Class.TheVariants.{Return}
use Rattle.instruction.specs.Instruction.{plain}
use Rattle.values.specs.Fold.{fits_imm32}
use Rattle.effects.specs.Shape.{Sections, Tables}
use Rattle.values.specs.Values.{Values, Expression, value_of, expression_in, learn}
use Rattle.values.specs.Number.{Numbered, set_a, set_b, set_bc, held_or_stays, folded, stored as storedBy, copy_or_stay, copied, by_expression, by_value, by_value_with, number_copy, number_constant, number_read, decided, number_jump, cleared as clearedBy, number_by, number_by_with}
use Rattle.values.specs.laws.Folded.{integer_of, expression_of}
use Rattle.values.specs.laws.Entries.{Key, key}
use Rattle.values.specs.laws.Memory.{memory_of, number_at, key_atom, constant_key, expression_key, limit, integer_at, expression_at, Ready, atom_in, atom_found, Holds}
use Rattle.values.specs.laws.Promises.{Kept, Clears, Represents, Stores, Shares, Interns, Learns}
use Rattle.numbering.specs.laws.Walk.{sections_with, load_of, Stands, Becomes, Known, Valued, Second, second_number, fold_by, second_of, atom_of, KindOf, operated, scalar_in, undecided_by, pure_by, other_by}
use Rattle.values.specs.declared.Atom.{Atom}
use Rattle.values.specs.declared.Atom.TheVariants.{Integer, Float, Definition}
use Rattle.values.specs.contracts.Atom.{the_type}
use Rattle.values.proofs.Atoms.{atom_place, atom_zero, integer_at_lem}
use Rattle.values.proofs.Recording.{unchanged, same_self}
use Rattle.numbering.proofs.Keeping.{widen, kept_then, same_value, same_then, value_at, Knows, shared_slot, shared_none, found_low, known_expression}

-- ---- steps

module _ {n : ℕ} {types : List ℕ} {t : List ℕ} where
  -- a step after another change of the memory, ρ by the definition
  pub after : {k c e k' c' e' : ℕ} {t₁ t' : List ℕ} {x : Instruction} {Good Good' : (ℕ → ℕ) → List ℕ → Type 0} {f f' : (ℕ → ℕ) → Sections → Values → Numbered} (ρ : (ℕ → ℕ) → Values → Values)
      → Kept n (length types) k c e t t₁
      → ((dest : ℕ → ℕ) (v : Values) → Knows n types t dest v → Knows n types t₁ dest (ρ dest v))
      → ((dest : ℕ → ℕ) (z : List ℕ) (l : ℕ) (T : Tables) (v : Values) → Good' dest z → Knows n types t dest v
      → Good dest z × (f dest (sections_with types z l T) (ρ dest v) ≡ f' dest (sections_with types z l T) v))
      → Becomes n types k' c' e' t₁ x t' Good f → Becomes n types (k + k') (c + c') (e + e') t x t' Good' f'
  after ρ d w g b =
      record {
        kept = kept_then d b.kept;
        holds = λ dest z l T v y h.
            let q = g dest z l T v y h in
            rw (sym q.1) (b.holds dest z l T (ρ dest v) q.0 (w dest v h));
      }

  -- the same step, told of another definition that agrees
  pub as_becomes : {k c e k' c' e' : ℕ} {t' : List ℕ} {x : Instruction} {Good Good' : (ℕ → ℕ) → List ℕ → Type 0} {f f' : (ℕ → ℕ) → Sections → Values → Numbered} → k ≤ k' → c ≤ c' → e ≤ e'
      → ((dest : ℕ → ℕ) (z : List ℕ) (l : ℕ) (T : Tables) (v : Values) → Good' dest z → Knows n types t dest v
      → Good dest z × (f dest (sections_with types z l T) v ≡ f' dest (sections_with types z l T) v))
      → Becomes n types k c e t x t' Good f → Becomes n types k' c' e' t x t' Good' f'
  as_becomes a b d g w =
      record {
        kept = widen a b d w.kept;
        holds = λ dest z l T v y h.
            let q = g dest z l T v y h in
            rw (sym q.1) (w.holds dest z l T v q.0 h);
      }

  -- a store
  pub store_becomes : {i : Instruction} {d : ℕ} {t' : List ℕ} → Stores n (length types) types t i.a d t'
      → Becomes n types 0 0 0 t i t' (λ dest z. Unit {0}) (λ dest S x. storedBy S i x (value_at n types t dest d))
  unfolding storedBy
  store_becomes d = record { kept = d.kept; holds = λ dest z l T v y h. (refl, d.holds dest v h) }

  -- a store of a constant
  pub store_interned : (i : Instruction) {x : Instruction} {kind bits d : ℕ} {t₁ t' : List ℕ} → Interns n (length types) t kind bits d t₁
      → Becomes n types 0 0 0 t₁ x t' (λ dest z. Unit {0}) (λ dest S v. storedBy S i v (value_at n types t₁ dest d))
      → Becomes n types 0 1 0 t x t' (λ dest z. Unit {0}) (λ dest S v. storedBy S i v (key_atom (constant_key kind bits)))
  store_interned i d b = after (λ dest v. v) d.kept (d.holds types) (λ dest z l T v y h. (tt, rw (d.is dest))) b

  -- all values are forgotten
  pub forget_becomes : {i x : Instruction} {t' : List ℕ} {c e : ℕ} {Good : (ℕ → ℕ) → List ℕ → Type 0} {f : (ℕ → ℕ) → Sections → Values → Numbered} → (x ≡ i) × Clears n (length types) t t'
      → ((dest : ℕ → ℕ) (z : List ℕ) (l : ℕ) (T : Tables) (v : Values) → f dest (sections_with types z l T) v ≡ clearedBy (sections_with types z l T) i) → Becomes n types 1 c e t x t' Good f
  forget_becomes p e =
      record {
        kept = widen (omega arith) (omega arith) (omega arith) p.1.kept;
        holds = λ dest z l T v y h. rw (e dest z l T v) (p.0, p.1.holds types dest);
      }

  -- nothing changes but the instruction
  pub stay_becomes : {x : Instruction} {k c e : ℕ} {Good : (ℕ → ℕ) → List ℕ → Type 0} {f : (ℕ → ℕ) → Sections → Values → Numbered} → Ready n (length types) t
      → ((dest : ℕ → ℕ) (z : List ℕ) (l : ℕ) (T : Tables) (v : Values) → Knows n types t dest v
      → f dest (sections_with types z l T) v ≡ record { instruction = x; table = v }) → Becomes n types k c e t x t Good f
  stay_becomes g e = record { kept = unchanged g; holds = λ dest z l T v y h. rw (e dest z l T v h) (refl, h) }

  -- a store, and a copy of the lowest slot that held the value
  copied_becomes : (i : Instruction) {d : ℕ} {f : Option ℕ} {j : Instruction} {t' : List ℕ} → Shares n (length types) types t i.a d f t' → j.a ≡ i.a
      → ((dest : ℕ → ℕ) (z : List ℕ) (l : ℕ) (T : Tables) (v : Values) → Knows n types t dest v
      → j ≡ copied (sections_with types z l T) i v (value_at n types t dest d))
      → Becomes n types 0 0 0 t j t' (λ dest z. Unit {0})
      (λ dest S v. storedBy S (copied S i v (value_at n types t dest d)) v (value_at n types t dest d))
  copied_becomes i {d} {t' = t'} w a g =
      let b : Stores n (length types) types t i.a d t' = w.stores in
      as_becomes (omega arith) (omega arith) (omega arith)
      (λ dest z l T v y h. (y, ap (λ (j : Instruction). storedBy (sections_with types z l T) j v (value_at n types t dest d)) (g dest z l T v h))) (store_becomes (rw (sym a) at b))

  pub copy_found : (i : Instruction) {d r : ℕ} {f : Option ℕ} {j : Instruction} {t' : List ℕ} → Shares n (length types) types t i.a d f t' → f ≡ Some r → j ≡ plain 3 i.a r 0
      → Becomes n types 0 0 0 t j t' (λ dest z. Unit {0})
      (λ dest S v. storedBy S (copied S i v (value_at n types t dest d)) v (value_at n types t dest d))
  unfolding copied copy_or_stay
  copy_found i w l e = copied_becomes i w (rw e) (λ dest z k T v h. rw (shared_slot w dest v h l) e)

  pub copy_none : (i : Instruction) {d : ℕ} {f : Option ℕ} {t' : List ℕ} → Shares n (length types) types t i.a d f t' → f ≡ None
      → Becomes n types 0 0 0 t i t' (λ dest z. Unit {0})
      (λ dest S v. storedBy S (copied S i v (value_at n types t dest d)) v (value_at n types t dest d))
  unfolding copied copy_or_stay
  copy_none i w l = copied_becomes i w refl (λ dest z k T v h. rw (shared_none w dest v h l))

  -- a new expression, whose value is what place p defines
  pub defines : {i x : Instruction} {p op flags left right : ℕ} {t₁ t' : List ℕ} → Learns n (length types) t op flags left right (length types + p) t₁
      → Becomes n types 0 0 0 t₁ x t' (λ dest z. Unit {0}) (λ dest S v. storedBy S i v (value_at n types t₁ dest (length types + p)))
      → Becomes n types 0 0 1 t x t' (λ dest z. Stands n p i dest)
      (λ dest S v. storedBy S i (learn v (expression_of op flags (value_at n types t dest left) (value_at n types t dest right)) (Definition p i.a)) (Definition p i.a))
  defines {i} {x} {p} {op} {flags} {left} {right} {t₁} d b =
      after
      (λ dest v.
      learn v (expression_of op flags (value_at n types t dest left) (value_at n types t dest right))
      (value_at n types t dest (length types + p)))
      d.kept (d.holds types)
      (λ dest z l T v y h.
      let here : value_at n types t dest (length types + p) ≡ Definition p i.a
      = atom_place n (length types) dest (memory_of n (length types) t).constant_table p y.place ∙ ap (Definition p) (sym y.own) in
      let there : value_at n types t₁ dest (length types + p) ≡ Definition p i.a
      = atom_place n (length types) dest (memory_of n (length types) t₁).constant_table p y.place ∙ ap (Definition p) (sym y.own) in
      (tt, rw (here, there)))
      b

  -- looked up: found, or new
  module _ (i : Instruction) (p left right : ℕ) {k : Key} {x : Instruction} {t' : List ℕ} (lowl : left < limit n (length types) (memory_of n (length types) t)) (lowr : right < limit n (length types) (memory_of n (length types) t))
      (q : k ≡ expression_key i.op i.flags left right) where
    pub expression_found : {f : Option ℕ} (d : ℕ) → f ≡ expression_at n (length types) (memory_of n (length types) t) k → f ≡ Some d
        → Becomes n types 0 0 0 t x t' (λ dest z. Unit {0})
        (λ dest S v. storedBy S (copied S i v (value_at n types t dest d)) v (value_at n types t dest d))
        → Becomes n types 0 0 1 t x t' (λ dest z. Stands n p i dest)
        (λ dest S v. by_expression S p i v (expression_of i.op i.flags (value_at n types t dest left) (value_at n types t dest right)) (expression_in v.expressions (expression_of i.op i.flags (value_at n types t dest left) (value_at n types t dest right))))
    unfolding by_expression atom_found
    expression_found {f} d e z b =
        as_becomes (omega arith) (omega arith) (omega arith)
        (λ dest w l T v y h.
        let known : Some (value_at n types t dest d) ≡ expression_in v.expressions (expression_of i.op i.flags (value_at n types t dest left) (value_at n types t dest right))
        = ap (atom_found n (length types) dest (memory_of n (length types) t)) (sym z) ∙ known_expression t i.op i.flags left right y.op y.flags lowl lowr q e h in
        (tt, rw (sym known)))
        b

    pub expression_none : {f : Option ℕ} → f ≡ expression_at n (length types) (memory_of n (length types) t) k → f ≡ None → i.op < 256 → i.flags < 256
        → ((op flags left right : ℕ) → op < 256 → flags < 256 → left < limit n (length types) (memory_of n (length types) t) → right < limit n (length types) (memory_of n (length types) t) → k ≡ expression_key op flags left right
        → Becomes n types 0 0 1 t x t' (λ dest z. Stands n p i dest)
        (λ dest S v. storedBy S i (learn v (expression_of op flags (value_at n types t dest left) (value_at n types t dest right)) (Definition p i.a)) (Definition p i.a)))
        → Becomes n types 0 0 1 t x t' (λ dest z. Stands n p i dest)
        (λ dest S v. by_expression S p i v (expression_of i.op i.flags (value_at n types t dest left) (value_at n types t dest right)) (expression_in v.expressions (expression_of i.op i.flags (value_at n types t dest left) (value_at n types t dest right))))
    unfolding by_expression atom_found
    expression_none {f} e z a c b =
        as_becomes (omega arith) (omega arith) (omega arith)
        (λ dest w l T v y h.
        let known : None ≡ expression_in v.expressions (expression_of i.op i.flags (value_at n types t dest left) (value_at n types t dest right))
        = ap (atom_found n (length types) dest (memory_of n (length types) t)) (sym z) ∙ known_expression t i.op i.flags left right a c lowl lowr q e h in
        (y, rw (sym known)))
        (b i.op i.flags left right a c lowl lowr q)

  -- a folded value that fits, and one that does not
  pub word_fits : (i : Instruction) (w : ℕ) {b : Bool} {x j : Instruction} {t' : List ℕ} → b ≡ fits_imm32 w → b ≡ true → j ≡ load_of i w
      → Becomes n types 0 1 0 t x t' (λ dest z. Unit {0}) (λ dest S v. storedBy S j v (key_atom (constant_key 0 w)))
      → Becomes n types 0 1 0 t x t' (λ dest z. Unit {0}) (λ dest S v. storedBy S (folded S (held_or_stays S) i v w) v (Integer w))
  unfolding folded key_atom
  word_fits i w e q s b =
      let fits = sym e ∙ q in
      as_becomes (omega arith) (omega arith) (omega arith) (λ dest z l T v y h. (tt, rw (fits, s))) b

  pub word_wide : (i : Instruction) (w : ℕ) {d : ℕ} {x : Instruction} {t₁ t' : List ℕ} → fits_imm32 w ≡ false → Interns n (length types) t 0 w d t₁
      → Becomes n types 0 0 0 t₁ x t' (λ dest z. Unit {0}) (λ dest S v. storedBy S (copied S i v (value_at n types t₁ dest d)) v (value_at n types t₁ dest d))
      → Becomes n types 0 1 0 t x t' (λ dest z. Unit {0}) (λ dest S v. storedBy S (folded S (held_or_stays S) i v w) v (Integer w))
  unfolding folded key_atom
  word_wide i w wide d b = after (λ dest v. v) d.kept (d.holds types) (λ dest z l T v y h. (tt, rw (d.is dest, wide))) b

  -- folded, or looked up
  pub folded_word : (i : Instruction) (p : ℕ) (g : (ℕ → ℕ) → Expression) {f : Option ℕ} {w : ℕ} {x : Instruction} {t' : List ℕ} → f ≡ Some w
      → Becomes n types 0 1 0 t x t' (λ dest z. Unit {0}) (λ dest S v. storedBy S (folded S (held_or_stays S) i v w) v (Integer w))
      → Becomes n types 0 1 1 t x t' (λ dest z. Stands n p i dest) (λ dest S v. by_value S p i v (g dest) f)
  unfolding by_value_with
  folded_word i p g q b = as_becomes (omega arith) (omega arith) (omega arith) (λ dest z l T v y h. (tt, rw q)) b

  folded_not : (i : Instruction) (p : ℕ) (g : (ℕ → ℕ) → Expression) {f : Option ℕ} {x : Instruction} {t' : List ℕ} → f ≡ None
      → Becomes n types 0 0 1 t x t' (λ dest z. Stands n p i dest) (λ dest S v. by_expression S p i v (g dest) (expression_in v.expressions (g dest)))
      → Becomes n types 0 1 1 t x t' (λ dest z. Stands n p i dest) (λ dest S v. by_value S p i v (g dest) f)
  unfolding by_value_with
  folded_not i p g q b = as_becomes (omega arith) (omega arith) (omega arith) (λ dest z l T v y h. (y, rw q)) b

-- ---- a number that is known

-- of a folded word, and of an expression
pub known_of_word : {n S word v d : ℕ} {t t₁ : List ℕ} {f : Option ℕ} → f ≡ Some v → Interns n S t 0 v d t₁ → Known n S t word f (Some d) t₁
known_of_word {v = v} e w =
    record {
      constant = λ u z. let same : v ≡ u = cc in record { number = _; is = refl; interns = rw (← same) w };
      expression = λ z. let y : ◌≡◌ {A = ℕ} 0 1 = cc in absurd (omega arith);
    }

pub known_of_expression : {n S word : ℕ} {t : List ℕ} {r : Option ℕ} {f : Option ℕ} → f ≡ None → r ≡ expression_at n S (memory_of n S t) (key word 0) → Known n S t word f r t
known_of_expression e w =
    record { constant = λ u z. let y : ◌≡◌ {A = ℕ} 0 1 = cc in absurd (omega arith); expression = λ z. (refl, w) }

module _ {n S word : ℕ} {t t₁ : List ℕ} {r : Option ℕ} where
  -- it is in use
  pub known_low : {f : Option ℕ} (d : ℕ) → Ready n S t → Known n S t word f r t₁ → r ≡ Some d → Ready n S t₁ × (d < limit n S (memory_of n S t₁))
  known_low {f} d g k q = go f refl
    where
      go : (f' : Option ℕ) → f ≡ f' → Ready n S t₁ × (d < limit n S (memory_of n S t₁))
      go (Some v) e =
          let w = k.constant v e in
          let same : w.number ≡ d = cc in
          (w.interns.kept.ready, rw (← same) w.interns.low)
      go None e =
          let w = k.expression e in
          rw w.0 (g, found_low g _ d w.1 q)

  -- there is none of an expression alone, and then the memory is as it was
  pub known_none : {f : Option ℕ} → Known n S t word f r t₁ → r ≡ None → (f ≡ None) × (t₁ ≡ t) × (r ≡ expression_at n S (memory_of n S t) (key word 0))
  known_none {f} k q = go f refl
    where
      go : (f' : Option ℕ) → f ≡ f' → (f ≡ None) × (t₁ ≡ t) × (r ≡ expression_at n S (memory_of n S t) (key word 0))
      go (Some v) e =
          let w = k.constant v e in
          let z : ◌≡◌ {A = ℕ} 0 1 = cc in
          absurd (omega arith)
      go None e = let w = k.expression e in (e, w.0, w.1)

module _ {n word : ℕ} {types t t₁ t' : List ℕ} {r : Option ℕ} {f : Option ℕ} (i : Instruction) (p left right : ℕ) {x : Instruction} (lowl : left < limit n (length types) (memory_of n (length types) t)) (lowr : right < limit n (length types) (memory_of n (length types) t)) (q : key word 0 ≡ expression_key i.op i.flags left right) (k : Known n (length types) t word f r t₁) where
  -- "becomes Copy from" the slot that holds the value, or stays
  pub known_found : ((v : ℕ) → f ≡ Some v → fits_imm32 v ≡ false) → (d : ℕ) → r ≡ Some d
      → Becomes n types 0 0 0 t₁ x t' (λ dest z. Unit {0}) (λ dest S v. storedBy S (copied S i v (value_at n types t₁ dest d)) v (value_at n types t₁ dest d))
      → Valued n types t i p left right f x t'
  known_found wide d e b = go f refl
    where
      go : (f' : Option ℕ) → f ≡ f' → Valued n types t i p left right f x t'
      go (Some v) z =
          let w = k.constant v z in
          let same : w.number ≡ d = cc in
          folded_word i p _ z (word_wide i v (wide v z) w.interns (rw same b))
      go None z =
          let w = k.expression z in
          folded_not i p _ z (expression_found i p left right lowl lowr q d w.1 e (rw (← w.0) b))

  -- a new expression
  pub known_new : r ≡ None → i.op < 256 → i.flags < 256
      → ((op flags left right : ℕ) → op < 256 → flags < 256 → left < limit n (length types) (memory_of n (length types) t₁) → right < limit n (length types) (memory_of n (length types) t₁) → key word 0 ≡ expression_key op flags left right
      → Becomes n types 0 0 1 t₁ x t' (λ dest z. Stands n p i dest)
      (λ dest S v. storedBy S i (learn v (expression_of op flags (value_at n types t₁ dest left) (value_at n types t₁ dest right)) (Definition p i.a)) (Definition p i.a)))
      → Valued n types t i p left right f x t'
  known_new e a c b =
      let w = known_none k e in
      folded_not i p _ w.0 (expression_none i p left right lowl lowr q w.2 e a c (rw (← w.1) b))

-- a word outside 32 bits, and no word
pub wide_word : {f : Option ℕ} {b : Bool} {w : ℕ} → f ≡ Some w → b ≡ fits_imm32 w → b ≡ false → (v : ℕ) → f ≡ Some v → fits_imm32 v ≡ false
wide_word {w = w} e r l v z = let same : w ≡ v = cc in rw (← same) (sym r ∙ l)

pub no_word : {f : Option ℕ} → f ≡ None → (v : ℕ) → f ≡ Some v → fits_imm32 v ≡ false
no_word e v z = let y : ◌≡◌ {A = ℕ} 0 1 = cc in absurd (omega arith)

-- other operands, the same destination
other_operands : {n p : ℕ} {i : Instruction} {dest : ℕ → ℕ} (b c : ℕ) → Stands n p i dest → Stands n p (set_bc i b c) dest
other_operands b c y = record { op = y.op; flags = y.flags; a = y.a; place = y.place; own = y.own }

-- a known integer, or none
is_integer : (w : Atom) (x : ℕ) → integer_of w ≡ Some x → w ≡ Integer x
unfolding integer_of
is_integer (Integer y) x e = cc
is_integer (Float y) x e = let z : ◌≡◌ {A = ℕ} 0 1 = cc in absurd (omega arith)
is_integer (Definition p s) x e = let z : ◌≡◌ {A = ℕ} 0 1 = cc in absurd (omega arith)

-- what the `else` of a `let Atom::Integer(x) = ..` knows is the tag alone
no_integer : (w : Atom) → OneOf (1 ∷ 2 ∷ []) (variant_of the_type w) → integer_of w ≡ None
unfolding integer_of
no_integer (Integer x) k = absurd (miss (1 ∷ 2 ∷ []) 0 tt k)
no_integer (Float x) k = refl
no_integer (Definition p s) k = refl

not_integer : (S : Sections) (f : ℕ → Bool) (i : Instruction) (v : Values) (w : Atom) → integer_of w ≡ None → undecided_by S i v ≡ number_jump S f i v w
unfolding undecided_by number_jump integer_of
not_integer S f i v (Integer x) e = let z : ◌≡◌ {A = ℕ} 0 1 = cc in absurd (omega arith)
not_integer S f i v (Float x) e = refl
not_integer S f i v (Definition p s) e = refl

known_integer : (n : ℕ) (types t : List ℕ) (dest : ℕ → ℕ) (v : Values) → Knows n types t dest v → (s d : ℕ) (w : Atom) → s < length types → d ≡ number_at (memory_of n (length types) t) s
    → integer_of w ≡ integer_at n (length types) (memory_of n (length types) t).constant_table d → integer_of (value_of v s) ≡ integer_of w
known_integer n types t dest v h s d w low e q =
    ap integer_of (sym (h.slots s low) ∙ ap (value_at n types t dest) (sym e)) ∙ sym (integer_at_lem n (length types) dest (memory_of n (length types) t).constant_table d) ∙ sym q

pub return_other : (types : List ℕ) (i : Instruction) (z : List ℕ) (l : ℕ) (T : Tables) (v : Values) → (eqb i.b 1 && scalar_in types i.a) ≡ false
    → number_by (sections_with types z l T) Return 0 i v ≡ clearedBy (sections_with types z l T) i
unfolding number_by_with
return_other types i z l T v e = rw e

-- no store to a scalar
pub other_cleared : (types : List ℕ) (i : Instruction) (p : ℕ) (k : Class) {s : Bool} → s ≡ scalar_in types i.a → s ≡ false → (z : List ℕ) (l : ℕ) (T : Tables) (v : Values)
    → other_by (sections_with types z l T) k p i v ≡ clearedBy (sections_with types z l T) i
unfolding other_by
other_cleared types i p k e q z l T v =
    let known : scalar_in types i.a ≡ false = sym e ∙ q in
    rw known

-- no constant is known
pub constant_unknown : (types : List ℕ) (i : Instruction) {f : Option (ℕ × ℕ)} {o : Option Atom} → atom_of f ≡ o → f ≡ None → (z : List ℕ) (l : ℕ) (T : Tables) (v : Values)
    → number_constant (sections_with types z l T) i v o ≡ clearedBy (sections_with types z l T) i
unfolding number_constant
constant_unknown types i {f} {o} e q z l T v =
    let known : o ≡ None = sym e ∙ ap atom_of q in
    rw known

-- the kind of a constant that is known
pub kind_known : {f : Option (ℕ × ℕ)} {kind bits : ℕ} → KindOf f → f ≡ Some (kind, bits) → kind ≤ 1
kind_known h e = rw e at h

-- the second operand of a binary opcode; a unary one has none
module _ {n S : ℕ} (types : List ℕ) {t : List ℕ} where
  pub second_chosen : {s d slot : ℕ} {b : Bool} {t₁ : List ℕ} → b ≡ true → Represents n S types t s d slot t₁ → Second n S types t s b slot t₁
  unfolding second_of
  second_chosen e d = rw e (record { kept = d.kept; same = d.same; holds = d.holds })

  pub second_none : {s : ℕ} {b : Bool} → Ready n S t → b ≡ false → Second n S types t s b s t
  unfolding second_of
  second_none g e = rw e (record { kept = unchanged g; same = same_self g; holds = λ dest v h. (refl, h) })

  -- its value
  second_value : {s d slot : ℕ} (b : Bool) {t₁ : List ℕ} {dest : ℕ → ℕ} {v : Values} → (b ≡ true → s < S) → d ≡ second_number n S (memory_of n S t) s b → Second n S types t s b slot t₁
      → Holds n S types dest v (memory_of n S t₁) → atom_in n S dest (memory_of n S t₁) d ≡ cond b (value_of v s) (Integer 0)
  unfolding second_number
  second_value {s} {d} true l e w h = same_value w.same s d (l refl) (sym e) h
  second_value {s} {d} false {t₁} {dest} l e w h = ap (atom_in n S dest (memory_of n S t₁)) e ∙ atom_zero n S dest (memory_of n S t₁).constant_table

module _ {n : ℕ} {types : List ℕ} {t : List ℕ} where
  pub operator_becomes : (i : Instruction) (p : ℕ) (b : Bool) {left right slot slot₂ : ℕ} {t₁ t₂ : List ℕ} (f : Option ℕ) {x : Instruction} {t' : List ℕ}
      → i.b < length types → (b ≡ true → i.c < length types) → left ≡ number_at (memory_of n (length types) t) i.b
      → Represents n (length types) types t i.b left slot t₁ → right ≡ second_number n (length types) (memory_of n (length types) t₁) i.c b
      → Second n (length types) types t₁ i.c b slot₂ t₂
      → ((dest : ℕ → ℕ) → f ≡ fold_by b (expression_of i.op i.flags (value_at n types t₂ dest left) (value_at n types t₂ dest right)))
      → Becomes n types 0 1 1 t₂ x t' (λ dest z. Stands n p (set_bc i slot slot₂) dest)
      (λ dest S v. by_value S p (set_bc i slot slot₂) v (expression_of i.op i.flags (value_at n types t₂ dest left) (value_at n types t₂ dest right)) f)
      → Becomes n types 0 1 1 t x t' (λ dest z. Stands n p i dest) (λ dest S v. operated S b p i v)
  unfolding operated
  operator_becomes i p b {left} {right} {slot} {slot₂} {t₁} {t₂} f lb lc is d e d₂ g w =
      after (λ dest v. v) (kept_then d.kept d₂.kept) (λ dest v h. (d₂.holds dest v (d.holds dest v h).1).1)
      (λ dest z l T v y h.
      let h₁ = d.holds dest v h in
      let h₂ = d₂.holds dest v h₁.1 in
      let lefts : value_at n types t₂ dest left ≡ value_of v i.b = same_value (same_then d.same d₂.same) i.b left lb (sym is) h₂.1 in
      let rights : value_at n types t₂ dest right ≡ cond b (value_of v i.c) (Integer 0) = second_value types b lc e d₂ h₂.1 in
      (other_operands slot slot₂ y, rw (g dest, lefts, rights, h₁.0, h₂.0)))
      w

  pub copy_becomes : (i : Instruction) {d slot : ℕ} {t₁ : List ℕ} {x : Instruction} {t' : List ℕ} → i.b < length types → d ≡ number_at (memory_of n (length types) t) i.b
      → Represents n (length types) types t i.b d slot t₁
      → Becomes n types 0 0 0 t₁ x t' (λ dest z. Unit {0}) (λ dest S v. storedBy S (set_b i slot) v (value_at n types t₁ dest d))
      → Becomes n types 0 0 0 t x t' (λ dest z. Unit {0}) (λ dest S v. number_copy S i v)
  unfolding number_copy
  copy_becomes i {d} {slot} {t₁} low is r b =
      after (λ dest v. v) r.kept (λ dest v h. (r.holds dest v h).1)
      (λ dest z l T v y h.
      let q = r.holds dest v h in
      let known : value_at n types t₁ dest d ≡ value_of v i.b = same_value r.same i.b d low (sym is) q.1 in
      (tt, rw (known, q.0)))
      b

  pub constant_becomes : (i : Instruction) {f : Option (ℕ × ℕ)} {o : Option Atom} {kind bits : ℕ} {x : Instruction} {t' : List ℕ} → atom_of f ≡ o → f ≡ Some (kind, bits)
      → Becomes n types 0 1 0 t x t' (λ dest z. Unit {0}) (λ dest S v. storedBy S i v (key_atom (constant_key kind bits)))
      → Becomes n types 1 1 0 t x t' (λ dest z. Unit {0}) (λ dest S v. number_constant S i v o)
  unfolding number_constant
  constant_becomes i {f} {o} {kind} {bits} e q b =
      let known : o ≡ Some (key_atom (constant_key kind bits)) = sym e ∙ ap atom_of q in
      as_becomes (omega arith) (omega arith) (omega arith) (λ dest z l T v y h. (tt, rw known)) b

  pub read_becomes : (i : Instruction) {d slot : ℕ} {t₁ : List ℕ} {x : Instruction} → Represents n (length types) types t i.a d slot t₁
      → x ≡ set_a i slot → Becomes n types 0 0 0 t x t₁ (λ dest z. Unit {0}) (λ dest S v. number_read S i v)
  unfolding number_read
  read_becomes i d p =
      record {
        kept = d.kept;
        holds = λ dest z l T v y h.
            let r = d.holds dest v h in
            (p ∙ ap (set_a i) r.0, r.1);
      }

  -- an undecided jump
  pub undecided_read : (i : Instruction) {s : Bool} {x : Instruction} {t' : List ℕ} → s ≡ scalar_in types i.a → s ≡ true → Becomes n types 0 0 0 t x t' (λ dest z. Unit {0}) (λ dest S v. number_read S i v)
      → Becomes n types 0 0 0 t x t' (λ dest z. Unit {0}) (λ dest S v. undecided_by S i v)
  unfolding undecided_by
  undecided_read i e q b =
      let known : scalar_in types i.a ≡ true = sym e ∙ q in
      as_becomes (omega arith) (omega arith) (omega arith) (λ dest z l T v y h. (y, rw known)) b

  pub undecided_stay : (i : Instruction) {s : Bool} → Ready n (length types) t → s ≡ scalar_in types i.a → s ≡ false → Becomes n types 0 0 0 t i t (λ dest z. Unit {0}) (λ dest S v. undecided_by S i v)
  unfolding undecided_by
  undecided_stay i g e q =
      let known : scalar_in types i.a ≡ false = sym e ∙ q in
      stay_becomes g (λ dest z l T v h. rw known)

  -- a jump on a slot whose value has the number d
  module _ (i : Instruction) (f : ℕ → Bool) {d : ℕ} (w : Atom) (low : i.a < length types) (e : d ≡ number_at (memory_of n (length types) t) i.a)
      (q : integer_of w ≡ integer_at n (length types) (memory_of n (length types) t).constant_table d) where
    pub jump_undecided : {x : Instruction} {t' : List ℕ} → OneOf (1 ∷ 2 ∷ []) (variant_of the_type w) → Becomes n types 0 0 0 t x t' (λ dest z. Unit {0}) (λ dest S v. undecided_by S i v)
        → Becomes n types 0 0 0 t x t' (λ dest z. Unit {0}) (λ dest S v. number_jump S f i v (value_of v i.a))
    jump_undecided k b =
        as_becomes (omega arith) (omega arith) (omega arith)
        (λ dest z l T v y h. (y, not_integer (sections_with types z l T) f i v (value_of v i.a) (known_integer n types t dest v h i.a d w low e q ∙ no_integer w k)))
        b

    pub jump_decided : {a : ℕ} {b : Bool} {x : Instruction} → Ready n (length types) t → w ≡ Integer a → f a ≡ b → x ≡ cond b (plain 57 0 i.b i.c) (plain 0 0 0 0)
        → Becomes n types 0 0 0 t x t (λ dest z. Unit {0}) (λ dest S v. number_jump S f i v (value_of v i.a))
    unfolding number_jump decided integer_of
    jump_decided {a} g k s p =
        stay_becomes g
        (λ dest z l T v h.
        let known : value_of v i.a ≡ Integer a = is_integer (value_of v i.a) a (known_integer n types t dest v h i.a d w low e q ∙ ap integer_of k) in
        rw (known, s, p))

  -- a return
  pub return_read : (i : Instruction) {s : Bool} {x : Instruction} {t' : List ℕ} → i.b ≡ 1 → s ≡ scalar_in types i.a → s ≡ true
      → Becomes n types 0 0 0 t x t' (λ dest z. Unit {0}) (λ dest S v. number_read S i v) → Becomes n types 1 0 0 t x t' (λ dest z. Unit {0}) (λ dest S v. number_by S Return 0 i v)
  unfolding number_by_with
  return_read i r e q b =
      let known : scalar_in types i.a ≡ true = sym e ∙ q in
      as_becomes (omega arith) (omega arith) (omega arith) (λ dest z l T v y h. (y, rw (eq-eqb i.b 1 r, known))) b

  -- a store to a scalar, or none
  pub other_pure : (i : Instruction) (p : ℕ) (k : Class) {s : Bool} {x : Instruction} {t' : List ℕ} {Good : (ℕ → ℕ) → List ℕ → Type 0} → s ≡ scalar_in types i.a → s ≡ true
      → Becomes n types 1 1 1 t x t' Good (λ dest S v. pure_by S k p i v) → Becomes n types 1 1 1 t x t' Good (λ dest S v. other_by S k p i v)
  unfolding other_by
  other_pure i p k e q b =
      let known : scalar_in types i.a ≡ true = sym e ∙ q in
      as_becomes (omega arith) (omega arith) (omega arith) (λ dest z l T v y h. (y, rw known)) b

  -- by class
  pub pure_by_lem : (i : Instruction) (p : ℕ) {k j : Class} {x : Instruction} {t' : List ℕ} {Good Good' : (ℕ → ℕ) → List ℕ → Type 0} (f : (ℕ → ℕ) → Sections → Values → Numbered) → k ≡ j
      → ((dest : ℕ → ℕ) (z : List ℕ) (l : ℕ) (T : Tables) (v : Values) → Good' dest z → Good dest z × (f dest (sections_with types z l T) v ≡ pure_by (sections_with types z l T) j p i v))
      → {a b d : ℕ} → a ≤ 1 → b ≤ 1 → d ≤ 1 → Becomes n types a b d t x t' Good f → Becomes n types 1 1 1 t x t' Good' (λ dest S v. pure_by S k p i v)
  pure_by_lem i p f e g u w z b = as_becomes u w z (λ dest c l T v y h. let q = g dest c l T v y in (q.0, rw e q.1)) b
