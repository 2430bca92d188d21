-- What stays in order from step to step of the walk, and what is known by value numbers.
-- Assumes nothing.
use mathlib.Core.Path.{◌≡◌, refl, sym, ap, ◌∙◌}
use mathlib.Core.List.{List}
use Rattle.std.specs.Prelude.{Some, None, Option}
use Prim.Native.Nat.{ℕ, zero, suc, ◌+◌, ◌≤◌, ◌<◌}
use native.Mathlib.Omega.{arith}
use lib.ListN.{length, get_or}
use Rattle.values.specs.Values.{Values, value_of, expression_in, lowest_slot}
use Rattle.values.specs.laws.Folded.{expression_of}
use Rattle.values.specs.laws.Entries.{Key, value, newest}
use Rattle.values.specs.laws.Search.{newest_le}
use Rattle.values.specs.laws.Memory.{memory_of, number_at, expression_key, limit, expression_if, expression_at, Ready, atom_in, atom_found, Holds}
use Rattle.values.specs.laws.Promises.{Kept, Same, Shares}
use Rattle.numbering.specs.laws.Walk.{Room}
use Rattle.values.specs.declared.Atom.{Atom}

-- ---- what stays in order

-- more may be allowed than was used
pub widen : {n S k c e k' c' e' : ℕ} {t t' : List ℕ} → k ≤ k' → c ≤ c' → e ≤ e' → Kept n S k c e t t' → Kept n S k' c' e' t t'
widen a b d w =
    record {
      ready = w.ready;
      long = w.long;
      epochs = omega (arith, w.epochs);
      constants = omega (arith, w.constants);
      expressions = omega (arith, w.expressions);
    }

-- one change after another
pub kept_then : {n S k c e k' c' e' : ℕ} {t t₁ t' : List ℕ} → Kept n S k c e t t₁ → Kept n S k' c' e' t₁ t' → Kept n S (k + k') (c + c') (e + e') t t'
kept_then d w =
    record {
      ready = w.ready;
      long = w.long ∙ d.long;
      epochs = omega (arith, w.epochs, d.epochs);
      constants = omega (arith, w.constants, d.constants);
      expressions = omega (arith, w.expressions, d.expressions);
    }

pub room_kept : {n S : ℕ} {t t' : List ℕ} → Room n S t → Kept n S 0 0 0 t t' → Room n S t'
room_kept g d =
    record {
      ready = d.ready;
      constants = omega (arith, g.constants, d.constants);
      expressions = omega (arith, g.expressions, d.expressions);
      epoch = omega (arith, g.epoch, d.epochs);
    }

-- ---- numbers and values

module _ {n S : ℕ} {t t₁ : List ℕ} (s : Same n S t t₁) where
  pub same_limit : {d : ℕ} → d < limit n S (memory_of n S t) → d < limit n S (memory_of n S t₁)
  same_limit l = omega (arith, s.constants)

  -- the value of a slot that had the number d
  pub same_value : {types : List ℕ} {dest : ℕ → ℕ} {v : Values} (r d : ℕ) → r < S → number_at (memory_of n S t) r ≡ d → Holds n S types dest v (memory_of n S t₁) → atom_in n S dest (memory_of n S t₁) d ≡ value_of v r
  same_value {dest = dest} r d l e h = ap (atom_in n S dest (memory_of n S t₁)) (sym (s.numbers r l ∙ e)) ∙ h.slots r l

pub same_then : {n S : ℕ} {t t₁ t₂ : List ℕ} → Same n S t t₁ → Same n S t₁ t₂ → Same n S t t₂
same_then s r = record { numbers = λ x l. r.numbers x l ∙ s.numbers x l; constants = r.constants ∙ s.constants; table = r.table ∙ s.table }

-- the value with the number d, and what is known, in the memory t
abbrev pub value_at : ℕ → List ℕ → List ℕ → (ℕ → ℕ) → ℕ → Atom
value_at n types t dest d = atom_in n (length types) dest (memory_of n (length types) t) d

abbrev pub Knows : ℕ → List ℕ → List ℕ → (ℕ → ℕ) → Values → Type 0
Knows n types t dest v = Holds n (length types) types dest v (memory_of n (length types) t)

-- the slot that `share` answers, and what the definition finds
module _ {n : ℕ} {types t t' : List ℕ} {s d : ℕ} {f : Option ℕ} (w : Shares n (length types) types t s d f t') (dest : ℕ → ℕ) (v : Values) (h : Knows n types t dest v) where
  pub shared_slot : {r : ℕ} → f ≡ Some r → lowest_slot types v (value_at n types t dest d) (get_or types s 0) ≡ Some r
  shared_slot e = sym (w.lowest dest v h) ∙ e

  pub shared_none : f ≡ None → lowest_slot types v (value_at n types t dest d) (get_or types s 0) ≡ None
  shared_none e = sym (w.lowest dest v h) ∙ e

-- the number of an expression's value is in use
pub found_low : {n S : ℕ} {t : List ℕ} {f : Option ℕ} → Ready n S t → (k : Key) (d : ℕ) → f ≡ expression_at n S (memory_of n S t) k → f ≡ Some d → d < limit n S (memory_of n S t)
unfolding expression_if
found_low {n} {S} {t} g k d e q = go (newest (memory_of n S t).expression_table n (memory_of n S t).expressions k) refl (sym e ∙ q)
  where
    go : (j : ℕ) → newest (memory_of n S t).expression_table n (memory_of n S t).expressions k ≡ j → expression_if n S (memory_of n S t).expression_table j ≡ Some d → d < limit n S (memory_of n S t)
    go zero l z = let y : ◌≡◌ {A = ℕ} 0 1 = cc in absurd (omega arith)
    go (suc j) l z =
        let same : value (memory_of n S t).expression_table n j ≡ d = cc in
        let low : j < (memory_of n S t).expressions = omega (arith, newest_le (memory_of n S t).expression_table n k (memory_of n S t).expressions) in
        rw (← same) (g.order.values_low j low)

-- the value of an expression of two numbers
pub known_expression : {n S : ℕ} (t : List ℕ) {k : Key} {f : Option ℕ} {types : List ℕ} {dest : ℕ → ℕ} {v : Values} (op flags left right : ℕ) → op < 256 → flags < 256
    → left < limit n S (memory_of n S t) → right < limit n S (memory_of n S t) → k ≡ expression_key op flags left right → f ≡ expression_at n S (memory_of n S t) k → Holds n S types dest v (memory_of n S t)
    → atom_found n S dest (memory_of n S t) f ≡ expression_in v.expressions (expression_of op flags (atom_in n S dest (memory_of n S t) left) (atom_in n S dest (memory_of n S t) right))
known_expression {n} {S} t {k} {f} {dest = dest} op flags left right a b c d q e h =
    ap (atom_found n S dest (memory_of n S t)) (e ∙ ap (expression_at n S (memory_of n S t)) q) ∙ h.expressions op flags left right a b c d
