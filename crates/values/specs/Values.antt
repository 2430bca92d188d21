-- Definitions. The table of values: "Within a block a slot's value is a known 64-bit integer, a float constant's bits, or a definition."
-- Lists of entries, newest first: the first entry of a key counts.
-- Assumes nothing.
use Rattle.std.specs.Prelude.{Option, None, Some, ℕ, suc, Bool, false, cond, ◌&&◌, List, [], ◌∷◌, ◌==◌, slice_index}
use Rattle.values.specs.declared.Atom.{Atom}
use Rattle.values.specs.declared.Atom.TheVariants.{Integer, Float, Definition}

unfoldable pub same_atom : Atom → Atom → Bool
same_atom (Integer x) (Integer y) = x == y
same_atom (Integer x) (Float y) = false
same_atom (Integer x) (Definition q t) = false
same_atom (Float x) (Integer y) = false
same_atom (Float x) (Float y) = x == y
same_atom (Float x) (Definition q t) = false
same_atom (Definition p s) (Integer y) = false
same_atom (Definition p s) (Float y) = false
same_atom (Definition p s) (Definition q t) = p == q && s == t

-- "An equal expression (opcode, flags, both values)"; a unary one has Integer 0 as its right value: its opcode tells them apart
pub record Expression : Type 0 where
  pub opcode : ℕ
  pub flags : ℕ
  pub left : Atom
  pub right : Atom

unfoldable pub same_expression : Expression → Expression → Bool
same_expression d e =
    let values = same_atom d.left e.left && same_atom d.right e.right in
    cond (d.opcode == e.opcode && d.flags == e.flags) values false

pub record SlotEntry : Type 0 where
  pub slot : ℕ
  pub value : Atom

pub record ExpressionEntry : Type 0 where
  pub expression : Expression
  pub value : Atom

pub record Values : Type 0 where
  -- the value of each slot that was stored; the value of each expression
  pub slots : List SlotEntry
  pub expressions : List ExpressionEntry

abbrev pub empty : Values
empty = record { slots = []; expressions = [] }

-- the place of a value that a slot had at the block's start or at the last clearing
abbrev pub at_start : ℕ
at_start = 4294967295

unfoldable pub value_in : List SlotEntry → ℕ → Atom
value_in [] s = Definition at_start s
value_in (e ∷ es) s = let rest = value_in es s in cond (e.slot == s) e.value rest

unfoldable pub expression_in : List ExpressionEntry → Expression → Option Atom
expression_in [] d = None
expression_in (e ∷ es) d = let rest = expression_in es d in cond (same_expression e.expression d) (Some e.value) rest

-- the value of a slot
abbrev pub value_of : Values → ℕ → Atom
value_of t s = value_in t.slots s

-- the slot that is found, or slot s
unfoldable pub or_itself : ℕ → Option ℕ → ℕ
or_itself s (Some r) = r
or_itself s None = s

-- Document 02: "among slots of the same type that hold the value at that point, the lowest-numbered is used; a slot not stored since
-- the block's start or the last clearing counts as holding the word it had there". The slots from s on have the types listed. The
-- tie rule is here alone.
unfoldable pub lowest_from : Values → Atom → ℕ → ℕ → List ℕ → Option ℕ
lowest_from t v type s [] = None
lowest_from t v type s (k ∷ ks) =
    let rest = lowest_from t v type (suc s) ks in
    cond (same_atom (value_of t s) v && k == type) (Some s) rest

abbrev pub lowest_slot : List ℕ → Values → Atom → ℕ → Option ℕ
lowest_slot types t v type = lowest_from t v type 0 types

-- the slot that stands for slot s
unfoldable pub representative : List ℕ → Values → ℕ → ℕ
representative types t s = or_itself s (lowest_slot types t (value_of t s) (slice_index types s))

-- slot s holds the value v
unfoldable pub store : Values → ℕ → Atom → Values
store t s v = record { slots = record { slot = s; value = v } ∷ t.slots; expressions = t.expressions }

-- one expression more
unfoldable pub learn : Values → Expression → Atom → Values
learn t e v = record { slots = t.slots; expressions = record { expression = e; value = v } ∷ t.expressions }
