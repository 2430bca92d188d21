-- The table of values in lent memory, by value numbers: each slot has the number of its value, each number has bounds of the slots
-- that hold it, and two tables of entries give the numbers of constants and of expressions.
-- Assumes nothing.
use Rattle.std.specs.Prelude.{Option, None, Some, ◌≡◌, ℕ, zero, suc, ◌+◌, ◌-◌, ◌*◌, ◌/◌, ◌%◌, ◌<◌, ◌≤◌, Bool, true, false, cond, ◌&&◌, List, length, ◌==◌, ◌≢◌, nat_lt, slice_index}
use borrow.Rule.Slice.PartMut.{mid_of}
use Rattle.values.specs.Values.{Values, Expression, at_start, value_in, expression_in}
use Rattle.values.specs.laws.Entries.{Key, key, key_at, value, newest, Linked}
use Rattle.values.specs.declared.Atom.{Atom}
use Rattle.values.specs.declared.Atom.TheVariants.{Integer, Float, Definition}

-- ---- regions

-- the elements from a up to e
abbrev pub part : ℕ → ℕ → List ℕ → List ℕ
part a e t = mid_of a (e - a) t

-- Where the regions start: the epoch and the numbers of constants and of expressions; a word for each of S slots; two words of
-- bounds for each number; then twice 5 n words of entries.
abbrev pub slots_at : ℕ
slots_at = 3

abbrev pub bounds_at : ℕ → ℕ
bounds_at S = slots_at + S

abbrev pub constants_at : ℕ → ℕ → ℕ
constants_at n S = 5 + 3 * S + 4 * n

abbrev pub expressions_at : ℕ → ℕ → ℕ
expressions_at n S = 5 + 3 * S + 9 * n

abbrev pub end_at : ℕ → ℕ → ℕ
end_at n S = 5 + 3 * S + 14 * n

pub record Memory : Type 0 where
  pub epoch : ℕ
  pub constants : ℕ
  pub expressions : ℕ
  pub slot : ℕ → ℕ
  pub bounds : ℕ → ℕ
  pub constant_table : List ℕ
  pub expression_table : List ℕ

abbrev pub memory_of : ℕ → ℕ → List ℕ → Memory
memory_of n S t =
    record {
      epoch = slice_index t 0;
      constants = slice_index t 1;
      expressions = slice_index t 2;
      slot = λ s. slice_index t (slots_at + s);
      bounds = λ x. slice_index t (bounds_at S + x);
      constant_table = part (constants_at n S) (expressions_at n S) t;
      expression_table = part (expressions_at n S) (end_at n S) t;
    }

-- ---- what the memory says

-- the number of a slot's value: the one that was stored in this epoch, or the slot's own
unfoldable pub number_at : Memory → ℕ → ℕ
number_at m s = cond (m.slot s / 4294967296 == m.epoch) (m.slot s % 4294967296) s

-- Two types are of one group if their lowest bits are equal: Value is in one group, Float in the other. A number has a word of
-- bounds for each group.
abbrev pub bounds_of : ℕ → ℕ → ℕ
bounds_of d type = 2 * d + type % 2

-- The slots of the group that hold number d lie from `first` on and before `end`, as the word of this epoch says. Where there is none,
-- only slot d may hold number d.
unfoldable pub first_of : ℕ → ℕ → ℕ → ℕ
first_of epoch word d = cond (word / 4294967296 == epoch) (word / 65536 % 65536) d

unfoldable pub end_of : ℕ → ℕ → ℕ → ℕ → ℕ
end_of S epoch word d = cond (word / 4294967296 == epoch) (word % 65536 + 1) (cond (nat_lt d S) (d + 1) 0)

-- the same type, or only the same group?
unfoldable pub alike : Bool → ℕ → ℕ → Bool
alike true x y = x == y
alike false x y = x % 2 == y % 2

-- does slot r hold number d, and is its type like this one?
unfoldable pub holder : List ℕ → Memory → ℕ → ℕ → Bool → ℕ → Bool
holder types m d type exact r = number_at m r == d && alike exact (slice_index types r) type

-- r is the lowest such slot from `from` on, where it is below `to`
pub record Lowest (types : List ℕ) (m : Memory) (d type : ℕ) (exact : Bool) (from to r : ℕ) : Type 0 where
  pub low : from ≤ r
  pub high : from ≤ to → r ≤ to
  pub passed : (q : ℕ) → from ≤ q → q < r → holder types m d type exact q ≡ false
  pub hit : r < to → holder types m d type exact r ≡ true

-- a constant by its kind and its bits
unfoldable pub key_atom : Key → Atom
key_atom k = cond (k.right == 0) (Integer k.left) (Float k.left)

abbrev pub constant_key : ℕ → ℕ → Key
constant_key kind bits = key bits kind

-- the key of an expression by the numbers of its values
abbrev pub expression_key : ℕ → ℕ → ℕ → ℕ → Key
expression_key op flags left right = key (op + 256 * flags + 65536 * left + 1099511627776 * right) 0

module _ (n S : ℕ) where
  -- the numbers in use: one for each slot's value at the block's start, one for each place, one for Integer 0, then the constants
  abbrev pub limit : Memory → ℕ
  limit m = S + n + 1 + m.constants

  -- the value with a number; a place defines its destination
  unfoldable pub atom_at : (ℕ → ℕ) → List ℕ → ℕ → Atom
  atom_at dest c d =
      cond (nat_lt d S) (Definition at_start d)
      (cond (nat_lt d (S + n)) (Definition (d - S) (dest (d - S)))
      (cond (d == S + n) (Integer 0) (key_atom (key_at c n (d - (S + n + 1))))))

  -- the known integer with a number
  unfoldable pub integer_at : List ℕ → ℕ → Option ℕ
  integer_at c d =
      cond (nat_lt d (S + n)) None
      (cond (d == S + n) (Some 0) (cond ((key_at c n (d - (S + n + 1))).right == 0) (Some (key_at c n (d - (S + n + 1))).left) None))

  -- the number of an expression's value
  unfoldable pub expression_if : List ℕ → ℕ → Option ℕ
  expression_if w zero = None
  expression_if w (suc j) = Some (value w n j)

  abbrev pub expression_at : Memory → Key → Option ℕ
  expression_at m k = expression_if m.expression_table (newest m.expression_table n m.expressions k)

  -- the tables of entries are in order, and what the words say is of this epoch or an earlier one
  pub record Ordered (m : Memory) : Type 0 where
    pub locals : S ≤ 65536
    pub constants : Linked m.constant_table n m.epoch m.constants
    pub expressions : Linked m.expression_table n m.epoch m.expressions
    pub few_constants : m.constants ≤ n
    pub few_expressions : m.expressions ≤ n
    pub slots_past : (s : ℕ) → s < S → m.slot s / 4294967296 ≤ m.epoch
    pub bounds_past : (x : ℕ) → x < 2 * (S + 2 * n + 1) → m.bounds x / 4294967296 ≤ m.epoch
    -- bounds of this epoch lie among the slots
    pub bounds_low : (x : ℕ) → x < 2 * (S + 2 * n + 1) → m.bounds x / 4294967296 ≡ m.epoch → m.bounds x % 65536 < S
    -- slots, and expressions with their values, have numbers in use
    pub slots_low : (s : ℕ) → s < S → number_at m s < limit m
    pub values_low : (j : ℕ) → j < m.expressions → value m.expression_table n j < limit m
    pub lefts_low : (j : ℕ) → j < m.expressions → (key_at m.expression_table n j).left / 65536 % 16777216 < limit m
    pub rights_low : (j : ℕ) → j < m.expressions → (key_at m.expression_table n j).left / 1099511627776 < limit m
    -- of the constants Integer 0 has no entry; a kind is 0 or 1
    pub not_zero : (j : ℕ) → j < m.constants → key_at m.constant_table n j ≢ constant_key 0 0
    pub kinds : (j : ℕ) → j < m.constants → (key_at m.constant_table n j).right ≤ 1

  -- the memory is laid out
  pub record Ready (t : List ℕ) : Type 0 where
    pub long : end_at n S ≤ length t
    pub order : Ordered (memory_of n S t)

-- ---- the memory holds a table of values

module _ (n S : ℕ) (dest : ℕ → ℕ) where
  abbrev pub atom_in : Memory → ℕ → Atom
  atom_in m d = atom_at n S dest m.constant_table d

  unfoldable pub atom_found : Memory → Option ℕ → Option Atom
  atom_found m (Some d) = Some (atom_in m d)
  atom_found m None = None

  -- a value that has a number
  pub record HasNumber (m : Memory) (w : Atom) : Type 0 where
    pub number : ℕ
    pub low : number < limit n S m
    pub is : atom_in m number ≡ w

module _ (n S : ℕ) (types : List ℕ) (dest : ℕ → ℕ) where
  pub record Holds (v : Values) (m : Memory) : Type 0 where
    pub slots : (s : ℕ) → s < S → atom_in n S dest m (number_at m s) ≡ value_in v.slots s
    -- each slot lies within the bounds of its number and type
    pub first : (s : ℕ) → s < S → first_of m.epoch (m.bounds (bounds_of (number_at m s) (slice_index types s))) (number_at m s) ≤ s
    pub end : (s : ℕ) → s < S → s < end_of S m.epoch (m.bounds (bounds_of (number_at m s) (slice_index types s))) (number_at m s)
    pub expressions : (op flags left right : ℕ) → op < 256 → flags < 256 → left < limit n S m → right < limit n S m
        → atom_found n S dest m (expression_at n S m (expression_key op flags left right))
        ≡ expression_in v.expressions (record { opcode = op; flags = flags; left = atom_in n S dest m left; right = atom_in n S dest m right })
    pub left_numbered : (e : Expression) (w : Atom) → expression_in v.expressions e ≡ Some w → HasNumber n S dest m e.left
    pub right_numbered : (e : Expression) (w : Atom) → expression_in v.expressions e ≡ Some w → HasNumber n S dest m e.right
