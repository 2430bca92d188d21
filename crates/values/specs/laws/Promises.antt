-- What the functions of the table of values promise: what stays in order, and which table of values the memory then holds.
-- Assumes nothing.
use Rattle.std.specs.Prelude.{◌≡◌, ℕ, ◌+◌, ◌*◌, ◌<◌, ◌≤◌, List, length, slice_index, slice_set, Option}
use Rattle.values.specs.Values.{Values, empty, lowest_slot, representative, store, learn}
use Rattle.values.specs.laws.Memory.{slots_at, memory_of, number_at, key_atom, constant_key, limit, atom_in, Ready, Holds}

-- the memory stays in order; at most c constants and e expressions more, at most k epochs later
pub record Kept (n S k c e : ℕ) (t t' : List ℕ) : Type 0 where
  pub ready : Ready n S t'
  pub long : length t' ≡ length t
  pub epochs : (memory_of n S t').epoch ≤ (memory_of n S t).epoch + k
  pub constants : (memory_of n S t').constants ≤ (memory_of n S t).constants + c
  pub expressions : (memory_of n S t').expressions ≤ (memory_of n S t).expressions + e

-- numbers stand for the same values: those of slots and of constants are as they were
pub record Same (n S : ℕ) (t t' : List ℕ) : Type 0 where
  pub numbers : (s : ℕ) → s < S → number_at (memory_of n S t') s ≡ number_at (memory_of n S t) s
  pub constants : (memory_of n S t').constants ≡ (memory_of n S t).constants
  pub table : (memory_of n S t').constant_table ≡ (memory_of n S t).constant_table

-- slot s holds number d, by its word, and the word at `at` has bounds that reach from `low` to `high`
abbrev pub puts : List ℕ → ℕ → ℕ → ℕ → ℕ → ℕ → List ℕ
puts t s d at low high = slice_set (slice_set t at (4294967296 * slice_index t 0 + 65536 * low + high)) (slots_at + s) (4294967296 * slice_index t 0 + d)

pub record Puts (t : List ℕ) (s d at first end : ℕ) (t' : List ℕ) : Type 0 where
  pub low : ℕ
  pub high : ℕ
  pub low_first : low ≤ first
  pub low_s : low ≤ s
  pub high_end : end ≤ high + 1
  pub high_s : s ≤ high
  pub inside : (k : ℕ) → s < k → end ≤ k → high < k
  pub is : t' ≡ puts t s d at low high

-- nothing is known
pub record Clears (n S : ℕ) (t t' : List ℕ) : Type 0 where
  pub kept : Kept n S 1 0 0 t t'
  pub holds : (types : List ℕ) (dest : ℕ → ℕ) → Holds n S types dest empty (memory_of n S t')

-- the slot that stands for slot s, whose value has the number d
pub record Represents (n S : ℕ) (types : List ℕ) (t : List ℕ) (s d slot : ℕ) (t' : List ℕ) : Type 0 where
  pub kept : Kept n S 0 0 0 t t'
  pub same : Same n S t t'
  pub holds : (dest : ℕ → ℕ) (v : Values) → Holds n S types dest v (memory_of n S t)
      → (slot ≡ representative types v s) × Holds n S types dest v (memory_of n S t')

-- the value with the number d stored in slot s
pub record Stores (n S : ℕ) (types : List ℕ) (t : List ℕ) (s d : ℕ) (t' : List ℕ) : Type 0 where
  pub kept : Kept n S 0 0 0 t t'
  pub holds : (dest : ℕ → ℕ) (v : Values) → Holds n S types dest v (memory_of n S t)
      → Holds n S types dest (store v s (atom_in n S dest (memory_of n S t) d)) (memory_of n S t')

-- the same, and the lowest slot of the type of s that held the value before, where there is one
pub record Shares (n S : ℕ) (types : List ℕ) (t : List ℕ) (s d : ℕ) (found : Option ℕ) (t' : List ℕ) : Type 0 where
  pub stores : Stores n S types t s d t'
  pub lowest : (dest : ℕ → ℕ) (v : Values) → Holds n S types dest v (memory_of n S t)
      → found ≡ lowest_slot types v (atom_in n S dest (memory_of n S t) d) (slice_index types s)

-- the number d of a constant
pub record Interns (n S : ℕ) (t : List ℕ) (kind bits d : ℕ) (t' : List ℕ) : Type 0 where
  pub kept : Kept n S 0 1 0 t t'
  pub low : d < limit n S (memory_of n S t')
  pub is : (dest : ℕ → ℕ) → atom_in n S dest (memory_of n S t') d ≡ key_atom (constant_key kind bits)
  pub holds : (types : List ℕ) (dest : ℕ → ℕ) (v : Values) → Holds n S types dest v (memory_of n S t) → Holds n S types dest v (memory_of n S t')

-- an expression of two numbers, whose value has the number d
pub record Learns (n S : ℕ) (t : List ℕ) (op flags left right d : ℕ) (t' : List ℕ) : Type 0 where
  pub kept : Kept n S 0 0 1 t t'
  pub same : Same n S t t'
  pub holds : (types : List ℕ) (dest : ℕ → ℕ) (v : Values) → Holds n S types dest v (memory_of n S t)
      → Holds n S types dest (learn v (record { opcode = op; flags = flags; left = atom_in n S dest (memory_of n S t) left; right = atom_in n S dest (memory_of n S t) right }) (atom_in n S dest (memory_of n S t) d)) (memory_of n S t')
