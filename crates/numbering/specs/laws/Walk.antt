-- What the functions of the walk promise, and the walk over words alone.
-- Assumes nothing.
use Rattle.std.specs.Prelude.{Option, None, Some, ◌≡◌, Bool, true, false, cond, ◌||◌, not, ℕ, suc, ◌+◌, ◌*◌, ◌%◌, ◌^◌, ◌≤◌, ◌<◌, eqb, length, get_or}
use Rattle.std.proofs.Math.Path.{refl, ap}
use mathlib.Core.List.{List, [], ◌∷◌, map}
use Rattle.words.specs.Lists.{map_from}
use Rattle.instruction.specs.declared.Instruction.{Instruction}
use Rattle.instruction.specs.declared.Class.{Class}
use Rattle.instruction.specs.declared.Class.TheVariants.{Hint, LoadInt, LoadConst, Copy, CopyN, Unary, Binary, Jump, JumpIf, JumpIfNot, ForLoop, Return, Panic, Outside, Invalid}
use Rattle.instruction.specs.Class.{number_of}
use Rattle.instruction.specs.Opcode as op
use Rattle.instruction.specs.Instruction.{class, imm32, plain, with_imm32, of_word, to_word}
use Rattle.unit.specs.Entry.{constant_at, type_value, type_float}
use Rattle.effects.specs.Shape.{Sections, Tables, Cell}
use Rattle.effects.specs.laws.Cells.{cell_of, cells_by}
use Rattle.values.specs.Values.{Values, Expression, empty, value_of, representative}
use Rattle.values.specs.laws.Folded.{expression_of}
use Rattle.values.specs.Number.{Numbered, is_scalar, cleared, constant_atom, set_bc, fold_unary, fold_binary, stored, by_value, number_unary, number_binary, number_copy, number_constant, number_read, number_by, number_by_with, number, number_from, number_from_with, number_code, number_code_with}
use Rattle.values.specs.laws.Entries.{key}
use Rattle.values.specs.laws.Memory.{Memory, memory_of, number_at, key_atom, constant_key, expression_key, limit, expression_at, Ready, Holds, atom_in}
use Rattle.values.specs.laws.Promises.{Kept, Same, Interns}
use Rattle.values.specs.laws.Named.{Named}
use Rattle.values.specs.declared.Atom.{Atom}
use Rattle.values.specs.declared.Atom.TheVariants.{Integer}

-- numbering looks at the types and the constants of a unit alone
abbrev pub sections_with : List ℕ → List ℕ → ℕ → Tables → Sections
sections_with types constants locals tables = record { locals = locals; types = types; constants = constants; tables = tables }

-- LoadInt of a word that fits 32 bits
abbrev pub load_of : Instruction → ℕ → Instruction
load_of i v = with_imm32 (plain op.LoadInt i.a 0 0) (v % 2 ^ 32)

-- what is known of an instruction at place p: its fields fit, and its destination is that of the place
pub record Stands (n p : ℕ) (i : Instruction) (dest : ℕ → ℕ) : Type 0 where
  pub op : i.op < 256
  pub flags : i.flags < 256
  pub a : i.a < 65536
  pub place : p < n
  pub own : i.a ≡ dest p

-- an instruction as it becomes, f by the definition, and the memory after it
pub record Becomes (n : ℕ) (types : List ℕ) (k c e : ℕ) (t : List ℕ) (x : Instruction) (t' : List ℕ) (Good : (ℕ → ℕ) → List ℕ → Type 0) (f : (ℕ → ℕ) → Sections → Values → Numbered)
    : Type 0 where
  pub kept : Kept n (length types) k c e t t'
  pub holds : (dest : ℕ → ℕ) (constants : List ℕ) (locals : ℕ) (tables : Tables) (v : Values) → Good dest constants → Holds n (length types) types dest v (memory_of n (length types) t)
      → (x ≡ (f dest (sections_with types constants locals tables) v).instruction)
      × Holds n (length types) types dest (f dest (sections_with types constants locals tables) v).table (memory_of n (length types) t')

-- the known integer that an expression of two operands or of one folds to
unfoldable pub fold_by : Bool → Expression → Option ℕ
fold_by true e = fold_binary e e.left e.right
fold_by false e = fold_unary e e.left

-- the slot of the second operand, where there is one
unfoldable pub second_of : List ℕ → Values → ℕ → Bool → ℕ
second_of types t s true = representative types t s
second_of types t s false = s

-- of the values in memory at t: how many numbers there are, the value with a number, and an instruction's expression
abbrev pub limit_at : ℕ → List ℕ → List ℕ → ℕ
limit_at n types t = limit n (length types) (memory_of n (length types) t)

abbrev pub atom_at : ℕ → List ℕ → List ℕ → (ℕ → ℕ) → ℕ → Atom
atom_at n types t dest d = atom_in n (length types) dest (memory_of n (length types) t) d

abbrev pub expression_with : ℕ → List ℕ → List ℕ → (ℕ → ℕ) → ℕ → ℕ → ℕ → ℕ → Expression
expression_with n types t dest op flags left right = expression_of op flags (atom_at n types t dest left) (atom_at n types t dest right)

-- an operator whose operands have the numbers left and right, which folds to f, as it becomes
abbrev pub Valued : ℕ → List ℕ → List ℕ → Instruction → ℕ → ℕ → ℕ → Option ℕ → Instruction → List ℕ → Type 0
Valued n types t i p left right f x t' =
    Becomes n types 0 1 1 t x t' (λ dest constants. Stands n p i dest)
    (λ dest S v. by_value S p i v (expression_with n types t dest i.op i.flags left right) f)

-- the classes of two operands, of one or two, and of a jump on 0
abbrev pub binary_class : Class → Bool
binary_class k = eqb (number_of k) 6

abbrev pub operator_class : Class → Bool
operator_class k = eqb (number_of k) 5 || eqb (number_of k) 6

abbrev pub on_zero : Class → Bool
on_zero k = eqb (number_of k) 9

-- the value of what LoadConst gives
abbrev pub atom_of : Option (ℕ × ℕ) → Option Atom
atom_of (Some p) = Some (key_atom (constant_key p.0 p.1))
atom_of None = None

abbrev pub KindOf : Option (ℕ × ℕ) → Type 0
KindOf (Some p) = p.0 ≤ 1
KindOf None = Unit {0}

-- the number of the second operand's value, where there is one; else that of Integer 0
unfoldable pub second_number : ℕ → ℕ → Memory → ℕ → Bool → ℕ
second_number n S m s true = number_at m s
second_number n S m s false = S + n

-- the word of an expression of two numbers that are in use
pub record Coded (n S : ℕ) (m : Memory) (word : ℕ) : Type 0 where
  pub op : ℕ
  pub flags : ℕ
  pub left : ℕ
  pub right : ℕ
  pub op_fits : op < 256
  pub flags_fits : flags < 256
  pub left_low : left < limit n S m
  pub right_low : right < limit n S m
  pub is : key word 0 ≡ expression_key op flags left right

-- the number r of a word that an expression folds to
pub record Interned (n S : ℕ) (t : List ℕ) (v : ℕ) (r : Option ℕ) (t' : List ℕ) : Type 0 where
  pub number : ℕ
  pub is : r ≡ Some number
  pub interns : Interns n S t 0 v number t'

-- the number r of a value that is known: of a folded word, or of an equal expression, if there is one
pub record Known (n S : ℕ) (t : List ℕ) (word : ℕ) (f : Option ℕ) (r : Option ℕ) (t' : List ℕ) : Type 0 where
  pub constant : (v : ℕ) → f ≡ Some v → Interned n S t v r t'
  pub expression : f ≡ None → (t' ≡ t) × (r ≡ expression_at n S (memory_of n S t) (key word 0))

-- the second operand of a binary opcode
pub record Second (n S : ℕ) (types : List ℕ) (t : List ℕ) (s : ℕ) (binary : Bool) (slot : ℕ) (t' : List ℕ) : Type 0 where
  pub kept : Kept n S 0 0 0 t t'
  pub same : Same n S t t'
  pub holds : (dest : ℕ → ℕ) (v : Values) → Holds n S types dest v (memory_of n S t)
      → (slot ≡ second_of types v s binary) × Holds n S types dest v (memory_of n S t')

-- room for what one instruction adds
pub record Room (n S : ℕ) (t : List ℕ) : Type 0 where
  pub ready : Ready n S t
  pub constants : (memory_of n S t).constants < n
  pub expressions : (memory_of n S t).expressions < n
  pub epoch : (memory_of n S t).epoch < 4294967295

-- ---- the definition's cases as the code has them

abbrev pub scalar_in : List ℕ → ℕ → Bool
scalar_in types s = eqb (get_or types s 1) type_value || eqb (get_or types s 1) type_float

-- does a branch on the word take its target? JumpIfNot does so on 0
unfoldable pub takes : Bool → ℕ → Bool
takes true v = eqb v 0
takes false v = not (eqb v 0)

module _ (S : Sections) where
  -- an opcode of two operands or of one
  unfoldable pub operated : Bool → ℕ → Instruction → Values → Numbered
  operated binary p i t =
      let e = expression_of i.op i.flags (value_of t i.b) (cond binary (value_of t i.c) (Integer 0)) in
      by_value S p (set_bc i (representative S.types t i.b) (second_of S.types t i.c binary)) t e (fold_by binary e)

  unfoldable pub undecided_by : Instruction → Values → Numbered
  undecided_by i t = cond (is_scalar S i.a) (number_read S i t) (record { instruction = i; table = t })

  unfoldable pub pure_by : Class → ℕ → Instruction → Values → Numbered
  pure_by Hint p i t = cleared S i
  pure_by LoadInt p i t = stored S i t (Integer (imm32 i))
  pure_by LoadConst p i t = number_constant S i t (constant_atom (constant_at S.constants i.b))
  pure_by Copy p i t = number_copy S i t
  pure_by CopyN p i t = cleared S i
  pure_by Unary p i t = number_unary S p i t
  pure_by Binary p i t = number_binary S p i t
  pure_by Jump p i t = cleared S i
  pure_by JumpIf p i t = cleared S i
  pure_by JumpIfNot p i t = cleared S i
  pure_by ForLoop p i t = cleared S i
  pure_by Return p i t = cleared S i
  pure_by Panic p i t = cleared S i
  pure_by Outside p i t = cleared S i
  pure_by Invalid p i t = cleared S i

  unfoldable pub other_by : Class → ℕ → Instruction → Values → Numbered
  other_by k p i t = cond (is_scalar S i.a) (pure_by k p i t) (cleared S i)

  same_arms : {A : Type 0} (t : Bool) (x : A) → x ≡ cond t x x
  same_arms true x = refl
  same_arms false x = refl

  -- that is the definition, but for the three classes that have cases of their own
  pub by_other : (k : Class) → (k ≡ JumpIf → ⊥) → (k ≡ JumpIfNot → ⊥) → (k ≡ Return → ⊥) → (p : ℕ) (i : Instruction) (t : Values) → number_by S k p i t ≡ other_by k p i t
  unfolding number_by_with other_by pure_by
  by_other Hint a b c p i t = same_arms (is_scalar S i.a) (cleared S i)
  by_other LoadInt a b c p i t = refl
  by_other LoadConst a b c p i t = refl
  by_other Copy a b c p i t = refl
  by_other CopyN a b c p i t = same_arms (is_scalar S i.a) (cleared S i)
  by_other Unary a b c p i t = refl
  by_other Binary a b c p i t = refl
  by_other Jump a b c p i t = same_arms (is_scalar S i.a) (cleared S i)
  by_other JumpIf a b c p i t = absurd (a refl)
  by_other JumpIfNot a b c p i t = absurd (b refl)
  by_other ForLoop a b c p i t = same_arms (is_scalar S i.a) (cleared S i)
  by_other Return a b c p i t = absurd (c refl)
  by_other Panic a b c p i t = same_arms (is_scalar S i.a) (cleared S i)
  by_other Outside a b c p i t = same_arms (is_scalar S i.a) (cleared S i)
  by_other Invalid a b c p i t = same_arms (is_scalar S i.a) (cleared S i)

-- ---- the walk over words

module _ (S : Sections) (leaders : List ℕ) where
  unfoldable pub number_words : ℕ → Values → List ℕ → List ℕ
  number_words p t [] = []
  number_words p t (w ∷ ws) =
      let r = number S p (of_word w) (cond (eqb (get_or leaders p 0) 1) empty t) in
      to_word r.instruction ∷ number_words (suc p) r.table ws

  -- the metadata travel along
  pub number_words_lem : (metadata : List ℕ) (q p : ℕ) (t : Values) (ws : List ℕ)
      → map (λ (x : Cell). to_word x.instruction) (number_from S leaders p t (map_from (cell_of metadata) q ws)) ≡ number_words p t ws
  unfolding number_words number_from_with map_from
  number_words_lem metadata q p t [] = refl
  number_words_lem metadata q p t (w ∷ ws) =
      let r = number S p (of_word w) (cond (eqb (get_or leaders p 0) 1) empty t) in
      ap (λ (l : List ℕ). to_word r.instruction ∷ l) (number_words_lem metadata (suc q) (suc p) r.table ws)

  pub code_words_lem : (words metadata : List ℕ) → map (λ (x : Cell). to_word x.instruction) (number_code S leaders (cells_by words metadata)) ≡ number_words 0 empty words
  unfolding number_code_with cells_by
  code_words_lem words metadata = number_words_lem metadata 0 0 empty words

-- ---- what the walk starts from

pub record Begins (n S : ℕ) (t t' : List ℕ) : Type 0 where
  pub ready : Ready n S t'
  pub long : length t' ≡ length t
  pub epoch : (memory_of n S t').epoch ≡ 1
  pub constants : (memory_of n S t').constants ≡ 0
  pub expressions : (memory_of n S t').expressions ≡ 0
  pub holds : (types : List ℕ) (dest : ℕ → ℕ) → Holds n S types dest empty (memory_of n S t')

-- a block starts with nothing known
pub record Enters (n S leader : ℕ) (t t' : List ℕ) : Type 0 where
  pub kept : Kept n S 1 0 0 t t'
  pub holds : (types : List ℕ) (dest : ℕ → ℕ) (v : Values) → Holds n S types dest v (memory_of n S t) → Holds n S types dest (cond (eqb leader 1) empty v) (memory_of n S t')

-- a turn of the walk at place p, at the word w
pub record Turns (n : ℕ) (types constants : List ℕ) (leader w p : ℕ) (t : List ℕ) (x : ℕ) (t' : List ℕ) : Type 0 where
  pub kept : Kept n (length types) 2 1 1 t t'
  pub holds : (dest : ℕ → ℕ) (locals : ℕ) (tables : Tables) (v : Values) → Stands n p (of_word w) dest → Holds n (length types) types dest v (memory_of n (length types) t)
      → (x ≡ to_word (number (sections_with types constants locals tables) p (of_word w) (cond (eqb leader 1) empty v)).instruction)
      × Holds n (length types) types dest (number (sections_with types constants locals tables) p (of_word w) (cond (eqb leader 1) empty v)).table (memory_of n (length types) t')

-- what numbering takes of the 64-bit work: the code, and the table of values behind it
abbrev pub values_room : ℕ → ℕ → ℕ
values_room n s = 15 * n + 3 * s + 5

-- what the walk asks: "slots below s" is what the check of all operands shows
pub record Numberable (words leaders types memory : List ℕ) : Type 0 where
  pub few : length leaders ≤ 65536
  pub locals : length types ≤ 65536
  pub long : values_room (length leaders) (length types) ≤ length memory
  pub named : (p : ℕ) → p < length leaders → Named (class (of_word (get_or words p 0))) (length types) (of_word (get_or words p 0))
