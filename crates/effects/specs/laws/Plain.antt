-- Plain opcodes: they demand nothing, and read and write single slots, at most two of a, b and c, and a. Most code is made of them,
-- and its operands are checked without a loop.
-- Assumes nothing.
use Rattle.std.specs.Prelude.{◌≡◌, Bool, true, false, cond, not, ◌&&◌, ◌||◌, eqb, leb, ltb}
use Rattle.std.proofs.Math.Path.{refl}
use Rattle.std.proofs.Common.{add-zero, arith, lt-ltb}
use Rattle.std.proofs.Math.Bool.{or-true}
use Prim.Native.Nat.{ℕ, zero, suc, ◌+◌, ◌*◌, ◌/◌, ◌%◌, ◌^◌, ◌≤◌, ◌<◌}
use Rattle.words.specs.Lists.{every}
use Rattle.instruction.specs.Opcode as op
use Rattle.instruction.specs.Instruction.{of_word}
use Rattle.instruction.specs.laws.Instruction.{Fields}
use Rattle.instruction.specs.declared.Instruction.{Instruction}
use Rattle.effects.specs.Shape.{Tables, Cell, applies, value, range_of}
use Rattle.effects.specs.laws.Form.{forms, form_at, row_of, demand_row_of}
use Rattle.effects.specs.laws.Operands.{slots}

-- the field that one of the forms 0, 1 and 2 is a slot of
abbrev pub slot_of : ℕ → Instruction → ℕ
slot_of form i = cond (eqb form 0) i.a (cond (eqb form 1) i.b i.c)

abbrev pub is_plain : ℕ → ℕ → Bool
is_plain o row = not (eqb o op.SelectExec) && ltb row 0x30000 && ltb (row / 256 % 256) 3

-- no slot that a plain row names is at or past s
abbrev pub plain_within : ℕ → ℕ → Instruction → Bool
plain_within s row i =
    (eqb (row % 16) 0 || ltb (slot_of (row / 256 % 256) i) s)
    && (ltb (row % 16) 2 || ltb (slot_of (row / 65536 % 256) i) s)
    && (eqb (row / 16 % 16) 0 || ltb i.a s)

-- ---- what the rows of plain opcodes are

pub record Plain (o row : ℕ) : Type 0 where
  pub other : o ≡ op.SelectExec → ⊥
  pub low : row < 0x30000
  pub form : row / 256 % 256 < 3
  pub reads : row % 16 ≤ 2
  pub writes : row / 16 % 16 ≤ 1
  pub free : demand_row_of o ≡ 0

abbrev pub few : ℕ → Bool
few o = leb (row_of o % 16) 2 && leb (row_of o / 16 % 16) 1 && eqb (demand_row_of o) 0

pub plain_few : every 136 (λ o. cond (is_plain o (row_of o)) (few o) true) ≡ true
unfolding every
plain_few = refl

-- that field of an instruction's word
pub field_slot : (w form : ℕ) → form < 3 → w / 2 ^ (16 + 16 * form) % 65536 ≡ slot_of form (of_word w)
unfolding of_word
field_slot w zero h = refl
field_slot w (suc zero) h = refl
field_slot w (suc (suc zero)) h = refl
field_slot w (suc (suc (suc n))) h = absurd (omega arith)

-- forms 0, 1 and 2 are one slot
pub slot_form : (T : Tables) (x : Cell) (form : ℕ) → form < 3 → range_of T x (form_at form) ≡ record { start = slot_of form x.instruction; count = 1 }
unfolding forms form_at range_of applies value
slot_form T x zero h = rw add-zero
slot_form T x (suc zero) h = rw add-zero
slot_form T x (suc (suc zero)) h = rw add-zero
slot_form T x (suc (suc (suc n))) h = absurd (omega arith)

-- ---- the refusal of a plain opcode's operands

pub slot_fits : (form : ℕ) (i : Instruction) → Fields i → slot_of form i < slots
slot_fits form i f = go (eqb form 0) (eqb form 1)
  where
    go : (s t : Bool) → cond s i.a (cond t i.b i.c) < slots
    go true t = f.a_fits
    go false true = f.b_fits
    go false false = f.c_fits

pub within_all : (row : ℕ) (i : Instruction) → Fields i → plain_within slots row i ≡ true
within_all row i f =
    rw (
      lt-ltb (slot_of (row / 256 % 256) i) slots (slot_fits (row / 256 % 256) i f),
      lt-ltb (slot_of (row / 65536 % 256) i) slots (slot_fits (row / 65536 % 256) i f),
      lt-ltb i.a slots f.a_fits,
    )
    (tests (eqb (row % 16) 0) (ltb (row % 16) 2) (eqb (row / 16 % 16) 0))
  where
    tests : (a b c : Bool) → ((a || true) && (b || true) && (c || true)) ≡ true
    tests a b c = rw (or-true a, or-true b, or-true c)
