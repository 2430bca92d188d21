-- Definitions. "each instruction declares ranges read, ranges written and, for the four Slot opcodes, an array range that counts as read";
-- "The effects .. distinguish surely written ranges from perhaps written ones" (document 02, L5).
-- Assumes nothing.
use Rattle.std.specs.Prelude.{Bool, true, false, cond, ◌&&◌, ◌||◌, List, [], ◌∷◌, ◌++◌, map, ℕ, zero, suc, ◌+◌, eqb, leb, ltb}
use Rattle.instruction.specs.Opcode as op
use Rattle.unit.specs.Entry.{case_at}
use Rattle.effects.specs.declared.Range.{Range}
use Rattle.effects.specs.Shape.{Tables, Cell, Shape, met, range_of}
use Rattle.effects.specs.Table.{read_shape, write_shape, perhaps_shape, array_shape}

-- k cases of a select from case j on: the queue of each is read, and the values that a send case sends
unfoldable pub case_reads : List ℕ → ℕ → ℕ → List Range
case_reads cases j zero = []
case_reads cases j (suc k) =
    let x = case_at cases j in
    record { start = x.queue; count = 1 }
    ∷ record { start = x.slot; count = cond (eqb x.kind 0) x.elements 0 }
    ∷ case_reads cases (suc j) k

-- a receive case perhaps writes its destination, and after it the slot of has_ok
unfoldable pub case_writes : List ℕ → ℕ → ℕ → List Range
case_writes cases j zero = []
case_writes cases j (suc k) =
    let x = case_at cases j in
    record { start = x.slot; count = cond (eqb x.kind 0) 0 (x.elements + x.ok) }
    ∷ case_writes cases (suc j) k

module _ (T : Tables) (x : Cell) where
  abbrev pub is_select : Bool
  is_select = eqb x.instruction.op op.SelectExec

  abbrev pub ranges : Shape → List Range
  ranges s = map (range_of T x) s.parts

  unfoldable pub reads : List Range
  reads =
      let selected = case_reads T.cases x.metadata.first x.metadata.second in
      cond is_select selected (ranges (read_shape x.instruction.op))

  unfoldable pub arrays : List Range
  arrays = ranges (array_shape x.instruction.op)

  unfoldable pub sure_writes : List Range
  sure_writes = ranges (write_shape x.instruction.op)

  unfoldable pub perhaps_writes : List Range
  perhaps_writes =
      let selected = case_writes T.cases x.metadata.first x.metadata.second in
      cond is_select selected (ranges (perhaps_shape x.instruction.op))

  -- all that is written, surely or perhaps
  unfoldable pub writes : List Range
  unfolding sure_writes perhaps_writes
  writes = sure_writes ++ perhaps_writes

  -- all that is read, the array range with it
  unfoldable pub all_reads : List Range
  unfolding reads arrays
  all_reads = reads ++ arrays

  -- what the three effects need to be told is there
  unfoldable pub demands_met : Bool
  demands_met =
      met T x (read_shape x.instruction.op).demand
      && met T x (array_shape x.instruction.op).demand
      && met T x (write_shape x.instruction.op).demand

-- "An empty range is skipped. Ranges longer than 65,535, or starting (even empty) or ending past slot 65,535, are effect errors"
unfoldable pub range_fits : Range → Bool
range_fits r = leb r.start 65535 && (eqb r.count 0 || leb r.count 65535 && leb (r.start + r.count) 65536)

-- no slot of the range is at or past s
unfoldable pub range_within : ℕ → Range → Bool
range_within s r = eqb r.count 0 || leb (r.start + r.count) s

-- a slot is one of the range's
unfoldable pub range_has : ℕ → Range → Bool
range_has t r = leb r.start t && ltb t (r.start + r.count)

unfoldable pub all_of : (Range → Bool) → List Range → Bool
all_of f [] = true
all_of f (r ∷ rs) = f r && all_of f rs

unfoldable pub any_of : (Range → Bool) → List Range → Bool
any_of f [] = false
any_of f (r ∷ rs) = f r || any_of f rs
