-- The ranges of an instruction by number: those of SelectExec's cases, and those of an opcode's parts.
-- Assumes nothing.
use Rattle.std.specs.Prelude.{◌≡◌, Bool, true, false, ◌&&◌, List, [], ◌∷◌, map, ℕ, zero, suc, ◌+◌, ◌*◌, ◌/◌, ◌%◌, ◌^◌, ◌<◌, eqb, length}
use Rattle.std.proofs.Math.Path.{refl, ap}
use Rattle.std.proofs.Common.{◌∙◌, append-nil, add-zero, add-suc, suc-add, arith}
use Rattle.std.proofs.lemmas.List.{map-append, length-map}
use Rattle.std.proofs.Math.ListN.{get_or, get_or-map}
use borrow.Author.Tests.{eqb-true, eqb-false, eq-eqb, ne_eqb}
use Rattle.instruction.specs.Opcode as op
use Rattle.effects.specs.declared.Range.{Range}
use Rattle.effects.specs.Shape.{Tables, Cell, Term, fixed, field_a, field_b, field_c, field_flags, first, second, both, first_flag, second_ok, array, params, results, returns, arguments, When, always, flags_are, flag_bit, closure, Part, tables_of, met, value, applies, range_of}
use Rattle.effects.specs.Table.{shape_in, perhaps_shape, array_shape}
use Rattle.effects.specs.Effects.{case_reads, case_writes, reads, arrays, sure_writes, perhaps_writes, writes, all_reads, demands_met}
use Rattle.effects.specs.laws.Form.{forms, form_at, unpack, row_of, reads_of, writes_of, demand_row_of, read_parts, write_parts, empty_range, no_part, demand_at, demands, demands_of}
use Rattle.effects.specs.laws.TableRows.{unpack_long, unpack_at, rows_read, rows_write, rows_demand}
use Rattle.effects.specs.laws.Ranges.{case_read}

pub case_reads_at : (cases : List ℕ) (j n k : ℕ) → k < 2 * n → get_or (case_reads cases j n) k empty_range ≡ case_read cases (j + k / 2) (k % 2)
unfolding case_reads
case_reads_at cases j zero k h = absurd (omega arith)
case_reads_at cases j (suc n) zero h = rw add-zero
case_reads_at cases j (suc n) (suc zero) h = rw add-zero
case_reads_at cases j (suc n) (suc (suc k)) h =
    let half : suc (suc k) / 2 ≡ suc (k / 2) = omega arith in
    let side : suc (suc k) % 2 ≡ k % 2 = omega arith in
    case_reads_at cases (suc j) n k (omega arith) ∙ rw (half, side, suc-add j (k / 2), add-suc j (k / 2))

module _ (T : Tables) (x : Cell) where
  -- of SelectExec
  module _ (e : x.instruction.op ≡ op.SelectExec) where
    pub reads_select : all_reads T x ≡ case_reads T.cases x.metadata.first x.metadata.second
    unfolding all_reads reads arrays array_shape
    reads_select = rw (e, append-nil)

    pub perhaps_select : perhaps_writes T x ≡ case_writes T.cases x.metadata.first x.metadata.second
    unfolding perhaps_writes
    perhaps_select = rw e

  -- of others
  module _ (n : x.instruction.op ≡ op.SelectExec → ⊥) where
    pub reads_other : all_reads T x ≡ map (range_of T x) (read_parts x.instruction.op)
    unfolding all_reads reads arrays
    reads_other = rw (ne_eqb x.instruction.op op.SelectExec n, map-append)

    -- MapIterNext's key and value
    pub perhaps_next : x.instruction.op ≡ op.MapIterNext → perhaps_writes T x ≡ range_of T x (form_at 24) ∷ []
    unfolding perhaps_writes perhaps_shape shape_in forms form_at
    perhaps_next e = rw (ne_eqb x.instruction.op op.SelectExec n, eq-eqb x.instruction.op op.MapIterNext e)

    pub perhaps_none : (x.instruction.op ≡ op.MapIterNext → ⊥) → perhaps_writes T x ≡ []
    unfolding perhaps_writes perhaps_shape shape_in
    perhaps_none o = rw (ne_eqb x.instruction.op op.SelectExec n, ne_eqb x.instruction.op op.MapIterNext o)

    pub perhaps_only : (k : ℕ) → k < length (perhaps_writes T x) → get_or (perhaps_writes T x) k empty_range ≡ range_of T x (form_at 24)
    perhaps_only k h = go (eqb x.instruction.op op.MapIterNext) refl
      where
        first_of_lem : (k : ℕ) (r : Range) → k < 1 → get_or (r ∷ []) k empty_range ≡ r
        first_of_lem zero r h = refl
        first_of_lem (suc k) r h = absurd (omega arith)

        go : (t : Bool) → eqb x.instruction.op op.MapIterNext ≡ t → get_or (perhaps_writes T x) k empty_range ≡ range_of T x (form_at 24)
        go true e =
            let one = perhaps_next (eqb-true x.instruction.op op.MapIterNext e) in
            rw one (first_of_lem k (range_of T x (form_at 24)) (rw one at h))
        go false e =
            let none : k < 0 = rw (perhaps_none (eqb-false x.instruction.op op.MapIterNext e)) at h in
            absurd (omega arith)

  pub sure_parts : sure_writes T x ≡ map (range_of T x) (write_parts x.instruction.op)
  unfolding sure_writes
  sure_parts = refl

  -- of what perhaps writes nothing
  pub writes_sure : perhaps_writes T x ≡ [] → writes T x ≡ sure_writes T x
  unfolding writes
  writes_sure e = rw (e, append-nil)

  -- the ranges of n forms, packed in v: how many, and the k-th
  module _ (n v : ℕ) (parts : List Part) (e : unpack n v ≡ parts) where
    pub row_count : length (map (range_of T x) parts) ≡ n
    row_count = length-map parts (range_of T x) ∙ rw (← e) (unpack_long n v)

    pub row_at : (k : ℕ) → k < n → get_or (map (range_of T x) parts) k empty_range ≡ range_of T x (form_at (v / 256 ^ k % 256))
    unfolding range_of
    row_at k h =
        let form : get_or parts k no_part ≡ form_at (v / 256 ^ k % 256) = rw (← e) (unpack_at n v k h) in
        get_or-map (range_of T x) parts k no_part ∙ ap (range_of T x) form

  -- of an opcode's row
  module _ (row : ℕ) (r : row ≡ row_of x.instruction.op) where
    read_parts_lem : reads_of row ≡ read_parts x.instruction.op
    read_parts_lem = rw r (rows_read x.instruction.op)

    write_parts_lem : writes_of row ≡ write_parts x.instruction.op
    write_parts_lem = rw r (rows_write x.instruction.op)

    module _ (n : x.instruction.op ≡ op.SelectExec → ⊥) where
      pub read_count_row : length (all_reads T x) ≡ row % 16
      read_count_row = rw (reads_other n) (row_count (row % 16) (row / 256) (read_parts x.instruction.op) read_parts_lem)

      pub read_at_row : (k : ℕ) → k < row % 16 → get_or (all_reads T x) k empty_range ≡ range_of T x (form_at (row / 256 / 256 ^ k % 256))
      read_at_row k h = rw (reads_other n) (row_at (row % 16) (row / 256) (read_parts x.instruction.op) read_parts_lem k h)

    pub sure_count_row : length (sure_writes T x) ≡ row / 16 % 16
    sure_count_row = rw sure_parts (row_count (row / 16 % 16) (row / 2 ^ 40) (write_parts x.instruction.op) write_parts_lem)

    pub sure_at_row : (k : ℕ) → k < row / 16 % 16 → get_or (sure_writes T x) k empty_range ≡ range_of T x (form_at (row / 2 ^ 40 / 256 ^ k % 256))
    sure_at_row k h = rw sure_parts (row_at (row / 16 % 16) (row / 2 ^ 40) (write_parts x.instruction.op) write_parts_lem k h)

  pub demands_row : (row : ℕ) → row ≡ demand_row_of x.instruction.op
      → demands_met T x ≡ (met T x (demand_at (row % 256)) && met T x (demand_at (row / 256 % 256)) && met T x (demand_at (row / 65536)))
  unfolding demands_met
  demands_row row r =
      let e : demands_of row ≡ demands x.instruction.op = rw r (rows_demand x.instruction.op) in
      cc

-- of others than SelectExec as many ranges are perhaps written with any tables
pub perhaps_long : (T T' : Tables) (x : Cell) → (x.instruction.op ≡ op.SelectExec → ⊥) → length (perhaps_writes T x) ≡ length (perhaps_writes T' x)
unfolding perhaps_writes
perhaps_long T T' x n =
    let parts = (perhaps_shape x.instruction.op).parts in
    rw (ne_eqb x.instruction.op op.SelectExec n, length-map parts (range_of T x), length-map parts (range_of T' x))

-- surely written ranges are the same with any cases
module _ (functions externs cases cases' : List ℕ) (x : Cell) where
  abbrev T : Tables
  T = tables_of functions externs cases

  abbrev T' : Tables
  T' = tables_of functions externs cases'

  same_value : (t : Term) → value T x t ≡ value T' x t
  unfolding value
  same_value (fixed k) = refl
  same_value field_a = refl
  same_value field_b = refl
  same_value field_c = refl
  same_value field_flags = refl
  same_value first = refl
  same_value second = refl
  same_value both = refl
  same_value first_flag = refl
  same_value second_ok = refl
  same_value array = refl
  same_value params = refl
  same_value results = refl
  same_value returns = refl
  same_value arguments = refl

  same_applies : (w : When) → applies T x w ≡ applies T' x w
  unfolding applies
  same_applies always = refl
  same_applies (flags_are k) = refl
  same_applies (flag_bit k) = refl
  same_applies closure = refl

  same_range : (q : Part) → range_of T x q ≡ range_of T' x q
  unfolding range_of
  same_range q = rw (same_applies q.when, same_value q.base, same_value q.offset, same_value q.count)

  same_ranges : (parts : List Part) → map (range_of T x) parts ≡ map (range_of T' x) parts
  same_ranges [] = refl
  same_ranges (q ∷ qs) = rw (same_range q, same_ranges qs)

  pub same_sure : sure_writes T x ≡ sure_writes T' x
  unfolding sure_writes
  same_sure = same_ranges (write_parts x.instruction.op)
