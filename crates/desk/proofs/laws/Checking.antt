-- The sweeps over a unit's cells for the lowest refusal, and the rows of the refusals.
-- Assumes nothing.
use Rattle.std.specs.Prelude.{Ok, ◌≡◌, ℕ, suc, ◌+◌, ◌*◌, ◌/◌, ◌^◌, ◌<◌, ◌≤◌, Bool, true, false, cond, List, length, ◌==◌, ◌≢◌}
use Rattle.std.proofs.Math.Path.{refl, ap}
use Rattle.std.proofs.Common.{sym, ◌∙◌, add-one, arith}
use borrow.Author.Tests.{eqb-true}
use Rattle.words.specs.Bytes.{Bytes}
use Rattle.words.specs.laws.Bytes.{bytes_mid, le_fits}
use Rattle.instruction.specs.declared.Instruction.{Instruction}
use Rattle.instruction.specs.Instruction.{instruction_at, to_word}
use Rattle.instruction.specs.laws.Instruction.{of_to}
use Rattle.unit.specs.declared.Header.{Header}
use Rattle.unit.specs.Entry.{metadata_at, good_metadata}
use Rattle.unit.specs.Layout.{header_of, code_of, metadata_of, types_of, functions_of, externs_of, cases_of, is_unit, layout_of}
use Rattle.unit.specs.Refusal.{metadata_count, type_count, branch_outside}
use Rattle.unit.specs.Size.{instruction_size, metadata_size, case_size, max_local_slots}
use Rattle.unit.specs.laws.UnitLaws.{layout_unit}
use Rattle.unit.proofs.laws.UnitLaws.{unit_laid}
use Rattle.effects.specs.Check.{Check}
use Rattle.effects.specs.Check.{Passed}
use Rattle.unit.specs.Refusal.{Refused}
use Rattle.effects.specs.Check.{operand_refusal, operand_check}
use Rattle.effects.specs.Shape.{Cell, cell_at, tables_of}
use Rattle.effects.specs.laws.Cells.{cell_of}
use Rattle.flow.specs.Branch.{branch_inside, branch_check_in}
use Rattle.answer.specs.Answer.{cells_of, sections_of, count_check}
use Rattle.run.proofs.Given.{instruction_fields, cell_at_lem, cells_long}
use Rattle.desk.specs.Answer.{and_then, layout_check, frame_check, desk_check}

-- ---- the cells of a unit

module _ (u : List ℕ) where
  pub places : {code : List ℕ} → is_unit u ≡ true → code ≡ code_of u → length code / instruction_size ≡ length (cells_of u)
  places laid e =
      let long = (unit_laid u laid).lengths.code in
      let n : length (code_of u) / instruction_size ≡ (header_of u).counts.instructions = omega (arith, long) in
      rw (e, cells_long u) n

  pub places_few : Bytes u → length (cells_of u) < 2 ^ 32
  unfolding header_of
  places_few b = rw (cells_long u) (le_fits 4 u 0 b)

  pub read_cell : {code : List ℕ} (p : ℕ) → code ≡ code_of u → p < length (cells_of u) → instruction_at code p ≡ (cell_at (cells_of u) p).instruction
  read_cell p e h = rw e (sym (ap (λ (x : Cell). x.instruction) (cell_at_lem u p (rw (cells_long u) at h))))

-- what a branch's refusal is
abbrev pub branch_test : ℕ → ℕ → Cell → ℕ
branch_test m p x = cond (branch_inside m p x.instruction) 0 branch_outside

pub branch_tested : (p : ℕ) {m n : ℕ} {i j : Instruction} {r : ℕ} → r ≡ cond (branch_inside (n + 1) p i) 0 branch_outside → n ≡ m → i ≡ j → r ≡ cond (branch_inside (suc m) p j) 0 branch_outside
branch_tested p {n = n} t e f = rw (← e, ← f, ← add-one n) t

-- a row that lets pass
pub not_passed : {k p : ℕ} → Refused k p ≢ Passed
not_passed e = let z : ◌≡◌ {A = ℕ} 0 1 = cc in omega arith

pub if_passed : (t : Bool) (c : Check) (k p : ℕ) → cond t c (Refused k p) ≡ Passed → (t ≡ true) × (c ≡ Passed)
if_passed true c k p e = (refl, e)
if_passed false c k p e = absurd (not_passed e)

-- refusals 3 and 4 are past
counts_past : (s t : Bool) → cond s (cond t Passed (Refused type_count 0)) (Refused metadata_count 0) ≡ Passed → (s ≡ true) × (t ≡ true)
counts_past s t e = let a = if_passed s (cond t Passed (Refused type_count 0)) metadata_count 0 e in (a.0, (if_passed t Passed type_count 0 a.1).0)

-- the sections that the operands are looked up in
pub record Found (u code metadata types functions externs cases : List ℕ) : Type 0 where
  pub laid : is_unit u ≡ true
  pub counted : count_check (header_of u).counts ≡ Passed
  pub bytes : Bytes u
  pub code_found : code ≡ code_of u
  pub metadata_found : metadata ≡ metadata_of u
  pub types_found : types ≡ types_of u
  pub functions_found : functions ≡ functions_of u
  pub externs_found : externs ≡ externs_of u
  pub cases_found : cases ≡ cases_of u

pub found : {u code metadata types functions externs cases : List ℕ} → is_unit u ≡ true → count_check (header_of u).counts ≡ Passed → Bytes u
    → code ≡ code_of u → metadata ≡ metadata_of u → types ≡ types_of u → functions ≡ functions_of u → externs ≡ externs_of u → cases ≡ cases_of u
    → Found u code metadata types functions externs cases
found laid counted bytes code metadata types functions externs cases = record {
  laid = laid;
  counted = counted;
  bytes = bytes;
  code_found = code;
  metadata_found = metadata;
  types_found = types;
  functions_found = functions;
  externs_found = externs;
  cases_found = cases;
}

-- what an operand's refusal is
abbrev pub operand_test : List ℕ → ℕ → Cell → ℕ
operand_test u p x = operand_refusal (sections_of u).locals (sections_of u).tables x

module _ {u code metadata types functions externs cases : List ℕ} (f : Found u code metadata types functions externs cases) where
  same_counts : ((header_of u).counts.metadata ≡ (header_of u).counts.instructions) × ((header_of u).counts.types ≡ (header_of u).counts.locals)
  unfolding count_check
  same_counts =
      let c = (header_of u).counts in
      let tests = counts_past (c.metadata == c.instructions) (c.types == c.locals) f.counted in
      (eqb-true c.metadata c.instructions tests.0, eqb-true c.types c.locals tests.1)

  locals_found : length types ≡ (header_of u).counts.locals
  locals_found = rw f.types_found ((unit_laid u f.laid).lengths.types ∙ same_counts.1)

  pub operand_met : (p : ℕ) → p < length (cells_of u)
      → (length types ≤ max_local_slots) × (metadata_size * p + metadata_size ≤ length metadata) × (good_metadata (length cases / case_size) (metadata_at metadata p) ≡ true)
  operand_met p h =
      let w = unit_laid u f.laid in
      let l : p < (header_of u).counts.metadata = rw (same_counts.0, ← cells_long u) h in
      let slots = w.locals in
      let long = w.lengths.metadata in
      let many = w.lengths.cases in
      let n : length (cases_of u) / case_size ≡ (header_of u).counts.cases = omega (arith, many) in (
        rw (locals_found) slots,
        rw f.metadata_found (omega (arith, l, long)),
        rw (f.cases_found, f.metadata_found, n) (w.entries.metadata p l),
      )

  pub operand_tested : {p w r : ℕ} {i : Instruction} → p < length (cells_of u) → r ≡ operand_refusal (length types) (tables_of functions externs cases) (cell_of metadata p w)
      → w ≡ to_word i → i ≡ instruction_at code p → r ≡ operand_test u p (cell_at (cells_of u) p)
  unfolding sections_of
  operand_tested {p = p} {w = w} {i = i} h t word read =
      let c = (header_of u).counts in
      let fields = instruction_fields (code_of u) p (bytes_mid (header_of u).offsets.code (instruction_size * c.instructions) u f.bytes) in
      t
      ∙ rw (locals_found, f.functions_found, f.externs_found, f.cases_found, f.metadata_found, word, read, f.code_found, of_to (instruction_at (code_of u) p) fields, cell_at_lem u p (rw (cells_long u) at h))
      refl

-- ---- the rows

pub row_refused : (rest : Check) {check : Check} {k p : ℕ} → check ≡ Refused k p → Refused k p ≡ and_then check rest
unfolding and_then
row_refused rest e = rw e

pub row_passed : {check rest r : Check} → check ≡ Passed → r ≡ rest → r ≡ and_then check rest
unfolding and_then
row_passed e f = rw e f

module _ (u : List ℕ) (words : ℕ) where
  abbrev pub from_frame : Check
  from_frame = frame_check (sections_of u).locals words

  abbrev pub from_branches : Check
  from_branches = and_then (branch_check_in (suc (length (cells_of u))) (cells_of u)) from_frame

  abbrev pub from_operands : Check
  from_operands = and_then (operand_check (sections_of u).locals (sections_of u).tables (cells_of u)) from_branches

  abbrev pub from_counts : Check
  from_counts = and_then (count_check (header_of u).counts) from_operands

  pub layout_refused : {k p : ℕ} → layout_of u ≡ Refused k p → Refused k p ≡ desk_check u words
  unfolding desk_check layout_check and_then
  layout_refused e = rw e

  -- with a header
  module _ {h : Header} (laid : layout_of u ≡ Ok h) where
    pub layout_passed : {r : Check} → r ≡ from_counts → r ≡ desk_check u words
    unfolding desk_check layout_check and_then
    layout_passed e = rw laid e

    pub row_counts : {r s : Check} → r ≡ count_check h.counts → r ≡ s → count_check (header_of u).counts ≡ s
    row_counts e f = sym (ap (λ (x : Header). count_check x.counts) (layout_unit u h laid).1) ∙ sym e ∙ f

    pub row_frame : {r : Check} → r ≡ frame_check h.counts.locals words → r ≡ from_frame
    unfolding sections_of
    row_frame e = e ∙ ap (λ (x : Header). frame_check x.counts.locals words) (layout_unit u h laid).1
