-- The rows before the work, from the tests that the code makes.
-- Assumes nothing.
use Rattle.std.specs.Prelude.{Ok, Err, Result, ◌≡◌, refl, Bool, true, false, ◌&&◌, List, ℕ, ◌^◌, ◌≤◌, ◌<◌, eqb, leb}
use Rattle.std.proofs.Common.{arith}
use borrow.Author.Tests.{lt-ltb, le-ltb, eq-eqb, ne_eqb}
use Rattle.words.specs.Bytes.{Bytes}
use Rattle.words.specs.laws.Bytes.{le_fits}
use Rattle.unit.specs.declared.Counts.{Counts}
use Rattle.unit.specs.declared.Header.{Header}
use Rattle.unit.specs.Layout.{header_of, layout_of}
use Rattle.unit.specs.laws.UnitLaws.{layout_unit}
use Rattle.unit.proofs.laws.UnitLaws.{unit_laid}
use Rattle.unit.specs.Refusal.{short_buffer, metadata_count, type_count}
use Rattle.unit.specs.Size.{output_room, work32_room, work64_room, max_instructions, max_local_slots}
use Rattle.effects.specs.Check.{Passed}
use Rattle.unit.specs.Refusal.{Refused}
use Rattle.answer.specs.declared.Admission.{Admission}
use Rattle.unit.specs.declared.refusal.Refusal.{Refusal}
use Rattle.answer.specs.declared.Admission.TheVariants.{Admitted, Unchanged}
use Rattle.answer.specs.Pass.{is_worked_on}
use Rattle.answer.specs.Answer.{Lent, lent_of, is_skipped, room_for, count_check, admitted_by, after_skipped, after_layout, laid_out, admission}

-- ---- "n under 2, above 65,536, or defer"

pub skipped_small : (c : Counts) → c.instructions < 2 → true ≡ is_skipped c
unfolding is_skipped is_worked_on
skipped_small c h = rw (le-ltb 1 c.instructions (omega arith)) refl

pub skipped_large : (c : Counts) → max_instructions < c.instructions → true ≡ is_skipped c
unfolding is_skipped is_worked_on
skipped_large c h = rw (lt-ltb 1 c.instructions (omega arith), lt-ltb max_instructions c.instructions h) refl

pub skipped_else : (c : Counts) → 2 ≤ c.instructions → c.instructions ≤ max_instructions → eqb c.defer 1 ≡ is_skipped c
unfolding is_skipped is_worked_on
skipped_else c h k = rw (lt-ltb 1 c.instructions (omega arith), le-ltb max_instructions c.instructions k) refl

-- ---- the room, in the code's order

pub room_test : (k : Counts) (out work32 work64 a b d : ℕ) → a ≡ output_room k.instructions k.lines → b ≡ work32_room k.instructions → d ≡ work64_room k.instructions k.locals
    → (leb a out && leb b work32 && leb d work64) ≡ room_for k (lent_of out work32 work64)
unfolding room_for
room_test k out work32 work64 a b d e f g = rw (e, f, g)

-- ---- refusals 3 and 4

module _ (c : Counts) where
  pub counts_metadata : (c.metadata ≡ c.instructions → ⊥) → Refused metadata_count 0 ≡ count_check c
  unfolding count_check
  counts_metadata e = rw (ne_eqb c.metadata c.instructions e)

  pub counts_types : c.metadata ≡ c.instructions → (c.types ≡ c.locals → ⊥) → Refused type_count 0 ≡ count_check c
  unfolding count_check
  counts_types e f = rw (eq-eqb c.metadata c.instructions e, ne_eqb c.types c.locals f)

  pub counts_passed : c.metadata ≡ c.instructions → c.types ≡ c.locals → Passed ≡ count_check c
  unfolding count_check
  counts_passed e f = rw (eq-eqb c.metadata c.instructions e, eq-eqb c.types c.locals f)

  -- ---- the rows of the counts

  pub rows_skipped : (room : Bool) → is_skipped c ≡ true → Ok Unchanged ≡ after_layout room c
  unfolding after_layout
  rows_skipped room e = rw e

  pub rows_short : (room : Bool) → is_skipped c ≡ false → room ≡ false → Refused short_buffer 0 ≡ after_layout room c
  unfolding after_layout after_skipped
  rows_short room e f = rw (e, f)

  module _ (room : Bool) (e : is_skipped c ≡ false) (f : room ≡ true) where
    pub rows_refused : (k p : ℕ) → count_check c ≡ Refused k p → Refused k p ≡ after_layout room c
    unfolding after_layout after_skipped admitted_by
    rows_refused k p g = rw (e, f, g)

    pub rows_admitted : count_check c ≡ Passed → Ok Admitted ≡ after_layout room c
    unfolding after_layout after_skipped admitted_by
    rows_admitted g = rw (e, f, g)

-- ---- all rows

module _ (u : List ℕ) where
  pub admit_refused : (room : Bool) (k p : ℕ) → layout_of u ≡ Refused k p → Refused k p ≡ admission room u
  unfolding admission laid_out
  admit_refused room k p e = rw e

  pub admit_laid : (h : Header) (l : Lent) (room : Bool) (r : Result Admission Refusal) → layout_of u ≡ Ok h → room ≡ room_for h.counts l → r ≡ after_layout room h.counts → r ≡ admission (room_for (header_of u).counts l) u
  unfolding admission laid_out
  admit_laid h l room r laid e f = rw (laid, ← (layout_unit u h laid).1, ← e) f

  -- the counts of a unit of bytes are small enough to reckon with
  pub counts_fit : (h : Header) → layout_of u ≡ Ok h → Bytes u → (h.counts.instructions < 2 ^ 32) × ((h.counts.locals ≤ max_local_slots) × (h.counts.lines < 2 ^ 32))
  unfolding header_of
  counts_fit h laid b =
      let l = layout_unit u h laid in
      let slots = (unit_laid u l.0).locals in
      rw l.1 (le_fits 4 u 0 b, (slots, le_fits 4 u 64 b))
