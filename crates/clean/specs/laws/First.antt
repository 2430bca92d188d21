-- The first pass, on the unit, and the answers before it.
-- Assumes nothing.
use Rattle.std.specs.Prelude.{Ok, Err, Result, ◌≡◌, refl, Bool, true, false, ◌&&◌, ℕ, ◌*◌, ◌≤◌, ◌<◌, min, leb, length}
use Rattle.std.proofs.Common.{sym, ◌∙◌, arith, le-leb}
use Rattle.std.proofs.Math.Path.{ap}
use mathlib.Core.List.{List, []}
use Rattle.std.proofs.Math.Decide.{dec_le}
use Rattle.std.proofs.lemmas.Bool.{lt-leb}
use borrow.Rule.Slice.PartMut.{put_mid}
use Rattle.words.specs.Bytes.{Bytes}
use Rattle.words.specs.laws.Bytes.{bytes_mid}
use Rattle.unit.specs.declared.Counts.{Counts}
use Rattle.unit.specs.Layout.{header_of, metadata_of}
use Rattle.unit.specs.Result.{Retained, result_bytes}
use Rattle.unit.specs.Size.{metadata_size, output_room, work32_room, work64_room, result_size}
use Rattle.words.specs.laws.Truth.{left_true, right_true}
use Rattle.effects.specs.Shape.{Sections}
use Rattle.unit.specs.declared.refusal.Refusal.{Refusal}
use Rattle.answer.specs.declared.Admission.TheVariants.{Admitted, Unchanged as Skipped}
use Rattle.answer.specs.Answer.{Lent, lent_of, cells_of, sections_of, room_for, admission}
use Rattle.answer.specs.Clean.{Cleaned as Cleaning, clean_from, cleaned_first, spare_for, clean_answer}
use Rattle.answer.specs.Pass.{Outcome, unchanged, optimized, output_after}
use Rattle.run.proofs.Given.{worked_well, cell_at_lem, cells_long, metadata_fields}
use Rattle.run.specs.Given.{Worked}
use Rattle.run.specs.Returned.{given_function}
use Rattle.unit.specs.Refusal.{Refused}
use Rattle.optimize.specs.declared.Answer.{Answer}
use Rattle.optimize.specs.declared.Answer.TheVariants.{Unchanged, Rewritten}
use Rattle.optimize.specs.PassAnswer.{Answers, answer_of}
use Rattle.optimize.specs.laws.Whole.{given_unit, room_out, room_work, answer_refused, answer_unchanged, answer_admitted}
use Rattle.run.specs.laws.Reading.{AllFit, retained_in}
use Rattle.run.proofs.laws.Fitting.{AllSound}
use Rattle.run.proofs.laws.Fitting.{Again, optimized_again, again_fits}
use Rattle.clean.specs.laws.Ready.{Ready, cases_in, written_back, written_ready}
use Rattle.optimize.specs.laws.Outcomes.{To, outcome_unchanged, outcome_refused, outcome_rewritten}
use Rattle.clean.specs.laws.Cleaning.{stopped}
use Rattle.clean.specs.CleanAnswer.{cleaned_of, AnswersCleaned}

-- a unit that is returned as it is
abbrev pub unaltered : Cleaning
unaltered = record { outcome = unchanged; passes = 1 }

pub unaltered_answers : (out : List ℕ) → AnswersCleaned unaltered (record { answer = Ok Unchanged; passes = 1 }) out out
unfolding cleaned_of answer_of output_after
unaltered_answers out = (refl, refl)

-- ---- before the first pass

module _ (u : List ℕ) (l : Lent) (first second : ℕ) where
  abbrev lent : Bool
  lent = room_for (header_of u).counts l && spare_for (header_of u).counts first second

  pub clean_refused : (k p : ℕ) → admission (room_for (header_of u).counts l && spare_for (header_of u).counts first second) u ≡ Refused k p → clean_answer u l first second ≡ stopped k p 1
  unfolding clean_answer cleaned_first
  clean_refused k p e = rw (answer_refused u lent k p e)

  pub clean_unchanged : admission (room_for (header_of u).counts l && spare_for (header_of u).counts first second) u ≡ Ok Skipped → clean_answer u l first second ≡ unaltered
  unfolding clean_answer cleaned_first
  clean_unchanged e = rw (answer_unchanged u lent e)

  pub clean_admitted : admission (room_for (header_of u).counts l && spare_for (header_of u).counts first second) u ≡ Ok Admitted → clean_answer u l first second ≡ cleaned_first (sections_of u) (optimized (sections_of u) (cells_of u))
  unfolding clean_answer
  clean_admitted e = rw (answer_admitted u lent e)

-- room in the shortest of three buffers is room in each
leb_min : (m a b : ℕ) → leb m (min a b) ≡ (leb m a && leb m b)
leb_min m a b = elim (dec_le m a) [
  | yes h ↦ rw (le-leb m a h) (elim (dec_le m b) [
    | yes k ↦ rw (le-leb m b k) (le-leb m (min a b) (omega arith))
    | no k ↦ rw (lt-leb m b (omega arith)) (lt-leb m (min a b) (omega arith))
  ])
  | no h ↦ rw (lt-leb m a (omega arith)) (lt-leb m (min a b) (omega arith))
]

shared : (a b c p q : Bool) → (a && (b && c) && p && q) ≡ (a && p && q && (b && c))
shared true true true true true = refl
shared true true true true false = refl
shared true true true false q = refl
shared true true false true true = refl
shared true true false true false = refl
shared true true false false q = refl
shared true false c true true = refl
shared true false c true false = refl
shared true false c false q = refl
shared false b c p q = refl

pub room_shortest : (h : Counts) (out work32 work64 first second m : ℕ) → m ≡ min out (min first second)
    → room_for h (lent_of m work32 work64) ≡ (room_for h (lent_of out work32 work64) && spare_for h first second)
unfolding room_for spare_for
room_shortest h out work32 work64 first second m e =
    let asked = output_room h.instructions h.lines in
    rw (e, leb_min asked out (min first second), leb_min asked first second)
    (shared (leb asked out) (leb asked first) (leb asked second) (leb (work32_room h.instructions) work32) (leb (work64_room h.instructions h.locals) work64))

-- a spare buffer is as long as the output
room_in : (h : Counts) (out work32 work64 to : ℕ) → room_for h (lent_of out work32 work64) ≡ true → leb (output_room h.instructions h.lines) to ≡ true → room_for h (lent_of to work32 work64) ≡ true
unfolding room_for
room_in h out work32 work64 to e f =
    let a = leb (output_room h.instructions h.lines) out in
    let b = leb (work32_room h.instructions) work32 in
    let c = leb (work64_room h.instructions h.locals) work64 in
    rw (f, right_true a b (left_true (a && b) c e), right_true (a && b) c e)

pub room_first : (h : Counts) (out work32 work64 first second : ℕ) → (room_for h (lent_of out work32 work64) && spare_for h first second) ≡ true
    → (room_for h (lent_of out work32 work64) ≡ true) × (room_for h (lent_of first work32 work64) ≡ true) × (room_for h (lent_of second work32 work64) ≡ true)
unfolding spare_for
room_first h out work32 work64 first second e =
    let lent = left_true (room_for h (lent_of out work32 work64)) (leb (output_room h.instructions h.lines) first && leb (output_room h.instructions h.lines) second) e in
    let spare = right_true (room_for h (lent_of out work32 work64)) (leb (output_room h.instructions h.lines) first && leb (output_room h.instructions h.lines) second) e in (
      lent,
      room_in h out work32 work64 first lent (left_true (leb (output_room h.instructions h.lines) first) (leb (output_room h.instructions h.lines) second) spare),
      room_in h out work32 work64 second lent (right_true (leb (output_room h.instructions h.lines) first) (leb (output_room h.instructions h.lines) second) spare),
    )

-- ---- the first pass

-- the same unit, whatever room it was lent
pub worked_lent : {u : List ℕ} {room : Bool} (room' : Bool) → Worked u room → room' ≡ true → Worked u room'
worked_lent room' w e = record { laid = w.laid; rise = w.rise; worked = w.worked; few = w.few; lent = e; described = w.described; typed = w.typed }

module _ (u : List ℕ) (b : Bytes u) (out work32 work64 first second : ℕ) (w : Worked u (room_for (header_of u).counts (lent_of out work32 work64) && spare_for (header_of u).counts first second)) where
  abbrev n : ℕ
  n = (header_of u).counts.instructions

  abbrev S : Sections
  S = sections_of u

  abbrev o : Outcome
  o = optimized (sections_of u) (cells_of u)

  rooms : (room_for (header_of u).counts (lent_of out work32 work64) ≡ true) × (room_for (header_of u).counts (lent_of first work32 work64) ≡ true) × (room_for (header_of u).counts (lent_of second work32 work64) ≡ true)
  rooms = room_first (header_of u).counts out work32 work64 first second w.lent

  pub first_worked : Worked u (room_for (header_of u).counts (lent_of first work32 work64))
  first_worked = worked_lent _ w rooms.1

  module _ (to to₁ : List ℕ) (a : Result Answer Refusal) (r : Answers o a to to₁) where
    pub first_unchanged : a ≡ Ok Unchanged → cleaned_first S o ≡ unaltered
    unfolding cleaned_first
    first_unchanged e = ap (cleaned_first S) (outcome_unchanged o (sym e ∙ r.0))

    pub first_refused : (k p : ℕ) → a ≡ Refused k p → cleaned_first S o ≡ stopped k p 1
    unfolding cleaned_first
    first_refused k p e = ap (cleaned_first S) (outcome_refused o k p (sym e ∙ r.0))

    module _ (long : length to ≡ first) (k : ℕ) (e : a ≡ Ok (Rewritten k)) where
      made : To o k
      made = outcome_rewritten o k (sym e ∙ r.0)

      abbrev kept : List Retained
      kept = made.kept

      put : to₁ ≡ put_mid 0 (result_size (length kept) 0) to (result_bytes kept [])
      unfolding output_after
      put = r.1 ∙ ap (λ (q : Outcome). output_after q [] to) made.is

      again : Again (cases_in u) n kept
      unfolding given_function sections_of
      again = rw (cells_long u) at (optimized_again (given_function u) (worked_well b w) (cases_in u) sound w.worked kept made.is)
        where
          sound : AllSound (cases_in u) (cells_of u)
          sound p h =
              let l : p < n = rw (cells_long u) at h in
              rw (cell_at_lem u p l)
              (record { fits = metadata_fields (metadata_of u) p (bytes_mid (header_of u).offsets.metadata (metadata_size * (header_of u).counts.metadata) u b); good = (given_unit b w).good p l })

      fits : AllFit (cases_in u) kept
      fits = again_fits (cases_in u) n kept w.few again

      pub first_ready : Ready u to₁ k second work32 work64 × (result_size k 0 ≤ out)
      first_ready =
          let lent = room_out u out work32 work64 rooms.0 in
          let spare = room_out u first work32 work64 rooms.1 in
          let other = room_out u second work32 work64 rooms.2 in
          let fewer = again.few in
          rw (← made.long) (
            written_ready (cases_in u) kept to to₁ put fits u n second work32 work64 w.laid w.typed refl w.few fewer (omega (arith, long)) (omega arith) (room_work u out work32 work64 rooms.0),
            omega arith,
          )

      pub first_rewritten : cleaned_first S o ≡ clean_from S 2 1 (retained_in k to₁)
      unfolding cleaned_first
      first_rewritten =
          ap (cleaned_first S) made.is ∙ ap (clean_from S 2 1) (sym (written_back (cases_in u) kept to to₁ put fits) ∙ ap (λ (l : ℕ). retained_in l to₁) made.long)
