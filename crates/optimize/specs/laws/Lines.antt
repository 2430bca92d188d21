-- Lines added to the result of a rewritten answer.
-- Assumes nothing.
use Rattle.std.specs.Prelude.{Ok, Err, Result, ◌≡◌, refl, Bool, true, ℕ, ◌+◌, ◌-◌, ◌/◌, ◌^◌, ◌≤◌, ◌<◌, get_or, take, drop}
use Rattle.std.proofs.Math.Path.{sym, ap}
use Rattle.std.proofs.Common.{◌∙◌, take_at, drop-drop}
use mathlib.Core.List.{List, [], ◌++◌}
use native.Mathlib.Omega.{arith}
use Rattle.std.proofs.Math.ListN.{length}
use Rattle.std.proofs.Math.Seq.{drop-append-add}
use borrow.Rule.Slice.PartMut.{put_mid}
use Rattle.words.specs.Bytes.{Bytes}
use Rattle.words.specs.laws.Truth.{left_true}
use Rattle.unit.specs.declared.Line.{Line}
use Rattle.unit.specs.Entry.{lines_in}
use Rattle.unit.specs.Layout.{header_of, lines_of, is_unit}
use Rattle.unit.specs.Result.{Retained, result_bytes}
use Rattle.unit.specs.Size.{line_size, max_instructions, output_room, result_size}
use Rattle.unit.specs.laws.UnitLaws.{result_long}
use Rattle.unit.proofs.laws.UnitLaws.{unit_laid}
use Rattle.lines.specs.Lines.{moved_lines, places_of}
use Rattle.lines.specs.laws.Below.{Rising}
use Rattle.lines.specs.laws.Moving.{RisingLines, Unlined}
use Rattle.lines.specs.laws.Rising.{unit_lines}
use Rattle.answer.specs.Pass.{Outcome, unchanged, refused, rewritten, output_after, lines_after}
use Rattle.answer.specs.Answer.{Lent, lent_of, room_for, pass_answer}
use Rattle.answer.specs.Clean.{spare_for, clean_answer}
use Rattle.run.proofs.Given.{lines_fit, Returnable, cells_long, answer_worked}
use Rattle.run.specs.Given.{Worked}
use Rattle.run.proofs.Given.{answer_returnable, clean_kept}
use Rattle.run.specs.Returned.{given_function}
use Rattle.run.proofs.laws.MovedLines.{places_long, place_of}
use Rattle.unit.specs.declared.refusal.Refusal.{Refusal}
use Rattle.unit.specs.Refusal.{Refused}
use Rattle.optimize.specs.declared.Answer.{Answer}
use Rattle.optimize.specs.declared.Answer.TheVariants.{Unchanged, Rewritten}
use Rattle.optimize.specs.PassAnswer.{answer_of, Answers}
use Rattle.optimize.specs.laws.Whole.{room_out}
use Rattle.optimize.specs.laws.Outcomes.{To, outcome_unchanged, outcome_refused, outcome_rewritten}

-- the unit's lines have room behind a result of k instructions
pub record Addable (u : List ℕ) (k out : ℕ) : Type 0 where
  pub laid : is_unit u ≡ true
  pub few : k ≤ max_instructions
  pub room : result_size k (length (lines_of u) / line_size) ≤ out
  pub fits : length (lines_of u) / line_size < 2 ^ 32

abbrev pub Linable : List ℕ → Result Answer Refusal → ℕ → Type 0
Linable u (Ok Unchanged) out = Unit {0}
Linable u (Err r) out = Unit {0}
Linable u (Ok (Rewritten k)) out = Addable u k out

pub linable_to : (u : List ℕ) (a : Result Answer Refusal) (k out : ℕ) → a ≡ Ok (Rewritten k) → Linable u a out → Addable u k out
linable_to u a k out e l = rw e at l

-- the lines and the old places of a result rise, as they do after a pass and after the cleaning
pub record Movable (u : List ℕ) (kept : List Retained) : Type 0 where
  pub lines : RisingLines (lines_in (lines_of u))
  pub places : Rising (places_of kept)
  pub small : (i : ℕ) → i < length (places_of kept) → get_or (places_of kept) i 0 < 2 ^ 32

abbrev pub Moves : List ℕ → Outcome → Type 0
Moves u o = (kept : List Retained) → o ≡ rewritten kept → Movable u kept

-- what was returned may have lines
module _ (u : List ℕ) (b : Bytes u) {room : _} (kept : List Retained) (w : Worked u room) (r : Returnable (given_function u) (header_of u).counts.cases kept) where
  pub returned_moves : Movable u kept
  returned_moves =
      record {
        lines = unit_lines u w.laid w.rise;
        places = r.rising;
        small = λ i h. let l : i < length kept = rw (places_long kept) at h in rw (place_of kept i) (r.fits i l).place;
      }

  pub returned_addable : (out : ℕ) → output_room (header_of u).counts.instructions (header_of u).counts.lines ≤ out → Addable u (length kept) out
  unfolding given_function
  returned_addable out lent =
      let e = (unit_laid u w.laid).lengths.lines in
      let many : length (lines_of u) / line_size ≡ (header_of u).counts.lines = omega arith in
      let shorter : length kept ≤ (header_of u).counts.instructions = rw (cells_long u) at r.shorter in
      record { laid = w.laid; few = r.few; room = rw many (omega arith); fits = rw many (lines_fit u b) }

pub linable : (u : List ℕ) (o : Outcome) (out : ℕ) → ((kept : List Retained) → o ≡ rewritten kept → Addable u (length kept) out) → Linable u (answer_of o) out
unfolding answer_of
linable u unchanged out f = tt
linable u (refused k p) out f = tt
linable u (rewritten kept) out f = f kept refl

-- ---- the output with its lines

-- a front part written over a shorter one
put_over : (out xs ys : List ℕ) (j m : ℕ) → length xs ≡ j → j ≤ m → put_mid 0 m (put_mid 0 j out xs) ys ≡ put_mid 0 m out ys
put_over out xs ys j m e h =
    let size : m ≡ length xs + (m - j) = omega arith in
    let all : j + (m - j) ≡ m = omega arith in
    ap (λ (l : List ℕ). ys ++ l) (ap (λ (i : ℕ). drop i (xs ++ drop j out)) size ∙ drop-append-add xs (drop j out) (m - j) ∙ drop-drop (m - j) j out ∙ rw all)

module _ (u : List ℕ) (o : Outcome) (a : Result Answer Refusal) (before out : List ℕ) (w : Answers o a before out) where
  abbrev given : List Line
  given = lines_in (lines_of u)

  pub lined_unchanged : a ≡ Ok Unchanged → out ≡ output_after o (lines_after (lines_in (lines_of u)) o) before
  unfolding output_after
  lined_unchanged e = let is = outcome_unchanged o (sym e ∙ w.0) in w.1 ∙ rw is

  pub lined_refused : (k p : ℕ) → a ≡ Refused k p → out ≡ output_after o (lines_after (lines_in (lines_of u)) o) before
  unfolding output_after
  lined_refused k p e = let is = outcome_refused o k p (sym e ∙ w.0) in w.1 ∙ rw is

  module _ (k : ℕ) (e : a ≡ Ok (Rewritten k)) where
    made : To o k
    made = outcome_rewritten o k (sym e ∙ w.0)

    put : out ≡ put_mid 0 (result_size k 0) before (result_bytes made.kept [])
    unfolding output_after
    put = w.1 ∙ ap (λ (q : Outcome). output_after q [] before) made.is ∙ rw made.long

    unlined : Moves u o → Unlined made.kept k out
    unlined m =
        let r = m made.kept made.is in
        let long : length (result_bytes made.kept []) ≡ result_size k 0 = result_long made.kept [] ∙ rw made.long in
        record { many = made.long; front = ap (take (result_size k 0)) put ∙ take_at (result_bytes made.kept []) (drop (result_size k 0) before) (result_size k 0) long; rising = r.places; small = r.small }

    pub lined_rewritten : Moves u o → (lines out₂ : List ℕ) → lines ≡ lines_of u
        → ((kept : List Retained) → Unlined kept k out → RisingLines (lines_in lines)
        → out₂ ≡ put_mid 0 (result_size k (length (moved_lines (places_of kept) (lines_in lines)))) out (result_bytes kept (moved_lines (places_of kept) (lines_in lines))))
        → out₂ ≡ output_after o (lines_after (lines_in (lines_of u)) o) before
    unfolding output_after lines_after
    lined_rewritten m lines out₂ same f =
        let kept = made.kept in
        let r = m kept made.is in
        let ls = moved_lines (places_of kept) (lines_in (lines_of u)) in
        let long : length (result_bytes kept []) ≡ result_size k 0 = result_long kept [] ∙ rw made.long in
        let size = result_size k (length ls) in
        let there : out₂ ≡ put_mid 0 size out (result_bytes kept ls) = rw same at (f kept (unlined m) (rw same r.lines)) in
        let whole : put_mid 0 size out (result_bytes kept ls) ≡ put_mid 0 size before (result_bytes kept ls) = ap (λ (l : List ℕ). put_mid 0 size l (result_bytes kept ls)) put ∙ put_over before (result_bytes kept []) (result_bytes kept ls) (result_size k 0) size long (omega arith) in
        there
        ∙ whole
        ∙ ap (λ (j : ℕ). put_mid 0 (result_size j (length ls)) before (result_bytes kept ls)) (sym made.long)
        ∙ sym (ap (λ (q : Outcome). output_after q (lines_after (lines_in (lines_of u)) q) before) made.is)

-- ---- the answers of one pass and of the cleaning

module _ (u : List ℕ) (b : Bytes u) (out work32 work64 : ℕ) where
  abbrev lent : Lent
  lent = lent_of out work32 work64

  module _ (room : Bool) (kept : List Retained) (w : Worked u room) (r : Returnable (given_function u) (header_of u).counts.cases kept) where
    addable_in : room_for (header_of u).counts lent ≡ true → Addable u (length kept) out
    addable_in e = returned_addable u b kept w r out (room_out u out work32 work64 e)

  pub pass_linable : (a : Result Answer Refusal) (k : ℕ) → a ≡ answer_of (pass_answer u (lent_of out work32 work64)) → k ≡ out → Linable u a k
  unfolding pass_answer
  pass_linable a k e f =
      rw (e, f)
      (linable u (pass_answer u lent) out
      (λ kept g. let w = answer_worked u (room_for (header_of u).counts lent) kept g in addable_in _ kept w (answer_returnable u b _ kept g) w.lent))

  pub pass_moves : Moves u (pass_answer u (lent_of out work32 work64))
  unfolding pass_answer
  pass_moves kept e = returned_moves u b kept (answer_worked u _ kept e) (answer_returnable u b _ kept e)

  module _ (first second : ℕ) where
    pub clean_linable : (a : Result Answer Refusal) (k : ℕ) → a ≡ answer_of (clean_answer u (lent_of out work32 work64) first second).outcome → k ≡ out → Linable u a k
    clean_linable a k e f =
        rw (e, f)
        (linable u (clean_answer u lent first second).outcome out
        (λ kept g. let k = clean_kept u b lent first second kept g in addable_in _ kept k.0 k.1 (left_true (room_for (header_of u).counts lent) (spare_for (header_of u).counts first second) k.0.lent)))

    pub clean_moves : Moves u (clean_answer u (lent_of out work32 work64) first second).outcome
    clean_moves kept e = let k = clean_kept u b lent first second kept e in returned_moves u b kept k.0 k.1
