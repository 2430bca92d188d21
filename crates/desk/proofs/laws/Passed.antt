-- What is not refused at the desk can be run, and its answers are those of the run.
-- Assumes nothing.
use Rattle.std.specs.Prelude.{Ok, Err, Result, ◌≡◌, ℕ, suc, ◌^◌, ◌<◌, ◌≤◌, Bool, true, false, cond, List, [], length, ◌==◌, nat_lt, refl}
use Rattle.std.proofs.Common.{sym, ap, ◌∙◌, arith, eqb-true, ltb-true}
use Rattle.words.specs.Bytes.{Bytes}
use Rattle.unit.specs.Layout.{header_of, is_unit, layout_of}
use Rattle.unit.specs.Refusal.{frame_length, metadata_count}
use Rattle.unit.specs.declared.Header.{Header}
use Rattle.unit.specs.declared.refusal.Refusal.{Refusal}
use Rattle.unit.specs.laws.UnitLaws.{layout_unit}
use Rattle.effects.specs.Check.{Check}
use Rattle.effects.specs.Check.{Passed}
use Rattle.effects.specs.Shape.{Sections, Cell}
use Rattle.effects.specs.laws.Sound.{passed_at}
use Rattle.answer.specs.Answer.{cells_of, sections_of, count_check}
use Rattle.run.proofs.Given.{cells_long}
use Rattle.run.specs.Program.{Function}
use Rattle.run.specs.Returned.{given_function}
use Rattle.run.proofs.laws.Checked.{target_inside}
use Rattle.run.specs.laws.Runnable.{Runnable}
use Rattle.desk.specs.Answer.{and_then, layout_check, frame_check, desk_check, stopped_by, desk_answer, stepped_by, step_answer}
use Rattle.desk.specs.Desk.{Due, goes, stops, not_executed, due_at}
use Rattle.desk.specs.declared.Next.TheVariants.{Goes, Stops}
use Rattle.desk.specs.declared.Stop.{Stop}
use Rattle.desk.specs.laws.Advance.{Advance, Placed, onward, advanced, stop_at}
use Rattle.desk.proofs.laws.Advance.{run_advances, step_advances}
use Rattle.desk.proofs.laws.Checking.{places_few, not_passed, if_passed}
use Rattle.desk.proofs.laws.Stands.{mute, goes_there}

-- ---- the rows, one by one

pub and_passed : (a b : Check) → and_then a b ≡ Passed → (a ≡ Passed) × (b ≡ Passed)
unfolding and_then
and_passed Passed b e = (refl, e)
and_passed (Err r) b e = absurd (not_passed e)

unit_passed : (u : List ℕ) (l : Result Header Refusal) → layout_of u ≡ l → layout_check l ≡ Passed → is_unit u ≡ true
unfolding layout_check
unit_passed u (Ok h) e p = (layout_unit u h e).0
unit_passed u (Err r) e q = absurd (not_passed q)

-- what passes
pub record Run (u : List ℕ) (words : ℕ) : Type 0 where
  pub laid : is_unit u ≡ true
  pub runnable : Runnable (given_function u)
  pub frame : words ≡ (sections_of u).locals

pub passed_run : (u : List ℕ) (words : ℕ) → desk_check u words ≡ Passed → Run u words
unfolding desk_check count_check frame_check given_function
passed_run u words e =
    let S = sections_of u in
    let cells = cells_of u in
    let one = and_passed _ _ e in
    let two = and_passed _ _ one.1 in
    let three = and_passed _ _ two.1 in
    let four = and_passed _ _ three.1 in
    let counts = if_passed ((header_of u).counts.metadata == (header_of u).counts.instructions) _ metadata_count 0 two.0 in
    let described = eqb-true (header_of u).counts.metadata (header_of u).counts.instructions counts.0 in
    record {
      laid = unit_passed u (layout_of u) refl one.0;
      runnable =
          record {
            described = rw (cells_long u) (omega arith);
            operands = passed_at S.locals S.tables cells three.0;
            targets = λ p h b. (let l = target_inside cells (suc (length cells)) four.0 p h b in omega arith);
          };
      frame = eqb-true words S.locals (if_passed (words == S.locals) Passed frame_length 0 four.1).0;
    }

-- ---- the answers

-- one step that was done
reached : (F : Function) → Runnable F → (p : ℕ) (f : List ℕ) → length f ≡ F.sections.locals → (advanced F.sections F.cells 1 p f).left ≡ 0
    → (advanced F.sections F.cells 1 p f).place ≤ length F.cells
unfolding advanced onward
reached F A p f long = go (nat_lt p (length F.cells)) refl (due_at F.sections F.cells p f) refl
  where
    here : Bool → Due → Advance
    here t d = cond t (onward p 1 f (advanced F.sections F.cells 0) d) (record { place = p; left = 1; frame = f })

    go : (t : Bool) → nat_lt p (length F.cells) ≡ t → (d : Due) → due_at F.sections F.cells p f ≡ d → (here t d).left ≡ 0 → (here t d).place ≤ length F.cells
    go true e (goes q g) d z = (goes_there F A mute p f [] q g (ltb-true p (length F.cells) e) long d).2
    go true e (stops s) d z = absurd (omega arith)
    go true e not_executed d z = absurd (omega arith)
    go false e d h z = absurd (omega arith)

pub refused_stop : (u f : List ℕ) (limit : ℕ) (r : Refusal) → desk_check u (length f) ≡ Err r → (Err r ≡ (desk_answer u f limit).stop) × (f ≡ (desk_answer u f limit).frame)
unfolding desk_answer stopped_by
refused_stop u f limit r e = rw e (refl, refl)

pub refused_step : (u f : List ℕ) (q : ℕ) (r : Refusal) → desk_check u (length f) ≡ Err r → (Err r ≡ (step_answer u f q).next) × (f ≡ (step_answer u f q).frame)
unfolding step_answer stepped_by
refused_step u f q r e = rw e (refl, refl)

module _ (u f : List ℕ) (passed : desk_check u (length f) ≡ Passed) where
  abbrev S : Sections
  S = sections_of u

  abbrev cells : List Cell
  cells = cells_of u

  pub ran : (limit q l : ℕ) (g : List ℕ) (s : Stop) → Placed (advanced (sections_of u) (cells_of u) limit 0 f) q l g → s ≡ stop_at (sections_of u) (cells_of u) l q g
      → (Ok s ≡ (desk_answer u f limit).stop) × (g ≡ (desk_answer u f limit).frame)
  unfolding desk_answer stopped_by
  ran limit q l g s a e =
      let run = run_advances S cells limit 0 f in
      rw (passed, run, ← a.place, ← a.left, ← a.frame) (ap Ok e, refl)

  module _ (p q l : ℕ) (g : List ℕ) (a : Placed (advanced (sections_of u) (cells_of u) 1 p f) q l g) where
    pub step_went : l ≡ 0 → (Ok (Goes q) ≡ (step_answer u f p).next) × (g ≡ (step_answer u f p).frame)
    unfolding step_answer stepped_by
    step_went z =
        let s = (step_advances S cells p f).0 (sym a.left ∙ z) in
        rw (passed, s, ← a.place, ← a.frame) (refl, refl)

    pub step_stopped : (s : Stop) → 0 < l → s ≡ stop_at (sections_of u) (cells_of u) 1 q g → (Ok (Stops s) ≡ (step_answer u f p).next) × (g ≡ (step_answer u f p).frame)
    unfolding step_answer stepped_by
    step_stopped s z e =
        let t = (step_advances S cells p f).1 (rw a.left at z) in
        rw (passed, t, ← a.place, ← a.frame) (ap (λ x. Ok (Stops x)) e, refl)

    -- a step goes to a place of 32 bits
    pub step_place : Bytes u → l ≡ 0 → q < 2 ^ 32
    unfolding given_function
    step_place b z =
        let r = passed_run u (length f) passed in
        let n = places_few u b in
        let h = reached (given_function u) r.runnable p f r.frame (sym a.left ∙ z) in
        rw a.place (omega arith)
