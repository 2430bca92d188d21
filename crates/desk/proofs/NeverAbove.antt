-- Document 02, L12, its claims: "the rewritten one is never charged above it" and "No charge exceeds 281,470,681,678 cents".
-- Assumes nothing.
use Rattle.std.specs.Prelude.{Err, IsOkAnd, ◌≡◌, ℕ, zero, suc, ◌^◌, ◌<◌, ◌≤◌, Bool, true, false, cond, List, [], ◌∷◌, length, ◌==◌, nat_lt, slice_index}
use Rattle.std.proofs.Math.Path.{refl}
use Rattle.std.proofs.Math.Nat.{le_refl}
use native.Mathlib.Omega.{arith}
use Rattle.std.proofs.lemmas.List.{length-map}
use borrow.Author.Tests.{eq-eqb, eqb-true}
use Rattle.words.specs.Bytes.{Bytes}
use Rattle.words.specs.Lists.{sum}
use Rattle.words.specs.laws.Lists.{sum_append}
use Rattle.instruction.specs.declared.Instruction.{Instruction}
use Rattle.instruction.specs.Class.{class_of}
use Rattle.instruction.specs.Opcode as op
use Rattle.unit.specs.Result.{Retained}
use Rattle.unit.specs.declared.Line.{Line}
use Rattle.effects.specs.Check.{Check}
use Rattle.effects.specs.Check.{Passed}
use Rattle.effects.specs.Shape.{Sections, Cell}
use Rattle.lines.specs.Lines.{places_of}
use Rattle.answer.specs.Answer.{Lent, cells_of, sections_of, pass_answer, pass_lines}
use Rattle.answer.specs.Clean.{cells_after, clean_answer, clean_lines}
use Rattle.answer.specs.Pass.{rewritten}
use Rattle.run.specs.Returned.{given_function}
use Rattle.run.specs.Visits.{is_operator, is_conditional, noted_at, StandsFor, same_opcode, load_int, copy, jump}
use Rattle.again.specs.Again.{unit_of}
use Rattle.again.specs.Units.{UnitAgain}
use Rattle.again.proofs.Units.{pass_unit, clean_unit}
use Rattle.desk.specs.Answer.{and_then, desk_check, stopped_by, desk_answer}
use Rattle.desk.specs.Charge.{prices, highest_price, priced, spent_from, Premises, to_cents, tariff_check, charge_check, charge_answer, charged_by, charge_cents, most_cents}
use Rattle.desk.specs.Desk.{Due, goes, stops, not_executed, due_at, run_from, noted_by, notes_from}
use Rattle.desk.specs.Likewise.{AnsweredLikewise}
use Rattle.desk.proofs.Likewise.{Rewriting, same_notes, pass_rewriting, clean_rewriting}
use Rattle.desk.specs.Rewritten.{EndsLikewise}
use Rattle.desk.proofs.Rewritten.{frame_passed, again_cells, again_sections, pass_desk, clean_desk}
use Rattle.desk.proofs.laws.Charging.{charge_passed, cents_most}
use Rattle.desk.proofs.laws.Passed.{passed_run}
use Rattle.desk.proofs.laws.Spent.{spent_most}
use Rattle.desk.specs.laws.Stands.{IsEnd}
use Rattle.desk.specs.Charged.{AtMost, ChargedNoMore}

-- ---- what stands for an instruction costs no more

abbrev Cheaper : List ℕ → Type 0
Cheaper tariff = (i j : Instruction) → StandsFor i j → slice_index tariff j.op ≤ slice_index tariff i.op

stands_cheaper : (tariff : List ℕ) → AtMost tariff (slice_index tariff op.LoadInt) (λ o. is_operator (class_of o)) → AtMost tariff (slice_index tariff op.Copy) (λ o. is_operator (class_of o))
    → AtMost tariff (slice_index tariff op.Jump) (λ o. is_conditional (class_of o)) → Cheaper tariff
stands_cheaper tariff loads copies jumps i j (same_opcode e c) = rw e (le_refl _)
stands_cheaper tariff loads copies jumps i j (load_int h e) = rw e (loads i.op h)
stands_cheaper tariff loads copies jumps i j (copy h e) = rw e (copies i.op h)
stands_cheaper tariff loads copies jumps i j (jump h e) = rw e (jumps i.op h)

-- what is noted of a place is what is noted of one that came from it, or nothing
noted_less : (xs : List ℕ) (note : ℕ → List ℕ) (p v : ℕ) → ((q : ℕ) → q < length xs → slice_index xs q ≡ p → sum (note q) ≤ v) → sum (noted_at xs note p) ≤ v
unfolding noted_at sum
noted_less [] note p v h = omega arith
noted_less (x ∷ xs) note p v h = go (x == p) refl (noted_less xs (λ q. note (suc q)) p v (λ q i e. h (suc q) (omega arith) e))
  where
    go : (t : Bool) → (x == p) ≡ t → sum (noted_at xs (λ q. note (suc q)) p) ≤ v → sum (cond t (note 0) (noted_at xs (λ q. note (suc q)) p)) ≤ v
    go true e ih = h 0 (omega arith) (eqb-true x p e)
    go false e ih = ih

-- ---- where less is noted of each place, less is noted of the run

module _ (S : Sections) (cells : List Cell) (g h : ℕ → List ℕ) (less : (p : ℕ) → sum (g p) ≤ sum (h p)) where
  notes_less : (k p : ℕ) (f : List ℕ) → sum (notes_from S cells g k p f) ≤ sum (notes_from S cells h k p f)
  unfolding notes_from noted_by
  notes_less zero p f = le_refl _
  notes_less (suc k) p f = go (notes_less k) (nat_lt p (length cells)) (due_at S cells p f)
    where
      go : ((q : ℕ) (e : List ℕ) → sum (notes_from S cells g k q e) ≤ sum (notes_from S cells h k q e)) → (t : Bool) (d : Due)
          → sum (cond t (noted_by S cells g p (notes_from S cells g k) d) []) ≤ sum (cond t (noted_by S cells h p (notes_from S cells h k) d) [])
      go ih true (goes q e) = rw (sum_append (notes_from S cells g k q e) (g p), sum_append (notes_from S cells h k q e) (h p)) (omega (arith, ih q e, less p))
      go ih true (stops s) = less p
      go ih true not_executed = le_refl _
      go ih false d = le_refl _

-- ---- the claim, of functions: the sums of the prices, before they are rounded

module _ (u : List ℕ) (kept : List Retained) (R : Rewriting u kept) (tariff : List ℕ) (stands : Cheaper tariff) where
  abbrev note : ℕ → List ℕ
  note = priced tariff (cells_after kept)

  one_less : (v w : ℕ) → v ≤ w → sum (v ∷ []) ≤ sum (w ∷ [])
  unfolding sum
  one_less v w h = omega arith

  cheaper : (p : ℕ) → sum (noted_at (places_of kept) note p) ≤ sum (priced tariff (cells_of u) p)
  unfolding given_function
  cheaper p =
      noted_less (places_of kept) note p (sum (priced tariff (cells_of u) p))
      (λ q h e.
      let i : q < length kept = rw (length-map kept (λ (r : Retained). r.place)) at h in
      let c = stands _ _ (R.places.stands q i) in
      one_less _ _ (rw (← e) c))

  spent_less : (k : ℕ) (f : List ℕ) → length f ≡ (sections_of u).locals → IsEnd (run_from (sections_of u) (cells_of u) k 0 f).stop
      → spent_from (sections_of u) (cells_after kept) tariff k 0 f ≤ spent_from (sections_of u) (cells_of u) tariff k 0 f
  unfolding spent_from given_function
  spent_less k f long t =
      let same = same_notes (given_function u) kept R.given R.result R.places k f long t note in
      rw same (notes_less (sections_of u) (cells_of u) (noted_at (places_of kept) note) (priced tariff (cells_of u)) cheaper k 0 f)

cents_less : (v w : ℕ) → v ≤ w → to_cents v ≤ to_cents w
unfolding to_cents
cents_less v w h = omega arith

-- ---- the same answer as without a charge

pub charge_runs : (u f : List ℕ) (k : ℕ) (tariff : List ℕ) → length tariff ≡ prices → charge_answer u f k tariff ≡ desk_answer u f k
unfolding charge_answer desk_answer charge_check tariff_check and_then stopped_by
charge_runs u f k tariff e = rw (eq-eqb (length tariff) prices e) (go (desk_check u (length f)))
  where
    go : (c : Check) → stopped_by (and_then c Passed) f (run_from (sections_of u) (cells_of u) k 0 f) ≡ stopped_by c f (run_from (sections_of u) (cells_of u) k 0 f)
    go Passed = refl
    go (Err r) = refl

-- ---- the claim, of units

module _ (u : List ℕ) (kept : List Retained) (lines : List Line) (A : UnitAgain u kept lines) (R : Rewriting u kept) (E : EndsLikewise u (unit_of u (cells_after kept) lines))
    (cheap : (tariff : List ℕ) → Premises tariff → Cheaper tariff) where
  abbrev v : List ℕ
  v = unit_of u (cells_after kept) lines

  abbrev check : List ℕ → List ℕ → Check
  check f tariff = charge_check u (length f) (length tariff)

  passed : (f tariff : List ℕ) → check f tariff ≡ Passed → charge_check v (length f) (length tariff) ≡ Passed
  unfolding charge_check tariff_check and_then
  passed f tariff e =
      let both = charge_passed u (length f) (length tariff) e in
      rw (E.unrefused (length f), frame_passed (passed_run u (length f) both.0).frame, eq-eqb (length tariff) prices both.1)

  no_more : ChargedNoMore u (unit_of u (cells_after kept) lines)
  unfolding charge_check charge_answer charge_cents stopped_by charged_by
  no_more =
      record {
        unrefused = λ words count. rw (E.unrefused words);
        ends = λ f k tariff. ending f k tariff (check f tariff) refl;
        never_above = λ f k tariff premises t. below f k tariff premises (check f tariff) refl t;
      }
    where
      ending : (f : List ℕ) (k : ℕ) (tariff : List ℕ) (c : Check) → check f tariff ≡ c → AnsweredLikewise (charge_answer u f k tariff) (charge_answer v f k tariff)
      ending f k tariff Passed e =
          let count = (charge_passed u (length f) (length tariff) e).1 in
          rw (charge_runs u f k tariff count, charge_runs v f k tariff count) (E.ends f k)
      ending f k tariff (Err r) e = rw e tt

      below : (f : List ℕ) (k : ℕ) (tariff : List ℕ) → Premises tariff → (c : Check) → check f tariff ≡ c → IsOkAnd (charge_answer u f k tariff).stop IsEnd → charge_cents v f k tariff ≤ charge_cents u f k tariff
      below f k tariff premises Passed e t =
          let long = (passed_run u (length f) (charge_passed u (length f) (length tariff) e).0).frame in
          rw (e, passed f tariff e, again_sections u kept lines A, again_cells u kept lines A) (cents_less _ _ (spent_less u kept R tariff (cheap tariff premises) k f long (rw e at t)))
      below f k tariff premises (Err r) e t = absurd (rw e at t)

-- one pass
pub pass_charged : (u : List ℕ) (l : Lent) (kept : List Retained) → Bytes u → pass_answer u l ≡ rewritten kept → ChargedNoMore u (unit_of u (cells_after kept) (pass_lines u l))
pass_charged u l kept b e =
    no_more u kept (pass_lines u l) (pass_unit u l kept b e) (pass_rewriting u l kept b e) (pass_desk u l kept b e)
    (λ tariff premises. stands_cheaper tariff premises.load premises.copy premises.jump)

-- and the cleaning
pub clean_charged : (u : List ℕ) (l : Lent) (first second : ℕ) (kept : List Retained) → Bytes u → (clean_answer u l first second).outcome ≡ rewritten kept
    → ChargedNoMore u (unit_of u (cells_after kept) (clean_lines u l first second))
clean_charged u l first second kept b e =
    no_more u kept (clean_lines u l first second) (clean_unit u l first second kept b e) (clean_rewriting u l first second kept b e) (clean_desk u l first second kept b e)
    (λ tariff premises. stands_cheaper tariff premises.load premises.copy premises.jump)

-- ---- the highest charge

-- of a limit of 32 bits and prices of 16
pub charge_most : (u f : List ℕ) (limit : ℕ) (tariff : List ℕ) → limit < 2 ^ 32 → ((o : ℕ) → slice_index tariff o ≤ highest_price) → charge_cents u f limit tariff ≤ most_cents
unfolding charge_cents charged_by
charge_most u f limit tariff small priced = go (charge_check u (length f) (length tariff))
  where
    cents : ℕ
    cents = to_cents (spent_from (sections_of u) (cells_of u) tariff limit 0 f)

    go : (c : Check) → charged_by c cents ≤ most_cents
    go Passed = cents_most _ limit small (spent_most (sections_of u) (cells_of u) tariff highest_price priced limit 0 f)
    go (Err r) = omega arith
