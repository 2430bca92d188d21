-- The answers of the later passes and of the cleaning as values that are returned.
-- Assumes nothing.
use Rattle.std.specs.Prelude.{Ok, Err, Result, ◌≡◌, refl, ℕ, ◌+◌, ◌-◌, ◌*◌, ◌^◌, ◌≤◌, ◌<◌, length}
use Rattle.std.proofs.Common.{sym, ◌∙◌, arith}
use Rattle.std.proofs.Math.Path.{ap}
use mathlib.Core.List.{List, []}
use borrow.Rule.Slice.PartMut.{mid_of, put_mid}
use Rattle.words.specs.Bytes.{Bytes}
use Rattle.words.specs.Le.{u32_at}
use Rattle.words.specs.laws.Regions.{mid_long}
use Rattle.unit.specs.Result.{Retained, result_bytes, result_places_at}
use Rattle.unit.specs.Size.{place_size, result_size, max_instructions}
use Rattle.effects.specs.Shape.{Sections}
use Rattle.answer.specs.Answer.{sections_of}
use Rattle.answer.specs.Clean.{cells_after, placed_by}
use Rattle.answer.specs.Pass.{Outcome, unchanged, refused, rewritten, optimized, output_after}
use Rattle.unit.specs.declared.refusal.Refusal.{Refusal}
use Rattle.unit.specs.Refusal.{Refused}
use Rattle.optimize.specs.declared.Answer.{Answer}
use Rattle.optimize.specs.declared.Answer.TheVariants.{Unchanged, Rewritten}
use Rattle.optimize.specs.laws.Given.{answers_unchanged, answers_same}
use Rattle.optimize.specs.laws.Outcomes.{To, outcome_unchanged, outcome_refused, outcome_rewritten}
use Rattle.optimize.specs.PassAnswer.{answer_of, Answers}
use Rattle.run.specs.laws.Reading.{places_in, retained_in, retained_at, place_back}
use Rattle.run.proofs.laws.Fitting.{placed_long}
use Rattle.run.proofs.laws.Fitting.{Again}
use Rattle.clean.specs.laws.Placing.{composed, composed_places}
use Rattle.clean.specs.laws.Ready.{Ready, placed_outcome, later_outcome, before_long, ready_places, ready_again, ready_old, pass_small, pass_worked, written_places, written_long, places_composed, cases_in}

-- ---- a later pass

-- the places of j instructions in `to` are among the k in `from`
pub record Placeable (from to : List ℕ) (k j : ℕ) : Type 0 where
  pub few : k ≤ max_instructions
  pub fewer : j ≤ k
  pub from_long : result_size k 0 ≤ length from
  pub to_long : result_size j 0 ≤ length to
  pub places : (p : ℕ) → p < j → u32_at (places_in j to) (place_size * p) < k

-- the parts from a and b on are the places
module _ {from to : List ℕ} {k j : ℕ} (w : Placeable from to k j) (a b : ℕ) (a= : a ≡ result_places_at k) (b= : b ≡ result_places_at j) where
  abbrev old : List ℕ
  old = mid_of a (a + place_size * k - a) from

  abbrev new : List ℕ
  new = mid_of b (b + place_size * j - b) to

  old= : old ≡ places_in k from
  old= = let m : a + place_size * k - a ≡ place_size * k = omega arith in rw (m, a=)

  new= : new ≡ places_in j to
  new= = let m : b + place_size * j - b ≡ place_size * j = omega arith in rw (m, b=)

  pub place_asks : (j ≤ max_instructions) × (length new ≡ place_size * j) × ((p : ℕ) → p < j → place_size * u32_at new (place_size * p) + place_size ≤ length old)
  place_asks =
      let fewer = w.fewer in
      let few = w.few in
      let from_long = w.from_long in
      let to_long = w.to_long in
      let long : length (places_in k from) ≡ place_size * k = mid_long from (result_places_at k) (place_size * k) (omega arith) in
      rw (old=, new=) (omega arith, mid_long to (result_places_at j) (place_size * j) (omega arith), λ p h. let l = w.places p h in omega (arith, long))

  pub place_puts : (ys : List ℕ) → ys ≡ composed old new j
      → put_mid b (b + place_size * j - b) to ys ≡ put_mid (result_places_at j) (place_size * j) to (composed (places_in k from) (places_in j to) j)
  place_puts ys f = let n : b + place_size * j - b ≡ place_size * j = omega arith in rw (f, old=, new=, n, b=)

module _ {u from : List ℕ} {k t work32 work64 : ℕ} (r : Ready u from k t work32 work64) (bu : Bytes u) (bf : Bytes from) where
  abbrev before : List Retained
  before = retained_in k from

  abbrev S : Sections
  S = sections_of u

  abbrev o : Outcome
  o = optimized S (cells_after before)

  pub small_answers : k < 2 → (to : List ℕ) → Answers (later_outcome S before) (Ok Unchanged) to to
  unfolding placed_outcome
  small_answers h to = answers_unchanged (later_outcome S before) to (ap (placed_outcome before) (pass_small r bu bf h))

  module _ (h : 1 < k) (to to₁ : List ℕ) (a : Result Answer Refusal) (w : Answers o a to to₁) where
    later_is : (q : Outcome) → o ≡ q → later_outcome S before ≡ placed_outcome before q
    later_is q e = ap (placed_outcome before) (pass_worked r bu bf h ∙ e)

    pub unchanged_answers : a ≡ Ok Unchanged → Answers (later_outcome S before) (Ok Unchanged) to to₁
    unfolding placed_outcome answer_of output_after
    unchanged_answers f =
        let e = outcome_unchanged o (sym f ∙ w.0) in
        answers_same (later_outcome S before) unchanged (Ok Unchanged) to to₁ (later_is unchanged e) (refl, w.1 ∙ ap (λ (q : Outcome). output_after q [] to) e)

    pub refused_answers : (m p : ℕ) → a ≡ Refused m p → Answers (later_outcome S before) (Refused m p) to to₁
    unfolding placed_outcome answer_of output_after
    refused_answers m p f =
        let e = outcome_refused o m p (sym f ∙ w.0) in
        answers_same (later_outcome S before) (refused m p) (Refused m p) to to₁ (later_is (refused m p) e) (refl, w.1 ∙ ap (λ (q : Outcome). output_after q [] to) e)

    module _ (j : ℕ) (f : a ≡ Ok (Rewritten j)) where
      made : To o j
      made = outcome_rewritten o j (sym f ∙ w.0)

      abbrev kept : List Retained
      kept = made.kept

      again : Again (cases_in u) k kept
      again = ready_again r bu bf h kept made.is

      put : to₁ ≡ put_mid 0 (result_size (length kept) 0) to (result_bytes kept [])
      unfolding output_after
      put = w.1 ∙ ap (λ (q : Outcome). output_after q [] to) made.is

      small : (p : ℕ) → p < length kept → (retained_at kept p).place < 2 ^ 32
      small p l = let a = again.places p l in let f = r.few in omega arith

      pub places_inside : length to ≡ t → Placeable from to₁ k j
      places_inside e =
          rw (← made.long)
          (record {
            few = r.few;
            fewer = again.few;
            from_long = r.long;
            to_long = let o = r.out_room in let f = again.few in written_long 0 kept to to₁ put (omega (arith, e));
            places = λ p l. rw (written_places 0 kept to to₁ put, place_back kept p l (small p l)) (again.places p l);
          })

      pub rewritten_answers : (to₂ : List ℕ) → to₂ ≡ put_mid (result_places_at j) (place_size * j) to₁ (composed (places_in k from) (places_in j to₁) j)
          → Answers (later_outcome S before) (Ok (Rewritten j)) to to₂
      unfolding placed_outcome answer_of output_after
      rewritten_answers to₂ e =
          let places = composed_places before kept (ready_places r bu bf) (λ p l. rw (before_long k from) (again.places p l)) small in
          answers_same (later_outcome S before) (rewritten (placed_by before kept)) (Ok (Rewritten j)) to to₂ (later_is (rewritten kept) made.is)
          (rw (placed_long before kept, made.long), places_composed before kept to to₁ to₂ (places_in k from) (ready_old r bu bf) put (rw made.long e) places)
