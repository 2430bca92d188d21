-- The answers of the cleaning, pass by pass.
-- Assumes nothing.
use Rattle.std.specs.Prelude.{Ok, Err, Result, ◌≡◌, refl, ℕ, suc, ◌≤◌, length}
use Rattle.std.proofs.Common.{sym, ◌∙◌, arith}
use Rattle.std.proofs.Math.Path.{ap}
use mathlib.Core.List.{List, []}
use borrow.Rule.Slice.PartMut.{mid_of, put_mid}
use Rattle.words.specs.Bytes.{Bytes}
use Rattle.unit.specs.Result.{Retained, result_bytes}
use Rattle.unit.specs.Size.{result_size}
use Rattle.effects.specs.Shape.{Sections}
use Rattle.answer.specs.Answer.{sections_of}
use Rattle.answer.specs.Clean.{Cleaned as Cleaning, cells_after, placed_by, after_pass, clean_from}
use Rattle.answer.specs.Pass.{Outcome, unchanged, refused, rewritten, pass, output_after}
use Rattle.unit.specs.declared.refusal.Refusal.{Refusal}
use Rattle.unit.specs.Refusal.{Refused}
use Rattle.optimize.specs.declared.Answer.{Answer}
use Rattle.optimize.specs.declared.Answer.TheVariants.{Unchanged, Rewritten}
use Rattle.clean.specs.declared.Cleaned.{Cleaned}
use Rattle.optimize.specs.PassAnswer.{answer_of, Answers}
use Rattle.run.specs.laws.Reading.{AllFit, retained_in}
use Rattle.clean.specs.laws.Ready.{Ready, placed_outcome, later_outcome, before_long, later_made, written_back, written_ready, cases_in}
use Rattle.optimize.specs.laws.Outcomes.{To, outcome_unchanged, outcome_refused, outcome_rewritten}
use Rattle.clean.specs.CleanAnswer.{cleaned_of, AnswersCleaned}

pub answers_cleaned : (c d : Cleaning) (r : Cleaned) (out out' : List ℕ) → c ≡ d → AnswersCleaned d r out out' → AnswersCleaned c r out out'
answers_cleaned c d r out out' e t = rw e t

-- a cleaning that ends
abbrev pub finished : List Retained → ℕ → Cleaning
finished kept j = record { outcome = rewritten kept; passes = j }

abbrev pub stopped : ℕ → ℕ → ℕ → Cleaning
stopped k p j = record { outcome = refused k p; passes = j }

pub give_answers : (k j : ℕ) (from out out' : List ℕ) (r : Cleaned) → mid_of 0 (result_size k 0) from ≡ result_bytes (retained_in k from) []
    → r ≡ record { answer = Ok (Rewritten k); passes = j } → out' ≡ put_mid 0 (result_size k 0) out (mid_of 0 (result_size k 0) from)
    → AnswersCleaned (finished (retained_in k from) j) r out out'
unfolding cleaned_of answer_of output_after
give_answers k j from out out' r whole e f = (e ∙ rw (before_long k from), f ∙ rw (whole, before_long k from))

pub stop_answers : (k p j : ℕ) (out : List ℕ) → AnswersCleaned (stopped k p j) (record { answer = Refused k p; passes = j }) out out
unfolding cleaned_of answer_of output_after
stop_answers k p j out = (refl, refl)

-- ---- a pass more

from_step : (S : Sections) (i j : ℕ) (before : List Retained) → clean_from S (suc i) j before ≡ after_pass (suc j) before (clean_from S i (suc j)) (later_outcome S before)
unfolding clean_from after_pass placed_outcome
from_step S i j before = go (pass S (cells_after before))
  where
    go : (o : Outcome) → after_pass (suc j) before (λ kept. clean_from S i (suc j) (placed_by before kept)) o ≡ after_pass (suc j) before (clean_from S i (suc j)) (placed_outcome before o)
    go unchanged = refl
    go (refused k p) = refl
    go (rewritten kept) = refl

module _ (S : Sections) (i j : ℕ) (before : List Retained) (to to₁ : List ℕ) (a : Result Answer Refusal) (w : Answers (later_outcome S before) a to to₁) where
  pub from_unchanged : a ≡ Ok Unchanged → clean_from S (suc i) j before ≡ finished before (suc j)
  unfolding after_pass
  from_unchanged e = from_step S i j before ∙ ap (after_pass (suc j) before (clean_from S i (suc j))) (outcome_unchanged (later_outcome S before) (sym e ∙ w.0))

  pub from_refused : (k p : ℕ) → a ≡ Refused k p → clean_from S (suc i) j before ≡ stopped k p (suc j)
  unfolding after_pass
  from_refused k p e = from_step S i j before ∙ ap (after_pass (suc j) before (clean_from S i (suc j))) (outcome_refused (later_outcome S before) k p (sym e ∙ w.0))

-- lengths stay
pub ready_as : {u from : List ℕ} {k t work32 work64 : ℕ} → Ready u from k t work32 work64 → (t' a b : ℕ) → t' ≡ t → a ≡ work32 → b ≡ work64 → Ready u from k t' a b
ready_as r t' a b e f g = rw (e, f, g) r

-- what comes of a pass that rewrote to j instructions
pub record Next (u from to : List ℕ) (k j room32 room64 : ℕ) : Type 0 where
  pub ready : Ready u to j (length from) room32 room64
  pub fewer : j ≤ k

module _ {u from : List ℕ} {k t work32 work64 : ℕ} (r : Ready u from k t work32 work64) (bu : Bytes u) (bf : Bytes from) where
  abbrev before : List Retained
  before = retained_in k from

  abbrev S : Sections
  S = sections_of u

  module _ (to to₁ : List ℕ) (a : Result Answer Refusal) (w : Answers (later_outcome S before) a to to₁) (long : length to ≡ t) (m : ℕ) (e : a ≡ Ok (Rewritten m)) where
    made : To (later_outcome S before) m
    made = outcome_rewritten (later_outcome S before) m (sym e ∙ w.0)

    abbrev kept : List Retained
    kept = made.kept

    put : to₁ ≡ put_mid 0 (result_size (length kept) 0) to (result_bytes kept [])
    unfolding output_after
    put = w.1 ∙ ap (λ (q : Outcome). output_after q [] to) made.is

    later : (AllFit (cases_in u) kept) × (length kept ≤ k)
    later = later_made r bu bf kept made.is

    pub next_ready : Next u from to₁ k m work32 work64
    next_ready =
        let room = r.out_room in
        rw (← made.long)
        (record {
          ready = written_ready (cases_in u) kept to to₁ put later.0 u k (length from) work32 work64 r.laid r.typed refl r.few later.1 (omega (arith, long)) r.long r.room;
          fewer = later.1;
        })

    pub from_rewritten : (i j : ℕ) → clean_from S (suc i) j before ≡ clean_from S i (suc j) (retained_in m to₁)
    unfolding after_pass
    from_rewritten i j =
        from_step S i j before
        ∙ ap (after_pass (suc j) before (clean_from S i (suc j))) made.is
        ∙ ap (clean_from S i (suc j)) (sym (written_back (cases_in u) kept to to₁ put later.0) ∙ ap (λ (l : ℕ). retained_in l to₁) made.long)
