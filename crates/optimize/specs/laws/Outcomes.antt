-- The outcome that an answer stands for.
-- Assumes nothing.
use Rattle.std.specs.Prelude.{Ok, Err, Result, ◌≡◌, refl, List, ℕ, length}
use Rattle.std.proofs.Common.{ap, sym, arith}
use Rattle.unit.specs.Result.{Retained}
use Rattle.answer.specs.Pass.{Outcome, unchanged, refused, rewritten}
use Rattle.unit.specs.declared.refusal.Refusal.{Refusal}
use Rattle.unit.specs.Refusal.{refusal, Refused}
use Rattle.optimize.specs.declared.Answer.TheVariants.{Unchanged, Rewritten}
use Rattle.optimize.specs.PassAnswer.{answer_of}

pub outcome_unchanged : (o : Outcome) → Ok Unchanged ≡ answer_of o → o ≡ unchanged
unfolding answer_of
outcome_unchanged unchanged e = refl
outcome_unchanged (refused k p) e = let z : ◌≡◌ {A = ℕ} 0 1 = cc in absurd (omega arith)
outcome_unchanged (rewritten kept) e = let z : ◌≡◌ {A = ℕ} 0 1 = cc in absurd (omega arith)

pub outcome_refused : (o : Outcome) (k p : ℕ) → Refused k p ≡ answer_of o → o ≡ refused k p
unfolding answer_of
outcome_refused unchanged k p e = let z : ◌≡◌ {A = ℕ} 0 1 = cc in absurd (omega arith)
outcome_refused (refused m q) k p e = let f : refusal k p ≡ refusal m q = cc in ap (λ (r : Refusal). refused r.number r.place) (sym f)
outcome_refused (rewritten kept) k p e = let z : ◌≡◌ {A = ℕ} 0 1 = cc in absurd (omega arith)

-- rewritten to k instructions
pub record To (o : Outcome) (k : ℕ) : Type 0 where
  pub kept : List Retained
  pub is : o ≡ rewritten kept
  pub long : length kept ≡ k

pub outcome_rewritten : (o : Outcome) (k : ℕ) → Ok (Rewritten k) ≡ answer_of o → To o k
unfolding answer_of
outcome_rewritten unchanged k e = let z : ◌≡◌ {A = ℕ} 0 1 = cc in absurd (omega arith)
outcome_rewritten (refused m q) k e = let z : ◌≡◌ {A = ℕ} 0 1 = cc in absurd (omega arith)
outcome_rewritten (rewritten kept) k e = record { kept = kept; is = refl; long = cc }
