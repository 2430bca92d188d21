-- Document 02, L6, its claim: "Whenever a given function returns, panics or runs out at its end in k steps, the rewritten one, from the same frame,
-- ends likewise, with the same words read, in at most k."
-- Assumes nothing.
use Rattle.std.specs.Prelude.{◌≡◌, ℕ, IfOk, IsOkAnd, List, length}
use Rattle.unit.specs.Result.{Retained}
use Rattle.answer.specs.Answer.{cells_of, sections_of}
use Rattle.answer.specs.Clean.{cells_after}
use Rattle.desk.specs.declared.Stop.{Stop}
use Rattle.desk.specs.declared.Stop.TheVariants.{Returned, Panicked, Ended, Other, Limit}
use Rattle.desk.specs.Answer.{Answered}
use Rattle.desk.specs.Desk.{Stopped, stopped_with, run_from}
use Rattle.desk.specs.laws.Stands.{read_words}

-- how a run that ends must end, of one that ended so with a frame
unfoldable pub Likewise : Stop → List ℕ → Stopped → Type 0
Likewise (Returned a b) f r = (c : ℕ) × (r.stop ≡ Returned c b) × (read_words c b r.frame ≡ read_words a b f)
Likewise (Panicked a b) f r = (c : ℕ) × (r.stop ≡ Panicked c b) × (read_words c b r.frame ≡ read_words a b f)
Likewise Ended f r = r.stop ≡ Ended
Likewise (Other q) f r = Unit {0}
Likewise Limit f r = Unit {0}

-- how an answer must be, of another: where that is no refusal neither is this, and it ends likewise
abbrev pub AnsweredLikewise : Answered → Answered → Type 0
AnsweredLikewise a r = IfOk a.stop (λ s. IsOkAnd r.stop (λ t. Likewise s a.frame (stopped_with t r.frame)))

abbrev pub RunsLikewise : List ℕ → List Retained → Type 0
RunsLikewise u kept = (k : ℕ) (f : List ℕ) → length f ≡ (sections_of u).locals
    → Likewise (run_from (sections_of u) (cells_of u) k 0 f).stop (run_from (sections_of u) (cells_of u) k 0 f).frame (run_from (sections_of u) (cells_after kept) k 0 f)
