-- Document 02, L6, its claim, of units: "Whenever a given function returns, panics or runs out at its end in k steps, the rewritten one, from the same
-- frame, ends likewise, with the same words read, in at most k." The rewritten one is the result laid out as a unit again.
-- Assumes nothing.
use Rattle.std.specs.Prelude.{◌≡◌, ℕ, List}
use Rattle.answer.specs.Answer.{sections_of}
use Rattle.desk.specs.Answer.{frame_check, desk_check, desk_answer}
use Rattle.desk.specs.Likewise.{AnsweredLikewise}

-- what stands for a unit at the desk: refused for its frame alone, and ending likewise from every frame within every limit
pub record EndsLikewise (u again : List ℕ) : Type 0 where
  pub unrefused : (words : ℕ) → desk_check again words ≡ frame_check (sections_of u).locals words
  pub ends : (f : List ℕ) (k : ℕ) → AnsweredLikewise (desk_answer u f k) (desk_answer again f k)
