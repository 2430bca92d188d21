-- Document 02, L12, its claims: "the rewritten one is never charged above it" and "No charge exceeds 281,470,681,678 cents".
-- Assumes nothing.
use Rattle.std.specs.Prelude.{◌≡◌, ℕ, ◌≤◌, IsOkAnd, Bool, true, List, slice_index}
use Rattle.answer.specs.Answer.{sections_of}
use Rattle.desk.specs.Answer.{and_then, frame_check}
use Rattle.desk.specs.Charge.{Premises, tariff_check, charge_check, charge_answer, charge_cents}
use Rattle.desk.specs.Likewise.{AnsweredLikewise}
use Rattle.desk.specs.laws.Stands.{IsEnd}

-- what stands for a unit at the desk, of a charged run: refused for its frame or the tariff alone, ending likewise, and charged no more where it ends
pub record ChargedNoMore (u again : List ℕ) : Type 0 where
  pub unrefused : (words count : ℕ) → charge_check again words count ≡ and_then (frame_check (sections_of u).locals words) (tariff_check count)
  pub ends : (f : List ℕ) (k : ℕ) (tariff : List ℕ) → AnsweredLikewise (charge_answer u f k tariff) (charge_answer again f k tariff)
  pub never_above : (f : List ℕ) (k : ℕ) (tariff : List ℕ) → Premises tariff → IsOkAnd (charge_answer u f k tariff).stop IsEnd → charge_cents again f k tariff ≤ charge_cents u f k tariff

-- a price is no higher than that of each opcode that a test tells
abbrev pub AtMost : List ℕ → ℕ → (ℕ → Bool) → Type 0
AtMost tariff price test = (o : ℕ) → test o ≡ true → price ≤ slice_index tariff o
