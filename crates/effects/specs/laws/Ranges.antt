-- The ranges of an instruction by number: those of SelectExec's cases, and those of an opcode's parts.
-- Assumes nothing.
use Rattle.std.specs.Prelude.{◌≡◌, cond, List, ℕ, zero, suc, ◌+◌, ◌*◌, ◌/◌, ◌≤◌, ◌<◌, eqb, length}
use Rattle.std.proofs.Math.Path.{refl, ap}
use Rattle.std.proofs.Common.{◌∙◌, add-zero, add-suc, suc-add, arith}
use Rattle.std.proofs.Math.ListN.{get_or}
use Rattle.instruction.specs.Opcode as op
use Rattle.unit.specs.Size.{case_size}
use Rattle.unit.specs.Entry.{case_at}
use Rattle.effects.specs.declared.Range.{Range}
use Rattle.effects.specs.Shape.{Cell}
use Rattle.effects.specs.Effects.{case_reads, case_writes}
use Rattle.effects.specs.laws.Form.{empty_range}

-- SelectExec's cases are inside their section
abbrev pub CasesInside : List ℕ → Cell → Type 0
CasesInside cases x = x.instruction.op ≡ op.SelectExec → x.metadata.first + x.metadata.second ≤ length cases / case_size

-- the two ranges read of a case, and the one written
module _ (cases : List ℕ) (j : ℕ) where
  abbrev pub case_read : ℕ → Range
  case_read side =
      cond (eqb side 0) (record { start = (case_at cases j).queue; count = 1 })
      (record { start = (case_at cases j).slot; count = cond (eqb (case_at cases j).kind 0) (case_at cases j).elements 0 })

  abbrev pub case_write : Range
  case_write = record { start = (case_at cases j).slot; count = cond (eqb (case_at cases j).kind 0) 0 ((case_at cases j).elements + (case_at cases j).ok) }

pub case_reads_long : (cases : List ℕ) (j n : ℕ) → length (case_reads cases j n) ≡ 2 * n
unfolding case_reads
case_reads_long cases j zero = refl
case_reads_long cases j (suc n) = rw (case_reads_long cases (suc j) n) (omega arith)

pub case_writes_long : (cases : List ℕ) (j n : ℕ) → length (case_writes cases j n) ≡ n
unfolding case_writes
case_writes_long cases j zero = refl
case_writes_long cases j (suc n) = ap suc (case_writes_long cases (suc j) n)

pub case_writes_at : (cases : List ℕ) (j n k : ℕ) → k < n → get_or (case_writes cases j n) k empty_range ≡ case_write cases (j + k)
unfolding case_writes
case_writes_at cases j zero k h = absurd (omega arith)
case_writes_at cases j (suc n) zero h = rw add-zero
case_writes_at cases j (suc n) (suc k) h = case_writes_at cases (suc j) n k (omega arith) ∙ rw (suc-add j k, add-suc j k)
