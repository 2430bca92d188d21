-- Document 01's starred examples: one table of cases, and one theorem for it, by computation.
-- Assumes nothing.
use Rattle.std.specs.Prelude.{◌≡◌, refl, Bool, true, false, ◌&&◌, List, [], ◌∷◌, ℕ, eqb, length}
use Rattle.words.specs.Le.{from_le}
use Rattle.instruction.specs.Opcode as op
use Rattle.unit.specs.Result.{result_bytes}
use Rattle.unit.specs.Size.{result_size}
use Rattle.effects.specs.Shape.{Cell}
use Rattle.answer.specs.Pass.{Outcome, unchanged, refused, rewritten, pass}
use Rattle.answer.specs.Answer.{Lent, pass_answer, sections_of}
use Rattle.answer.specs.Clean.{cells_after}
use Rattle.examples.specs.Computed.{answers}
use Rattle.examples.specs.Unit.{unit, bytes_of, metadata_of, numbers, load_int, jump_if, three, return, loop_hint}

-- what a case expects of a pass: unchanged, a refusal, or the result's bytes, read as one little-endian number
pub data Expected : Type 0 where
  same : Expected
  refusal : ℕ → ℕ → Expected
  result : ℕ → ℕ → Expected

-- of the next pass over what the first returned, something may be expected too
pub data Next : Type 0 where
  unasked : Next
  next : Expected → Next

pub record Case : Type 0 where
  pub locals : ℕ
  pub code : List Cell
  pub answer : Expected
  pub then : Next

abbrev pub case : ℕ → List Cell → Expected → Case
case s code e = record { locals = s; code = code; answer = e; then = unasked }

unfoldable pub meets : Outcome → Expected → Bool
meets unchanged same = true
meets unchanged (refusal k p) = false
meets unchanged (result n b) = false
meets (refused k p) same = false
meets (refused k p) (refusal j q) = eqb k j && eqb p q
meets (refused k p) (result n b) = false
meets (rewritten r) same = false
meets (rewritten r) (refusal k p) = false
meets (rewritten r) (result n b) =
    let bytes = result_bytes r [] in
    eqb (length r) n && eqb (length bytes) (result_size n 0) && eqb (from_le bytes) b

unfoldable pub meets_next : List ℕ → Outcome → Next → Bool
meets_next u o unasked = true
meets_next u unchanged (next e) = false
meets_next u (refused k p) (next e) = false
meets_next u (rewritten r) (next e) = meets (pass (sections_of u) (cells_after r)) e

-- the listing program's buffers
abbrev pub lent : Lent
lent = record { out = 8192; work32 = 4096; work64 = 8192 }

unfoldable pub holds : Case → Bool
holds c =
    let u = unit c.locals c.code in
    meets (pass_answer u lent) c.answer && meets_next u (pass_answer u lent) c.then

unfoldable pub all_hold : List Case → Bool
all_hold [] = true
all_hold (c ∷ cs) = holds c && all_hold cs

-- each with its sentence; bytes are laid out by "Result" from the instructions that the sentence names

-- "LoadInt 0,2; LoadInt 1,3; AddI 2,0,1; Return 2,1 with s = 3"
abbrev case0 : Case
case0 = case 3 (load_int 0 2 ∷ load_int 1 3 ∷ three op.AddI 2 0 1 ∷ return 2 1 ∷ []) (result 2 0x300000002000000000000000000000000000000000000000000000000000000000000000000000001000200400000000500020001000000500000000000000048000000280000001800000002)

-- "known 2,147,483,646 + 1 becomes LoadInt"
abbrev case1 : Case
case1 = case 3 (load_int 0 2147483646 ∷ load_int 1 1 ∷ three op.AddI 2 0 1 ∷ return 2 1 ∷ []) (result 2 0x300000002000000000000000000000000000000000000000000000000000000000000000000000001000200407fffffff00020001000000500000000000000048000000280000001800000002)

-- "2,147,483,647 + 1 stays AddI"
abbrev case2 : Case
case2 = case 3 (load_int 0 2147483647 ∷ load_int 1 1 ∷ three op.AddI 2 0 1 ∷ return 2 1 ∷ []) (same)

-- "AddF twice on the same slots: second becomes Copy"
abbrev case3 : Case
case3 = case 4 (three op.AddF 2 0 1 ∷ three op.AddF 3 0 1 ∷ return 2 2 ∷ []) (result 3 0x2000000010000000000000000000000000000000000000000000000000000000000000000000000000000000000000000000000000000000000000002000200400000000200030003000100000002001b0000006c0000000000000060000000300000001800000003)

-- "AddF then AddF32: both stay"
abbrev case4 : Case
case4 = case 4 (three op.AddF 2 0 1 ∷ three op.AddF32 3 0 1 ∷ return 2 2 ∷ []) (same)

-- "Operands swapped: both stay"
abbrev case5 : Case
case5 = case 4 (three op.AddF 2 0 1 ∷ three op.AddF 3 1 0 ∷ return 2 2 ∷ []) (same)

-- "JumpIf 0 to place 2; Return 0,1; LoadInt 1,7 (s = 2): rewritten 2, branch to the new length 2; the next pass refuses 8"
abbrev case6 : Case
case6 = record { locals = 2; code = jump_if 0 2 ∷ return 0 1 ∷ load_int 1 7 ∷ []; answer = result 2 0x10000000000000000000000000000000000000000000000000000000000000000000000000000000100000040000000020000003a000000500000000000000048000000280000001800000002; then = next (refusal 8 0) }

-- "LoadInt 0,1; LoadInt 0,2: rewritten 0"
abbrev case7 : Case
case7 = case 1 (load_int 0 1 ∷ load_int 0 2 ∷ []) (result 0 0x180000000000000018000000180000001800000000)

-- "Loop hint, end 1, exit 2; LoadInt 0,0; Return 0,0: refused 10, place 0"
abbrev case8 : Case
case8 = case 1 (loop_hint 1 2 ∷ load_int 0 0 ∷ return 0 0 ∷ []) (refusal 10 0)

-- "CopyN of 0; Return 0,0: rewritten 1 for s = 1 .."
abbrev case9 : Case
case9 = case 1 (three op.CopyN 0 0 0 ∷ return 0 0 ∷ []) (result 1 0x1000000000000000000000000000000000000000000000040000000340000000000000030000000200000001800000001)

-- ".. unchanged for s = 0"
abbrev case10 : Case
case10 = case 0 (three op.CopyN 0 0 0 ∷ return 0 0 ∷ []) (same)

abbrev pub cases : List Case
cases = case0 ∷ case1 ∷ case2 ∷ case3 ∷ case4 ∷ case5 ∷ case6 ∷ case7 ∷ case8 ∷ case9 ∷ case10 ∷ []

-- every definition that the answers are computed by unfolds
pub starred_examples : all_hold cases ≡ true
unfolding all_hold holds meets meets_next unit bytes_of metadata_of numbers answers
starred_examples = refl
