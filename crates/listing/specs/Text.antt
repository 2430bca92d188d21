-- Definitions. What the listing program prints: "in decimal, the answer and then new place, old place, op, flags, a, b, c".
-- Assumes nothing.
use Rattle.std.specs.Prelude.{Ok, Err, Result, cond, List, [], ◌∷◌, ◌++◌, ℕ, zero, suc, ◌+◌, ◌*◌, ◌/◌, ◌%◌, ltb, leb, length, drop, replicate}
use Rattle.words.specs.Le.{u32_at}
use Rattle.instruction.specs.declared.Instruction.{Instruction}
use Rattle.instruction.specs.Instruction.{instruction_at}
use Rattle.unit.specs.Refusal.{short_buffer}
use Rattle.unit.specs.Result.{result_places_at}
use Rattle.unit.specs.Size.{result_header_size}
use Rattle.answer.specs.Answer.{Lent, lent_of, pass_answer, pass_lines}
use Rattle.answer.specs.Pass.{output_after}
use Rattle.unit.specs.declared.refusal.Refusal.{Refusal}
use Rattle.unit.specs.Refusal.{Refused}
use Rattle.optimize.specs.declared.Answer.{Answer}
use Rattle.optimize.specs.declared.Answer.TheVariants.{Unchanged, Rewritten}
use Rattle.optimize.specs.PassAnswer.{answer_of}

-- the decimal digits of v, the last k if it has more
unfoldable pub decimal : ℕ → ℕ → List ℕ
decimal zero v = []
decimal (suc k) v = cond (ltb v 10) [] (decimal k (v / 10)) ++ ((48 + v % 10) ∷ [])

-- the digits that a number of 32 bits has at most
abbrev pub max_digits : ℕ
max_digits = 10

abbrev pub newline : ℕ
newline = 10

abbrev pub space : ℕ
space = 32

-- a number and the byte after it
unfoldable pub ended : ℕ → ℕ → List ℕ
ended v e = decimal max_digits v ++ (e ∷ [])

-- op, flags, a, b, c
unfoldable pub fields : Instruction → List ℕ
fields i = ended i.op space ++ ended i.flags space ++ ended i.a space ++ ended i.b space ++ ended i.c newline

-- of a result of n instructions the line at place p: "new place, old place, op, flags, a, b, c"
unfoldable pub line : List ℕ → ℕ → ℕ → List ℕ
line result n p =
    ended p space ++ ended (u32_at result (result_places_at n + 4 * p)) space
    ++ fields (instruction_at (drop result_header_size result) p)

-- its first k lines
unfoldable pub lines : List ℕ → ℕ → ℕ → List ℕ
lines result n zero = []
lines result n (suc k) = lines result n k ++ line result n k

-- `unchanged` and its newline, `refused` and `rewritten` with a space
unfoldable pub unchanged_text : List ℕ
unchanged_text = 117 ∷ 110 ∷ 99 ∷ 104 ∷ 97 ∷ 110 ∷ 103 ∷ 101 ∷ 100 ∷ 10 ∷ []

unfoldable pub refused_text : List ℕ
refused_text = 114 ∷ 101 ∷ 102 ∷ 117 ∷ 115 ∷ 101 ∷ 100 ∷ 32 ∷ []

unfoldable pub rewritten_text : List ℕ
rewritten_text = 114 ∷ 101 ∷ 119 ∷ 114 ∷ 105 ∷ 116 ∷ 116 ∷ 101 ∷ 110 ∷ 32 ∷ []

-- the text of an answer and of the output after it
unfoldable pub text_of : Result Answer Refusal → List ℕ → List ℕ
text_of (Ok Unchanged) out = unchanged_text
text_of (Err r) out = refused_text ++ ended r.number space ++ ended r.place newline
text_of (Ok (Rewritten n)) out = rewritten_text ++ ended n newline ++ lines out n n

-- the text of one pass with lent buffers, the output as it was before
unfoldable pub listing_with : List ℕ → List ℕ → Lent → List ℕ
listing_with u out l = text_of (answer_of (pass_answer u l)) (output_after (pass_answer u l) (pass_lines u l) out)

-- "reads a unit of at most 2,048 bytes from standard input (a longer one is refused 2), runs one pass with 8,192 numbers of 64 bits,
-- 4,096 of 32 and 8,192 output bytes"
unfoldable pub listing : List ℕ → List ℕ
listing u =
    let worked = listing_with u (replicate 8192 0) (lent_of 8192 4096 8192) in
    cond (leb (length u) 2048) worked (text_of (Refused short_buffer 0) [])
