-- Definitions. All short functions (document 02, L11): the unit of a number, and the number of a unit.
-- Assumes nothing.
use Rattle.std.specs.Prelude.{Result, Ok, ◌≡◌, cond, ◌&&◌, List, [], ◌∷◌, ◌++◌, map, ℕ, zero, suc, ◌+◌, ◌*◌, ◌-◌, ◌/◌, ◌%◌, ◌^◌, ◌<◌, eqb, leb, ltb, length, get_or, Option, Some, None}
use borrow.Rule.Slice.PartMut.{put_mid}
use Rattle.words.specs.Le.{to_le}
use Rattle.words.specs.Lists.{tabulate}
use Rattle.instruction.specs.Opcode as op
use Rattle.instruction.specs.declared.Instruction.{Instruction}
use Rattle.instruction.specs.Instruction.{to_word, plain}
use Rattle.unit.specs.Refusal.{short_buffer, Refused}
use Rattle.unit.specs.Size.{header_size, instruction_size, metadata_size}
use Rattle.unit.specs.declared.refusal.Refusal.{Refusal}

-- "24 instructions in this order: LoadInt (a, then value 0 or 1), Copy (a, b), AddI (a, b, c), JumpIf (a, then distance −1 or 1),
-- Jump (−1 or 1), Return of slot 0 with count 0 or 1". Values and distances are b + 65,536 × c, read as signed.
abbrev pub short_instructions : List Instruction
short_instructions =
    plain op.LoadInt 0 0 0
    ∷ plain op.LoadInt 0 1 0
    ∷ plain op.LoadInt 1 0 0
    ∷ plain op.LoadInt 1 1 0
    ∷ plain op.Copy 0 0 0
    ∷ plain op.Copy 0 1 0
    ∷ plain op.Copy 1 0 0
    ∷ plain op.Copy 1 1 0
    ∷ plain op.AddI 0 0 0
    ∷ plain op.AddI 0 0 1
    ∷ plain op.AddI 0 1 0
    ∷ plain op.AddI 0 1 1
    ∷ plain op.AddI 1 0 0
    ∷ plain op.AddI 1 0 1
    ∷ plain op.AddI 1 1 0
    ∷ plain op.AddI 1 1 1
    ∷ plain op.JumpIf 0 65535 65535
    ∷ plain op.JumpIf 0 1 0
    ∷ plain op.JumpIf 1 65535 65535
    ∷ plain op.JumpIf 1 1 0
    ∷ plain op.Jump 0 65535 65535
    ∷ plain op.Jump 0 1 0
    ∷ plain op.Return 0 0 0
    ∷ plain op.Return 0 1 0
    ∷ []

abbrev pub short_at : ℕ → Instruction
short_at d = get_or short_instructions d (plain 0 0 0 0)

-- "All functions of 2, 3 and 4 instructions, shorter first .., number 346,176": 24 × 24 of two, 24 × 24 × 24 of three, and so on
abbrev pub first_of_three : ℕ
first_of_three = 576

abbrev pub first_of_four : ℕ
first_of_four = 14400

abbrev pub short_count : ℕ
short_count = 346176

-- how many instructions the function of a number has, the number of the first of that length, and its place among those
unfoldable pub length_of : ℕ → ℕ
length_of k = cond (ltb k first_of_three) 2 (cond (ltb k first_of_four) 3 4)

unfoldable pub first_of : ℕ → ℕ
first_of n = cond (eqb n 2) 0 (cond (eqb n 3) first_of_three first_of_four)

abbrev pub rank_of : ℕ → ℕ
rank_of k = k - first_of (length_of k)

-- "then by the earliest differing instruction": n digits to the base 24, the first counting most
unfoldable pub digits : ℕ → ℕ → List ℕ
digits zero r = []
digits (suc n) r = r / 24 ^ n % 24 ∷ digits n r

abbrev pub digits_of : ℕ → List ℕ
digits_of k = digits (length_of k) (rank_of k)

-- the bytes of numbers of w bytes each
unfoldable pub little_endian : ℕ → List ℕ → List ℕ
little_endian w [] = []
little_endian w (x ∷ xs) = to_le w x ++ little_endian w xs

-- "as a unit with defer 0, with metadata, flags and unread fields zero and no other entries"; "two Value slots"
abbrev pub unit_size : ℕ → ℕ
unit_size n = header_size + instruction_size * n + metadata_size * n + 2

unfoldable pub header_words : ℕ → List ℕ
header_words n =
    n
    ∷ n
    ∷ 2
    ∷ 2
    ∷ 0
    ∷ 0
    ∷ 0
    ∷ 0
    ∷ 0
    ∷ header_size
    ∷ (header_size + instruction_size * n)
    ∷ (header_size + instruction_size * n + metadata_size * n)
    ∷ unit_size n
    ∷ unit_size n
    ∷ unit_size n
    ∷ unit_size n
    ∷ 0
    ∷ unit_size n
    ∷ []

-- the metadata and the types are zeros: kind None, type Value
unfoldable pub unit_of_code : List Instruction → List ℕ
unit_of_code code =
    let n = length code in
    little_endian 4 (header_words n) ++ little_endian instruction_size (map to_word code) ++ tabulate (metadata_size * n + 2) (λ i. 0)

-- the unit of the function of n instructions with that rank, and of a number
abbrev pub unit_at : ℕ → ℕ → List ℕ
unit_at n r = unit_of_code (map short_at (digits n r))

abbrev pub unit_of : ℕ → List ℕ
unit_of k = unit_at (length_of k) (rank_of k)

-- "Produce each exactly once from its number .. at the front of a lent buffer whose rest stays (refused 2 if too short)"; "a number
-- past the last .. yield[s] none". The number, and the buffer's length.
unfoldable pub made_of : ℕ → ℕ → Result (Option ℕ) Refusal
made_of k room =
    let size = unit_size (length_of k) in
    cond (ltb k short_count) (cond (leb size room) (Ok (Some size)) (Refused short_buffer 0)) (Ok None)

unfoldable pub buffer_after : ℕ → List ℕ → List ℕ
buffer_after k out =
    let size = unit_size (length_of k) in
    let written = put_mid 0 size out (unit_of k) in
    cond (ltb k short_count && leb size (length out)) written out

-- "and its number from it; .. any other bytes yield none"
unfoldable pub HasNumber : List ℕ → Option ℕ → Type 0
HasNumber u (Some k) = (k < short_count) × (u ≡ unit_of k)
HasNumber u None = (k : ℕ) → k < short_count → u ≡ unit_of k → ⊥
