-- Definitions. Folding: the words that integer opcodes give.
-- "The 17 integer binary opcodes, NegI, Not, BoolNot and Trunc fold; sums and products wrap modulo 2^64; AndNot is &^ of the Go
-- specification; comparisons and BoolNot give 1 or 0; Trunc keeps the low 1, 2 or 4 bytes by flags modulo 128 (otherwise the
-- whole word), sign-extended where flags reach 128."
-- Assumes nothing.
use Rattle.std.specs.Prelude.{ℕ, zero, suc, ◌+◌, ◌-◌, ◌*◌, ◌/◌, ◌%◌, ◌^◌, min, max, Bool, true, cond, not, List, [], ◌∷◌, ◌==◌, nat_le, nat_lt}
use Rattle.words.specs.Word.{signed_less, sign_extend}
use Rattle.instruction.specs.Opcode as op

-- k bits of a and b, one by one
unfoldable pub bitwise : (ℕ → ℕ → ℕ) → ℕ → ℕ → ℕ → ℕ
bitwise f zero x y = 0
bitwise f (suc k) x y = f (x % 2) (y % 2) + 2 * bitwise f k (x / 2) (y / 2)

unfoldable pub differ : ℕ → ℕ → ℕ
differ x y = (x + y) % 2

abbrev pub word_and : ℕ → ℕ → ℕ
word_and = bitwise min 64

abbrev pub word_or : ℕ → ℕ → ℕ
word_or = bitwise max 64

abbrev pub word_xor : ℕ → ℕ → ℕ
word_xor = bitwise differ 64

abbrev pub word_not : ℕ → ℕ
word_not x = (2 ^ 64 - 1) - x

abbrev pub bool : Bool → ℕ
bool t = cond t 1 0

abbrev pub word_neg : ℕ → ℕ
word_neg x = (2 ^ 64 - x) % 2 ^ 64

-- the low k bits, as they are or sign-extended
unfoldable pub low_bits : ℕ → ℕ → ℕ → ℕ
low_bits k flags x = cond (nat_le 128 flags) (sign_extend k (x % 2 ^ k)) (x % 2 ^ k)

unfoldable pub trunc : ℕ → ℕ → ℕ
trunc flags x =
    cond (flags % 128 == 1) (low_bits 8 flags x)
    (cond (flags % 128 == 2) (low_bits 16 flags x) (cond (flags % 128 == 4) (low_bits 32 flags x) x))

-- the opcodes that fold
abbrev pub folding_unary : List ℕ
folding_unary = op.NegI ∷ op.Not ∷ op.BoolNot ∷ op.Trunc ∷ []

abbrev pub folding_binary : List ℕ
folding_binary =
    op.AddI ∷ op.SubI ∷ op.MulI ∷ op.And ∷ op.Or ∷ op.Xor ∷ op.AndNot ∷ op.EqI ∷ op.NeI ∷ op.LtI ∷ op.LtU ∷ op.LeI ∷
    op.LeU ∷ op.GtI ∷ op.GtU ∷ op.GeI ∷ op.GeU ∷ []

-- the words of the bitwise opcodes, BoolNot and Trunc
unfoldable pub bit_word : ℕ → ℕ → ℕ → ℕ → ℕ
bit_word o flags x y =
    cond (o == op.And) (word_and x y)
    (cond (o == op.Or) (word_or x y)
    (cond (o == op.Xor) (word_xor x y)
    (cond (o == op.AndNot) (word_and x (word_not y))
    (cond (o == op.Not) (word_not x)
    (cond (o == op.BoolNot) (bool (x == 0))
    (trunc flags x))))))

-- the word that a folding opcode gives; its right word is unread where it is unary
unfoldable pub fold_word : ℕ → ℕ → ℕ → ℕ → ℕ
fold_word o flags x y =
    cond (o == op.AddI) ((x + y) % 2 ^ 64)
    (cond (o == op.SubI) ((x + (2 ^ 64 - y)) % 2 ^ 64)
    (cond (o == op.MulI) (x * y % 2 ^ 64)
    (cond (o == op.NegI) (word_neg x)
    (cond (o == op.EqI) (bool (x == y))
    (cond (o == op.NeI) (bool (not (x == y)))
    (cond (o == op.LtI) (bool (signed_less x y))
    (cond (o == op.LtU) (bool (nat_lt x y))
    (cond (o == op.LeI) (bool (not (signed_less y x)))
    (cond (o == op.LeU) (bool (nat_le x y))
    (cond (o == op.GtI) (bool (signed_less y x))
    (cond (o == op.GtU) (bool (nat_lt y x))
    (cond (o == op.GeI) (bool (not (signed_less x y)))
    (cond (o == op.GeU) (bool (nat_le y x))
    (bit_word o flags x y))))))))))))))

-- "its signed reading fits 32 bits"
unfoldable pub fits_imm32 : ℕ → Bool
fits_imm32 x = cond (nat_lt x (2 ^ 31)) true (nat_le (2 ^ 64 - 2 ^ 31) x)
