-- What the recorded answers say, read from their text: from a place on, past the text's end as spaces.
-- Assumes nothing.
use Rattle.std.specs.Prelude.{ℕ, zero, suc, ◌+◌, ◌*◌, ◌%◌, ◌^◌, cond, List, [], ◌∷◌, length, drop, ◌==◌, nat_le, nat_lt, slice_index}
use Rattle.replay.specs.declared.text.AnswerKind.{AnswerKind}
use Rattle.replay.specs.declared.text.AnswerKind.TheVariants.{Unchanged, Refused, Rewritten}

abbrev pub space : ℕ
space = 32

unfoldable pub byte_at : List ℕ → ℕ → ℕ
byte_at text i = cond (nat_lt i (length text)) (slice_index text i) space

-- the bytes of a word and the byte after it, which is at most `last`; all bytes where there is none
unfoldable pub word_length : ℕ → List ℕ → ℕ
word_length last [] = 0
word_length last (b ∷ bs) = let rest = word_length last bs in cond (nat_le b last) 1 (suc rest)

-- the place after them
unfoldable pub skipped : List ℕ → ℕ → ℕ → ℕ
skipped text i last = i + word_length last (drop i text)

-- a place k further on, as the code reckons it
abbrev pub further : ℕ → ℕ → ℕ
further i k = (i + k) % 2 ^ 64

-- by its third letter an answer's word is `unchanged`, `refused` or else `rewritten`
unfoldable pub kind_at : List ℕ → ℕ → AnswerKind
kind_at text i = let b = byte_at text (further i 2) in cond (b == 99) Unchanged (cond (b == 102) Refused Rewritten)

-- v with up to `left` digits more, the first of them k after place i; only the last eight of v count
unfoldable pub number_from : ℕ → List ℕ → ℕ → ℕ → ℕ → ℕ
number_from zero text i k v = v
number_from (suc left) text i k v =
    let b = byte_at text (further i k) in
    let rest = number_from left text i (suc k) (v % 100000000 * 10 + b % 16) in
    cond (nat_le b space) v rest

-- a number of at most nine digits
unfoldable pub number_at : List ℕ → ℕ → ℕ
number_at text i = number_from 9 text i 0 0
