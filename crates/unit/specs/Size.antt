-- Definitions. Sizes: each number of document 01's layout and each lent buffer's length in one definition.
-- Assumes nothing.
use Rattle.std.specs.Prelude.{ℕ, ◌+◌, ◌*◌, ◌/◌, min}

-- bytes of the header and of one entry of each section
abbrev pub header_size : ℕ
header_size = 72

abbrev pub instruction_size : ℕ
instruction_size = 8

abbrev pub metadata_size : ℕ
metadata_size = 16

abbrev pub constant_size : ℕ
constant_size = 16

abbrev pub function_size : ℕ
function_size = 4

abbrev pub extern_size : ℕ
extern_size = 2

abbrev pub case_size : ℕ
case_size = 8

abbrev pub line_size : ℕ
line_size = 8

-- bytes of one old place of a result
abbrev pub place_size : ℕ
place_size = 4

-- bytes of the result's header, and of a result of k instructions and l lines
abbrev pub result_header_size : ℕ
result_header_size = 24

abbrev pub result_size : ℕ → ℕ → ℕ
result_size k l = result_header_size + 28 * k + line_size * l

-- "Output buffer: 16 + 28n bytes"; document 02, L3: "Output room grows by 8 bytes and 8 per entry"
abbrev pub output_room : ℕ → ℕ → ℕ
output_room n l = result_size n l

-- "Work: 16n + 16 numbers of 32 bits"
abbrev pub work32_room : ℕ → ℕ
work32_room n = 16 * n + 16

-- w, "local slots / 64 rounded up"
abbrev pub set_words : ℕ → ℕ
set_words s = (s + 63) / 64

-- the most words of sets over all blocks that liveness works on
abbrev pub max_set_words : ℕ
max_set_words = 2097152

-- "and of 64 bits 24n + 4s + w + 3 × w × the lesser of n and 2,097,152 / w rounded down (the last two terms absent
-- for w = 0)": they are 0 then
abbrev pub work64_room : ℕ → ℕ → ℕ
work64_room n s = 24 * n + 4 * s + set_words s + 3 * set_words s * min n (max_set_words / set_words s)

-- what liveness takes of it: the code, one set, and three sets of each block
abbrev pub sets_room : ℕ → ℕ → ℕ
sets_room n s = n + set_words s + 3 * set_words s * min n (max_set_words / set_words s)

-- document 02, L9: the most cases of a select
abbrev pub max_select_cases : ℕ
max_select_cases = 24

-- the largest function that is worked on, and the largest number of local slots
abbrev pub max_instructions : ℕ
max_instructions = 65536

abbrev pub max_local_slots : ℕ
max_local_slots = 65535
