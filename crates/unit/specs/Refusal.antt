-- Definitions. The refusal numbers of document 01's table of answers, and those of document 02; a refusal, with number and place.
-- Assumes nothing.
use Rattle.std.specs.Prelude.{ℕ, Option, None, Some, Result, Err}
use Rattle.unit.specs.declared.refusal.Reason.{Reason}
use Rattle.unit.specs.declared.refusal.Reason.TheVariants.{NotUnit, ShortBuffer, MetadataCount, TypeCount, InvalidOpcode, EffectError, SlotOutside, BranchOutside, UnsoundLoop, LostLoop, LinePlaces, FrameLength, TooManyCases, TariffLength}
use Rattle.unit.specs.declared.refusal.Refusal.{Refusal}

-- "unit not as above"
abbrev pub not_unit : ℕ
not_unit = 1

-- "a lent buffer shorter than stated"
abbrev pub short_buffer : ℕ
short_buffer = 2

-- "m is not n"
abbrev pub metadata_count : ℕ
metadata_count = 3

-- "number of types is not s"
abbrev pub type_count : ℕ
type_count = 4

-- "by lowest p: Invalid; effect error; a slot at or past s"
abbrev pub invalid_opcode : ℕ
invalid_opcode = 5

abbrev pub effect_error : ℕ
effect_error = 6

abbrev pub slot_outside : ℕ
slot_outside = 7

-- "lowest branch leaving 0 to n − 1, unreachable ones too"
abbrev pub branch_outside : ℕ
branch_outside = 8

-- "lowest reached loop hint without LoopEnd or with its end outside"
abbrev pub unsound_loop : ℕ
unsound_loop = 9

-- "lowest kept loop hint whose end was removed or whose exit exceeds n"
abbrev pub lost_loop : ℕ
lost_loop = 10

-- document 02, L3: "places not strictly rising or not below n"
abbrev pub line_places : ℕ
line_places = 11

-- document 02, L6: "frame not s words"
abbrev pub frame_length : ℕ
frame_length = 12

-- document 02, L9: "a SelectExecLayout of more than 24"
abbrev pub too_many_cases : ℕ
too_many_cases = 13

-- document 02, L12: "tariff not 256 prices"
abbrev pub tariff_length : ℕ
tariff_length = 15

-- the number of a reason
abbrev pub reason_number : Reason → ℕ
reason_number NotUnit = not_unit
reason_number ShortBuffer = short_buffer
reason_number MetadataCount = metadata_count
reason_number TypeCount = type_count
reason_number InvalidOpcode = invalid_opcode
reason_number EffectError = effect_error
reason_number SlotOutside = slot_outside
reason_number BranchOutside = branch_outside
reason_number UnsoundLoop = unsound_loop
reason_number LostLoop = lost_loop
reason_number LinePlaces = line_places
reason_number FrameLength = frame_length
reason_number TooManyCases = too_many_cases
reason_number TariffLength = tariff_length

-- that of a test's answer: 0 where there is no reason to refuse
abbrev pub test_number : Option Reason → ℕ
test_number None = 0
test_number (Some x) = reason_number x

abbrev pub refusal : ℕ → ℕ → Refusal
refusal k p = record { number = k; place = p }

-- what is refused with a number and a place
abbrev pub Refused : {A : Type 0} → ℕ → ℕ → Result A Refusal
Refused k p = Err (refusal k p)
