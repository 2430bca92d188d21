-- Definitions. "Eight bytes: op, flags, then a, b, c of 16 bits, little-endian."
-- Assumes nothing.
use Rattle.std.specs.Prelude.{Bool, List, ℕ, ◌+◌, ◌*◌, ◌/◌, ◌%◌, ◌^◌, eqb, get_or}
use Rattle.words.specs.Le.{u16_at}
use Rattle.words.specs.Word.{sign_extend}
use Rattle.instruction.specs.declared.Instruction.{Instruction}
use Rattle.instruction.specs.declared.Class.{Class}
use Rattle.instruction.specs.Class.{class_of}

-- the instruction at a place of the code
unfoldable pub instruction_at : List ℕ → ℕ → Instruction
instruction_at code p =
    record {
      op = get_or code (8 * p) 0;
      flags = get_or code (8 * p + 1) 0;
      a = u16_at code (8 * p + 2);
      b = u16_at code (8 * p + 4);
      c = u16_at code (8 * p + 6);
    }

-- an instruction as one word of 64 bits, op lowest, and back
unfoldable pub to_word : Instruction → ℕ
to_word i = i.op + 256 * i.flags + 65536 * i.a + 2 ^ 32 * i.b + 2 ^ 48 * i.c

unfoldable pub of_word : ℕ → Instruction
of_word w = record { op = w % 256; flags = w / 256 % 256; a = w / 65536 % 65536; b = w / 2 ^ 32 % 65536; c = w / 2 ^ 48 % 65536 }

-- "`imm32` is b + 65,536 × c"
abbrev pub imm32_unsigned : Instruction → ℕ
imm32_unsigned i = i.b + 65536 * i.c

-- "read as signed": the word with that signed reading
abbrev pub imm32 : Instruction → ℕ
imm32 i = sign_extend 32 (imm32_unsigned i)

-- an instruction with that immediate; of a value above 32 bits the low 32 count
abbrev pub with_imm32 : Instruction → ℕ → Instruction
with_imm32 i v = record { op = i.op; flags = i.flags; a = i.a; b = v % 65536; c = v / 65536 % 65536 }

-- "A replaced instruction has flags 0 and unread fields 0"
abbrev pub plain : ℕ → ℕ → ℕ → ℕ → Instruction
plain o a b c = record { op = o; flags = 0; a = a; b = b; c = c }

-- the class of its opcode
abbrev pub class : Instruction → Class
class i = class_of i.op

-- ForLoop's distance, c read as signed, as a word
abbrev pub for_loop_distance : Instruction → ℕ
for_loop_distance i = sign_extend 16 i.c

-- the function that Call names: "low 16 bits in `a`, high 8 bits in `flags`"
abbrev pub static_call_func_id : Instruction → ℕ
static_call_func_id i = i.a + 65536 * i.flags

-- GoStart, DeferPush, ErrDeferPush: bit 0 of flags says whether a closure is called; the other seven are the function's high bits
abbrev pub call_shape_is_closure : Instruction → Bool
call_shape_is_closure i = eqb (i.flags % 2) 1

abbrev pub call_shape_static_func_id : Instruction → ℕ
call_shape_static_func_id i = i.a + 65536 * (i.flags / 2)
