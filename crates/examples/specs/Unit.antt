-- Small units, written as a person would: a list of instructions with their metadata.
-- Assumes nothing.
use Rattle.std.specs.Prelude.{List, [], ◌∷◌, ◌++◌, ℕ, ◌+◌, ◌*◌, length, replicate}
use Rattle.words.specs.Le.{to_le}
use Rattle.instruction.specs.Opcode as op
use Rattle.instruction.specs.declared.Instruction.{Instruction}
use Rattle.instruction.specs.Instruction.{to_word, plain, with_imm32}
use Rattle.unit.specs.declared.Metadata.{Metadata}
use Rattle.unit.specs.Entry.{metadata_bytes, kind_none, kind_loop_end, type_value}
use Rattle.unit.specs.Size.{header_size, instruction_size, metadata_size}
use Rattle.effects.specs.Shape.{Cell}

abbrev pub metadata : ℕ → ℕ → Metadata
metadata kind end = record { kind = kind; ok = 0; array = 0; first = 0; second = 0; end = end }

-- an instruction without metadata
abbrev pub cell : Instruction → Cell
cell i = record { instruction = i; metadata = metadata kind_none 0 }

abbrev pub load_int : ℕ → ℕ → Cell
load_int a v = cell (with_imm32 (plain op.LoadInt a 0 0) v)

-- a jump of this opcode, by slot a, over a distance modulo 2^32
abbrev pub jump_by : ℕ → ℕ → ℕ → Cell
jump_by o a distance = cell (with_imm32 (plain o a 0 0) distance)

abbrev pub jump : ℕ → Cell
jump distance = jump_by op.Jump 0 distance

abbrev pub jump_if : ℕ → ℕ → Cell
jump_if a distance = cell (with_imm32 (plain op.JumpIf a 0 0) distance)

abbrev pub three : ℕ → ℕ → ℕ → ℕ → Cell
three o a b c = cell (plain o a b c)

abbrev pub return : ℕ → ℕ → Cell
return a count = cell (plain op.Return a count 0)

abbrev pub loop_hint : ℕ → ℕ → Cell
loop_hint end exit =
    record {
      instruction = with_imm32 (record { op = op.Hint; flags = 1; a = 0; b = 0; c = 0 }) exit;
      metadata = metadata kind_loop_end end;
    }

unfoldable pub bytes_of : List Cell → List ℕ
bytes_of [] = []
bytes_of (x ∷ xs) = to_le 8 (to_word x.instruction) ++ bytes_of xs

unfoldable pub metadata_of : List Cell → List ℕ
metadata_of [] = []
metadata_of (x ∷ xs) = metadata_bytes x.metadata ++ metadata_of xs

unfoldable pub numbers : List ℕ → List ℕ
numbers [] = []
numbers (x ∷ xs) = to_le 4 x ++ numbers xs

-- a unit of these cells with s slots, all of type Value, and nothing else
unfoldable pub unit : ℕ → List Cell → List ℕ
unit s cells =
    let n = length cells in
    let types = header_size + instruction_size * n + metadata_size * n in
    let end = types + s in
    numbers (n ∷ n ∷ s ∷ s ∷ 0 ∷ 0 ∷ 0 ∷ 0 ∷ 0 ∷ header_size ∷ (header_size + instruction_size * n) ∷ types ∷ end ∷ end ∷ end ∷ end ∷ 0 ∷ end ∷ [])
    ++ bytes_of cells
    ++ metadata_of cells
    ++ replicate s type_value
