-- The tables of src/table.rt: each distinct part of Table.antt is a form, known by its number; a row packs the forms of an opcode.
-- Assumes nothing.
use Rattle.std.specs.Prelude.{cond, List, [], ◌∷◌, ◌++◌, ℕ, zero, suc, ◌/◌, ◌%◌, ◌^◌, eqb, ltb, get_or}
use Rattle.effects.specs.declared.Range.{Range}
use Rattle.effects.specs.Shape.{Demand, nothing, kind, call_layout, result_layout, callee, extern, call_shape, fixed, field_a, field_b, field_c, field_flags, first, second, both, first_flag, second_ok, array, params, results, returns, arguments, always, flags_are, flag_bit, closure, Part, part}
use Rattle.effects.specs.Table.{read_shape, write_shape, array_shape}

-- nothing: an empty range
abbrev pub no_part : Part
no_part = part (fixed 0) (fixed 0)

abbrev pub empty_range : Range
empty_range = record { start = 0; count = 0 }

unfoldable pub forms : List Part
forms =
    -- of the fields alone
    part field_a (fixed 1)
    ∷ part field_b (fixed 1)
    ∷ part field_c (fixed 1)
    ∷ part field_a (fixed 2)
    ∷ part field_b (fixed 2)
    ∷ part field_c (fixed 2)
    ∷ part field_a (fixed 7)
    ∷ part field_b (fixed 7)
    ∷ part (fixed 0) (fixed 1)
    ∷ part field_a field_b
    ∷ part field_a field_c
    ∷ part field_b field_c
    ∷ part field_a field_flags
    ∷ part field_b field_flags
    -- where flags ask for it
    ∷ record { when = flag_bit 4; base = field_b; offset = fixed 1; count = fixed 5 }
    ∷ record { when = flag_bit 2; base = field_c; offset = fixed 2; count = fixed 1 }
    ∷ record { when = flags_are 16; base = field_b; offset = fixed 1; count = fixed 1 }
    ∷ record { when = closure; base = field_a; offset = fixed 0; count = fixed 1 }
    -- of the metadata's lengths
    ∷ part field_a first
    ∷ part field_b first
    ∷ part field_c first
    ∷ record { when = always; base = field_c; offset = fixed 1; count = first }
    ∷ part field_c second
    ∷ record { when = always; base = field_b; offset = first; count = second }
    ∷ part field_a both
    ∷ part field_a first_flag
    ∷ part field_a second_ok
    ∷ part field_a array
    ∷ part field_b array
    -- of the function or the extern that is called
    ∷ part field_b params
    ∷ record { when = always; base = field_b; offset = params; count = results }
    ∷ part field_a returns
    ∷ part field_b arguments
    ∷ []

unfoldable pub form_at : ℕ → Part
unfolding forms
form_at f = get_or forms f no_part

-- n forms, one to a byte
unfoldable pub unpack : ℕ → ℕ → List Part
unpack zero v = []
unpack (suc n) v = form_at (v % 256) ∷ unpack n (v / 256)

-- a row: in its lowest byte how many ranges are read, and times 16 how many are surely written; in the next four bytes the forms that
-- are read, in the last three those that are surely written
abbrev pub reads_of : ℕ → List Part
reads_of row = unpack (row % 16) (row / 256)

abbrev pub writes_of : ℕ → List Part
writes_of row = unpack (row / 16 % 16) (row / 2 ^ 40)

-- the row of each opcode; one that is past them reads nothing and writes a
abbrev pub rows : List ℕ
rows =
    0 ∷ 0x10 ∷ 0x10 ∷ 0x111 ∷ 0xa0000000b11 ∷ 0x1c0212 ∷
    0x1b020103 ∷ 0x1200001c0212 ∷ 0x1b140103 ∷ 0x10 ∷ 0xc0000000010 ∷ 0x101 ∷
    0xd01 ∷ 0x111 ∷ 0x111 ∷ 0x20002 ∷ 0x120000000111 ∷ 0x140002 ∷
    0x20112 ∷ 0x20112 ∷ 0x20112 ∷ 0x20112 ∷ 0x20112 ∷ 0x20112 ∷
    0x20112 ∷ 0x20112 ∷ 0x111 ∷ 0x20112 ∷ 0x20112 ∷ 0x20112 ∷
    0x20112 ∷ 0x111 ∷ 0x20112 ∷ 0x20112 ∷ 0x20112 ∷ 0x20112 ∷
    0x20112 ∷ 0x20112 ∷ 0x20112 ∷ 0x20112 ∷ 0x20112 ∷ 0x20112 ∷
    0x20112 ∷ 0x20112 ∷ 0x20112 ∷ 0x20112 ∷ 0x20112 ∷ 0x20112 ∷
    0x20112 ∷ 0x20112 ∷ 0x20112 ∷ 0x20112 ∷ 0x111 ∷ 0x20112 ∷
    0x20112 ∷ 0x20112 ∷ 0x111 ∷ 0 ∷ 0x1 ∷ 0x1 ∷
    0x1e0000001d11 ∷ 0x1f0000001411 ∷ 0x170000130012 ∷ 0x170000130312 ∷ 0x901 ∷ 0x10 ∷
    0x111 ∷ 0x20112 ∷ 0x20112 ∷ 0x50112 ∷ 0x20112 ∷ 0x20112 ∷
    0x20112 ∷ 0x20112 ∷ 0x20112 ∷ 0x20112 ∷ 0x30000020112 ∷ 0x20112 ∷
    0x120000020112 ∷ 0x14010003 ∷ 0x20112 ∷ 0x50112 ∷ 0x120000020112 ∷ 0x14010003 ∷
    0x111 ∷ 0x111 ∷ 0xf050e0114 ∷ 0x15020113 ∷ 0x20112 ∷ 0x411 ∷
    0x1a0000140112 ∷ 0x16130003 ∷ 0x130002 ∷ 0x111 ∷ 0x60000000111 ∷ 0x2070000000721 ∷
    0x20112 ∷ 0x130002 ∷ 0x190000000111 ∷ 0x1 ∷ 0x111 ∷ 0x111 ∷
    0 ∷ 0x130002 ∷ 0x101 ∷ 0x10 ∷ 0x10 ∷ 0x811 ∷
    0x201102 ∷ 0x201102 ∷ 0x201102 ∷ 0x301 ∷ 0x30000000010 ∷ 0x30000100112 ∷
    0x190000000411 ∷ 0x50412 ∷ 0x111 ∷ 0x111 ∷ 0x111 ∷ 0x111 ∷
    0x111 ∷ 0x10002 ∷ 0x10 ∷ 0x14010003 ∷ 0x10012 ∷ 0x20112 ∷
    0x20112 ∷ 0x20112 ∷ 0x20112 ∷ 0x111 ∷ 0x20112 ∷ 0x20112 ∷
    0x20112 ∷ 0x20112 ∷ 0x20112 ∷ 0x20112 ∷ []

abbrev pub row_of : ℕ → ℕ
row_of o = get_or rows o 0x10

-- all parts that an opcode reads, the array range's with them, and all that it surely writes
abbrev pub read_parts : ℕ → List Part
read_parts o = (read_shape o).parts ++ (array_shape o).parts

abbrev pub write_parts : ℕ → List Part
write_parts o = (write_shape o).parts

-- the demands numbered: metadata of a kind by that kind's number
unfoldable pub demand_at : ℕ → Demand
demand_at d =
    cond (eqb d 0) nothing
    (cond (ltb d 16) (kind d)
    (cond (eqb d 16) call_layout
    (cond (eqb d 17) result_layout
    (cond (eqb d 18) callee
    (cond (eqb d 19) extern call_shape)))))

-- the demands of reads, of the array range and of writes, one to a byte
abbrev pub demands_of : ℕ → List Demand
demands_of row = demand_at (row % 256) ∷ demand_at (row / 256 % 256) ∷ demand_at (row / 65536) ∷ []

abbrev pub demand_rows : List ℕ
demand_rows =
    0 ∷ 0 ∷ 0 ∷ 0 ∷ 0 ∷ 0x700 ∷ 0x700 ∷ 0x70700 ∷ 0x707 ∷ 0 ∷ 0 ∷ 0 ∷
    0 ∷ 0 ∷ 0 ∷ 0 ∷ 0x60000 ∷ 0x6 ∷ 0 ∷ 0 ∷ 0 ∷ 0 ∷ 0 ∷ 0 ∷
    0 ∷ 0 ∷ 0 ∷ 0 ∷ 0 ∷ 0 ∷ 0 ∷ 0 ∷ 0 ∷ 0 ∷ 0 ∷ 0 ∷
    0 ∷ 0 ∷ 0 ∷ 0 ∷ 0 ∷ 0 ∷ 0 ∷ 0 ∷ 0 ∷ 0 ∷ 0 ∷ 0 ∷
    0 ∷ 0 ∷ 0 ∷ 0 ∷ 0 ∷ 0 ∷ 0 ∷ 0 ∷ 0 ∷ 0 ∷ 0 ∷ 0 ∷
    0x120012 ∷ 0x130010 ∷ 0x110010 ∷ 0x110010 ∷ 0 ∷ 0 ∷ 0 ∷ 0 ∷ 0 ∷ 0 ∷ 0 ∷ 0 ∷
    0 ∷ 0 ∷ 0 ∷ 0 ∷ 0 ∷ 0 ∷ 0x10000 ∷ 0x1 ∷ 0 ∷ 0 ∷ 0x10000 ∷ 0x1 ∷
    0 ∷ 0 ∷ 0 ∷ 0x1 ∷ 0 ∷ 0 ∷ 0x20002 ∷ 0x4 ∷ 0x5 ∷ 0 ∷ 0 ∷ 0xd0000 ∷
    0 ∷ 0xb ∷ 0xb0000 ∷ 0 ∷ 0 ∷ 0 ∷ 0 ∷ 0xb ∷ 0 ∷ 0xc000c ∷ 0 ∷ 0 ∷
    0x14 ∷ 0x14 ∷ 0x14 ∷ 0 ∷ 0 ∷ 0 ∷ 0xe0000 ∷ 0 ∷ 0 ∷ 0 ∷ 0 ∷ 0 ∷
    0 ∷ 0 ∷ 0 ∷ 0x10 ∷ 0 ∷ 0 ∷ 0 ∷ 0 ∷ 0 ∷ 0 ∷ 0 ∷ 0 ∷
    0 ∷ 0 ∷ 0 ∷ 0 ∷ []

abbrev pub demand_row_of : ℕ → ℕ
demand_row_of o = get_or demand_rows o 0

abbrev pub demands : ℕ → List Demand
demands o = (read_shape o).demand ∷ (array_shape o).demand ∷ (write_shape o).demand ∷ []
