-- The retained places in lent memory.
-- Assumes nothing.
use Rattle.std.specs.Prelude.{◌≡◌, true, List, ℕ, ◌+◌, ◌*◌, ◌/◌, ◌≤◌, ◌<◌, length, get_or}
use borrow.Rule.Slice.PartMut.{mid_of}
use Rattle.unit.specs.Entry.{metadata_at, good_metadata}
use Rattle.unit.specs.laws.Region.{keep_at, loop_ends_in}
use Rattle.unit.specs.Size.{metadata_size, case_size, work32_room, sets_room, max_instructions, max_local_slots}
use Rattle.effects.specs.Check.{operand_refusal}
use Rattle.effects.specs.Shape.{Sections}
use Rattle.effects.specs.laws.Cells.{cell_of, cells_by}
use Rattle.flow.specs.laws.BranchLaws.{BranchesInside}
use Rattle.flow.specs.laws.Flags.{Flags}
use Rattle.flow.specs.laws.Marks.{Marked}
use Rattle.flow.specs.Loop.{anchors}
use Rattle.liveness.specs.Dead.{dead_stores}
use Rattle.answer.specs.Pass.{kept_places, useful_places}
use Rattle.removal.specs.laws.Jumping.{map_of, ends_in}

-- what `retain` is given: checked code, its leaders, and the reached places; "number of types is not s" was refused
pub record Retainable (S : Sections) (n : ℕ) (words metadata leads marks : List ℕ) (room32 room64 : ℕ) : Type 0 where
  pub some : 1 < n
  pub few : n ≤ max_instructions
  pub typed : length S.types ≡ S.locals
  pub slots : S.locals ≤ max_local_slots
  pub entries : length metadata ≡ metadata_size * n
  pub good : (p : ℕ) → p < n → good_metadata (length S.tables.cases / case_size) (metadata_at metadata p) ≡ true
  pub flags : Flags leads
  pub one : Marked leads 0
  pub marked : Flags marks
  pub operands : (p : ℕ) → p < n → operand_refusal S.locals S.tables (cell_of metadata p (get_or words p 0)) ≡ 0
  pub inside : BranchesInside words
  pub long32 : work32_room n ≤ room32
  pub long64 : sets_room n S.locals ≤ room64

-- what is left after plain hints: the useful places, and the loop ends
pub record Useful (words metadata work work' : List ℕ) : Type 0 where
  pub keep : mid_of 0 (length words) work' ≡ useful_places (mid_of 0 (length words) work) (cells_by words metadata)
  pub ends : ends_in (length words) work' ≡ anchors (mid_of 0 (length words) work) (cells_by words metadata)

-- after dead stores
pub record Stored (S : Sections) (n : ℕ) (metadata work32 work64 work32' work64' : List ℕ) : Type 0 where
  pub keep : mid_of (keep_at n) n work32'
      ≡ dead_stores S (mid_of 0 n work32) (mid_of (keep_at n) n work32) (cells_by (mid_of 0 n work64) metadata)
  pub ends : mid_of (keep_at n + loop_ends_in n) n work32' ≡ mid_of (keep_at n + loop_ends_in n) n work32
  pub code : mid_of 0 n work64' ≡ mid_of 0 n work64

-- what it leaves: the retained places and their map; the code as it was
pub record Retains (S : Sections) (n : ℕ) (metadata work32 work64 work32' work64' : List ℕ) : Type 0 where
  pub keep : mid_of (keep_at n) n work32'
      ≡ kept_places S (mid_of 0 n work32) (mid_of (keep_at n) n work32) (cells_by (mid_of 0 n work64) metadata)
  pub flags : Flags (mid_of (keep_at n) n work32')
  pub bounds : mid_of (keep_at n + n) (n + 1) work32' ≡ map_of (mid_of (keep_at n) n work32')
  pub code : mid_of 0 n work64' ≡ mid_of 0 n work64
