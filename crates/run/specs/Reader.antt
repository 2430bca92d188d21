-- Definitions. Document 02, L7: which stores have a reader. "Paths go over the code as it is after unreachable code and plain hints are gone and
-- before stores are dropped", and know nothing of live slots.
-- Assumes nothing.
use Rattle.std.specs.Prelude.{Some, ◌≡◌, ◌⊎◌, Bool, true, false, ◌&&◌, List, ℕ, suc, ◌<◌, length}
use Rattle.words.specs.Lists.{is_in}
use Rattle.instruction.specs.Class.{is_pure}
use Rattle.instruction.specs.Instruction.{class}
use Rattle.effects.specs.Shape.{Tables, Sections, Cell, cell_at}
use Rattle.effects.specs.Effects.{all_reads, sure_writes, range_has, any_of}
use Rattle.flow.specs.Block.{leaders as leaders_of}
use Rattle.flow.specs.Loop.{reached_places}
use Rattle.values.specs.Number.{is_scalar, number_code}
use Rattle.pc_map.specs.Boundary.{is_kept}
use Rattle.liveness.specs.Live.{Row, edges, is_last, live_rows}
use Rattle.liveness.specs.Dead.{dead_stores}
use Rattle.answer.specs.Pass.{useful_places}

-- "Blocks and successors are those of the Rust's liveness": by the leaders of the given code, and the edges of the rewritten code. `useful` has the
-- places that are left when unreachable code and plain hints are gone, `kept` those that are left when stores are dropped too.
module _ (T : Tables) (leaders useful kept : List ℕ) (cells : List Cell) where
  -- a declared read, and a sure write, of a slot; a place that is gone has none
  abbrev pub reads_slot : ℕ → ℕ → Bool
  reads_slot q t = is_kept useful q && any_of (range_has t) (all_reads T (cell_at cells q))

  abbrev pub writes_slot : ℕ → ℕ → Bool
  writes_slot q t = is_kept useful q && any_of (range_has t) (sure_writes T (cell_at cells q))

  abbrev pub ends_block_at : ℕ → Bool
  ends_block_at q = is_last (length cells) leaders q

  abbrev pub is_edge : ℕ → ℕ → Bool
  is_edge q r = is_in r (edges (length cells) q (cell_at cells q))

  -- a path from place q on to a read of slot t, with no sure write of it between; whether it has left the store's block before q
  pub data Reader (t : ℕ) : Bool → ℕ → Type 0 where
    -- "A read reached without leaving the store's block counts only if its instruction remains; every other read counts, also one reached by
    -- leaving and coming back."
    read : {left : Bool} {q : ℕ} → reads_slot q t ≡ true → (left ≡ true) ⊎ (is_kept kept q ≡ true) → Reader t left q
    inner : {left : Bool} {q : ℕ} → writes_slot q t ≡ false → ends_block_at q ≡ false → Reader t left (suc q) → Reader t left q
    edge : {left : Bool} {q r : ℕ} → writes_slot q t ≡ false → ends_block_at q ≡ true → is_edge q r ≡ true → Reader t true r → Reader t left q

  -- "a path leads from it to a declared read of one of its slots with no sure write of that slot between"
  pub data HasReader (p : ℕ) : Type 0 where
    within : {t : ℕ} → writes_slot p t ≡ true → ends_block_at p ≡ false → Reader t false (suc p) → HasReader p
    beyond : {t r : ℕ} → writes_slot p t ≡ true → ends_block_at p ≡ true → is_edge p r ≡ true → Reader t true r → HasReader p

-- "a .. pure store into scalar slots"
pub record ScalarStore (S : Sections) (x : Cell) : Type 0 where
  pub pure : is_pure (class x.instruction) ≡ true
  pub scalar : (t : ℕ) → any_of (range_has t) (sure_writes S.tables x) ≡ true → is_scalar S t ≡ true

-- the code of the given cells before anything is removed, and its useful places: what is reached and is no plain hint
abbrev pub numbered : Sections → List Cell → List Cell
numbered S cells = number_code S (leaders_of cells) cells

abbrev pub useful_in : Sections → List Cell → List ℕ
useful_in S cells = useful_places (reached_places (numbered S cells)) (numbered S cells)

-- "Where .. w is not 0 and liveness stays inside both limits"
abbrev pub LiveFound : Sections → List Cell → Type 0
LiveFound S cells = (rows : List Row) × (live_rows S (leaders_of cells) (useful_in S cells) (numbered S cells) ≡ Some rows)

-- a store of the given cells has a reader
abbrev pub HasReaderIn : Sections → List Cell → ℕ → Type 0
HasReaderIn S cells p =
    HasReader S.tables (leaders_of cells) (useful_in S cells) (dead_stores S (leaders_of cells) (useful_in S cells) (numbered S cells)) (numbered S cells) p

-- Document 02, L7, of given cells and the places that remain: "a reachable pure store into scalar slots remains exactly if" it has a reader. A
-- place that is not reached does not remain, and has none.
pub record StoresRead (S : Sections) (cells : List Cell) (remains : ℕ → Bool) : Type 0 where
  pub reader : (p : ℕ) → p < length cells → ScalarStore S (cell_at (numbered S cells) p) → remains p ≡ true → HasReaderIn S cells p
  pub kept : (p : ℕ) → p < length cells → ScalarStore S (cell_at (numbered S cells) p) → HasReaderIn S cells p → remains p ≡ true
