-- Live rows and dead stores in lent memory: what each walk asks, and what all of them leave.
-- Assumes nothing.
use Rattle.std.specs.Prelude.{Option, None, Some, ◌≡◌, Bool, true, false, List, ℕ, ◌+◌, ◌*◌, ◌-◌, ◌/◌, ◌≤◌, ◌<◌, length, get_or, take, replicate}
use Rattle.std.proofs.Common.{sym, ap, ◌∙◌, zero-add, mul-pos, arith, take-take}
use Rattle.std.proofs.lemmas.List.{length-replicate}
use borrow.Rule.Slice.PartMut.{mid_of, put_mid, put_same, take_put}
use Rattle.words.specs.laws.Regions.{mid_long, get_mid, mid_put, put_long}
use Rattle.unit.specs.laws.Region.{starts_at, keep_at}
use Rattle.unit.specs.Size.{set_words, max_set_words, sets_room, metadata_size}
use Rattle.effects.specs.Shape.{Tables, Sections, Cell}
use Rattle.effects.specs.laws.Cells.{cell_of, cells_by}
use Rattle.use_def.specs.laws.Touched.{Fits}
use Rattle.liveness.specs.declared.SetLayout.{SetLayout}
use Rattle.liveness.specs.Live.{Row, no_row, max_liveness_work, live_rows}
use Rattle.liveness.specs.Dead.{dead_stores}
use Rattle.liveness.specs.laws.Visit.{Rising, Summed}
use Rattle.liveness.specs.laws.SetMemory.{LayoutFits, laid_out, laid_out_lem, code_words, uses_of, preserved_of, live_of, leaders_of, blocks_of, flags_of, Coded, Ready, Sweepable}
use Rattle.liveness.specs.laws.Rounding.{Around}
use Rattle.liveness.specs.laws.Solving.{Solved}
use Rattle.liveness.specs.laws.Sweep.{Grounds, Sweeps, sections}
use Rattle.liveness.specs.laws.Droppable.{Droppable, few_words, room_words, few_blocks, some_blocks, fits_at, typed_at, held_at, block_row, starts_rise}
use Rattle.liveness.specs.laws.Stores.{around_start, grounds_found, same_rows_lem, dropped}

abbrev pub starts_of : ℕ → List ℕ → List ℕ
starts_of n t = mid_of (starts_at n) (n + 1) t

-- what is known of code, table and other sections
abbrev pub Known : Tables → ℕ → ℕ → List ℕ → List ℕ → List ℕ → List ℕ → Type 0
Known T n count memory metadata types table = Droppable T n count (mid_of 0 n memory) metadata types (leaders_of n table) (blocks_of n table) (starts_of n table) (flags_of n table)

-- the sets are within their limit, and there is room for them
pub record Workable (s : SetLayout) (T : Tables) (memory metadata types table : List ℕ) : Type 0 where
  pub known : Known T s.code s.count memory metadata types table
  pub width : s.width ≡ set_words (length types)
  pub some : 0 < s.width
  pub few : s.width * s.count ≤ max_set_words
  pub laid : LayoutFits s (length memory)
  pub long_table : keep_at s.code + s.code ≤ length table

pub workable : {T : Tables} {n count : ℕ} {memory metadata types table : List ℕ} (d : Known T n count memory metadata types table) {w : ℕ} (ew : w ≡ set_words (length types))
    (s : SetLayout) → s ≡ laid_out n w count → 0 < w → w * count ≤ max_set_words → sets_room n (length types) ≤ length memory → keep_at n + n ≤ length table → Workable s T memory metadata types table
workable {n = n} {count = count} {memory = memory} d {w} ew s e words few room long =
    rw e
    (record {
      known = d;
      width = ew;
      some = words;
      few = few;
      laid = laid_out_lem n w count (length memory) (room_words d ew (length memory) room words few);
      long_table = omega arith;
    })

-- the live rows of the code in memory, by the leaders and the flags of kept places in the table
abbrev pub rows_by : Tables → ℕ → List ℕ → List ℕ → List ℕ → List ℕ → List ℕ → Option (List Row)
rows_by T n memory metadata types table constants = live_rows (sections (length types) types constants T) (leaders_of n table) (flags_of n table) (cells_by (mid_of 0 n memory) metadata)

-- they were found and stand in the sets of live slots: all that a sweep asks for and goes by
pub record RowsIn (s : SetLayout) (T : Tables) (memory metadata types table constants : List ℕ) : Type 0 where
  pub workable : Workable s T memory metadata types table
  pub rows : List Row
  pub found : rows_by T s.code memory metadata types table constants ≡ Some rows
  pub grounds : Grounds (sections (length types) types constants T) (leaders_of s.code table) (flags_of s.code table) (cells_by (code_words s memory) metadata) rows s.width (blocks_of s.code table) (live_of s memory)

-- what the sweep that drops dead stores leaves of the table
pub rows_swept : {s : SetLayout} {T : Tables} {memory metadata types table constants : List ℕ} → RowsIn s T memory metadata types table constants → (memory' table' : List ℕ) → Sweeps s memory metadata types T table memory' table'
    → table' ≡ put_mid (keep_at s.code) s.code table (dead_stores (sections (length types) types constants T) (leaders_of s.code table) (flags_of s.code table) (cells_by (code_words s memory) metadata))
rows_swept {s = s} {types = types} {table = table} {constants = constants} f memory' table' h =
    h.1 ∙ ap (put_mid (keep_at s.code) s.code table) (h.0 (length types) constants f.rows f.grounds ∙ dropped _ _ _ _ f.rows f.found)

-- a region written as it is
pub put_itself : (a k : ℕ) (table ys : List ℕ) → mid_of a k table ≡ ys → table ≡ put_mid a k table ys
put_itself a k table ys e = sym (put_same a k table) ∙ ap (put_mid a k table) e

module _ {s : SetLayout} {T : Tables} {memory metadata types table : List ℕ} (g : Workable s T memory metadata types table) where
  abbrev n : ℕ
  n = s.code

  abbrev size : ℕ
  size = s.width * s.count

  abbrev leaders : List ℕ
  leaders = leaders_of n table

  abbrev blocks : List ℕ
  blocks = blocks_of n table

  abbrev starts : List ℕ
  starts = starts_of n table

  abbrev keep : List ℕ
  keep = flags_of n table

  abbrev code : List ℕ
  code = code_words s memory

  abbrev cells : List Cell
  cells = cells_by code metadata

  -- the parts of the table that the walks are given
  pub part_blocks : (a : ℕ) → a ≡ starts_at n → mid_of n (a - n) table ≡ blocks
  part_blocks a same = let e : a - n ≡ n = omega arith in rw e

  pub part_starts : (a b : ℕ) → a ≡ starts_at n → b ≡ keep_at n → mid_of a (b - a) table ≡ starts
  part_starts a b same same' = let e : b - a ≡ n + 1 = omega arith in rw (e, same)

  pub part_flags : (b : ℕ) → b ≡ keep_at n → mid_of b (b + n - b) table ≡ keep
  part_flags b same = let e : b + n - b ≡ n = omega arith in rw (e, same)

  -- there is a word
  pub some_size : 0 < size
  some_size = mul-pos g.some (some_blocks g.known g.width)

  -- ---- what the walks ask of memory that still holds the code

  module _ (m : List ℕ) (long : length m ≡ length memory) (same : code_words s m ≡ code_words s memory) where
    word_at : (p : ℕ) → p < n → get_or m p 0 ≡ get_or code p 0
    word_at p h = sym (get_mid m 0 n p 0 h ∙ rw zero-add) ∙ ap (λ (l : List ℕ). get_or l p 0) same

    pub fits_in : (p : ℕ) → p < n → Fits s.width T (cell_of metadata p (get_or m p 0))
    fits_in p h = rw (word_at p h) (fits_at g.known g.width p h)

    pub still_workable : Workable s T m metadata types table
    still_workable = record { known = rw same g.known; width = g.width; some = g.some; few = g.few; laid = rw long g.laid; long_table = g.long_table }

    pub coded : Coded s m blocks
    coded = record {
      laid = rw long g.laid;
      most = g.known.most;
      long_blocks = g.known.long_blocks;
      inside = λ p h. rw (word_at p h) (g.known.inside p h);
      rows_inside = block_row g.known g.width;
    }

    few_starts : s.count < length starts
    few_starts = rw g.known.long_starts (omega (arith, few_blocks g.known g.width))

    pub summarizable : (keep' starts' : List ℕ) → keep' ≡ keep → starts' ≡ starts
        → LayoutFits s (length m) × (s.count < length starts') × Rising starts' s.count n × (metadata_size * n ≤ length metadata) × (length keep' ≡ n)
        × ((p : ℕ) → p < n → Fits s.width T (cell_of metadata p (get_or m p 0))) × (0 < s.width)
    summarizable keep' starts' a b = rw (a, b) (rw long g.laid, few_starts, starts_rise g.known g.width, g.known.entries, g.known.long_keep, fits_in, g.some)

    pub ready : (blocks' starts' : List ℕ) → blocks' ≡ blocks → starts' ≡ starts → Ready s m blocks' starts'
    ready blocks' starts' a b = rw (a, b) (record { coded = coded; long_starts = few_starts; rising = starts_rise g.known g.width })

    pub sweepable : Sweepable s T m metadata types table
    sweepable = record {
      coded = coded;
      long_table = g.long_table;
      entries = g.known.entries;
      few = few_words g.known g.width;
      typed = λ p h. rw (word_at p h) (typed_at g.known g.width p h);
      held = λ p h. rw (word_at p h) (held_at g.known g.width p h);
      fits = fits_in;
    }

  -- what the rounds start from
  pub record Begun (m : List ℕ) : Type 0 where
    pub long : length m ≡ length memory
    pub same : code_words s m ≡ code_words s memory
    pub empty : live_of s m ≡ replicate size 0
    pub summed : Summed T keep cells s.width starts (uses_of s m) (preserved_of s m) s.count

  -- ---- the sets of live slots are emptied

  module _ (zeros : List ℕ) (e : zeros ≡ replicate (length (mid_of s.live (s.live + size - s.live) memory)) 0) where
    abbrev m : List ℕ
    m = put_mid s.live (s.live + size - s.live) memory zeros

    room : s.live + size ≤ length memory
    room = g.laid.end

    put_zeros : m ≡ put_mid s.live size memory (replicate size 0)
    put_zeros =
        let k : s.live + size - s.live ≡ size = omega arith in
        rw (e, k, mid_long memory s.live size room)

    pub zero_long : length m ≡ length memory
    zero_long = rw put_zeros (put_long memory s.live size (replicate size 0) (length-replicate {A = ℕ} size 0) room)

    pub zero_code : code_words s m ≡ code_words s memory
    zero_code =
        let l = g.laid in
        let before : n ≤ s.live = omega (arith, l.row, l.uses, l.preserved, l.live) in
        let inside : s.live ≤ length memory = omega (arith, room) in
        rw put_zeros
        (sym (take-take n s.live (put_mid s.live size memory (replicate size 0)) before)
        ∙ ap (take n) (take_put s.live size memory (replicate size 0) inside)
        ∙ take-take n s.live memory before)

    zero_live : live_of s m ≡ replicate size 0
    zero_live = rw put_zeros (mid_put memory s.live size (replicate size 0) (length-replicate {A = ℕ} size 0) room)

    -- and the other sets are made
    pub begun : (m' keep' starts' : List ℕ) → keep' ≡ keep → starts' ≡ starts → length m' ≡ length m
        → Summed T keep' (cells_by (code_words s m) metadata) s.width starts' (uses_of s m') (preserved_of s m') s.count × (code_words s m' ≡ code_words s m) × (live_of s m' ≡ live_of s m) → Begun m'
    begun m' keep' starts' a b long f =
        let made = rw (a, b, zero_code) at f.0 in
        record { long = long ∙ zero_long; same = f.1 ∙ zero_code; empty = f.2 ∙ zero_live; summed = made }

  -- ---- the answer

  abbrev all : List ℕ → Sections
  all constants = sections (length types) types constants T

  -- what `solve` tells of memory before and after it
  abbrev Rounds : List ℕ → List ℕ → List ℕ → List ℕ → Bool → Type 0
  Rounds m m' blocks' starts' r = (S : Sections) (leaders keep metadata : List ℕ) (rows : List Row)
      → Around S leaders keep (cells_by (code_words s m) metadata) s.width s.count rows blocks' starts' (uses_of s m) (preserved_of s m) (live_of s m)
      → Solved S leaders keep (cells_by (code_words s m) metadata) s.width (max_liveness_work / size) rows (live_of s m') r

  module _ (m m' blocks' starts' : List ℕ) (b : Begun m) (eb : blocks' ≡ blocks) (es : starts' ≡ starts) (r : Bool) (rounds : Rounds m m' blocks' starts' r) (constants : List ℕ) where
    solved : Solved (all constants) leaders keep cells s.width (max_liveness_work / size) (replicate s.count (no_row (all constants) (length cells) leaders keep)) (live_of s m') r
    solved =
        let uses : length (uses_of s m) ≡ size = let l = g.laid in mid_long m s.uses size (rw b.long (omega (arith, l.preserved, l.live, l.end))) in
        (rw (b.same, eb, es) at rounds) (all constants) leaders keep metadata _ (around_start g.known g.width constants (uses_of s m) (preserved_of s m) (live_of s m) b.empty uses b.summed)

    pub rows_none : r ≡ false → rows_by T n memory metadata types table constants ≡ None
    rows_none e = same_rows_lem g.known g.width constants g.some g.few ∙ solved.no e

    pub rows_found : r ≡ true → length m' ≡ length m → code_words s m' ≡ code_words s m → RowsIn s T m' metadata types table constants
    rows_found e long code =
        let f = solved.yes e in
        let same : code_words s m' ≡ code_words s memory = code ∙ b.same in
        record {
          workable = still_workable m' (long ∙ b.long) same;
          rows = f.found;
          found = rw same (same_rows_lem g.known g.width constants g.some g.few ∙ f.solved);
          grounds = rw same (grounds_found g.known g.width constants (live_of s m') f);
        }
