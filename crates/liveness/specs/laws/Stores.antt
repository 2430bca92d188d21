-- From the walks over lent memory to the definitions: the rows that they find are `live_rows`, and what they leave of the kept places is `dead_stores`.
-- Assumes nothing.
use Rattle.std.specs.Prelude.{Option, None, Some, ◌≡◌, Bool, List, ℕ, ◌+◌, ◌*◌, ◌/◌, ◌≤◌, ◌<◌, eqb, length, get_or, replicate}
use Rattle.std.proofs.Math.Path.{refl}
use Rattle.std.proofs.Common.{sym, ap, ◌∙◌, arith, ext_get_or}
use Rattle.std.proofs.Math.Bool.{true, false, cond}
use Rattle.std.proofs.lemmas.List.{length-replicate, get_or-replicate}
use borrow.Author.Tests.{ne_eqb, le-leb, lt-leb}
use Rattle.words.specs.laws.Regions.{mid_long, get_mid}
use Rattle.instruction.specs.Instruction.{of_word}
use Rattle.unit.specs.Size.{set_words, max_set_words}
use Rattle.effects.specs.Shape.{Tables, Sections, Cell, cell_at}
use Rattle.effects.specs.laws.Cells.{cells_by, cells_long, cell_at_lem}
use Rattle.flow.specs.Branch.{branch_inside}
use Rattle.use_def.specs.laws.Wordwise.{none_in}
use Rattle.liveness.specs.Live.{Row, no_row, solve_in, max_liveness_work, live_rows}
use Rattle.liveness.specs.Dead.{sweep_from, without_dead, dead_stores}
use Rattle.liveness.specs.laws.Rows.{no_bit, start_wide}
use Rattle.liveness.specs.laws.Shown.{row_at, Shown, row_before}
use Rattle.liveness.specs.laws.Visit.{Summed}
use Rattle.liveness.specs.laws.Rounding.{Around}
use Rattle.liveness.specs.laws.Solving.{Found}
use Rattle.liveness.specs.laws.Sweep.{Grounds, sections}
use Rattle.liveness.specs.laws.Droppable.{Droppable, enough_words, reads_within}

-- ---- by the rows that are found, dead stores are dropped; where none are, they are skipped

module _ (S : Sections) (leaders keep : List ℕ) (cells : List Cell) where
  pub skipped : live_rows S leaders keep cells ≡ None → keep ≡ dead_stores S leaders keep cells
  unfolding dead_stores without_dead
  skipped e = rw e

  pub dropped : (rows : List Row) → live_rows S leaders keep cells ≡ Some rows → (sweep_from S (length cells) leaders keep rows 0 cells).keep ≡ dead_stores S leaders keep cells
  unfolding dead_stores without_dead
  dropped rows e = rw e

-- ---- words of 0 show rows without any slot

abbrev zeros : ℕ → List ℕ
zeros k = replicate k 0

zero_row : (w count b : ℕ) → b < count → row_at w (zeros (w * count)) b ≡ zeros w
zero_row w count b h =
    let all : length (zeros (w * count)) ≡ w * count = length-replicate {A = ℕ} (w * count) 0 in
    let room : w * b + w ≤ w * count = row_before w b count h in
    let long : length (row_at w (zeros (w * count)) b) ≡ w = mid_long (zeros (w * count)) (w * b) w (rw all room) in
    ext_get_or 0 (row_at w (zeros (w * count)) b) (zeros w) (long ∙ sym (length-replicate {A = ℕ} w 0))
    (λ i g.
    let k : i < w = rw long at g in
    get_mid (zeros (w * count)) (w * b) w i 0 k ∙ get_or-replicate {A = ℕ} (w * count) (w * b + i) 0 0 (omega arith) ∙ sym (get_or-replicate {A = ℕ} w i 0 0 k))

module _ {T : Tables} {n count : ℕ} {words metadata types leaders blocks starts keep : List ℕ} (d : Droppable T n count words metadata types leaders blocks starts keep)
    {w : ℕ} (ew : w ≡ set_words (length types)) (constants : List ℕ) where
  abbrev S : Sections
  S = sections (length types) types constants T

  abbrev cells : List Cell
  cells = cells_by words metadata

  abbrev nothing : Row
  nothing = no_row S (length cells) leaders keep

  abbrev limit : ℕ
  limit = max_liveness_work / (w * count)

  abbrev first : List Row
  first = replicate count nothing

  long_cells : length cells ≡ n
  long_cells = cells_long words metadata ∙ d.long_words

  start_shown : Shown w nothing first (replicate (w * count) 0)
  start_shown = record {
    long = length-replicate {A = ℕ} (w * count) 0 ∙ ap (λ (k : ℕ). w * k) (sym (length-replicate count nothing));
    held = λ b h t.
        let k : b < count = rw (length-replicate count nothing) at h in
        rw (zero_row w count b k, get_or-replicate count b nothing nothing k) (none_in w t ∙ sym (no_bit S (length cells) leaders keep t));
  }

  inside_cells : (p : ℕ) → p < length cells → branch_inside (length cells) p (cell_at cells p).instruction ≡ true
  inside_cells p h =
      let k : p < n = rw long_cells at h in
      let x : (cell_at cells p).instruction ≡ of_word (get_or words p 0) = ap (λ (x : Cell). x.instruction) (cell_at_lem words metadata p (rw d.long_words k)) in
      rw (long_cells, x) (d.inside p k)

  -- what the rounds start from
  pub around_start : (uses preserved live : List ℕ) → live ≡ replicate (w * count) 0 → length uses ≡ w * count → Summed T keep cells w starts uses preserved count
      → Around S leaders keep cells w count first blocks starts uses preserved live
  around_start uses preserved live z long s = record {
    long = d.long_leaders ∙ sym long_cells;
    flags = d.flags;
    one = d.one;
    some = rw long_cells d.some;
    wide = start_wide S (length cells) leaders keep count;
    total = d.total;
    each = length-replicate count nothing ∙ d.total;
    numbers = rw long_cells d.numbers;
    places = d.places;
    room = enough_words d ew;
    long_uses = long;
    within = reads_within d ew;
    inside = inside_cells;
    summed = s;
    shown = rw z start_shown;
  }

  -- what the sweep starts from
  pub grounds_found : (live : List ℕ) (f : Found S leaders keep cells w limit first live) → Grounds S leaders keep cells f.found w blocks live
  grounds_found live f = record {
    long = d.long_leaders ∙ sym long_cells;
    flags = d.flags;
    one = d.one;
    wide = f.wide;
    each = f.each;
    numbers = rw long_cells d.numbers;
    inside = inside_cells;
    within = reads_within d ew;
    shown = f.shown;
    long_keep = d.long_keep ∙ sym long_cells;
    keep_flags = d.keep_flags;
  }

  -- ---- within both limits, rows are sought

  abbrev answer : Option (List Row)
  answer = live_rows S leaders keep cells

  pub no_words : w ≡ 0 → answer ≡ None
  unfolding live_rows
  no_words e = rw (← ew, e)

  pub too_many : max_set_words < w * count → answer ≡ None
  unfolding live_rows
  too_many h = rw (← d.total, ← ew, lt-leb (w * count) max_set_words h) (go (eqb w 0))
    where
      go : (t : Bool) → cond {A = Option (List Row)} t None None ≡ None
      go true = refl
      go false = refl

  pub same_rows_lem : 0 < w → w * count ≤ max_set_words → answer ≡ solve_in S (length cells) leaders keep limit cells first
  unfolding live_rows
  same_rows_lem words few = rw (← d.total, ← ew, ne_eqb w 0 (λ e. omega arith), le-leb (w * count) max_set_words few)
