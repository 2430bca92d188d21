-- What the pass knows of its code where it drops dead stores, and what that gives each of the three walks.
-- Assumes nothing.
use Rattle.std.specs.Prelude.{◌≡◌, refl, Bool, true, false, ◌||◌, List, [], ◌∷◌, ℕ, ◌+◌, ◌*◌, ◌/◌, ◌≤◌, ◌<◌, min, eqb, leb, length, get_or}
use Rattle.std.proofs.Common.{sym, mul_comm, mul_assoc, mul-le-mul_left, le-div_iff_mul-le, arith, leb-true, le-leb}
use Rattle.std.proofs.lemmas.Bool.{false≢true}
use Rattle.std.proofs.Math.Nat.{le-min}
use Rattle.std.proofs.Math.Decide.{dec_le}
use Rattle.std.proofs.Math.ListN.{get_or-eq_default}
use Rattle.words.specs.Lists.{tabulate}
use Rattle.words.specs.laws.Lists.{get_d_tabulate}
use Rattle.instruction.specs.declared.Instruction.{Instruction}
use Rattle.instruction.specs.declared.Class.{Class}
use Rattle.instruction.specs.declared.Class.TheVariants.{Hint, LoadInt, LoadConst, Copy, CopyN, Unary, Binary, Jump, JumpIf, JumpIfNot, ForLoop, Return, Panic, Outside, Invalid}
use Rattle.instruction.specs.Instruction.{of_word, class}
use Rattle.unit.specs.Size.{set_words, max_set_words, sets_room, metadata_size, case_size, max_instructions, max_local_slots}
use Rattle.unit.specs.Entry.{metadata_at, good_metadata}
use Rattle.effects.specs.declared.Range.{Range}
use Rattle.effects.specs.Shape.{Tables, Cell, cell_at, no_cell}
use Rattle.effects.specs.Table.{read_shape, array_shape, shape_in}
use Rattle.effects.specs.Effects.{reads, arrays, all_reads, sure_writes, range_within, all_of}
use Rattle.effects.specs.laws.Form.{empty_range}
use Rattle.effects.specs.Check.{operand_refusal}
use Rattle.effects.specs.laws.Cells.{cell_of, cells_by, cells_long, cell_at_lem}
use Rattle.words.specs.laws.Truth.{left_true, right_true}
use Rattle.effects.specs.laws.Operands.{cases_inside}
use Rattle.effects.specs.laws.ByClass.{is_outside, writes_by_class}
use Rattle.effects.proofs.laws.ByClass.{sure_by_class}
use Rattle.effects.specs.laws.Sound.{Sound, sound, sure_within}
use Rattle.flow.specs.Branch.{branch_inside}
use Rattle.flow.specs.Block.{block_of, block_count}
use Rattle.flow.specs.laws.Blocks.{block_start, block_walk, block_below}
use Rattle.flow.specs.laws.Marks.{Marked}
use Rattle.flow.specs.laws.Flags.{Flags, sum_whole, sum_most, sum_first}
use Rattle.use_def.specs.laws.Touched.{Within, Fits, within_any}
use Rattle.liveness.specs.laws.Shown.{row_before}
use Rattle.liveness.specs.laws.Visit.{Rising}

-- the code was checked, its blocks are numbered, and the flags of kept places are there
pub record Droppable (T : Tables) (n count : ℕ) (words metadata types leaders blocks starts keep : List ℕ) : Type 0 where
  pub some : 0 < n
  pub most : n ≤ max_instructions
  pub few : length types ≤ max_local_slots
  pub entries : metadata_size * n ≤ length metadata
  pub long_words : length words ≡ n
  pub long_leaders : length leaders ≡ n
  pub long_blocks : length blocks ≡ n
  pub long_starts : length starts ≡ n + 1
  pub long_keep : length keep ≡ n
  pub flags : Flags leaders
  pub one : Marked leaders 0
  pub keep_flags : Flags keep
  pub total : count ≡ block_count leaders
  pub numbers : blocks ≡ tabulate n (block_of leaders)
  pub places : (b : ℕ) → b ≤ count → get_or starts b 0 ≡ block_start leaders b
  pub good : (p : ℕ) → p < n → good_metadata (length T.cases / case_size) (metadata_at metadata p) ≡ true
  pub operands : (p : ℕ) → p < n → operand_refusal (length types) T (cell_of metadata p (get_or words p 0)) ≡ 0
  pub inside : (p : ℕ) → p < n → branch_inside n p (of_word (get_or words p 0)) ≡ true

-- ---- ranges

wider : (s t : ℕ) → s ≤ t → (r : Range) → range_within s r ≡ true → range_within t r ≡ true
unfolding range_within
wider s t h r e = go (eqb r.count 0) (leb (r.start + r.count) s) refl e
  where
    go : (a b : Bool) → leb (r.start + r.count) s ≡ b → (a || b) ≡ true → (a || leb (r.start + r.count) t) ≡ true
    go true b q e = refl
    go false true q e = le-leb (r.start + r.count) t (omega (arith, leb-true (r.start + r.count) s q))
    go false false q e = absurd (false≢true e)

all_wider : (s t : ℕ) → s ≤ t → (l : List Range) → Within s l → Within t l
unfolding all_of
all_wider s t h [] e = refl
all_wider s t h (r ∷ l) e =
    rw (wider s t h r (left_true (range_within s r) (all_of (range_within s) l) e), all_wider s t h l (right_true (range_within s r) (all_of (range_within s) l) e))

-- the range that is written by class is the first of those written, or empty
none_outside : (k : Class) (i : Instruction) → is_outside k ≡ true → writes_by_class k i ≡ []
unfolding is_outside writes_by_class
none_outside Hint i e = absurd (false≢true e)
none_outside LoadInt i e = absurd (false≢true e)
none_outside LoadConst i e = absurd (false≢true e)
none_outside Copy i e = absurd (false≢true e)
none_outside CopyN i e = absurd (false≢true e)
none_outside Unary i e = absurd (false≢true e)
none_outside Binary i e = absurd (false≢true e)
none_outside Jump i e = absurd (false≢true e)
none_outside JumpIf i e = absurd (false≢true e)
none_outside JumpIfNot i e = absurd (false≢true e)
none_outside ForLoop i e = absurd (false≢true e)
none_outside Return i e = absurd (false≢true e)
none_outside Panic i e = absurd (false≢true e)
none_outside Outside i e = refl
none_outside Invalid i e = refl

written_within : (s : ℕ) (T : Tables) (x : Cell) → Within s (sure_writes T x) → range_within s (get_or (writes_by_class (class x.instruction) x.instruction) 0 empty_range) ≡ true
unfolding range_within
written_within s T x e = go (is_outside (class x.instruction)) refl
  where
    go : (t : Bool) → is_outside (class x.instruction) ≡ t → range_within s (get_or (writes_by_class (class x.instruction) x.instruction) 0 empty_range) ≡ true
    go true q = rw (none_outside (class x.instruction) x.instruction q)
    go false q = within_any s (writes_by_class (class x.instruction) x.instruction) (rw (sure_by_class T x q) at e) 0

-- where there is no cell, nothing is read
nothing_read : (s : ℕ) (T : Tables) → Within s (all_reads T no_cell)
unfolding all_reads reads arrays read_shape array_shape shape_in all_of
nothing_read s T = refl

-- ---- the code, its sets and its blocks

module _ {T : Tables} {n count : ℕ} {words metadata types leaders blocks starts keep : List ℕ} (d : Droppable T n count words metadata types leaders blocks starts keep)
    {w : ℕ} (ew : w ≡ set_words (length types)) where
  abbrev s : ℕ
  s = length types

  abbrev cells : List Cell
  cells = cells_by words metadata

  pub few_words : w ≤ 1024
  few_words = let h = d.few in omega arith

  pub enough_words : s ≤ 64 * w
  enough_words = omega arith

  -- there is a block, and no more than places
  pub some_blocks : 0 < count
  some_blocks =
      let f = sum_first leaders n d.one d.some in
      let e : block_count leaders ≡ count = sym d.total in
      let g = sum_whole leaders in
      omega (arith, rw d.long_leaders at g)

  pub few_blocks : count ≤ n
  few_blocks =
      let f = sum_most leaders d.flags n in
      let e : block_count leaders ≡ count = sym d.total in
      let g = sum_whole leaders in
      omega (arith, rw d.long_leaders at g)

  -- the words of the code, one set, and three sets for each block are inside what is lent
  pub room_words : (m : ℕ) → sets_room n s ≤ m → 0 < w → w * count ≤ max_set_words → n + w + 3 * (w * count) ≤ m
  room_words m h some few =
      let most : count ≤ max_set_words / w = (le-div_iff_mul-le some).1 (rw (mul_comm count w) few) in
      let lesser : count ≤ min n (max_set_words / w) = le-min few_blocks most in
      let product : 3 * w * count ≤ 3 * w * min n (max_set_words / w) = mul-le-mul_left (3 * w) lesser in
      let same : 3 * w * count ≡ 3 * (w * count) = mul_assoc 3 w count in
      let all : n + w + 3 * w * min n (max_set_words / w) ≤ m = rw ew h in
      sizes n w (3 * w * count) (3 * (w * count)) (3 * w * min n (max_set_words / w)) m product same all
    where
      sizes : (n w a b c m : ℕ) → a ≤ c → a ≡ b → n + w + c ≤ m → n + w + b ≤ m
      sizes n w a b c m p q h = omega arith

  checked : (p : ℕ) → p < n → Sound s T (cell_of metadata p (get_or words p 0))
  checked p h = sound s T (cell_of metadata p (get_or words p 0)) (d.operands p h)

  pub fits_at : (p : ℕ) → p < n → Fits w T (cell_of metadata p (get_or words p 0))
  fits_at p h =
      let x : Cell = cell_of metadata p (get_or words p 0) in
      record {
        few = few_words;
        cases = cases_inside T x (d.good p h) (checked p h).demand;
        reads_fit = all_wider s (64 * w) enough_words (all_reads T x) (checked p h).reads_within;
        writes_fit = all_wider s (64 * w) enough_words (sure_writes T x) (sure_within (checked p h));
      }

  -- past the end are no reads
  pub reads_within : (p : ℕ) → Within s (all_reads T (cell_at cells p))
  reads_within p = elim (dec_le n p) [
    | yes h ↦ (let l : length cells ≤ p = rw (cells_long words metadata, d.long_words) h in rw (get_or-eq_default cells no_cell l) (nothing_read s T))
    | no h ↦ rw (cell_at_lem words metadata p (rw d.long_words (omega arith))) (checked p (omega arith)).reads_within
  ]

  pub block_row : (q : ℕ) → q < n → w * get_or blocks q 0 + w ≤ w * count
  block_row q h =
      let below : block_of leaders q < count = rw d.total (block_below leaders d.flags d.one q (rw d.long_leaders h)) in
      rw (d.numbers, get_d_tabulate n (block_of leaders) q 0 h) (row_before w (block_of leaders q) count below)

  pub starts_rise : Rising starts count n
  starts_rise b h =
      let way = block_walk leaders d.flags b (rw (← d.total) h) in
      rw (d.places b (omega arith), d.places (b + 1) (omega arith)) (way.some, rw (← d.long_leaders) way.within)

  -- the slots that a store writes have a type and a bit
  pub typed_at : (p : ℕ) → p < n → range_within (length types) (get_or (writes_by_class (class (of_word (get_or words p 0))) (of_word (get_or words p 0))) 0 empty_range) ≡ true
  typed_at p h = let x : Cell = cell_of metadata p (get_or words p 0) in written_within (length types) T x (sure_within (checked p h))

  pub held_at : (p : ℕ) → p < n → range_within (64 * w) (get_or (writes_by_class (class (of_word (get_or words p 0))) (of_word (get_or words p 0))) 0 empty_range) ≡ true
  held_at p h = let x : Cell = cell_of metadata p (get_or words p 0) in written_within (64 * w) T x (fits_at p h).writes_fit
