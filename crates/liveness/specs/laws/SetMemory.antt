-- The code and the sets of slots in one buffer of words, and what is known of the places in one of numbers.
-- Assumes nothing.
use Rattle.std.specs.Prelude.{◌≡◌, Bool, true, ◌&&◌, ◌||◌, List, ℕ, ◌+◌, ◌*◌, ◌-◌, ◌≤◌, ◌<◌, length, get_or}
use Rattle.std.proofs.Common.{sym, ap, ◌∙◌, ⊎_elim, inl, inr, arith}
use borrow.Rule.Slice.PartMut.{mid_of}
use Rattle.words.specs.laws.Bits.{member}
use Rattle.words.specs.laws.Regions.{mid_long, get_mid}
use Rattle.instruction.specs.declared.Instruction.{Instruction}
use Rattle.instruction.specs.Instruction.{of_word, class}
use Rattle.unit.specs.laws.Region.{keep_at}
use Rattle.unit.specs.Size.{max_instructions, metadata_size}
use Rattle.effects.specs.Shape.{Tables, Cell, cell_at}
use Rattle.effects.specs.laws.Cells.{cell_of, cells_by, cell_at_lem, cells_long}
use Rattle.effects.specs.Effects.{range_within}
use Rattle.effects.specs.laws.Form.{empty_range}
use Rattle.effects.specs.laws.ByClass.{writes_by_class}
use Rattle.flow.specs.Branch.{branch_inside}
use Rattle.use_def.specs.laws.Touched.{Fits}
use Rattle.use_def.specs.laws.Wordwise.{Moved}
use Rattle.liveness.specs.declared.SetLayout.{SetLayout}
use Rattle.liveness.specs.declared.BlockSets.{BlockSets}
use Rattle.words.specs.laws.Only.{At, Either, Only, only_both, only_more, mid_mid, same_mid, put_mid_lem}
use Rattle.liveness.specs.laws.Out.{OutOf}
use Rattle.liveness.specs.laws.Shown.{row_at, row_before}
use Rattle.liveness.specs.laws.Through.{Summary}
use Rattle.liveness.specs.laws.Visit.{Rising, Summed, Visited, summed_turn}

-- a word and a cell of the code, which comes first
pub code_word : (m : List ℕ) (n p : ℕ) → p < n → get_or (mid_of 0 n m) p 0 ≡ get_or m p 0
code_word m n p h = let at : 0 + p ≡ p = omega arith in get_mid m 0 n p 0 h ∙ rw at

pub cell_in : (m metadata : List ℕ) (n p v : ℕ) → n ≤ length m → p < n → v ≡ get_or m p 0 → cell_at (cells_by (mid_of 0 n m) metadata) p ≡ cell_of metadata p v
cell_in m metadata n p v h l e =
    let long : length (mid_of 0 n m) ≡ n = mid_long m 0 n (omega arith) in
    cell_at_lem (mid_of 0 n m) metadata p (rw long l) ∙ rw (code_word m n p l, e)

-- one after another, and all within the buffer
pub record LayoutFits (s : SetLayout) (room : ℕ) : Type 0 where
  pub row : s.code ≤ s.row
  pub uses : s.row + s.width ≤ s.uses
  pub preserved : s.uses + s.width * s.count ≤ s.preserved
  pub live : s.preserved + s.width * s.count ≤ s.live
  pub end : s.live + s.width * s.count ≤ room

pub row_inside : (s : SetLayout) (room : ℕ) → LayoutFits s room → s.row + s.width ≤ room
row_inside s room l = omega (arith, l.uses, l.preserved, l.live, l.end)

-- the two sets of a block stand behind the code and have a bit for each slot that is named at a place below `end`
pub record BlockFits (s : BlockSets) (T : Tables) (memory metadata keep : List ℕ) (end : ℕ) : Type 0 where
  pub code : end ≤ s.uses
  pub apart : s.uses + s.width ≤ s.preserved
  pub room : s.preserved + s.width ≤ length memory
  pub entries : metadata_size * end ≤ length metadata
  pub flags : end ≤ length keep
  pub fits : (p : ℕ) → p < end → Fits s.width T (cell_of metadata p (get_or memory p 0))
  pub some : 0 < s.width

abbrev pub code_words : SetLayout → List ℕ → List ℕ
code_words s m = mid_of 0 s.code m

abbrev pub row_of : SetLayout → List ℕ → List ℕ
row_of s m = mid_of s.row s.width m

abbrev pub uses_of : SetLayout → List ℕ → List ℕ
uses_of s m = mid_of s.uses (s.width * s.count) m

abbrev pub preserved_of : SetLayout → List ℕ → List ℕ
preserved_of s m = mid_of s.preserved (s.width * s.count) m

abbrev pub live_of : SetLayout → List ℕ → List ℕ
live_of s m = mid_of s.live (s.width * s.count) m

-- without gaps
abbrev pub laid_out : ℕ → ℕ → ℕ → SetLayout
laid_out n w count = record {
  code = n;
  width = w;
  count = count;
  row = n;
  uses = n + w;
  preserved = n + w + w * count;
  live = n + w + w * count + w * count;
}

pub laid_out_lem : (n w count room : ℕ) → n + w + 3 * (w * count) ≤ room → LayoutFits (laid_out n w count) room
laid_out_lem n w count room h = record { row = omega arith; uses = omega arith; preserved = omega arith; live = omega arith; end = omega arith }

-- the code's branches and the blocks' numbers stay inside
pub record Coded (s : SetLayout) (memory blocks : List ℕ) : Type 0 where
  pub laid : LayoutFits s (length memory)
  pub most : s.code ≤ max_instructions
  pub long_blocks : length blocks ≡ s.code
  pub inside : (p : ℕ) → p < s.code → branch_inside s.code p (of_word (get_or memory p 0)) ≡ true
  pub rows_inside : (q : ℕ) → q < s.code → s.width * get_or blocks q 0 + s.width ≤ s.width * s.count

-- what is live at the start of the block of place q
module _ (s : SetLayout) (m blocks : List ℕ) (c : Coded s m blocks) (q : ℕ) (h : q < s.code) where
  abbrev start : ℕ
  start = s.live + s.width * get_or blocks q 0

  pub start_inside : (s.row + s.width ≤ start) × (start + s.width ≤ length m)
  start_inside = let l = c.laid in (omega (arith, l.uses, l.preserved, l.live), omega (arith, l.end, c.rows_inside q h))

  pub start_row : mid_of start s.width m ≡ row_at s.width (live_of s m) (get_or blocks q 0)
  start_row = sym (mid_mid m s.live (s.width * s.count) (s.width * get_or blocks q 0) s.width c.laid.end (c.rows_inside q h))

-- what was written behind the code leaves all that
module _ (s : SetLayout) (P : ℕ → Type 0) (m m' : List ℕ) (o : Only P m m') (past : (j : ℕ) → P j → s.code ≤ j) where
  pub same_word : (p : ℕ) → p < s.code → get_or m' p 0 ≡ get_or m p 0
  same_word p h = o.same p (λ i. let q = past p i in omega arith)

  pub same_code_lem : LayoutFits s (length m) → code_words s m' ≡ code_words s m
  same_code_lem l = same_mid P m m' o 0 s.code (omega (arith, l.row, l.uses, l.preserved, l.live, l.end)) (λ j h i. let q = past j i in omega (arith, h.1))

  pub still_coded : (blocks : List ℕ) → Coded s m blocks → Coded s m' blocks
  still_coded blocks c = record {
    laid = rw o.long c.laid;
    most = c.most;
    long_blocks = c.long_blocks;
    inside = λ p h. rw (same_word p h) (c.inside p h);
    rows_inside = c.rows_inside;
  }

-- a set in the row leaves the blocks' live sets
pub same_live : (s : SetLayout) (m m' : List ℕ) → LayoutFits s (length m) → Only (At s.row s.width) m m' → live_of s m' ≡ live_of s m
same_live s m m' l o =
    same_mid (At s.row s.width) m m' o s.live (s.width * s.count) l.end (λ j h i. omega (arith, h.0, i.1, l.uses, l.preserved, l.live))

-- ---- what is written into the blocks' sets

abbrev pub InSums : SetLayout → ℕ → Type 0
InSums s = Either (At s.uses (s.width * s.count)) (At s.preserved (s.width * s.count))

pub past_sums : (s : SetLayout) (room : ℕ) → LayoutFits s room → (j : ℕ) → InSums s j → s.code ≤ j
past_sums s room l j = ⊎_elim (λ i. omega (arith, i.0, l.row, l.uses)) (λ i. omega (arith, i.0, l.row, l.uses, l.preserved))

-- the two sets of block b
module _ (s : SetLayout) (m m' : List ℕ) (b : ℕ) (l : LayoutFits s (length m)) (h : b < s.count)
    (o : Only (Either (At (s.uses + s.width * b) s.width) (At (s.preserved + s.width * b) s.width)) m m') where
  inner : s.width * b + s.width ≤ s.width * s.count
  inner = row_before s.width b s.count h

  pub in_sums : Only (InSums s) m m'
  in_sums =
      only_more (Either (At (s.uses + s.width * b) s.width) (At (s.preserved + s.width * b) s.width)) (InSums s) m m'
      (λ j. ⊎_elim (λ i. inl (omega (arith, i.0), omega (arith, i.1, inner))) (λ i. inr (omega (arith, i.0), omega (arith, i.1, inner)))) o

  pub sums_turn : (T : Tables) (keep : List ℕ) (cells : List Cell) (starts : List ℕ) → Summed T keep cells s.width starts (uses_of s m) (preserved_of s m) b
      → Summary T keep cells (mid_of (s.uses + s.width * b) s.width m') (mid_of (s.preserved + s.width * b) s.width m') (get_or starts b 0) (get_or starts (b + 1) 0 - get_or starts b 0)
      → Summed T keep cells s.width starts (uses_of s m') (preserved_of s m') (b + 1)
  sums_turn T keep cells starts =
      summed_turn T keep cells s.width starts (uses_of s m) (preserved_of s m) (uses_of s m') (preserved_of s m') _ _ b s.count h (mid_long m s.uses (s.width * s.count) ends) (mid_long m s.preserved (s.width * s.count) ends')
      (mid_long m' (s.uses + s.width * b) s.width (rw o.long (omega (arith, ends, inner)))) (mid_long m' (s.preserved + s.width * b) s.width (rw o.long (omega (arith, ends', inner))))
      (put_mid_lem _ m m' s.uses (s.width * s.count) (s.width * b) s.width o ends inner (λ j i. ⊎_elim (λ k. k) (λ k. absurd (omega (arith, i.1, k.0, l.preserved)))))
      (put_mid_lem _ m m' s.preserved (s.width * s.count) (s.width * b) s.width o ends' inner (λ j i. ⊎_elim (λ k. absurd (omega (arith, i.0, k.1, inner, l.preserved))) (λ k. k)))
    where
      ends : s.uses + s.width * s.count ≤ length m
      ends = omega (arith, l.preserved, l.live, l.end)

      ends' : s.preserved + s.width * s.count ≤ length m
      ends' = omega (arith, l.live, l.end)

abbrev pub InRows : SetLayout → ℕ → Type 0
InRows s = Either (At s.row s.width) (At s.live (s.width * s.count))

pub past_rows : (s : SetLayout) (room : ℕ) → LayoutFits s room → (j : ℕ) → InRows s j → s.code ≤ j
past_rows s room l j = ⊎_elim (λ i. omega (arith, i.0, l.row)) (λ i. omega (arith, i.0, l.row, l.uses, l.preserved, l.live))

-- what is live at the end of block b, in the row, and then at its start
module _ (s : SetLayout) (m m₁ m₂ : List ℕ) (b : ℕ) (l : LayoutFits s (length m)) (h : b < s.count) (o : Only (At s.row s.width) m m₁) (o₁ : Only (At (s.live + s.width * b) s.width) m₁ m₂) where
  room : s.width * b + s.width ≤ s.width * s.count
  room = row_before s.width b s.count h

  pub in_rows : Only (InRows s) m m₂
  in_rows =
      only_both (InRows s) m m₁ m₂ (only_more (At s.row s.width) (InRows s) m m₁ (λ j i. inl i) o)
      (only_more (At (s.live + s.width * b) s.width) (InRows s) m₁ m₂ (λ j i. inr (omega (arith, i.0), omega (arith, i.1, room))) o₁)

  block_row : (a : ℕ) → s.row + s.width ≤ a → a + s.width * s.count ≤ length m → mid_of (a + s.width * b) s.width m₁ ≡ row_at s.width (mid_of a (s.width * s.count) m) b
  block_row a g q =
      same_mid (At s.row s.width) m m₁ o (a + s.width * b) s.width (omega (arith, q, room)) (λ j i k. omega (arith, i.0, k.1, g)) ∙ sym (mid_mid m a (s.width * s.count) (s.width * b) s.width q room)

  pub visited : (p : ℕ) (i : Instruction) (blocks : List ℕ) (r : Bool) → OutOf s.width (live_of s m) blocks s.code p i (row_of s m₁)
      → ((t : ℕ) → member (mid_of (s.live + s.width * b) s.width m₂) t ≡ (member (mid_of (s.uses + s.width * b) s.width m₁) t || (member (row_of s m₁) t && member (mid_of (s.preserved + s.width * b) s.width m₁) t)))
      → Moved r (mid_of (s.live + s.width * b) s.width m₁) (mid_of (s.live + s.width * b) s.width m₂)
      → Visited s.width b p s.code i blocks (uses_of s m) (preserved_of s m) (live_of s m) (live_of s m₂) r
  visited p i blocks r outs bits moved =
      let u = block_row s.uses l.uses (omega (arith, l.preserved, l.live, l.end)) in
      let v = block_row s.preserved (omega (arith, l.uses, l.preserved)) (omega (arith, l.live, l.end)) in
      let x = block_row s.live (omega (arith, l.uses, l.preserved, l.live)) l.end in
      let ends : s.live + s.width * s.count ≤ length m₁ = rw o.long l.end in
      record {
        row = mid_of (s.live + s.width * b) s.width m₂;
        out = row_of s m₁;
        outs = outs;
        put = rw (← same_live s m m₁ l o) (put_mid_lem (At (s.live + s.width * b) s.width) m₁ m₂ s.live (s.width * s.count) (s.width * b) s.width o₁ ends room (λ j i k. k));
        long = mid_long m₂ (s.live + s.width * b) s.width (rw o₁.long (omega (arith, ends, room)));
        bits = rw (u, v) at bits;
        moved = rw x at moved;
      }

-- what rounds start from
pub record Ready (s : SetLayout) (memory blocks starts : List ℕ) : Type 0 where
  pub coded : Coded s memory blocks
  pub long_starts : s.count < length starts
  pub rising : Rising starts s.count s.code

-- rounds leave the code and what blocks use and preserve
module _ (s : SetLayout) (m m' : List ℕ) (l : LayoutFits s (length m)) (o : Only (InRows s) m m') where
  pub rows_code : code_words s m' ≡ code_words s m
  rows_code = same_code_lem s (InRows s) m m' o (past_rows s (length m) l) l

  between : (a : ℕ) → s.row + s.width ≤ a → a + s.width * s.count ≤ s.live → mid_of a (s.width * s.count) m' ≡ mid_of a (s.width * s.count) m
  between a g q =
      same_mid (InRows s) m m' o a (s.width * s.count) (omega (arith, q, l.end)) (λ j i. ⊎_elim (λ k. omega (arith, i.0, k.1, g)) (λ k. omega (arith, i.1, k.0, q)))

  pub rows_uses : uses_of s m' ≡ uses_of s m
  rows_uses = between s.uses l.uses (omega (arith, l.preserved, l.live))

  pub rows_preserved : preserved_of s m' ≡ preserved_of s m
  rows_preserved = between s.preserved (omega (arith, l.uses, l.preserved)) l.live

  pub still_ready : (blocks starts : List ℕ) → Ready s m blocks starts → Ready s m' blocks starts
  still_ready blocks starts r = record { coded = still_coded s (InRows s) m m' o (past_rows s (length m) l) blocks r.coded; long_starts = r.long_starts; rising = r.rising }

  -- a visit, by the cells and sets that rounds start from
  pub visited_then : (metadata : List ℕ) (b p : ℕ) (blocks live live' : List ℕ) (r : Bool) → p < s.code
      → Visited s.width b p s.code (of_word (get_or m' p 0)) blocks (uses_of s m') (preserved_of s m') live live' r
      → Visited s.width b p (length (cells_by (code_words s m) metadata)) (cell_at (cells_by (code_words s m) metadata) p).instruction blocks (uses_of s m) (preserved_of s m) live live' r
  visited_then metadata b p blocks live live' r h v =
      let ends : s.code ≤ length m = omega (arith, l.row, l.uses, l.preserved, l.live, l.end) in
      let same = same_word s (InRows s) m m' o (past_rows s (length m) l) p h in
      let i : (cell_at (cells_by (code_words s m) metadata) p).instruction ≡ of_word (get_or m' p 0) = ap (λ (x : Cell). x.instruction) (cell_in m metadata s.code p (get_or m' p 0) ends h same) in
      rw (cells_long (code_words s m) metadata, mid_long m 0 s.code (omega arith), i) (rw (rows_uses, rows_preserved) at v)

-- ---- the numbers of n places: leaders, blocks, starts, flags of kept places

abbrev pub leaders_of : ℕ → List ℕ → List ℕ
leaders_of n t = mid_of 0 n t

abbrev pub blocks_of : ℕ → List ℕ → List ℕ
blocks_of n t = mid_of n n t

abbrev pub flags_of : ℕ → List ℕ → List ℕ
flags_of n t = mid_of (keep_at n) n t

-- the flags written, leaders and blocks stay
module _ (n : ℕ) (t t' : List ℕ) (h : keep_at n + n ≤ length t) (o : Only (At (keep_at n) n) t t') where
  pub same_leaders : leaders_of n t' ≡ leaders_of n t
  same_leaders = same_mid (At (keep_at n) n) t t' o 0 n (omega arith) (λ j i k. omega (arith, i.1, k.0))

  pub same_blocks : blocks_of n t' ≡ blocks_of n t
  same_blocks = same_mid (At (keep_at n) n) t t' o n n (omega arith) (λ j i k. omega (arith, i.1, k.0))

-- what the sweep starts from
pub record Sweepable (s : SetLayout) (T : Tables) (memory metadata types table : List ℕ) : Type 0 where
  pub coded : Coded s memory (blocks_of s.code table)
  pub long_table : keep_at s.code + s.code ≤ length table
  pub entries : metadata_size * s.code ≤ length metadata
  pub few : s.width ≤ 1024
  pub typed : (p : ℕ) → p < s.code → range_within (length types) (get_or (writes_by_class (class (of_word (get_or memory p 0))) (of_word (get_or memory p 0))) 0 empty_range) ≡ true
  pub held : (p : ℕ) → p < s.code → range_within (64 * s.width) (get_or (writes_by_class (class (of_word (get_or memory p 0))) (of_word (get_or memory p 0))) 0 empty_range) ≡ true
  pub fits : (p : ℕ) → p < s.code → Fits s.width T (cell_of metadata p (get_or memory p 0))
