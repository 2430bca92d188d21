-- The slots that an instruction reads and those that it surely writes, over all its ranges.
-- Assumes nothing.
use Rattle.std.specs.Prelude.{◌≡◌, ℕ, zero, suc, ◌+◌, ◌*◌, ◌<◌, ◌≤◌, Bool, true, false, cond, not, ◌&&◌, ◌||◌, List, [], ◌∷◌, length, take, ◌==◌, slice_index_or, refl}
use Rattle.std.proofs.Common.{sym, ap, ◌∙◌, add-one, arith, take_all}
use Rattle.std.proofs.Math.Bool.{and-true, or-false}
use Rattle.words.specs.laws.Bits.{member}
use Rattle.instruction.specs.declared.Instruction.{Instruction}
use Rattle.instruction.specs.declared.Class.{Class}
use Rattle.instruction.specs.declared.Class.TheVariants.{Hint, LoadInt, LoadConst, Copy, CopyN, Unary, Binary, Jump, JumpIf, JumpIfNot, ForLoop, Return, Panic, Outside, Invalid}
use Rattle.instruction.specs.Instruction.{of_word, class}
use Rattle.unit.specs.declared.Metadata.{Metadata}
use Rattle.effects.specs.declared.Range.{Range}
use Rattle.effects.specs.Shape.{Tables, Cell, tables_of}
use Rattle.effects.specs.Effects.{all_reads, sure_writes, range_has, range_within, any_of, all_of}
use Rattle.effects.specs.laws.Form.{empty_range}
use Rattle.words.specs.laws.Truth.{left_true, right_true}
use Rattle.effects.specs.laws.Operands.{all_at}
use Rattle.effects.specs.laws.Ranges.{CasesInside}
use Rattle.effects.proofs.laws.Ranges.{same_sure}
use Rattle.effects.specs.laws.ByClass.{is_outside, reads_by_class, writes_by_class}
use Rattle.effects.proofs.laws.ByClass.{reads_by_class_lem, sure_by_class}
use Rattle.use_def.specs.laws.Sets.{Put, slot_if, put_more, put_as, put_slot, has_none}

-- an instruction's word with metadata
abbrev pub cell : ℕ → Metadata → Cell
cell w m = record { instruction = of_word w; metadata = m }

-- a slot is one of those of the ranges
abbrev pub touches : List Range → ℕ → Bool
touches l t = any_of (range_has t) l

abbrev pub reading : Tables → Cell → ℕ → Bool
reading T x = touches (all_reads T x)

abbrev pub writing : Tables → Cell → ℕ → Bool
writing T x = touches (sure_writes T x)

-- no range leaves the s slots
abbrev pub Within : ℕ → List Range → Type 0
Within s l = all_of (range_within s) l ≡ true

-- an instruction whose slots all have a bit in a set of that many words
pub record Fits (count : ℕ) (T : Tables) (x : Cell) : Type 0 where
  pub few : count ≤ 1024
  pub cases : CasesInside T.cases x
  pub reads_fit : Within (64 * count) (all_reads T x)
  pub writes_fit : Within (64 * count) (sure_writes T x)

-- one whose surely written slots do; these are the same with any cases
pub record WritesFit (count : ℕ) (functions externs : List ℕ) (x : Cell) : Type 0 where
  pub few : count ≤ 1024
  pub fit : (cases : List ℕ) → Within (64 * count) (sure_writes (tables_of functions externs cases) x)

pub writes_fit_any : {count : ℕ} {functions externs cases : List ℕ} {x : Cell} → Fits count (tables_of functions externs cases) x → WritesFit count functions externs x
writes_fit_any {count} {functions} {externs} {cases} {x} f =
    record { few = f.few; fit = λ any. rw (same_sure functions externs any cases x) f.writes_fit }

-- what is live before an instruction, of what is live after it
abbrev pub Before : Tables → Cell → List ℕ → List ℕ → Type 0
Before T x l l' = (t : ℕ) → member l' t ≡ (reading T x t || (member l t && not (writing T x t)))

pub before : (T : Tables) (x : Cell) (l l₁ l₂ : List ℕ) → Put false (writing T x) l l₁ → Put true (reading T x) l₁ l₂ → Before T x l l₂
before T x l l₁ l₂ p q t = q t ∙ rw (p t) (go (reading T x t) (writing T x t) (member l t))
  where
    go : (r w m : Bool) → cond r true (cond w false m) ≡ (r || (m && not w))
    go true w m = refl
    go false true true = refl
    go false true false = refl
    go false false true = refl
    go false false false = refl

-- the same, of what reads all that it writes
pub before_read : (T : Tables) (x : Cell) (l l' : List ℕ) → ((t : ℕ) → reading T x t ≡ false → writing T x t ≡ false) → Put true (reading T x) l l' → Before T x l l'
before_read T x l l' only q t = q t ∙ go (reading T x t) (writing T x t) (member l t) (only t)
  where
    go : (r w m : Bool) → (r ≡ false → w ≡ false) → cond r true m ≡ (r || (m && not w))
    go true w m e = refl
    go false w m e = rw (e refl) (sym (and-true m))

within_at : (s : ℕ) (l : List Range) → Within s l → (k : ℕ) → k < length l → range_within s (slice_index_or l k empty_range) ≡ true
within_at s l e k h = all_at (range_within s) l e k h

-- past the end is the empty range
pub within_any : (s : ℕ) (l : List Range) → Within s l → (k : ℕ) → range_within s (slice_index_or l k empty_range) ≡ true
unfolding all_of range_within
within_any s [] e k = refl
within_any s (r ∷ l) e zero = left_true (range_within s r) (all_of (range_within s) l) e
within_any s (r ∷ l) e (suc k) = within_any s l (right_true (range_within s r) (all_of (range_within s) l) e) k

or_assoc : (x y z : Bool) → ((x || y) || z) ≡ (x || (y || z))
or_assoc true y z = refl
or_assoc false y z = refl

touches_more : (l : List Range) (k : ℕ) → k < length l → (t : ℕ) → touches (take (suc k) l) t ≡ (touches (take k l) t || range_has t (slice_index_or l k empty_range))
unfolding any_of
touches_more [] k h t = absurd (omega arith)
touches_more (r ∷ l) zero h t = or-false (range_has t r)
touches_more (r ∷ l) (suc k) h t = rw (touches_more l k (omega arith) t) (sym (or_assoc (range_has t r) (touches (take k l) t) (range_has t (slice_index_or l k empty_range))))

-- ---- a loop over n ranges, in a set that has a bit for each of their slots

pub record Ranging (b : Bool) (rs : List Range) (n : ℕ) (l₀ l : List ℕ) (k : ℕ) : Type 0 where
  pub all : n ≡ length rs
  pub few : length l₀ ≤ 1024
  pub fit : Within (64 * length l₀) rs
  pub long : length l ≡ length l₀
  pub put : Put b (touches (take k rs)) l₀ l

pub ranging_begin : {b : Bool} {rs : List Range} {n : ℕ} {l : List ℕ} → n ≡ length rs → length l ≤ 1024 → Within (64 * length l) rs → Ranging b rs n l l 0
unfolding any_of
ranging_begin a f w = record { all = a; few = f; fit = w; long = refl; put = λ t. refl }

module _ {b : Bool} {rs : List Range} {n : ℕ} {l₀ l : List ℕ} {k : ℕ} (g : Ranging b rs n l₀ l k) where
  pub ranging_next : k < n → k < length rs
  ranging_next h = omega (arith, g.all)

  pub ranging_fits : (r : Range) → k < n → r ≡ slice_index_or rs k empty_range → (length l ≤ 1024) × (range_within (64 * length l) r ≡ true)
  ranging_fits r h a = (rw g.long g.few, rw (g.long, a) (within_at (64 * length l₀) rs g.fit k (ranging_next h)))

  pub ranging_turn : (r : Range) (l' : List ℕ) → k < n → r ≡ slice_index_or rs k empty_range → length l' ≡ length l → Put b (λ t. range_has t r) l l'
      → Ranging b rs n l₀ l' (k + 1)
  ranging_turn r l' h a e q = record {
    all = g.all;
    few = g.few;
    fit = g.fit;
    long = e ∙ g.long;
    put = put_more b (touches (take k rs)) (λ t. range_has t r) (touches (take (k + 1) rs)) l₀ l l' g.put q more;
  }
    where
      more : (t : ℕ) → touches (take (k + 1) rs) t ≡ (touches (take k rs) t || range_has t r)
      more t = rw (add-one k, a) (touches_more rs k (ranging_next h) t)

  pub ranging_end : n ≤ k → Put b (touches rs) l₀ l
  ranging_end h =
      let e : length rs ≤ k = omega (arith, g.all) in
      put_as b (touches (take k rs)) (touches rs) l₀ l g.put (λ t. ap (λ (l : List Range). touches l t) (sym (take_all k rs e)))

-- ---- ranges by class: at most two are read, and one is written

reads_two : (k : Class) (i : Instruction) → length (reads_by_class k i) ≤ 2
unfolding reads_by_class
reads_two Hint i = omega arith
reads_two LoadInt i = omega arith
reads_two LoadConst i = omega arith
reads_two Copy i = omega arith
reads_two CopyN i = omega arith
reads_two Unary i = omega arith
reads_two Binary i = omega arith
reads_two Jump i = omega arith
reads_two JumpIf i = omega arith
reads_two JumpIfNot i = omega arith
reads_two ForLoop i = omega arith
reads_two Return i = omega arith
reads_two Panic i = omega arith
reads_two Outside i = omega arith
reads_two Invalid i = omega arith

writes_one : (k : Class) (i : Instruction) → length (writes_by_class k i) ≤ 1
unfolding writes_by_class
writes_one Hint i = omega arith
writes_one LoadInt i = omega arith
writes_one LoadConst i = omega arith
writes_one Copy i = omega arith
writes_one CopyN i = omega arith
writes_one Unary i = omega arith
writes_one Binary i = omega arith
writes_one Jump i = omega arith
writes_one JumpIf i = omega arith
writes_one JumpIfNot i = omega arith
writes_one ForLoop i = omega arith
writes_one Return i = omega arith
writes_one Panic i = omega arith
writes_one Outside i = omega arith
writes_one Invalid i = omega arith

touches_two : (l : List Range) → length l ≤ 2 → (t : ℕ) → touches l t ≡ (range_has t (slice_index_or l 0 empty_range) || range_has t (slice_index_or l 1 empty_range))
unfolding any_of
touches_two [] h t = rw (has_none 0 t)
touches_two (r ∷ []) h t = rw (has_none 0 t)
touches_two (r ∷ s ∷ []) h t = rw (or-false (range_has t s))
touches_two (r ∷ s ∷ u ∷ l) h t = absurd (omega arith)

touches_one : (l : List Range) → length l ≤ 1 → (t : ℕ) → touches l t ≡ range_has t (slice_index_or l 0 empty_range)
unfolding any_of
touches_one [] h t = rw (has_none 0 t)
touches_one (r ∷ []) h t = rw (or-false (range_has t r))
touches_one (r ∷ s ∷ l) h t = absurd (omega arith)

module _ (T : Tables) (x : Cell) (k : Class) (e : k ≡ class x.instruction) (inside : is_outside k ≡ false) where
  reads_here : all_reads T x ≡ reads_by_class k x.instruction
  reads_here = rw e (reads_by_class_lem T x (rw e at inside))

  writes_here : sure_writes T x ≡ writes_by_class k x.instruction
  writes_here = rw e (sure_by_class T x (rw e at inside))

  pub put_reads : (b : Bool) (l l₁ l₂ : List ℕ) (f g : Range) → f ≡ slice_index_or (reads_by_class k x.instruction) 0 empty_range → g ≡ slice_index_or (reads_by_class k x.instruction) 1 empty_range
      → Put b (λ t. range_has t f) l l₁ → Put b (λ t. range_has t g) l₁ l₂ → Put b (reading T x) l l₂
  put_reads b l l₁ l₂ f g d a p q =
      put_more b (λ t. range_has t f) (λ t. range_has t g) (reading T x) l l₁ l₂ p q
      (λ t. rw (reads_here, d, a) (touches_two (reads_by_class k x.instruction) (reads_two k x.instruction) t))

  pub put_writes : (b : Bool) (l l' : List ℕ) (f : Range) → f ≡ slice_index_or (writes_by_class k x.instruction) 0 empty_range → Put b (λ t. range_has t f) l l' → Put b (writing T x) l l'
  put_writes b l l' f d p =
      put_as b (λ t. range_has t f) (writing T x) l l' p (λ t. rw (writes_here, d) (touches_one (writes_by_class k x.instruction) (writes_one k x.instruction) t))

  -- each range one slot or none
  pub put_slot_reads : (l l₁ l₂ : List ℕ) (f g : Bool) (s t : ℕ) → slot_if f s ≡ slice_index_or (reads_by_class k x.instruction) 0 empty_range → slot_if g t ≡ slice_index_or (reads_by_class k x.instruction) 1 empty_range
      → Put true (λ u. f && u == s) l l₁ → Put true (λ u. g && u == t) l₁ l₂ → Put true (reading T x) l l₂
  put_slot_reads l l₁ l₂ f g s t d a p q = put_reads true l l₁ l₂ (slot_if f s) (slot_if g t) d a (put_slot true f s l l₁ p) (put_slot true g t l₁ l₂ q)

  pub put_slot_write : (b : Bool) (l l' : List ℕ) (f : Bool) (s : ℕ) → slot_if f s ≡ slice_index_or (writes_by_class k x.instruction) 0 empty_range
      → Put b (λ u. f && u == s) l l' → Put b (writing T x) l l'
  put_slot_write b l l' f s d p = put_writes b l l' (slot_if f s) d (put_slot b f s l l' p)

  pub reads_in : (s j : ℕ) (f : Range) → Within s (all_reads T x) → f ≡ slice_index_or (reads_by_class k x.instruction) j empty_range → range_within s f ≡ true
  reads_in s j f w d = rw d (within_any s (reads_by_class k x.instruction) (rw reads_here at w) j)

  pub writes_in : (s j : ℕ) (f : Range) → Within s (sure_writes T x) → f ≡ slice_index_or (writes_by_class k x.instruction) j empty_range → range_within s f ≡ true
  writes_in s j f w d = rw d (within_any s (writes_by_class k x.instruction) (rw writes_here at w) j)
