-- What the steps of a pass leave in the lent work: the 32-bit work has the leaders at [0, n) and the reached places at `keep_at n`, the 64-bit
-- work the code at [0, n) and the list of the control places behind what numbering and liveness take.
-- Assumes nothing.
use Rattle.std.specs.Prelude.{◌≡◌, false, List, ◌++◌, ℕ, ◌+◌, ◌-◌, ◌^◌, ◌≤◌, ◌<◌, length, get_or, take, drop}
use Rattle.std.proofs.Common.{sym, ap, ◌∙◌, arith, add-zero, take_at}
use borrow.Rule.Slice.PartMut.{mid_of, put_mid, post_of}
use Rattle.words.specs.laws.Only.{mid_mid, back_within, back_before}
use Rattle.words.specs.laws.Regions.{mid_long, Outside, outside_front}
use Rattle.instruction.specs.Instruction.{class, of_word}
use Rattle.unit.specs.laws.Region.{keep_at}
use Rattle.unit.specs.Size.{work32_room, work64_room, sets_room, max_instructions, max_local_slots}
use Rattle.unit.specs.laws.Size.{sets_fit}
use Rattle.effects.specs.Check.{Check}
use Rattle.effects.specs.Shape.{Sections, Cell}
use Rattle.effects.specs.laws.Cells.{cells_by}
use Rattle.values.specs.Number.{number_code}
use Rattle.flow.specs.Block.{leaders}
use Rattle.flow.specs.laws.Control.{is_control, Controls, controls_kept}
use Rattle.flow.specs.Loop.{reached_places, loop_check}
use Rattle.numbering.specs.laws.Walk as walk
use Rattle.values.specs.laws.Named.{Named}
use Rattle.numbering.specs.laws.Walk.{values_room}
use Rattle.optimize.specs.laws.Given.{words_in, numbered_code, reached_marks, words_of}

-- the list of the control places stands in the 64-bit work, behind what numbering and liveness take: `count` of them from `at` on
pub record ListedControls (n s at count : ℕ) (work64 : List ℕ) : Type 0 where
  pub sets : sets_room n s ≤ at
  pub values : values_room n s ≤ at
  pub within : at + count ≤ length work64
  pub controls : Controls (mid_of 0 n work64) (mid_of at count work64) n

module _ {n s at count : ℕ} {work64 : List ℕ} (l : ListedControls n s at count work64) where
  -- as the code lends it
  pub list_lent : (k m : ℕ) → k ≡ n → m ≡ count → Controls (mid_of 0 k work64) (mid_of at m work64) (length (mid_of 0 k work64))
  list_lent k m e f = rw (e, f, mid_long work64 0 n (omega (arith, l.values, l.within))) l.controls

  -- other code, with no control place where there was none
  module _ {work64' : List ℕ} (long : length work64' ≡ length work64) (behind : drop at work64' ≡ drop at work64) where
    pub list_kept : ((p : ℕ) → p < n → is_control (class (of_word (get_or (mid_of 0 n work64) p 0))) ≡ false → is_control (class (of_word (get_or (mid_of 0 n work64') p 0))) ≡ false)
        → ListedControls n s at count work64'
    list_kept f = record { sets = l.sets; values = l.values; within = rw long l.within; controls = rw behind (controls_kept l.controls f) }

    pub list_still : mid_of 0 n work64' ≡ mid_of 0 n work64 → ListedControls n s at count work64'
    list_still e = list_kept (λ p h none. rw e none)

-- where it stands: in the last n words of the room that is asked for
abbrev pub controls_at : ℕ → ℕ → ℕ
controls_at n s = work64_room n s - n

-- the code is loaded, and its control places are listed
pub record Loaded (n s at count : ℕ) (code work64 : List ℕ) : Type 0 where
  pub words : mid_of 0 n work64 ≡ words_in n code
  pub listed : ListedControls n s at count work64

-- the list was made behind the code
pub list_made : (n s at count : ℕ) (code work64 work64' : List ℕ) → at ≡ controls_at n s → 1 < n → work64_room n s ≤ length work64 → length work64' ≡ length work64 → mid_of 0 n work64 ≡ words_in n code
    → Controls (mid_of 0 n work64) (mid_of at count work64') n → count ≤ n → Outside at n work64 work64' → Loaded n s at count code work64'
list_made n s at count code work64 work64' e some room long w c few o =
    let fit = sets_fit n s in
    let same : mid_of 0 n work64' ≡ mid_of 0 n work64 = outside_front at n o n (omega arith) in
    record { words = same ∙ w; listed = record { sets = omega arith; values = omega arith; within = omega arith; controls = rw same c } }

-- the code is numbered
pub record Renumbered (S : Sections) (cells : List Cell) (n : ℕ) (work32 work64 : List ℕ) : Type 0 where
  pub leads : mid_of 0 n work32 ≡ leaders cells
  pub code : mid_of 0 n work64 ≡ words_of (numbered_code S cells)

-- and its reached places are marked
pub record Marks (S : Sections) (cells : List Cell) (n : ℕ) (work32 work64 : List ℕ) : Type 0 where
  pub numbered : Renumbered S cells n work32 work64
  pub marks : mid_of (keep_at n) n work32 ≡ reached_marks S cells

-- what marking them gives
pub record Reached (n : ℕ) (metadata words work32 work32' : List ℕ) (r : Check) : Type 0 where
  pub leads : mid_of 0 n work32' ≡ mid_of 0 n work32
  pub marks : mid_of (keep_at n) n work32' ≡ reached_places (cells_by words metadata)
  pub answer : r ≡ loop_check (reached_places (cells_by words metadata)) (cells_by words metadata)

-- code that can be numbered
pub record Numberable (n s room32 : ℕ) (work64 : List ℕ) : Type 0 where
  pub some : 1 < n
  pub few : n ≤ max_instructions
  pub slots : s ≤ max_local_slots
  pub long32 : work32_room n ≤ room32
  pub named : (p : ℕ) → p < n → Named (class (of_word (get_or (mid_of 0 n work64) p 0))) s (of_word (get_or (mid_of 0 n work64) p 0))

-- ---- `reach`
pub reach_marks : (n : ℕ) (metadata words work32 marks : List ℕ) (r : Check) → work32_room n ≤ length work32 → length words ≡ n → length marks ≡ length (mid_of (keep_at n) (length work32 - keep_at n) work32)
    → mid_of 0 (length words) marks ≡ reached_places (cells_by words metadata)
    → r ≡ loop_check (mid_of (keep_at n) (keep_at n + n - keep_at n) (put_mid (keep_at n) (length work32 - keep_at n) work32 marks)) (cells_by words metadata)
    → Reached n metadata words work32 (put_mid (keep_at n) (length work32 - keep_at n) work32 marks) r
reach_marks n metadata words work32 marks r room size long m e =
    let rest = length work32 - keep_at n in
    let fits : keep_at n + rest ≤ length work32 = omega arith in
    let same : length marks ≡ rest = long ∙ mid_long work32 (keep_at n) rest fits in
    let part : keep_at n + n - keep_at n ≡ n = omega arith in
    let here : mid_of (keep_at n) n (put_mid (keep_at n) rest work32 marks) ≡ reached_places (cells_by words metadata) =
    ap (λ (b : ℕ). mid_of b n (put_mid (keep_at n) rest work32 marks)) (sym (add-zero (keep_at n)))
    ∙ back_within work32 (keep_at n) rest marks fits same 0 n (omega arith) ∙ (rw size at m) in
    record { leads = back_before work32 (keep_at n) rest marks fits same 0 n (omega arith); marks = here; answer = e ∙ ap (λ (l : List ℕ). loop_check l (cells_by words metadata)) (ap (λ (j : ℕ). mid_of (keep_at n) j (put_mid (keep_at n) rest work32 marks)) part ∙ here) }

-- ---- `number`
pub leaders_asks : {n s at count : ℕ} (work32 : List ℕ) {work64 : List ℕ} → Numberable n s (length work32) work64 → ListedControls n s at count work64 → (k j m : ℕ) → k ≡ n → j ≡ n → m ≡ count
    → (1 ≤ length (mid_of 0 k work64))
    × (length (mid_of 0 k work64) < 2 ^ 32)
    × (length (mid_of 0 j work32) ≡ length (mid_of 0 k work64))
    × Controls (mid_of 0 k work64) (mid_of at m work64) (length (mid_of 0 k work64))
leaders_asks {n = n} work32 {work64 = work64} d l k j m e f g =
    let size : length (mid_of 0 n work64) ≡ n = mid_long work64 0 n (omega (arith, l.values, l.within)) in
    let marks : length (mid_of 0 n work32) ≡ n = mid_long work32 0 n (omega (arith, d.long32)) in
    (rw (e, size) (omega (arith, d.some)), rw (e, size) (omega (arith, d.few)), rw (e, f, size) marks, list_lent l k m e g)

module _ (n k s at count l : ℕ) (work32 work64 leads : List ℕ) (e : k ≡ n) (f : l ≡ at) (size : length leads ≡ k) (d : Numberable n s (length work32) work64) (c : ListedControls n s at count work64) where
  -- the part of the 64-bit work before the list of the control places
  part_long : length (mid_of 0 l work64) ≡ at
  part_long = mid_long work64 0 l (omega (arith, f, c.within)) ∙ f

  part_code : mid_of 0 n (mid_of 0 l work64) ≡ mid_of 0 n work64
  part_code = mid_mid work64 0 l 0 n (omega (arith, f, c.within)) (omega (arith, f, c.values))

  front : take k (leads ++ post_of 0 k work32) ≡ leads
  front = take_at leads (post_of 0 k work32) k size

  pub number_asks : (types : List ℕ) → length types ≡ s
      → walk.Numberable (mid_of 0 (length (take k (leads ++ post_of 0 k work32))) (mid_of 0 l work64)) (take k (leads ++ post_of 0 k work32)) types (mid_of 0 l work64)
  number_asks types t = rw (front, size, e, part_code) (record { few = rw (size, e) d.few; locals = rw t (omega (arith, d.slots)); long = rw (size, e, t, part_long) c.values; named = rw (size, e, t) d.named })

  pub number_renumbered : (S : Sections) (metadata numbered : List ℕ) → length numbered ≡ length (mid_of 0 l work64) → leads ≡ leaders (cells_by (mid_of 0 k work64) metadata)
      → mid_of 0 (length (take k (leads ++ post_of 0 k work32))) numbered ≡ words_of (number_code S (take k (leads ++ post_of 0 k work32)) (cells_by (mid_of 0 (length (take k (leads ++ post_of 0 k work32))) (mid_of 0 l work64)) metadata))
      → Renumbered S (cells_by (mid_of 0 n work64) metadata) n (leads ++ post_of 0 k work32) (put_mid 0 l work64 numbered)
  number_renumbered S metadata numbered long m w =
      let m' : leads ≡ leaders (cells_by (mid_of 0 n work64) metadata) = rw e at m in
      let w' : mid_of 0 n numbered ≡ words_of (number_code S leads (cells_by (mid_of 0 n work64) metadata)) = rw (front, size, e, part_code) at w in
      let back : mid_of 0 n (put_mid 0 l work64 numbered) ≡ mid_of 0 n numbered = back_within work64 0 l numbered (omega (arith, f, c.within)) (long ∙ part_long ∙ sym f) 0 n (omega (arith, f, c.values)) in
      record { leads = ap (λ (j : ℕ). take j (leads ++ post_of 0 k work32)) (sym e) ∙ front ∙ m'; code = back ∙ w' ∙ ap (λ (l : List ℕ). words_of (number_code S l (cells_by (mid_of 0 n work64) metadata))) m' }
