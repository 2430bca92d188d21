-- From one step of a pass to the next: what a step leaves is what the next one asks.
-- Assumes nothing.
use Rattle.std.specs.Prelude.{◌≡◌, refl, true, List, ◌++◌, ℕ, ◌+◌, ◌*◌, ◌/◌, ◌^◌, ◌≤◌, ◌<◌, length, get_or, take, drop}
use Rattle.std.proofs.Common.{sym, ap, ◌∙◌, arith, take_at}
use Rattle.std.proofs.lemmas.List.{length-map}
use borrow.Rule.Slice.PartMut.{mid_of, post_of}
use Rattle.words.specs.laws.Regions.{mid_long, put_long}
use Rattle.instruction.specs.Instruction.{class, of_word}
use Rattle.unit.specs.Entry.{metadata_at, good_metadata}
use Rattle.unit.specs.laws.Region.{keep_at}
use Rattle.unit.specs.Size.{metadata_size, case_size, sets_room, work64_room, max_local_slots}
use Rattle.unit.specs.laws.Size.{sets_fit}
use Rattle.effects.specs.Check.{Check}
use Rattle.effects.specs.Check.{Passed}
use Rattle.unit.specs.Refusal.{Refused}
use Rattle.effects.specs.Check.{operand_refusal, operand_check}
use Rattle.effects.specs.Shape.{Sections, Cell, cell_at}
use Rattle.effects.specs.laws.Cells.{cell_of, cells_by, cell_at_lem}
use Rattle.effects.specs.laws.Sound.{passed_at}
use Rattle.flow.specs.Branch.{branch_check}
use Rattle.flow.specs.laws.BranchLaws.{BranchesInside}
use Rattle.flow.specs.laws.Leaders.{leaders_first, leaders_flags}
use Rattle.flow.specs.Loop.{reached_places, loop_check}
use Rattle.flow.specs.laws.Reached.{places_flags}
use Rattle.answer.specs.Pass.{Outcome, refused, checked}
use Rattle.values.specs.laws.Named.{Named}
use Rattle.run.specs.laws.Slots.{named_of}
use Rattle.optimize.specs.laws.Given.{Given, WorkRoom, Checked, words_in, words_long, words_of, cells_in, numbered_code, reached_marks, retained_places, from_loops, loops_removal}
use Rattle.removal.specs.laws.KeptWork.{Retainable, Retains}
use Rattle.optimize.specs.laws.NumberedWords.{given_long, numbered_size, cells_back, numbered_operands, numbered_none, numbered_inside}
use Rattle.optimize.specs.laws.Steps.{controls_at, ListedControls, list_kept, Renumbered, Marks, Reached, Numberable}
use Rattle.optimize.specs.laws.Decided.{Finished, concluded}

-- a check and what follows it
pub checked_refused : (c : Check) (k p : ℕ) (rest : Outcome) → c ≡ Refused k p → checked c rest ≡ refused k p
unfolding checked
checked_refused c k p rest e = rw e

pub checked_passed : (c : Check) (rest : Outcome) → c ≡ Passed → checked c rest ≡ rest
unfolding checked
checked_passed c rest e = rw e

-- the room stays
pub same_room : (n s work32 work64 work32' work64' : ℕ) → WorkRoom n s work32 work64 → work32' ≡ work32 → work64' ≡ work64 → WorkRoom n s work32' work64'
same_room n s work32 work64 work32' work64' r e f = rw (e, f) r

module _ (n : ℕ) (code metadata : List ℕ) (S : Sections) (g : Given n code metadata S) where
  abbrev cells : List Cell
  cells = cells_in n code metadata

  -- the loaded code can be numbered
  pub loaded_numberable : (room32 : ℕ) (work64 : List ℕ) → WorkRoom n S.locals room32 (length work64) → operand_check S.locals S.tables cells ≡ Passed
      → mid_of 0 n work64 ≡ words_in n code → Numberable n S.locals room32 work64
  loaded_numberable room32 work64 r o e = record {
    some = g.some;
    few = g.few;
    slots = g.slots;
    long32 = r.room32;
    named = λ p h. rw e (named p h);
  }
    where
      named : (p : ℕ) → p < n → Named (class (of_word (get_or (words_in n code) p 0))) S.locals (of_word (get_or (words_in n code) p 0))
      named p h =
          let x = cell_of metadata p (get_or (words_in n code) p 0) in
          let z : operand_refusal S.locals S.tables x ≡ 0 =
          rw (← cell_at_lem (words_in n code) metadata p (rw (words_long n code) h)) (passed_at S.locals S.tables cells o p (rw (given_long n code metadata S g) h)) in
          named_of S.locals S.tables x (class (of_word (get_or (words_in n code) p 0))) refl z

  -- the check of branches in memory
  pub loaded_branches : (k : ℕ) (work64 : List ℕ) → k ≡ n → mid_of 0 n work64 ≡ words_in n code → branch_check cells ≡ branch_check (cells_by (mid_of 0 k work64) metadata)
  loaded_branches k work64 e f = rw (e, f)

  pub loaded_renumbered : (work64 work32' work64' : List ℕ) → mid_of 0 n work64 ≡ words_in n code → Renumbered S (cells_by (mid_of 0 n work64) metadata) n work32' work64' → Renumbered S cells n work32' work64'
  loaded_renumbered work64 work32' work64' e r = rw (← e) r

  module _ (c : Checked S cells) where
    abbrev numbered : List Cell
    numbered = numbered_code S cells

    -- the numbered code in memory
    module _ (work32 work64 : List ℕ) (r : Renumbered S cells n work32 work64) where
      pub memory_cells : cells_by (mid_of 0 n work64) metadata ≡ numbered_code S cells
      memory_cells = ap (λ (l : List ℕ). cells_by l metadata) r.code ∙ cells_back n code metadata S g c

      memory_long : length (mid_of 0 n work64) ≡ n
      memory_long = ap length r.code ∙ length-map numbered _ ∙ numbered_size n code metadata S g c

      memory_at : (p : ℕ) → p < n → cell_of metadata p (get_or (mid_of 0 n work64) p 0) ≡ cell_at numbered p
      memory_at p h = sym (cell_at_lem (mid_of 0 n work64) metadata p (rw memory_long h)) ∙ ap (λ (l : List Cell). cell_at l p) memory_cells

      memory_inside : BranchesInside (mid_of 0 n work64)
      memory_inside p h =
          let k : p < n = rw memory_long at h in
          rw (memory_long, ap (λ (x : Cell). x.instruction) (memory_at p k)) (numbered_inside n code metadata S g c p k)

      -- the list of the control places is one of it too
      pub numbered_listed : {s at count : ℕ} {loaded : List ℕ} → mid_of 0 n loaded ≡ words_in n code → length work64 ≡ length loaded → drop at work64 ≡ drop at loaded
          → ListedControls n s at count loaded → ListedControls n s at count work64
      numbered_listed e long behind l =
          list_kept l long behind (λ p h none.
          let given : cell_at cells p ≡ cell_of metadata p (get_or (words_in n code) p 0) = cell_at_lem (words_in n code) metadata p (rw (words_long n code) h) in
          rw (ap (λ (x : Cell). x.instruction) (memory_at p h)) (numbered_none n code metadata S g c p h (rw (ap (λ (x : Cell). x.instruction) given) (rw e at none))))

      -- the reached places
      module _ (k : ℕ) (work32' : List ℕ) (a : Check) (e : k ≡ n) (d : Reached n metadata (mid_of 0 k work64) work32 work32' a) where
        pub reached_marks_lem : Marks S cells n work32' work64
        reached_marks_lem = record {
          numbered = record { leads = d.leads ∙ r.leads; code = r.code };
          marks = d.marks ∙ ap (λ (j : ℕ). reached_places (cells_by (mid_of 0 j work64) metadata)) e ∙ ap reached_places memory_cells;
        }

        pub reached_answer : loop_check (reached_marks S cells) (numbered_code S cells) ≡ a
        reached_answer = sym (d.answer ∙ ap (λ (j : ℕ). loop_check (reached_places (cells_by (mid_of 0 j work64) metadata)) (cells_by (mid_of 0 j work64) metadata)) e ∙ ap (λ (l : List Cell). loop_check (reached_places l) l) memory_cells)

    -- the retained places
    module _ (work32 work64 : List ℕ) (r : WorkRoom n S.locals (length work32) (length work64)) (m : Marks S cells n work32 work64) where
      pub marks_retainable : (at : ℕ) → sets_room n S.locals ≤ at → Retainable S n (mid_of 0 n work64) metadata (mid_of 0 n work32) (mid_of (keep_at n) n work32) (length work32) at
      marks_retainable at sets = record {
        some = g.some;
        few = g.few;
        typed = g.typed;
        slots = g.slots;
        entries = g.metadata_long;
        good = g.good;
        flags = rw m.numbered.leads (leaders_flags cells);
        one = rw m.numbered.leads (leaders_first cells (let h = g.some in rw (given_long n code metadata S g) (omega arith)));
        marked = rw m.marks (places_flags numbered);
        operands = λ p h. rw (memory_at work32 work64 m.numbered p h) (numbered_operands n code metadata S g c p h);
        inside = memory_inside work32 work64 m.numbered;
        long32 = r.room32;
        long64 = sets;
      }

      -- what was retained of them
      module _ {work32' work64' : List ℕ} (long32 : length work32' ≡ length work32) (long64 : length work64' ≡ length work64) (d : Retains S n metadata work32 work64 work32' work64') where
        kept_code : mid_of 0 n work64' ≡ words_of numbered
        kept_code = d.code ∙ m.numbered.code

        pub kept_cells : cells_by (mid_of 0 n work64') metadata ≡ numbered_code S cells
        kept_cells = ap (λ (l : List ℕ). cells_by l metadata) kept_code ∙ cells_back n code metadata S g c

        pub kept_places_lem : mid_of (keep_at n) n work32' ≡ retained_places S cells
        kept_places_lem = d.keep ∙ rw (m.numbered.leads, m.marks, memory_cells work32 work64 m.numbered)

        pub kept_finished : Finished n metadata work32' work64'
        kept_finished = record {
          few = g.few;
          mapped = record { flags = d.flags; small = rw keep_long g.few; numbers = d.bounds };
          metadata_long = let e = g.metadata_long in omega arith;
          inside = rw d.code (memory_inside work32 work64 m.numbered);
          long32 = rw long32 r.room32;
          long64 = omega (arith, r.room64, long64);
        }
          where
            keep_long : length (mid_of (keep_at n) n work32') ≡ n
            keep_long = mid_long work32' (keep_at n) n (omega (arith, r.room32, long32))

        pub kept_answer : from_loops S cells ≡ concluded n code metadata work32' work64'
        kept_answer = loops_removal S cells ∙ rw (kept_cells, kept_places_lem)

-- ---- the code is loaded
module _ (n k : ℕ) (code work64 words : List ℕ) (e : k ≡ n) (room : n ≤ length work64) (w : words ≡ words_in (length (mid_of 0 k work64)) code) where
  whole : length (mid_of 0 k work64) ≡ n
  whole = mid_long work64 0 k (omega arith) ∙ e

  here : words ≡ words_in n code
  here = w ∙ ap (λ (j : ℕ). words_in j code) whole

  size : length words ≡ k
  size = ap length here ∙ words_long n code ∙ sym e

  pub load_front : mid_of 0 n (words ++ post_of 0 k work64) ≡ words_in n code
  load_front = ap (λ (j : ℕ). take j (words ++ post_of 0 k work64)) (sym e) ∙ take_at words (post_of 0 k work64) k size ∙ here

  pub load_long : length (words ++ post_of 0 k work64) ≡ length work64
  load_long = put_long work64 0 k words size (omega arith)

-- what the check of the operands asks
pub operands_asks : (n : ℕ) (code metadata : List ℕ) (S : Sections) → Given n code metadata S → (at room : ℕ) → at ≡ controls_at n S.locals → work64_room n S.locals ≤ room
    → (n < 2 ^ 32) × (n ≤ at) × (at + n ≤ room) × (length metadata ≡ metadata_size * n) × (S.locals ≤ max_local_slots)
    × ((k : ℕ) → k < n → good_metadata (length S.tables.cases / case_size) (metadata_at metadata k) ≡ true)
operands_asks n code metadata S g at room f r =
    let fit = sets_fit n S.locals in
    (let few = g.few in omega arith, omega arith, omega arith, g.metadata_long, g.slots, g.good)
