-- What a pass makes of code whose fields fit has fields that fit.
-- Assumes nothing.
use Rattle.std.specs.Prelude.{◌≡◌, refl, Bool, true, false, cond, ℕ, zero, suc, ◌+◌, ◌^◌, ◌≤◌, ◌<◌, get_or}
use Rattle.std.proofs.Common.{ap}
use mathlib.Core.List.{List, [], ◌∷◌}
use Rattle.std.proofs.Math.Nat.{zero-add}
use native.Mathlib.Omega.{arith}
use Rattle.std.proofs.Math.ListN.{length, get_or-map}
use Rattle.std.proofs.lemmas.List.{length-map}
use Rattle.instruction.specs.laws.Instruction.{Fields}
use Rattle.unit.specs.Entry.{good_metadata}
use Rattle.unit.specs.Result.{Retained}
use Rattle.unit.specs.Size.{max_instructions}
use Rattle.effects.specs.Shape.{Sections, Cell, cell_at}
use Rattle.flow.specs.Block.{leaders}
use Rattle.flow.specs.laws.Flags.{Flags}
use Rattle.flow.specs.laws.Reached.{places_flags}
use Rattle.flow.specs.Loop.{reached_places, anchors, is_loop_hint}
use Rattle.values.specs.Number.{number_code}
use Rattle.liveness.specs.laws.Sweep.{dead_flags}
use Rattle.pc_map.specs.Boundary.{is_kept}
use Rattle.pc_map.specs.laws.Boundaries.{boundary_most}
use Rattle.pc_map.specs.Relocate.{relocate, retain_from}
use Rattle.pc_map.specs.laws.Relocated.{moved_metadata}
use Rattle.lines.specs.Lines.{places_of}
use Rattle.lines.specs.laws.Below.{Rising}
use Rattle.answer.specs.Clean.{retained_cell, cells_after, placed_by}
use Rattle.answer.specs.Pass.{rewritten, is_worked_on, optimized, kept_places}
use Rattle.run.proofs.laws.Checked.{Well, numberable}
use Rattle.run.specs.laws.Jumps.{rounds_flags}
use Rattle.run.proofs.laws.Numbered.{numbered_function, Numberable, numbered_at, numbered_long}
use Rattle.run.proofs.laws.Optimized.{useful_flags}
use Rattle.run.proofs.laws.Passed.{some_code, few, optimized_kept, optimized_runs}
use Rattle.run.specs.Program.{Function}
use Rattle.run.proofs.laws.RelocatedRun.{pick}
use Rattle.run.specs.Returned.{result_function}
use Rattle.run.specs.laws.Reading.{Sound, AllFit, retained_at, no_retained}

abbrev pub AllSound : ℕ → List Cell → Type 0
AllSound cases cells = (p : ℕ) → p < length cells → Sound cases (cell_at cells p).metadata

-- ---- what is retained of sound cells

module _ (keep : List ℕ) (flags : Flags keep) (cases : ℕ) where
  relocated_sound : (p : ℕ) (x : Cell) → Sound cases x.metadata → Sound cases (relocate keep p x).metadata
  unfolding good_metadata
  relocated_sound p x s =
      rw (moved_metadata keep p x)
      (pick (Sound cases) (is_loop_hint x.instruction)
      (let most = boundary_most keep flags x.metadata.end in
      let f = s.fits in
      record {
        fits = record { kind_fits = f.kind_fits; ok_fits = f.ok_fits; array_fits = f.array_fits; first_fits = f.first_fits; second_fits = f.second_fits; end_fits = omega (arith, f.end_fits) };
        good = s.good;
      })
      s)

  pub retained_sound : (xs : List Cell) (p : ℕ) → AllSound cases xs → (k : ℕ) → k < length (retain_from keep p xs)
      → Sound cases (retained_at (retain_from keep p xs) k).metadata × ((retained_at (retain_from keep p xs) k).place < p + length xs)
  unfolding retain_from
  retained_sound [] p s k h = absurd (omega arith)
  retained_sound (x ∷ xs) p s k h = go (is_kept keep p) k h (retained_sound xs (suc p) (λ k h. s (suc k) (omega arith)))
    where
      head : Retained
      head = record { instruction = (relocate keep p x).instruction; metadata = (relocate keep p x).metadata; place = p }

      rest : List Retained
      rest = retain_from keep (suc p) xs

      go : (t : Bool) (k : ℕ) → k < length (cond t (head ∷ rest) rest)
          → ((k : ℕ) → k < length rest → Sound cases (retained_at rest k).metadata × ((retained_at rest k).place < suc p + length xs))
          → Sound cases (retained_at (cond t (head ∷ rest) rest) k).metadata × ((retained_at (cond t (head ∷ rest) rest) k).place < p + suc (length xs))
      go true zero h ih = (relocated_sound p x (s 0 (omega arith)), omega arith)
      go true (suc k) h ih = let r = ih k (omega arith) in (r.0, omega arith)
      go false k h ih = let r = ih k h in (r.0, omega arith)

  -- old places rise
  pub retained_from_lem : (xs : List Cell) (p : ℕ) → (k : ℕ) → k < length (places_of (retain_from keep p xs)) → p ≤ get_or (places_of (retain_from keep p xs)) k 0
  unfolding retain_from
  retained_from_lem [] p k h = absurd (omega arith)
  retained_from_lem (x ∷ xs) p k h = go (is_kept keep p) k h (retained_from_lem xs (suc p))
    where
      head : Retained
      head = record { instruction = (relocate keep p x).instruction; metadata = (relocate keep p x).metadata; place = p }

      rest : List Retained
      rest = retain_from keep (suc p) xs

      go : (t : Bool) (k : ℕ) → k < length (places_of (cond t (head ∷ rest) rest)) → ((k : ℕ) → k < length (places_of rest) → suc p ≤ get_or (places_of rest) k 0) → p ≤ get_or (places_of (cond t (head ∷ rest) rest)) k 0
      go true zero h ih = omega arith
      go true (suc k) h ih = let r = ih k (omega arith) in omega arith
      go false k h ih = let r = ih k h in omega arith

  pub retained_rising : (xs : List Cell) (p : ℕ) → Rising (places_of (retain_from keep p xs))
  unfolding retain_from
  retained_rising [] p i j h l = absurd (omega arith)
  retained_rising (x ∷ xs) p i j h l = go (is_kept keep p) i j h l (retained_rising xs (suc p))
    where
      head : Retained
      head = record { instruction = (relocate keep p x).instruction; metadata = (relocate keep p x).metadata; place = p }

      rest : List Retained
      rest = retain_from keep (suc p) xs

      go : (t : Bool) (i j : ℕ) → i < j → j < length (places_of (cond t (head ∷ rest) rest)) → Rising (places_of rest) → get_or (places_of (cond t (head ∷ rest) rest)) i 0 < get_or (places_of (cond t (head ∷ rest) rest)) j 0
      go true i zero h l ih = absurd (omega arith)
      go true zero (suc j) h l ih = let r = retained_from_lem xs (suc p) j (omega arith) in omega arith
      go true (suc i) (suc j) h l ih = ih i j (omega arith) (omega arith)
      go false i j h l ih = ih i j h l

  pub retained_few : (xs : List Cell) (p : ℕ) → length (retain_from keep p xs) ≤ length xs
  unfolding retain_from
  retained_few [] p = omega arith
  retained_few (x ∷ xs) p = go (is_kept keep p) (retained_few xs (suc p))
    where
      head : Retained
      head = record { instruction = (relocate keep p x).instruction; metadata = (relocate keep p x).metadata; place = p }

      go : (t : Bool) → length (retain_from keep (suc p) xs) ≤ length xs → length (cond t (head ∷ retain_from keep (suc p) xs) (retain_from keep (suc p) xs)) ≤ suc (length xs)
      go true h = omega arith
      go false h = omega arith

-- ---- the places that a pass keeps are flags

pub kept_flags : (S : Sections) (leads : List ℕ) (code : List Cell) → Flags (kept_places S leads (reached_places code) code)
unfolding kept_places
kept_flags S leads code = rounds_flags (anchors (reached_places code) code) code 16 _ (dead_flags S leads _ code (useful_flags (reached_places code) code (places_flags code)))

-- ---- a pass

-- what a pass on n instructions retains
pub record Again (cases n : ℕ) (kept : List Retained) : Type 0 where
  pub few : length kept ≤ n
  pub instructions : (p : ℕ) → p < length kept → Fields (retained_at kept p).instruction
  pub metadata : (p : ℕ) → p < length kept → Sound cases (retained_at kept p).metadata
  pub places : (p : ℕ) → p < length kept → (retained_at kept p).place < n
  pub rising : Rising (places_of kept)

-- the fields of a result's cells
cell_fields : (kept : List Retained) → ((p : ℕ) → p < length (cells_after kept) → Fields (cell_at (cells_after kept) p).instruction) → (p : ℕ) → p < length kept → Fields (retained_at kept p).instruction
cell_fields kept f p h =
    let e : cell_at (cells_after kept) p ≡ retained_cell (retained_at kept p) = get_or-map retained_cell kept p no_retained in
    let g : Fields (cell_at (cells_after kept) p).instruction = f p (rw (length-map kept retained_cell) h) in
    rw e at g

module _ (F : Function) (w : Well F) (cases : ℕ) (sound : AllSound cases F.cells) (worked : is_worked_on (length F.cells) ≡ true) (kept : List Retained)
    (e : optimized F.sections F.cells ≡ rewritten kept) where
  abbrev cells : List Cell
  cells = F.cells

  abbrev code : List Cell
  code = number_code F.sections (leaders cells) cells

  abbrev keep : List ℕ
  keep = kept_places F.sections (leaders cells) (reached_places code) code

  pub optimized_again : Again cases (length F.cells) kept
  unfolding numbered_function result_function
  optimized_again =
      let some = some_code F w worked in
      let small = few F w worked in
      let k = optimized_kept F w worked kept e in
      let N : Numberable F (leaders cells) = numberable F w some small k.0 k.1 in
      let flags : Flags keep = kept_flags F.sections (leaders cells) code in
      let long : length code ≡ length cells = numbered_long F (leaders cells) N in
      let numbered : AllSound cases code = λ p h. let l : p < length cells = rw long at h in rw (numbered_at F (leaders cells) N p l) (sound p l) in
      rw (← k.2)
      (record {
        few = rw (← long) (retained_few keep flags cases code 0);
        instructions = cell_fields (retain_from keep 0 code) (rw (← k.2) at (optimized_runs F w worked kept e).well.fields);
        metadata = λ p h. (retained_sound keep flags cases code 0 numbered p h).0;
        places = λ p h. rw (← long) (rw zero-add at (retained_sound keep flags cases code 0 numbered p h).1);
        rising = retained_rising keep flags cases code 0;
      })

-- ---- with old places in the given unit

pub placed_at : (before kept : List Retained) (p : ℕ) → p < length kept
    → retained_at (placed_by before kept) p ≡ record { instruction = (retained_at kept p).instruction; metadata = (retained_at kept p).metadata; place = (retained_at before (retained_at kept p).place).place }
unfolding placed_by
placed_at before [] p h = absurd (omega arith)
placed_at before (r ∷ rs) zero h = rw (get_or-map (λ (x : Retained). x.place) before r.place no_retained)
placed_at before (r ∷ rs) (suc p) h = placed_at before rs p (omega arith)

pub placed_long : (before kept : List Retained) → length (placed_by before kept) ≡ length kept
unfolding placed_by
placed_long before [] = refl
placed_long before (r ∷ rs) = ap suc (placed_long before rs)

-- where the places in `before` are words of 32 bits, so are those of what came of it
pub placed_fits : (cases : ℕ) (before kept : List Retained) → ((p : ℕ) → p < length before → (retained_at before p).place < 2 ^ 32) → Again cases (length before) kept
    → AllFit cases (placed_by before kept)
placed_fits cases before kept b a p h =
    let l : p < length kept = rw placed_long at h in
    rw (placed_at before kept p l) (record { instruction = a.instructions p l; metadata = a.metadata p l; place = b (retained_at kept p).place (a.places p l) })

pub again_fits : (cases n : ℕ) (kept : List Retained) → n ≤ max_instructions → Again cases n kept → AllFit cases kept
again_fits cases n kept few a p h = record { instruction = a.instructions p h; metadata = a.metadata p h; place = let l = a.places p h in omega arith }
