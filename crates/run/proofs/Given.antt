-- Demand 3 for whole units: what one pass or the cleaning returns runs as the unit's function does.
-- Assumes nothing.
use Rattle.std.proofs.Math.Path.{◌≡◌, refl}
use Rattle.std.proofs.Common.{ap, ◌∙◌, arith, eqb-true}
use Rattle.std.specs.Prelude.{Option, Some, None, Ok, Err, Result, Bool, true, false, cond, not, ◌&&◌, ◌||◌, eqb, ltb, get_or, drop}
use mathlib.Core.List.{List, [], ◌∷◌, ◌++◌}
use Prim.Native.Nat.{ℕ, zero, suc, ◌+◌, ◌*◌, ◌/◌, ◌^◌, ◌≤◌, ◌<◌}
use Rattle.std.proofs.Math.ListN.{length, get_or-map}
use Rattle.std.proofs.lemmas.List.{length-map}
use Rattle.words.specs.Bytes.{Bytes}
use Rattle.words.specs.laws.Bytes.{bytes_mid, le_fits}
use Rattle.words.specs.laws.Lists.{length_tabulate, get_d_tabulate}
use Rattle.instruction.specs.Instruction.{instruction_at}
use Rattle.instruction.specs.laws.Instruction.{Fields}
use Rattle.unit.specs.declared.Constant.{Constant}
use Rattle.unit.specs.declared.Constant.TheVariants.{Nil, Bool as BoolConstant, Int, Float as FloatConstant, String}
use Rattle.unit.specs.declared.Line.{Line}
use Rattle.lines.specs.Lines.{moved_lines, places_of}
use Rattle.unit.specs.Entry.{metadata_at, lines_in, constant_of, constant_at, constant_kind, constant_value}
use Rattle.unit.specs.Layout.{header_of, code_of, metadata_of, constants_of, lines_of, is_unit, lines_rise, layout_of}
use Rattle.unit.specs.laws.UnitLaws.{MetadataFields, layout_unit}
use Rattle.unit.proofs.laws.UnitLaws.{unit_laid}
use Rattle.unit.specs.Result.{Retained, result_bytes, read_result}
use Rattle.unit.specs.Size.{instruction_size, metadata_size, constant_size, result_size, max_instructions}
use Rattle.unit.specs.declared.Header.{Header}
use Rattle.unit.specs.declared.refusal.Refusal.{Refusal}
use Rattle.unit.specs.Refusal.{short_buffer, metadata_count, type_count}
use Rattle.effects.specs.Check.{Passed}
use Rattle.unit.specs.Refusal.{Refused}
use Rattle.effects.specs.Shape.{Sections, Cell, cell_at, no_cell}
use Rattle.values.specs.declared.Atom.{Atom}
use Rattle.values.specs.declared.Atom.TheVariants.{Integer, Float}
use Rattle.values.specs.Number.{constant_atom}
use Rattle.answer.specs.Pass.{Outcome, unchanged, refused, rewritten, output_after, is_worked_on, optimized, pass}
use Rattle.answer.specs.declared.Admission.{Admission}
use Rattle.answer.specs.declared.Admission.TheVariants.{Admitted, Unchanged}
use Rattle.answer.specs.Answer.{Lent, cells_of, sections_of, room_for, is_skipped, count_check, admitted_by, after_skipped, after_layout, laid_out, admission, after_admission, answer_with, pass_answer}
use Rattle.answer.specs.Clean.{retained_cell, cells_after, placed_by, after_pass, clean_from, cleaned_first, spare_for, clean_answer, lines_past, lines_from, lines_first, clean_lines}
use Rattle.run.specs.laws.Machine.{same_runs_refl}
use Rattle.run.specs.Visits.{noted_at, StandsFor, PreservesPlaces}
use Rattle.run.proofs.laws.Visits.{visits_runs, visits_trans, visits_noted, noted_placed}
use Rattle.run.proofs.laws.Opcodes.{stands_trans}
use Rattle.run.specs.Program.{Function, program_of}
use Rattle.run.specs.Returned.{given_function, result_function, output_function, PreservesRuns}
use Rattle.run.proofs.laws.Valuation.{Below, integer, float}
use Rattle.run.proofs.laws.RelocatedRun.{pick}
use Rattle.run.proofs.laws.Checked.{Well}
use Rattle.run.proofs.laws.Passed.{Good, worked_size, optimized_runs, pass_worked, pass_runs}
use Rattle.run.specs.laws.Runnable.{Runnable}
use Rattle.run.specs.laws.Reading.{AllFit, no_retained, result_back}
use Rattle.lines.specs.laws.Below.{Rising}
use Rattle.run.proofs.laws.MovedLines.{inside, places_long, placed_places, placed_at, placed_rising, lines_placed}
use Rattle.run.proofs.laws.Fitting.{AllSound, Again, optimized_again, again_fits, placed_long, placed_fits}
use Rattle.run.specs.Given.{Worked}

-- ---- the function of a unit of bytes is well

pub instruction_fields : (code : List ℕ) (p : ℕ) → Bytes code → Fields (instruction_at code p)
unfolding instruction_at
instruction_fields code p b = record {
  op_fits = b (8 * p);
  flags_fits = b (8 * p + 1);
  a_fits = le_fits 2 code (8 * p + 2) b;
  b_fits = le_fits 2 code (8 * p + 4) b;
  c_fits = le_fits 2 code (8 * p + 6) b;
}

pub lines_fit : (u : List ℕ) → Bytes u → (header_of u).counts.lines < 2 ^ 32
unfolding header_of
lines_fit u b = le_fits 4 u 64 b

-- a constant's word is one of 64 bits
unfoldable pub Small : Option Constant → Type 0
Small (Some Nil) = Unit {0}
Small (Some (BoolConstant v)) = v < 2 ^ 64
Small (Some (Int v)) = v < 2 ^ 64
Small (Some (FloatConstant v)) = Unit {0}
Small (Some String) = Unit {0}
Small None = Unit {0}

constant_small : (l : List ℕ) (k : ℕ) → Bytes l → Small (constant_at l k)
unfolding Small constant_at constant_of
constant_small l k b =
    let h : constant_value l k < 2 ^ 64 = le_fits 8 l (constant_size * k + 8) b in
    let found = λ (c : Constant). Small (Some c) in
    pick Small (ltb k (length l / constant_size))
    (pick found (eqb (constant_kind l k) 0) tt (pick found (eqb (constant_kind l k) 1) h (pick found (eqb (constant_kind l k) 2) h (pick found (eqb (constant_kind l k) 3) tt tt)))) tt

atom_below : (c : Option Constant) (v : Atom) → Small c → constant_atom c ≡ Some v → (p : ℕ) → Below p v
unfolding Small constant_atom
atom_below (Some Nil) v h e p = let q : v ≡ Integer 0 = cc in rw q (integer {v = 0} (omega arith))
atom_below (Some (BoolConstant w)) v h e p = let q : v ≡ Integer w = cc in rw q (integer h)
atom_below (Some (Int w)) v h e p = let q : v ≡ Integer w = cc in rw q (integer h)
atom_below (Some (FloatConstant w)) v h e p = let q : v ≡ Float w = cc in rw q float
atom_below (Some String) v h e p = let z : ◌≡◌ {A = ℕ} 0 1 = cc in absurd (omega arith)
atom_below None v h e p = let z : ◌≡◌ {A = ℕ} 0 1 = cc in absurd (omega arith)

-- the constants of bytes are words of 64 bits
pub constants_below : (l : List ℕ) → Bytes l → (k : ℕ) (v : Atom) → constant_atom (constant_at l k) ≡ Some v → (p : ℕ) → Below p v
constants_below l b k v = atom_below (constant_at l k) v (constant_small l k b)

pub cell_at_lem : (u : List ℕ) (p : ℕ) → p < (header_of u).counts.instructions → cell_at (cells_of u) p ≡ record { instruction = instruction_at (code_of u) p; metadata = metadata_at (metadata_of u) p }
unfolding cells_of
cell_at_lem u p h = get_d_tabulate (header_of u).counts.instructions _ p no_cell h

pub cells_long : (u : List ℕ) → length (cells_of u) ≡ (header_of u).counts.instructions
unfolding cells_of
cells_long u = length_tabulate (header_of u).counts.instructions _

pub given_well : (u : List ℕ) → Bytes u → is_unit u ≡ true → (header_of u).counts.metadata ≡ (header_of u).counts.instructions
    → (header_of u).counts.types ≡ (header_of u).counts.locals → Well (given_function u)
unfolding given_function sections_of
given_well u b e m t =
    record {
      locals = (unit_laid u e).locals;
      described = rw (cells_long u, m) (omega arith);
      typed = rw ((unit_laid u e).lengths.types ∙ t) (omega arith);
      fields = λ p h. let k : p < (header_of u).counts.instructions = rw cells_long at h in rw (cell_given u p k) (instruction_fields (code_of u) p (bytes_mid (header_of u).offsets.code (instruction_size * (header_of u).counts.instructions) u b));
      constants = constants_below (constants_of u) (bytes_mid (header_of u).offsets.constants (constant_size * (header_of u).counts.constants) u b);
    }
  where
    cell_given : (u : List ℕ) (p : ℕ) → p < (header_of u).counts.instructions → (cell_at (cells_of u) p).instruction ≡ instruction_at (code_of u) p
    cell_given u p h = ap (λ (x : Cell). x.instruction) (cell_at_lem u p h)

-- ---- what is returned can be read back

pub metadata_fields : (l : List ℕ) (p : ℕ) → Bytes l → MetadataFields (metadata_at l p)
unfolding metadata_at
metadata_fields l p b =
    record {
      kind_fits = b (metadata_size * p);
      ok_fits = b (metadata_size * p + 1);
      array_fits = le_fits 2 l (metadata_size * p + 2) b;
      first_fits = le_fits 4 l (metadata_size * p + 4) b;
      second_fits = le_fits 4 l (metadata_size * p + 8) b;
      end_fits = le_fits 4 l (metadata_size * p + 12) b;
    }

-- the metadata of a unit of bytes
given_sound : (u : List ℕ) → Bytes u → is_unit u ≡ true → (header_of u).counts.metadata ≡ (header_of u).counts.instructions → AllSound (header_of u).counts.cases (cells_of u)
given_sound u b laid described p h =
    let l : p < (header_of u).counts.instructions = rw (cells_long u) at h in
    rw (cell_at_lem u p l)
    (record {
      fits = metadata_fields (metadata_of u) p (bytes_mid (header_of u).offsets.metadata (metadata_size * (header_of u).counts.metadata) u b);
      good = (unit_laid u laid).entries.metadata p (rw described l);
    })

-- What is returned runs as F does, may be given to the next pass, and is what its bytes say.
pub record Returnable (F : Function) (cases : ℕ) (kept : List Retained) : Type 0 where
  pub good : Good F kept
  pub few : length kept ≤ max_instructions
  pub shorter : length kept ≤ length F.cells
  pub fits : AllFit cases kept
  pub rising : Rising (places_of kept)

module _ (F : Function) (cases : ℕ) where
  optimized_returnable : Well F → AllSound cases F.cells → is_worked_on (length F.cells) ≡ true → (kept : List Retained) → optimized F.sections F.cells ≡ rewritten kept
      → Returnable F cases kept
  optimized_returnable w sound on kept e =
      let small = (worked_size (length F.cells) on).1 in
      let again = optimized_again F w cases sound on kept e in
      let fewer = again.few in
      record { good = optimized_runs F w on kept e; few = omega arith; shorter = again.few; fits = again_fits cases (length F.cells) kept small again; rising = again.rising }

-- ---- one pass

-- the rows that let it pass, one by one
not_admitted : (k p : ℕ) → Refused k p ≡ Ok Admitted → ⊥
not_admitted k p e = let z : ◌≡◌ {A = ℕ} 0 1 = cc in omega arith

laid_admitted : (u : List ℕ) (rest : Result Admission Refusal) → laid_out (layout_of u) rest ≡ Ok Admitted → (is_unit u ≡ true) × (rest ≡ Ok Admitted) × (lines_rise u ≡ true)
unfolding laid_out
laid_admitted u rest = go (layout_of u) refl
  where
    go : (y : Result Header Refusal) → layout_of u ≡ y → laid_out y rest ≡ Ok Admitted → (is_unit u ≡ true) × (rest ≡ Ok Admitted) × (lines_rise u ≡ true)
    go (Ok h) q e = let l = layout_unit u h q in (l.0, e, l.2)
    go (Err r) q e = absurd (not_admitted r.number r.place e)

worked_admitted : (s t : Bool) (rest : Result Admission Refusal) → cond (not s || t) (Ok Unchanged) rest ≡ Ok Admitted → (s ≡ true) × (rest ≡ Ok Admitted)
worked_admitted true true rest e = let z : ◌≡◌ {A = ℕ} 0 1 = cc in absurd (omega arith)
worked_admitted true false rest e = (refl, e)
worked_admitted false t rest e = let z : ◌≡◌ {A = ℕ} 0 1 = cc in absurd (omega arith)

lent_admitted : (room : Bool) (rest : Result Admission Refusal) → cond room rest (Refused short_buffer 0) ≡ Ok Admitted → (room ≡ true) × (rest ≡ Ok Admitted)
lent_admitted true rest e = (refl, e)
lent_admitted false rest e = absurd (not_admitted short_buffer 0 e)

counts_admitted : (s t : Bool) → admitted_by (cond s (cond t Passed (Refused type_count 0)) (Refused metadata_count 0)) ≡ Ok Admitted → (s ≡ true) × (t ≡ true)
unfolding admitted_by
counts_admitted true true e = (refl, refl)
counts_admitted true false e = absurd (not_admitted type_count 0 e)
counts_admitted false t e = absurd (not_admitted metadata_count 0 e)

pub admitted_worked : (u : List ℕ) (room : Bool) → admission room u ≡ Ok Admitted → Worked u room
unfolding admission after_layout after_skipped count_check is_skipped
admitted_worked u room e =
    let c = (header_of u).counts in
    let laid = laid_admitted u _ e in
    let worked = worked_admitted (is_worked_on c.instructions) (eqb c.defer 1) _ laid.1 in
    let lent = lent_admitted room _ worked.1 in
    let counts = counts_admitted (eqb c.metadata c.instructions) (eqb c.types c.locals) lent.1 in
    record {
      laid = laid.0;
      rise = laid.2;
      worked = rw (cells_long u) worked.0;
      few = (worked_size c.instructions worked.0).1;
      lent = lent.0;
      described = eqb-true c.metadata c.instructions counts.0;
      typed = eqb-true c.types c.locals counts.1;
    }

-- a rewritten unit was admitted
pub answer_optimized : (u : List ℕ) (room : Bool) (kept : List Retained) → answer_with room u ≡ rewritten kept → Worked u room × (optimized (sections_of u) (cells_of u) ≡ rewritten kept)
unfolding answer_with after_admission
answer_optimized u room kept = go (admission room u) refl
  where
    go : (a : Result Admission Refusal) → admission room u ≡ a → after_admission a (optimized (sections_of u) (cells_of u)) ≡ rewritten kept → Worked u room × (optimized (sections_of u) (cells_of u) ≡ rewritten kept)
    go (Ok Admitted) q e = (admitted_worked u room q, e)
    go (Ok Unchanged) q e = let z : ◌≡◌ {A = ℕ} 0 1 = cc in absurd (omega arith)
    go (Err r) q e = let z : ◌≡◌ {A = ℕ} 0 1 = cc in absurd (omega arith)

pub answer_worked : (u : List ℕ) (room : Bool) (kept : List Retained) → answer_with room u ≡ rewritten kept → Worked u room
answer_worked u room kept e = (answer_optimized u room kept e).0

-- Its function is well.
pub worked_well : {u : List ℕ} {room : Bool} → Bytes u → Worked u room → Well (given_function u)
worked_well {u} b w = given_well u b w.laid w.described w.typed

module _ (u : List ℕ) (b : Bytes u) (room : Bool) where
  pub answer_returnable : (kept : List Retained) → answer_with room u ≡ rewritten kept → Returnable (given_function u) (header_of u).counts.cases kept
  unfolding given_function
  answer_returnable kept e =
      let o = answer_optimized u room kept e in
      let w = o.0 in
      optimized_returnable (given_function u) (header_of u).counts.cases (worked_well b w) (given_sound u b w.laid w.described) w.worked kept o.1

-- the function in the output's bytes is the one that was retained
returned_places : (u : List ℕ) (cases : ℕ) (kept : List Retained) (lines : List Line) (out : List ℕ) → Returnable (given_function u) cases kept
    → PreservesPlaces u (rewritten kept) (output_after (rewritten kept) lines out)
unfolding PreservesPlaces output_function output_after given_function
returned_places u cases kept lines out r =
    let size = result_size (length kept) (length lines) in
    let e : read_result (result_bytes kept lines ++ drop size out) ≡ kept = result_back cases kept lines (drop size out) r.few r.fits in
    rw e r.good.places

-- an answer that keeps the places keeps the runs
places_preserve : (u : List ℕ) (o : Outcome) (out : List ℕ) → PreservesPlaces u o out → PreservesRuns u o out
unfolding PreservesPlaces PreservesRuns output_function given_function
places_preserve u unchanged out s = same_runs_refl (program_of (given_function u))
places_preserve u (refused k p) out s = tt
places_preserve u (rewritten kept) out s = visits_runs s.visits

-- The run by places for one pass: of the bytes in the output after it, whatever lines they have.
pub pass_places : (u : List ℕ) (l : Lent) (lines : List Line) (out : List ℕ) → Bytes u → PreservesPlaces u (pass_answer u l) (output_after (pass_answer u l) lines out)
unfolding pass_answer PreservesPlaces
pass_places u l lines out b = go (pass_answer u l) refl
  where
    go : (o : Outcome) → answer_with (room_for (header_of u).counts l) u ≡ o → PreservesPlaces u o (output_after o lines out)
    go unchanged e = tt
    go (refused k p) e = tt
    go (rewritten kept) e = returned_places u _ kept lines out (answer_returnable u b (room_for (header_of u).counts l) kept e)

-- Demand 3 for one pass.
pub pass_preserves : (u : List ℕ) (l : Lent) (lines : List Line) (out : List ℕ) → Bytes u → PreservesRuns u (pass_answer u l) (output_after (pass_answer u l) lines out)
pass_preserves u l lines out b = places_preserve u (pass_answer u l) _ (pass_places u l lines out b)

-- What one pass retains can be run.
pub pass_runnable : (u : List ℕ) (l : Lent) (kept : List Retained) → Bytes u → pass_answer u l ≡ rewritten kept → Runnable (result_function (sections_of u) kept)
unfolding pass_answer given_function
pass_runnable u l kept b e = (answer_returnable u b (room_for (header_of u).counts l) kept e).good.runs

-- ---- cleaning

-- old places are no part of the code
pub placed_cells : (before kept : List Retained) → cells_after (placed_by before kept) ≡ cells_after kept
unfolding placed_by
placed_cells before [] = refl
placed_cells before (r ∷ rs) = ap (λ (l : List Cell). retained_cell r ∷ l) (placed_cells before rs)

placed_function : (S : Sections) (before kept : List Retained) → result_function S (placed_by before kept) ≡ result_function S kept
unfolding result_function
placed_function S before kept = rw (placed_cells before kept, placed_long before kept)

-- what good passes lead to from F
module _ (F : Function) (cases : ℕ) where
  -- what stands for an instruction after a pass more
  placed_stands : (before kept : List Retained) → Again cases (length before) kept → Rising (places_of before)
      → ((q : ℕ) → q < length before → StandsFor (cell_at F.cells (get_or (places_of before) q 0)).instruction (cell_at (cells_after before) q).instruction)
      → ((q : ℕ) → q < length kept → StandsFor (cell_at (cells_after before) (get_or (places_of kept) q 0)).instruction (cell_at (cells_after kept) q).instruction)
      → (q : ℕ) → q < length (placed_by before kept) → StandsFor (cell_at F.cells (get_or (places_of (placed_by before kept)) q 0)).instruction (cell_at (cells_after (placed_by before kept)) q).instruction
  placed_stands before kept again rise f g q h =
      let l : q < length kept = rw (placed_long before kept) at h in
      let m : q < length (places_of kept) = rw (places_long kept) l in
      let i : get_or (places_of kept) q 0 < length before = rw (places_long before) at (inside before kept again rise q m) in
      rw (placed_cells before kept, placed_at before kept again rise q m) (stands_trans (f (get_or (places_of kept) q 0) i) (g q l))

  placed_good : (before kept : List Retained) → Good F before → Good (result_function F.sections before) kept → Again cases (length before) kept → Rising (places_of before)
      → Good F (placed_by before kept)
  unfolding result_function
  placed_good before kept g h again rise =
      record {
        places = record {
          visits = rw (placed_function F.sections before kept)
              (visits_noted (noted_at (places_of (placed_by before kept))) (visits_trans g.places.visits h.places.visits)
              (λ f p. noted_placed (places_of before) rise (places_of kept) (inside before kept again rise) f p ∙ rw (placed_places before kept)));
          stands = placed_stands before kept again rise g.places.stands h.places.stands;
        };
        well = rw (placed_function F.sections before kept) h.well;
        runs = rw (placed_function F.sections before kept) h.runs;
      }

  -- a pass more
  pass_again : (before kept : List Retained) → Returnable F cases before → pass F.sections (cells_after before) ≡ rewritten kept → Again cases (length before) kept
  unfolding result_function
  pass_again before kept r e =
      let G = result_function F.sections before in
      let worked = pass_worked F.sections (cells_after before) kept e in
      let sound : AllSound cases (cells_after before) = λ p h.
      let l : p < length before = rw (length-map before retained_cell) at h in
      rw (get_or-map retained_cell before p no_retained) (r.fits p l).metadata in
      rw (length-map before retained_cell) at (optimized_again G r.good.well cases sound worked.0 kept worked.1)

  pub placed_returnable : (before kept : List Retained) → Returnable F cases before → pass F.sections (cells_after before) ≡ rewritten kept → Returnable F cases (placed_by before kept)
  unfolding result_function
  placed_returnable before kept r e =
      let G = result_function F.sections before in
      let again = pass_again before kept r e in
      let fewer = again.few in
      let few = r.few in
      record {
        good = placed_good before kept r.good (pass_runs G r.good.well kept e) again r.rising;
        few = rw (placed_long before kept) (omega arith);
        shorter = let short = r.shorter in rw (placed_long before kept) (omega arith);
        fits = placed_fits cases before kept (λ p h. (r.fits p h).place) again;
        rising = placed_rising before kept again r.rising;
      }

  -- up to k passes more keep the run
  clean_returnable : (k j : ℕ) (before kept : List Retained) → Returnable F cases before → (clean_from F.sections k j before).outcome ≡ rewritten kept → Returnable F cases kept
  unfolding clean_from after_pass
  clean_returnable zero j before kept r e = let q : before ≡ kept = cc in rw (← q) r
  clean_returnable (suc k) j before kept r e = go (pass F.sections (cells_after before)) refl e (λ b c. clean_returnable k (suc j) b kept c)
    where
      go : (o : Outcome) → pass F.sections (cells_after before) ≡ o
          → (after_pass (suc j) before (λ kept. clean_from F.sections k (suc j) (placed_by before kept)) o).outcome ≡ rewritten kept
          → ((b : List Retained) → Returnable F cases b → (clean_from F.sections k (suc j) b).outcome ≡ rewritten kept → Returnable F cases kept) → Returnable F cases kept
      go unchanged q e ih = let same : before ≡ kept = cc in rw (← same) r
      go (refused m p) q e ih = let z : ◌≡◌ {A = ℕ} 0 1 = cc in absurd (omega arith)
      go (rewritten next) q e ih = ih (placed_by before next) (placed_returnable before next r q) e

  -- and lines moved pass by pass are moved by the old places in the given unit
  lines_returnable : (k j : ℕ) (before kept : List Retained) (given : List Line) → Returnable F cases before → (clean_from F.sections k j before).outcome ≡ rewritten kept
      → lines_from F.sections k before (moved_lines (places_of before) given) ≡ moved_lines (places_of kept) given
  unfolding clean_from after_pass lines_from lines_past
  lines_returnable zero j before kept given r e = let q : before ≡ kept = cc in rw q
  lines_returnable (suc k) j before kept given r e = go (pass F.sections (cells_after before)) refl e (λ b c. lines_returnable k (suc j) b kept given c)
    where
      moved : List Line
      moved = moved_lines (places_of before) given

      go : (o : Outcome) → pass F.sections (cells_after before) ≡ o → (after_pass (suc j) before (λ kept. clean_from F.sections k (suc j) (placed_by before kept)) o).outcome ≡ rewritten kept
          → ((b : List Retained) → Returnable F cases b → (clean_from F.sections k (suc j) b).outcome ≡ rewritten kept → lines_from F.sections k b (moved_lines (places_of b) given) ≡ moved_lines (places_of kept) given)
          → lines_past moved (λ kept. lines_from F.sections k (placed_by before kept) (moved_lines (places_of kept) moved)) o ≡ moved_lines (places_of kept) given
      go unchanged q e ih = let same : before ≡ kept = cc in rw same
      go (refused m p) q e ih = let z : ◌≡◌ {A = ℕ} 0 1 = cc in absurd (omega arith)
      go (rewritten next) q e ih = rw (lines_placed before next (pass_again before next r q) r.rising given) (ih (placed_by before next) (placed_returnable before next r q) e)

-- What a cleaning went through that gives `kept`.
module _ (u : List ℕ) (b : Bytes u) (l : Lent) (first second : ℕ) where
  abbrev room : Bool
  room = room_for (header_of u).counts l && spare_for (header_of u).counts first second

  pub clean_kept : (kept : List Retained) → (clean_answer u l first second).outcome ≡ rewritten kept → Worked u room × Returnable (given_function u) (header_of u).counts.cases kept
  unfolding clean_answer cleaned_first given_function
  clean_kept kept e = go (answer_with room u) refl e
    where
      go : (o : Outcome) → answer_with room u ≡ o → (cleaned_first (sections_of u) o).outcome ≡ rewritten kept → Worked u room × Returnable (given_function u) (header_of u).counts.cases kept
      go unchanged f e = let z : ◌≡◌ {A = ℕ} 0 1 = cc in absurd (omega arith)
      go (refused k p) f e = let z : ◌≡◌ {A = ℕ} 0 1 = cc in absurd (omega arith)
      go (rewritten one) f e = (answer_worked u room one f, clean_returnable (given_function u) _ 2 1 one kept (answer_returnable u b room one f) e)

  -- Document 02, L3: "An entry moves to the boundary of its place", of all passes at once.
  pub clean_lines_lem : (kept : List Retained) → (clean_answer u l first second).outcome ≡ rewritten kept → clean_lines u l first second ≡ moved_lines (places_of kept) (lines_in (lines_of u))
  unfolding clean_answer cleaned_first clean_lines lines_first given_function
  clean_lines_lem kept e = go (answer_with room u) refl e
    where
      given : List Line
      given = lines_in (lines_of u)

      go : (o : Outcome) → answer_with room u ≡ o → (cleaned_first (sections_of u) o).outcome ≡ rewritten kept → lines_first (sections_of u) given o ≡ moved_lines (places_of kept) given
      go unchanged f e = let z : ◌≡◌ {A = ℕ} 0 1 = cc in absurd (omega arith)
      go (refused k p) f e = let z : ◌≡◌ {A = ℕ} 0 1 = cc in absurd (omega arith)
      go (rewritten one) f e = lines_returnable (given_function u) _ 2 1 one kept given (answer_returnable u b room one f) e

-- The run by places for cleaning: of the bytes in the output after it.
pub clean_places : (u : List ℕ) (l : Lent) (first second : ℕ) (lines : List Line) (out : List ℕ) → Bytes u
    → PreservesPlaces u (clean_answer u l first second).outcome (output_after (clean_answer u l first second).outcome lines out)
unfolding clean_answer cleaned_first PreservesPlaces given_function
clean_places u l first second lines out b = go (answer_with room u) refl
  where
    room : Bool
    room = room_for (header_of u).counts l && spare_for (header_of u).counts first second

    later : (o : Outcome) (kept : List Retained) → Returnable (given_function u) (header_of u).counts.cases kept → (clean_from (sections_of u) 2 1 kept).outcome ≡ o → PreservesPlaces u o (output_after o lines out)
    later unchanged kept r e = tt
    later (refused k p) kept r e = tt
    later (rewritten last) kept r e = returned_places u _ last lines out (clean_returnable (given_function u) _ 2 1 kept last r e)

    go : (o : Outcome) → answer_with room u ≡ o → PreservesPlaces u (cleaned_first (sections_of u) o).outcome (output_after (cleaned_first (sections_of u) o).outcome lines out)
    go unchanged e = tt
    go (refused k p) e = tt
    go (rewritten kept) e = later (clean_from (sections_of u) 2 1 kept).outcome kept (answer_returnable u b room kept e) refl

-- Demand 3 for cleaning.
pub clean_preserves : (u : List ℕ) (l : Lent) (first second : ℕ) (lines : List Line) (out : List ℕ) → Bytes u
    → PreservesRuns u (clean_answer u l first second).outcome (output_after (clean_answer u l first second).outcome lines out)
clean_preserves u l first second lines out b = places_preserve u (clean_answer u l first second).outcome _ (clean_places u l first second lines out b)

-- What cleaning retains can be run.
pub clean_runnable : (u : List ℕ) (l : Lent) (first second : ℕ) (kept : List Retained) → Bytes u → (clean_answer u l first second).outcome ≡ rewritten kept
    → Runnable (result_function (sections_of u) kept)
unfolding given_function
clean_runnable u l first second kept b e = (clean_kept u b l first second kept e).1.good.runs
