-- Between two passes: a result at the front of a spare buffer, and what the next pass makes of it.
-- Assumes nothing.
use Rattle.std.proofs.Math.Path.{◌≡◌, refl}
use Rattle.std.proofs.Common.{sym, ap, ◌∙◌, append_assoc, append-nil, mul-le-mul_left, arith, length-append, take-append-drop, ext_get_or, take_at, drop_at}
use Rattle.std.specs.Prelude.{Bool, cond, List, [], ◌∷◌, ◌++◌, ℕ, ◌-◌, ◌*◌, ◌/◌, ◌^◌, ◌≤◌, ◌<◌, min, take, drop}
use Rattle.std.proofs.Math.Bool.{true, false}
use Rattle.std.proofs.Math.ListN.{length, get_or-map}
use Rattle.std.proofs.lemmas.List.{length-map}
use borrow.Author.Tests.{lt-ltb, le-ltb}
use borrow.Rule.Slice.PartMut.{mid_of, put_mid}
use Rattle.words.specs.Bytes.{Bytes}
use Rattle.words.specs.laws.Bytes.{bytes_mid, le_fits}
use Rattle.words.specs.Le.{u32_at}
use Rattle.words.specs.Lists.{tabulate}
use Rattle.words.specs.laws.Lists.{length_tabulate, get_d_tabulate}
use Rattle.words.specs.laws.Regions.{mid_long}
use Rattle.instruction.specs.Instruction.{instruction_at}
use Rattle.unit.specs.Entry.{metadata_at, good_metadata}
use Rattle.unit.specs.laws.UnitLaws.{result_long, result_header_long, code_bytes_long, metadata_bytes_all_long, place_bytes_long}
use Rattle.unit.proofs.laws.UnitLaws.{unit_laid}
use Rattle.unit.specs.Layout.{header_of, constants_of, cases_of, is_unit}
use Rattle.unit.specs.Result.{Retained, retained_from, result_header, code_bytes, metadata_bytes_all, place_bytes, line_bytes_all, result_bytes, result_metadata_at, result_places_at}
use Rattle.unit.specs.Size.{place_size, instruction_size, metadata_size, constant_size, case_size, result_header_size, result_size, set_words, max_set_words, max_instructions}
use Rattle.effects.specs.Shape.{Sections, cell_at, no_cell}
use Rattle.answer.specs.Answer.{sections_of}
use Rattle.answer.specs.Clean.{retained_cell, cells_after, placed_by}
use Rattle.answer.specs.Pass.{Outcome, unchanged, refused, rewritten, is_worked_on, optimized, pass}
use Rattle.run.proofs.laws.Checked.{Well}
use Rattle.run.proofs.Given.{instruction_fields, constants_below, metadata_fields}
use Rattle.run.specs.Program.{Function}
use Rattle.run.specs.Returned.{result_function}
use Rattle.optimize.specs.laws.Given.{Given, WorkRoom, Workable, cells_in, cells_in_lem, outcome_in}
use Rattle.run.specs.laws.Reading.{AllFit, code_in, metadata_in, places_in, retained_in, retained_at, no_retained, metadata_in_lem, places_in_lem, metadata_back, retained_back}
use Rattle.run.proofs.laws.Fitting.{AllSound, placed_long}
use Rattle.run.proofs.laws.Fitting.{Again, optimized_again, placed_fits}
use Rattle.clean.specs.laws.Placing.{composed}

-- room for n instructions is room for fewer
room_fewer : (k n s work32 work64 : ℕ) → k ≤ n → WorkRoom n s work32 work64 → WorkRoom k s work32 work64
room_fewer k n s work32 work64 h r =
    let rows : min k (max_set_words / set_words s) ≤ min n (max_set_words / set_words s) = omega arith in
    let sets : 3 * set_words s * min k (max_set_words / set_words s) ≤ 3 * set_words s * min n (max_set_words / set_words s) = mul-le-mul_left (3 * set_words s) rows in
    record {
      room32 = let o = r.room32 in omega arith;
      room64 = let o = r.room64 in omega arith;
    }

-- entries of the unit's cases
abbrev pub cases_in : List ℕ → ℕ
cases_in u = length (cases_of u) / case_size

-- the result of k instructions in `from` may be given to a pass that writes to `to`
pub record Ready (u from : List ℕ) (k to work32 work64 : ℕ) : Type 0 where
  pub laid : is_unit u ≡ true
  pub typed : (header_of u).counts.types ≡ (header_of u).counts.locals
  pub few : k ≤ max_instructions
  pub long : result_size k 0 ≤ length from
  pub good : (p : ℕ) → p < k → good_metadata (cases_in u) (metadata_at (metadata_in k from) p) ≡ true
  pub whole : take (result_size k 0) from ≡ result_bytes (retained_in k from) []
  pub out_room : result_size k 0 ≤ to
  pub room : WorkRoom k (sections_of u).locals work32 work64

-- "with old places in the given unit"
unfoldable pub placed_outcome : List Retained → Outcome → Outcome
placed_outcome before unchanged = unchanged
placed_outcome before (refused k p) = refused k p
placed_outcome before (rewritten kept) = rewritten (placed_by before kept)

-- what a later pass makes of the code `before`
abbrev pub later_outcome : Sections → List Retained → Outcome
later_outcome S before = placed_outcome before (pass S (cells_after before))

pub before_long : (k : ℕ) (from : List ℕ) → length (retained_in k from) ≡ k
unfolding retained_from
before_long k from = length_tabulate k _

before_at : (k : ℕ) (from : List ℕ) (p : ℕ) → p < k
    → retained_at (retained_in k from) p ≡ record { instruction = instruction_at (code_in k from) p; metadata = metadata_at (metadata_in k from) p; place = u32_at (places_in k from) (place_size * p) }
unfolding retained_from
before_at k from p h = get_d_tabulate k _ p no_retained h

cell_before : (k : ℕ) (from : List ℕ) (p : ℕ) → p < k
    → cell_at (cells_after (retained_in k from)) p ≡ record { instruction = instruction_at (code_in k from) p; metadata = metadata_at (metadata_in k from) p }
cell_before k from p h = get_or-map retained_cell (retained_in k from) p no_retained ∙ ap retained_cell (before_at k from p h)

cells_before_long : (k : ℕ) (from : List ℕ) → length (cells_after (retained_in k from)) ≡ k
cells_before_long k from = length-map (retained_in k from) retained_cell ∙ before_long k from

cells_before : (k : ℕ) (from : List ℕ) → Bytes from → cells_in k (code_in k from) (metadata_in k from) ≡ cells_after (retained_in k from)
cells_before k from b =
    cells_in_lem k (code_in k from) (metadata_in k from) (bytes_mid result_header_size (instruction_size * k) from b)
    ∙ ext_get_or no_cell (tabulate k _) (cells_after (retained_in k from)) (length_tabulate k _ ∙ sym (cells_before_long k from))
    (λ p h. let l : p < k = rw (length_tabulate k _) at h in get_d_tabulate k _ p no_cell l ∙ sym (cell_before k from p l))

pub worked_on : (n : ℕ) → 1 < n → n ≤ max_instructions → is_worked_on n ≡ true
unfolding is_worked_on
worked_on n h few = rw (lt-ltb 1 n h, le-ltb max_instructions n few)

-- the parts of a result between its sections' starts
pub code_part : (from : List ℕ) (k a : ℕ) → a ≡ result_metadata_at k → mid_of result_header_size (a - result_header_size) from ≡ code_in k from
code_part from k a e = let size : a - result_header_size ≡ instruction_size * k = omega arith in rw size

pub metadata_part : (from : List ℕ) (k a b : ℕ) → a ≡ result_metadata_at k → b ≡ result_places_at k → mid_of a (b - a) from ≡ metadata_in k from
metadata_part from k a b e f = let size : b - a ≡ metadata_size * k = omega arith in rw (size, e)

module _ {u from : List ℕ} {k to work32 work64 : ℕ} (r : Ready u from k to work32 work64) (bu : Bytes u) (bf : Bytes from) where
  abbrev before : List Retained
  before = retained_in k from

  abbrev S : Sections
  S = sections_of u

  abbrev F : Function
  F = result_function S before

  ready_well : Well F
  unfolding result_function sections_of
  ready_well =
      record {
        locals = (unit_laid u r.laid).locals;
        described = rw (length-map before retained_cell) (omega arith);
        typed = rw ((unit_laid u r.laid).lengths.types ∙ r.typed) (omega arith);
        fields = λ p h.
            let l : p < k = rw (cells_before_long k from) at h in
            rw (cell_before k from p l) (instruction_fields (code_in k from) p (bytes_mid result_header_size (instruction_size * k) from bf));
        constants = constants_below (constants_of u) (bytes_mid (header_of u).offsets.constants (constant_size * (header_of u).counts.constants) u bu);
      }

  ready_sound : AllSound (cases_in u) (cells_after before)
  ready_sound p h =
      let l : p < k = rw (cells_before_long k from) at h in
      rw (cell_before k from p l) (record { fits = metadata_fields (metadata_in k from) p (bytes_mid (result_metadata_at k) (metadata_size * k) from bf); good = r.good p l })

  pub ready_places : (p : ℕ) → p < length before → (retained_at before p).place < 2 ^ 32
  ready_places p h =
      let l : p < k = rw (before_long k from) at h in
      rw (before_at k from p l) (le_fits 4 (places_in k from) (place_size * p) (bytes_mid (result_places_at k) (place_size * k) from bf))

  ready_given : 1 < k → Given k (code_in k from) (metadata_in k from) (sections_of u)
  unfolding sections_of
  ready_given h =
      let long = r.long in
      let code : length (code_in k from) ≡ instruction_size * k = mid_long from result_header_size (instruction_size * k) (omega arith) in
      record {
        some = h;
        few = r.few;
        code_long = omega (arith, code);
        metadata_long = mid_long from (result_metadata_at k) (metadata_size * k) (omega arith);
        slots = (unit_laid u r.laid).locals;
        typed = (unit_laid u r.laid).lengths.types ∙ r.typed;
        good = r.good;
        code_bytes_lem = bytes_mid result_header_size (instruction_size * k) from bf;
        constant_bytes = bytes_mid (header_of u).offsets.constants (constant_size * (header_of u).counts.constants) u bu;
      }

  -- the parts that were found are what a pass may be given
  module _ (code metadata : List ℕ) (e₁ : code ≡ code_in k from) (e₂ : metadata ≡ metadata_in k from) where
    pub later_workable : 1 < k → Workable k u code metadata work32 work64
    later_workable h = rw (e₁, e₂) (record { laid = r.laid; given = ready_given h; room = r.room })

    pub later_outcome_lem : optimized (sections_of u) (cells_after (retained_in k from)) ≡ outcome_in k u code metadata
    later_outcome_lem = rw (e₁, e₂, cells_before k from bf)

  -- "n under 2" is unchanged
  pub pass_small : k < 2 → pass S (cells_after before) ≡ unchanged
  unfolding pass is_worked_on
  pass_small h = rw (cells_before_long k from, le-ltb 1 k (omega arith))

  worked : 2 ≤ k → is_worked_on (length (cells_after before)) ≡ true
  worked h = rw (cells_before_long k from) (worked_on k (omega arith) r.few)

  pub pass_worked : 2 ≤ k → pass S (cells_after before) ≡ optimized S (cells_after before)
  unfolding pass
  pass_worked h = rw (worked h)

  worked_again : is_worked_on (length (cells_after before)) ≡ true → (kept : List Retained) → optimized S (cells_after before) ≡ rewritten kept → Again (cases_in u) k kept
  unfolding result_function
  worked_again h kept e = rw (cells_before_long k from) at (optimized_again F ready_well (cases_in u) ready_sound h kept e)

  pub ready_again : 2 ≤ k → (kept : List Retained) → optimized S (cells_after before) ≡ rewritten kept → Again (cases_in u) k kept
  ready_again h = worked_again (worked h)

  -- the old places of the code before
  pub ready_old : places_in k from ≡ place_bytes before
  ready_old =
      let split : from ≡ result_bytes before [] ++ drop (result_size k 0) from = sym (take-append-drop (result_size k 0) from) ∙ ap (λ (l : List ℕ). l ++ drop (result_size k 0) from) r.whole in
      ap (places_in k) split ∙ (rw (before_long k from) at (places_in_lem before [] (drop (result_size k 0) from)))

  -- what it rewrote fits again
  pub later_made : (kept : List Retained) → later_outcome S before ≡ rewritten kept → AllFit (cases_in u) kept × (length kept ≤ k)
  unfolding placed_outcome pass
  later_made kept e = go (is_worked_on (length (cells_after before))) refl (optimized S (cells_after before)) refl e
    where
      go : (t : Bool) → is_worked_on (length (cells_after before)) ≡ t → (q : Outcome) → optimized S (cells_after before) ≡ q → placed_outcome before (cond t q unchanged) ≡ rewritten kept
          → AllFit (cases_in u) kept × (length kept ≤ k)
      go true f unchanged g e = let z : ◌≡◌ {A = ℕ} 0 1 = cc in absurd (omega arith)
      go true f (refused m p) g e = let z : ◌≡◌ {A = ℕ} 0 1 = cc in absurd (omega arith)
      go true f (rewritten made) g e =
          let same : placed_by before made ≡ kept = cc in
          let again : Again (cases_in u) k made = worked_again f made g in
          rw (← same) (placed_fits (cases_in u) before made ready_places (rw (before_long k from) again), rw (placed_long before made) again.few)
      go false f q g e = let z : ◌≡◌ {A = ℕ} 0 1 = cc in absurd (omega arith)

-- ---- what a pass wrote

-- a result that was written to a buffer
module _ (cases : ℕ) (kept : List Retained) (to to' : List ℕ) (e : to' ≡ put_mid 0 (result_size (length kept) 0) to (result_bytes kept [])) where
  abbrev j : ℕ
  j = length kept

  abbrev rest : List ℕ
  rest = drop (result_size (length kept) 0) to

  pub written_places : places_in (length kept) to' ≡ place_bytes kept
  written_places = ap (places_in j) e ∙ places_in_lem kept [] rest

  pub written_long : result_size (length kept) 0 ≤ length to → result_size (length kept) 0 ≤ length to'
  written_long h = rw e (rw (length-append (result_bytes kept []) rest, result_long kept []) (omega arith))

  module _ (f : AllFit cases kept) where
    pub written_back : retained_in (length kept) to' ≡ kept
    written_back = ap (retained_in j) e ∙ retained_back cases kept [] rest f

    written_whole : take (result_size j 0) to' ≡ result_bytes (retained_in j to') []
    written_whole = ap (take (result_size j 0)) e ∙ take_at (result_bytes kept []) rest (result_size j 0) (result_long kept []) ∙ ap (λ (l : List Retained). result_bytes l []) (sym written_back)

    written_good : (p : ℕ) → p < j → good_metadata cases (metadata_at (metadata_in j to') p) ≡ true
    written_good p h =
        let m : metadata_in j to' ≡ metadata_bytes_all kept = ap (metadata_in j) e ∙ metadata_in_lem kept [] rest in
        rw (m, metadata_back kept p h (f p h).metadata.fits) (f p h).metadata.good

    -- it may be given to the next pass
    pub written_ready : (u : List ℕ) (n out work32 work64 : ℕ) → is_unit u ≡ true → (header_of u).counts.types ≡ (header_of u).counts.locals → cases_in u ≡ cases
        → n ≤ max_instructions → length kept ≤ n → result_size n 0 ≤ length to → result_size n 0 ≤ out → WorkRoom n (sections_of u).locals work32 work64
        → Ready u to' (length kept) out work32 work64
    written_ready u n out work32 work64 laid typed c few fewer fits out_room room =
        record {
          laid = laid;
          typed = typed;
          few = omega arith;
          long = written_long (omega arith);
          good = rw c written_good;
          whole = written_whole;
          out_room = omega arith;
          room = room_fewer j n (sections_of u).locals work32 work64 fewer room;
        }

-- ---- composed places

placed_code : (before kept : List Retained) → code_bytes (placed_by before kept) ≡ code_bytes kept
unfolding placed_by code_bytes
placed_code before [] = refl
placed_code before (r ∷ rs) = rw (placed_code before rs)

placed_metadata : (before kept : List Retained) → metadata_bytes_all (placed_by before kept) ≡ metadata_bytes_all kept
unfolding placed_by metadata_bytes_all
placed_metadata before [] = refl
placed_metadata before (r ∷ rs) = rw (placed_metadata before rs)

-- the places of a result replaced
places_put : (kept : List Retained) (rest ys : List ℕ) → length ys ≡ place_size * length kept
    → put_mid (result_places_at (length kept)) (place_size * length kept) (result_bytes kept [] ++ rest) ys ≡ (result_header (length kept) 0 ++ code_bytes kept ++ metadata_bytes_all kept ++ ys) ++ rest
unfolding result_bytes line_bytes_all
places_put kept rest ys e =
    let k = length kept in
    let a = result_header k 0 ++ code_bytes kept ++ metadata_bytes_all kept in
    let long : length a ≡ result_places_at k = simp (length-append, result_header_long, code_bytes_long, metadata_bytes_all_long) in
    let split : result_bytes kept [] ++ rest ≡ a ++ (place_bytes kept ++ rest) = ap (λ (l : List ℕ). l ++ rest) (append-nil (a ++ place_bytes kept)) ∙ append_assoc a (place_bytes kept) rest in
    rw (split, take_at a (place_bytes kept ++ rest) (result_places_at k) long, drop_at a (place_bytes kept ++ rest) (result_places_at k) long, drop_at (place_bytes kept) rest (place_size * k) (place_bytes_long kept))
    (sym (append_assoc a ys rest))

pub places_composed : (before kept : List Retained) (to to₁ to₂ old : List ℕ) → old ≡ place_bytes before
    → to₁ ≡ put_mid 0 (result_size (length kept) 0) to (result_bytes kept [])
    → to₂ ≡ put_mid (result_places_at (length kept)) (place_size * length kept) to₁ (composed old (places_in (length kept) to₁) (length kept))
    → composed (place_bytes before) (place_bytes kept) (length kept) ≡ place_bytes (placed_by before kept)
    → to₂ ≡ put_mid 0 (result_size (length (placed_by before kept)) 0) to (result_bytes (placed_by before kept) [])
unfolding result_bytes line_bytes_all
places_composed before kept to to₁ to₂ old o e₁ e₂ c =
    let rest = drop (result_size (length kept) 0) to in
    let ys : List ℕ = place_bytes (placed_by before kept) in
    let found : composed old (places_in (length kept) to₁) (length kept) ≡ ys = rw (o, written_places 0 kept to to₁ e₁) c in
    let long : length ys ≡ place_size * length kept = place_bytes_long (placed_by before kept) ∙ rw (placed_long before kept) in
    let put : to₂ ≡ (result_header (length kept) 0 ++ code_bytes kept ++ metadata_bytes_all kept ++ ys) ++ rest = e₂ ∙ rw (found, e₁) (places_put kept rest ys long) in
    put ∙ rw (placed_long before kept, placed_code before kept, placed_metadata before kept, append-nil (result_header (length kept) 0 ++ code_bytes kept ++ metadata_bytes_all kept ++ ys))
