-- What a pass decides: the answer, and where it is rewritten the work that holds what is retained, from which the result is written. The
-- 32-bit work has the kept places at `keep_at n` with their map behind them, the 64-bit work the code at [0, n).
-- Assumes nothing.
use Rattle.std.specs.Prelude.{Ok, Err, Result, ◌≡◌, refl, Bool, true, false, cond, ◌&&◌, List, [], ℕ, ◌+◌, ◌*◌, ◌-◌, ◌^◌, ◌≤◌, eqb, get_or}
use Rattle.std.proofs.Math.Path.{sym, ap}
use Rattle.std.proofs.Common.{◌∙◌, add-zero, zero-add, arith}
use Rattle.std.proofs.Math.ListN.{length}
use borrow.Rule.Slice.PartMut.{mid_of, put_mid}
use Rattle.words.specs.Bytes.{Bytes}
use Rattle.words.specs.laws.Bytes.{take_below}
use Rattle.words.specs.laws.Only.{mid_mid, back_within}
use Rattle.words.specs.laws.Regions.{mid_long, put_long, get_mid, Outside, outside_front}
use Rattle.unit.specs.laws.Region.{keep_at, list_in, list_at}
use Rattle.unit.specs.Result.{Retained, result_bytes}
use Rattle.unit.specs.Size.{metadata_size, result_size, work32_room, max_instructions}
use Rattle.effects.specs.Check.{Check}
use Rattle.effects.specs.Check.{Passed}
use Rattle.unit.specs.Refusal.{Refused}
use Rattle.effects.specs.Shape.{Cell}
use Rattle.effects.specs.laws.Cells.{cells_by, cells_long}
use Rattle.flow.specs.laws.BranchLaws.{BranchesInside}
use Rattle.flow.specs.laws.Control.{Controls}
use Rattle.flow.specs.laws.Flags.{Flags, sum_most}
use Rattle.pc_map.specs.Boundary.{boundary}
use Rattle.pc_map.specs.Relocate.{relocation_check, retain_from}
use Rattle.pc_map.specs.laws.Boundaries.{Mapped, mapped_at, boundary_most}
use Rattle.pc_map.specs.laws.Listed.{kept_list, Listed, kept_many}
use Rattle.pc_map.specs.laws.Movable.{Writable, writable}
use Rattle.pc_map.specs.laws.Retaining.{retain_all}
use Rattle.answer.specs.Pass.{Outcome, unchanged, refused, rewritten, output_after, checked, same_code, all_kept, removal}
use Rattle.unit.specs.declared.refusal.Refusal.{Refusal}
use Rattle.optimize.specs.declared.Answer.{Answer}
use Rattle.optimize.specs.declared.Answer.TheVariants.{Unchanged, Rewritten}
use Rattle.optimize.specs.PassAnswer.{answer_of, Answers}
use Rattle.optimize.specs.laws.Given.{words_in, same_words, cells_in, answers_unchanged, answers_refused}
use Rattle.optimize.specs.laws.Concluded.{Words, Known, conclude_unchanged, conclude_refused, conclude_rewritten}
use Rattle.optimize.specs.laws.Outcomes.{outcome_unchanged, outcome_refused, outcome_rewritten}

-- the retained places are known
pub record Finished (n : ℕ) (metadata work32 work64 : List ℕ) : Type 0 where
  pub few : n ≤ max_instructions
  pub mapped : Mapped (mid_of (keep_at n) n work32) (mid_of (keep_at n + n) (n + 1) work32)
  pub metadata_long : metadata_size * n ≤ length metadata
  pub inside : BranchesInside (mid_of 0 n work64)
  pub long32 : work32_room n ≤ length work32
  pub long64 : n ≤ length work64

-- and refusal 10 is past
pub record Relocatable (n : ℕ) (metadata work32 work64 : List ℕ) : Type 0 where
  pub finished : Finished n metadata work32 work64
  pub relocated : relocation_check (mid_of (keep_at n) n work32) (cells_by (mid_of 0 n work64) metadata) ≡ Passed

-- the outcome, and what is retained, by what the work holds
abbrev pub concluded : ℕ → List ℕ → List ℕ → List ℕ → List ℕ → Outcome
concluded n code metadata work32 work64 = removal (cells_in n code metadata) (cells_by (mid_of 0 n work64) metadata) (mid_of (keep_at n) n work32)

abbrev pub retained_in : ℕ → List ℕ → List ℕ → List ℕ → List Retained
retained_in n metadata work32 work64 = retain_from (mid_of (keep_at n) n work32) 0 (cells_by (mid_of 0 n work64) metadata)

-- where an outcome is rewritten, the work holds what is retained
abbrev pub Holds : Outcome → ℕ → List ℕ → List ℕ → List ℕ → Type 0
Holds o n metadata work32 work64 = (kept : List Retained) → o ≡ rewritten kept → Relocatable n metadata work32 work64 × (retained_in n metadata work32 work64 ≡ kept)

-- an answer decides an outcome
abbrev pub Decides : Outcome → ℕ → List ℕ → Result Answer Refusal → List ℕ → List ℕ → Type 0
Decides o n metadata r work32 work64 = (r ≡ answer_of o) × Holds o n metadata work32 work64

pub decides_refused : (o : Outcome) (k p n : ℕ) (metadata work32 work64 : List ℕ) → o ≡ refused k p → Decides o n metadata (Refused k p) work32 work64
unfolding answer_of
decides_refused o k p n metadata work32 work64 e = (rw e refl, λ kept q. let z : ◌≡◌ {A = ℕ} 0 1 = cc in absurd (omega arith))

-- what a rewriting went through
removal_kept : (cells code : List Cell) (keep : List ℕ) (kept : List Retained) → removal cells code keep ≡ rewritten kept → (relocation_check keep code ≡ Passed) × (retain_from keep 0 code ≡ kept)
unfolding removal checked
removal_kept cells code keep kept e = go (same_code cells code && all_kept keep) e (relocation_check keep code) refl
  where
    go : (t : Bool) → cond t unchanged (checked (relocation_check keep code) (rewritten (retain_from keep 0 code))) ≡ rewritten kept → (c : Check) → relocation_check keep code ≡ c
        → (relocation_check keep code ≡ Passed) × (retain_from keep 0 code ≡ kept)
    go true e c q = let z : ◌≡◌ {A = ℕ} 0 1 = cc in absurd (omega arith)
    go false e Passed q = let f : rewritten (retain_from keep 0 code) ≡ rewritten kept = rw q at e in (q, cc)
    go false e (Err r) q = let f : refused r.number r.place ≡ rewritten kept = rw q at e in let z : ◌≡◌ {A = ℕ} 0 1 = cc in absurd (omega arith)

-- the answers of what was decided, and of what was written then
module _ {o : Outcome} {n : ℕ} {metadata work32 work64 : List ℕ} {r : Result Answer Refusal} (d : Decides o n metadata r work32 work64) where
  pub decided_relocatable : (k : ℕ) → r ≡ Ok (Rewritten k) → Relocatable n metadata work32 work64
  decided_relocatable k e = let t = outcome_rewritten o k (sym e ∙ d.0) in (d.1 t.kept t.is).0

  pub answers_written : (k : ℕ) (out out' : List ℕ) → r ≡ Ok (Rewritten k) → ((kept : List Retained) → retained_in n metadata work32 work64 ≡ kept → out' ≡ output_after (rewritten kept) [] out) → Answers o (Ok (Rewritten k)) out out'
  answers_written k out out' e w = let t = outcome_rewritten o k (sym e ∙ d.0) in (sym e ∙ d.0, rw t.is (w t.kept (d.1 t.kept t.is).1))

  pub answers_decided_unchanged : (out : List ℕ) → r ≡ Ok Unchanged → Answers o (Ok Unchanged) out out
  answers_decided_unchanged out e = answers_unchanged o out (outcome_unchanged o (sym e ∙ d.0))

  pub answers_decided_refused : (k p : ℕ) (out : List ℕ) → r ≡ Refused k p → Answers o (Refused k p) out out
  answers_decided_refused k p out e = answers_refused o k p out (outcome_refused o k p (sym e ∙ d.0))

module _ {n : ℕ} {metadata work32 work64 : List ℕ} (d : Finished n metadata work32 work64) where
  code_size : length (mid_of 0 n work64) ≡ n
  code_size = mid_long work64 0 n (omega (arith, d.long64))

  keep_size : length (mid_of (keep_at n) n work32) ≡ n
  keep_size = mid_long work32 (keep_at n) n (omega (arith, d.long32))

  -- the last boundary is the number of retained instructions
  last : get_or work32 (keep_at n + n + n) 0 ≡ get_or (mid_of (keep_at n + n) (n + 1) work32) n 0
  last = sym (get_mid work32 (keep_at n + n) (n + 1) n 0 (omega arith))

  last_boundary : get_or work32 (keep_at n + n + n) 0 ≡ boundary (mid_of (keep_at n) n work32) n
  last_boundary = last ∙ mapped_at (mid_of (keep_at n) n work32) (mid_of (keep_at n + n) (n + 1) work32) d.mapped n (omega (arith, keep_size))

  pub few_retained : get_or work32 (keep_at n + n + n) 0 ≤ n
  few_retained = omega (arith, last_boundary, boundary_most (mid_of (keep_at n) n work32) d.mapped.flags n)

  -- ---- `conclude`: parts of the work as it lends them
  module _ (k j : ℕ) (e : k ≡ n) (f : j ≡ n) where
    pub conclude_same_asks : (code : List ℕ) → 8 * n ≤ length code → 8 * length (mid_of 0 k work64) ≤ length code
    conclude_same_asks code h = rw (e, code_size) h

    pub conclude_relocation_asks : (at count q : ℕ) → q ≡ count → Controls (mid_of 0 n work64) (mid_of at count work64) n
        → (length (mid_of 0 k work64) ≤ max_instructions)
        × (metadata_size * length (mid_of 0 k work64) ≤ length metadata)
        × (length (mid_of (keep_at n) j work32) ≡ length (mid_of 0 k work64))
        × Controls (mid_of 0 k work64) (mid_of at q work64) (length (mid_of 0 k work64))
    conclude_relocation_asks at count q same c = rw (e, f) (rw code_size d.few, rw code_size d.metadata_long, keep_size ∙ sym code_size, rw (same, code_size) c)

    module _ (code : List ℕ) (b : Bytes code) (words : Words work64) (retained : ℕ) (g : retained ≡ get_or work32 (keep_at n + n + n) 0) where
      known : Known code (mid_of 0 n work64) (mid_of (keep_at n) n work32) (mid_of (keep_at n + n) (n + 1) work32)
      known = record { bytes = b; fits = take_below (2 ^ 64) (omega arith) n work64 words; mapped = d.mapped; long = keep_size ∙ sym code_size }

      count : get_or (mid_of (keep_at n + n) (n + 1) work32) (length (mid_of 0 n work64)) 0 ≡ retained
      count = ap (λ (i : ℕ). get_or (mid_of (keep_at n + n) (n + 1) work32) i 0) code_size ∙ sym last ∙ sym g

      abbrev same : Bool
      same = eqb retained (length (mid_of 0 k work64)) && same_words (words_in (length (mid_of 0 k work64)) code) (mid_of 0 k work64)

      same_test : (t : Bool) → same ≡ t
          → (eqb (get_or (mid_of (keep_at n + n) (n + 1) work32) (length (mid_of 0 n work64)) 0) (length (mid_of 0 n work64)) && same_words (words_in (length (mid_of 0 n work64)) code) (mid_of 0 n work64)) ≡ t
      same_test t h = rw count (rw e at h)

      pub concluded_unchanged : (eqb retained (length (mid_of 0 k work64)) && same_words (words_in (length (mid_of 0 k work64)) code) (mid_of 0 k work64)) ≡ true → Ok Unchanged ≡ answer_of (concluded n code metadata work32 work64)
      concluded_unchanged h = rw code_size at (conclude_unchanged known metadata (same_test true h))

      module _ (other : (eqb retained (length (mid_of 0 k work64)) && same_words (words_in (length (mid_of 0 k work64)) code) (mid_of 0 k work64)) ≡ false) (c : Check)
          (r : c ≡ relocation_check (mid_of (keep_at n) j work32) (cells_by (mid_of 0 k work64) metadata)) where
        relocation : c ≡ relocation_check (mid_of (keep_at n) n work32) (cells_by (mid_of 0 n work64) metadata)
        relocation = rw (e, f) at r

        pub concluded_refused : (i p : ℕ) → c ≡ Refused i p → Refused i p ≡ answer_of (concluded n code metadata work32 work64)
        concluded_refused i p q = rw code_size at (conclude_refused known metadata (same_test false other) i p (sym relocation ∙ q))

        pub concluded_rewritten : c ≡ Passed → Ok (Rewritten retained) ≡ answer_of (concluded n code metadata work32 work64)
        concluded_rewritten q = ap (λ n. Ok (Rewritten n)) (sym count) ∙ conclude_rewritten known metadata (same_test false other) (sym relocation ∙ q) ∙ rw code_size

  -- so it is decided
  pub conclude_decides : (code : List ℕ) (o : Outcome) (r : Result Answer Refusal) → o ≡ concluded n code metadata work32 work64 → r ≡ answer_of (concluded n code metadata work32 work64) → Decides o n metadata r work32 work64
  conclude_decides code o r e q = (
    rw e q,
    λ kept z.
        let k = removal_kept (cells_in n code metadata) (cells_by (mid_of 0 n work64) metadata) (mid_of (keep_at n) n work32) kept (sym e ∙ z) in
        (record { finished = d; relocated = k.0 }, k.1),
  )

  -- ---- `write`: the kept places are listed behind their map

  -- the part from the kept places on
  abbrev rest : ℕ
  rest = length work32 - keep_at n

  fits : keep_at n + rest ≤ length work32
  fits = omega (arith, d.long32)

  part_long : length (mid_of (keep_at n) rest work32) ≡ rest
  part_long = mid_long work32 (keep_at n) rest fits

  part_keep : mid_of 0 n (mid_of (keep_at n) rest work32) ≡ mid_of (keep_at n) n work32
  part_keep = mid_mid work32 (keep_at n) rest 0 n fits (omega (arith, d.long32)) ∙ ap (λ (m : ℕ). mid_of m n work32) (add-zero (keep_at n))

  pub list_asks : Flags (mid_of 0 n (mid_of (keep_at n) (length work32 - keep_at n) work32))
      × (n ≤ max_instructions)
      × (n ≤ list_in n)
      × (list_in n + n ≤ length (mid_of (keep_at n) (length work32 - keep_at n) work32))
  list_asks = (rw part_keep d.mapped.flags, d.few, omega arith, omega (arith, part_long, d.long32))

  module _ (part : List ℕ) (size : length part ≡ length (mid_of (keep_at n) (length work32 - keep_at n) work32))
      (list : mid_of (list_in n) (boundary (mid_of 0 n (mid_of (keep_at n) (length work32 - keep_at n) work32)) n) part ≡ kept_list (mid_of 0 n (mid_of (keep_at n) (length work32 - keep_at n) work32)))
      (o : Outside (list_in n) n (mid_of (keep_at n) (length work32 - keep_at n) work32) part) where
    long : length part ≡ rest
    long = size ∙ part_long

    abbrev after : List ℕ
    after = put_mid (keep_at n) rest work32 part

    -- what stands before the list is as it was
    before : (i j : ℕ) → i + j ≤ list_in n → mid_of (keep_at n + i) j after ≡ mid_of (keep_at n + i) j work32
    before i j h =
        let same : mid_of 0 (list_in n) part ≡ mid_of 0 (list_in n) (mid_of (keep_at n) rest work32) = outside_front (list_in n) n o (list_in n) (omega arith) in
        back_within work32 (keep_at n) rest part fits long i j (omega (arith, d.long32))
        ∙ within part (omega (arith, long, d.long32))
        ∙ ap (λ (l : List ℕ). mid_of i j l) same
        ∙ sym (within (mid_of (keep_at n) rest work32) (omega (arith, part_long, d.long32)))
        ∙ mid_mid work32 (keep_at n) rest i j fits (omega (arith, d.long32))
      where
        within : (l : List ℕ) → list_in n ≤ length l → mid_of i j l ≡ mid_of i j (mid_of 0 (list_in n) l)
        within l g = ap (λ (m : ℕ). mid_of m j l) (sym (zero-add i)) ∙ sym (mid_mid l 0 (list_in n) i j (rw (zero-add (list_in n)) g) h)

    pub listed_keep : mid_of (keep_at n) n (put_mid (keep_at n) (length work32 - keep_at n) work32 part) ≡ mid_of (keep_at n) n work32
    listed_keep = rw (add-zero (keep_at n)) at (before 0 n (omega arith))

    pub listed_long : length (put_mid (keep_at n) (length work32 - keep_at n) work32 part) ≡ length work32
    listed_long = put_long work32 (keep_at n) rest part long fits

    pub listed_finished : Finished n metadata (put_mid (keep_at n) (length work32 - keep_at n) work32 part) work64
    listed_finished = record {
      few = d.few;
      mapped = rw (listed_keep, before n (n + 1) (omega arith)) d.mapped;
      metadata_long = d.metadata_long;
      inside = d.inside;
      long32 = rw listed_long d.long32;
      long64 = d.long64;
    }

    pub listed_there : mid_of (list_at n) (boundary (mid_of (keep_at n) n work32) n) (put_mid (keep_at n) (length work32 - keep_at n) work32 part) ≡ kept_list (mid_of (keep_at n) n work32)
    listed_there =
        let most = sum_most (mid_of (keep_at n) n work32) d.mapped.flags n in
        back_within work32 (keep_at n) rest part fits long (list_in n) (boundary (mid_of (keep_at n) n work32) n) (omega (arith, d.long32)) ∙ (rw part_keep at list)

-- the result is written of the listed places
module _ {n : ℕ} {metadata work32 work64 : List ℕ} (d : Finished n metadata work32 work64) (there : mid_of (list_at n) (boundary (mid_of (keep_at n) n work32) n) work32 ≡ kept_list (mid_of (keep_at n) n work32))
    (k l b m : ℕ) (e : k ≡ n) (g : l ≡ n + 1) (start : b ≡ list_at n) (many : m ≡ get_or work32 (keep_at n + n + n) 0) where
  listed : Listed (mid_of (keep_at n) n work32) (mid_of (keep_at n + n) l work32) (mid_of b m work32) (length (mid_of 0 k work64))
  listed = rw (e, g) (record { mapped = d.mapped; list = rw (start, many, last_boundary d) there; long = keep_size d ∙ sym (code_size d) })

  pub write_asks : (out : ℕ) → relocation_check (mid_of (keep_at n) n work32) (cells_by (mid_of 0 n work64) metadata) ≡ Passed → result_size n 0 ≤ out
      → Writable (mid_of 0 k work64) metadata (mid_of (keep_at n + n) l work32) (mid_of b m work32) out
  write_asks out relocated room =
      let most = boundary_most (mid_of (keep_at n) n work32) d.mapped.flags n in
      writable (mid_of 0 k work64) metadata (mid_of (keep_at n) n work32) (mid_of (keep_at n + n) l work32) (mid_of b m work32) out listed
      (rw (e, code_size d) d.metadata_long) (rw e d.inside) (rw e relocated) (rw (e, code_size d) (omega arith))

  pub write_output : (kept : List Retained) (out out' : List ℕ) → retained_in n metadata work32 work64 ≡ kept
      → ((keep : List ℕ) → Listed keep (mid_of (keep_at n + n) l work32) (mid_of b m work32) (length (mid_of 0 k work64))
      → out' ≡ put_mid 0 (result_size (length (mid_of b m work32)) 0) out (result_bytes (retain_from keep 0 (cells_by (mid_of 0 k work64) metadata)) []))
      → out' ≡ output_after (rewritten kept) [] out
  unfolding output_after
  write_output kept out out' z w =
      let keep = mid_of (keep_at n) n work32 in
      let cells = cells_by (mid_of 0 k work64) metadata in
      let here : retain_from keep 0 cells ≡ kept = rw e z in
      let whole : length (retain_from keep 0 cells) ≡ boundary keep (length keep) =
      retain_all keep d.mapped.flags cells (listed.long ∙ sym (cells_long (mid_of 0 k work64) metadata)) ∙ ap (boundary keep) (cells_long (mid_of 0 k work64) metadata ∙ sym listed.long) in
      let count : length (mid_of b m work32) ≡ length kept = ap length listed.list ∙ kept_many keep d.mapped.flags ∙ sym whole ∙ ap length here in
      w keep listed ∙ rw (count, here)
