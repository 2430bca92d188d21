-- A result that lies at the front of a buffer is read back.
-- Assumes nothing.
use Rattle.std.specs.Prelude.{◌≡◌, refl, true, ℕ, suc, ◌*◌, ◌^◌, ◌≤◌, ◌<◌, get_or, take, drop}
use Rattle.std.proofs.Common.{sym, ◌∙◌, arith, take_at, drop_at, length-take-le, ext_get_or}
use Rattle.std.proofs.Math.Path.{ap}
use mathlib.Core.List.{List, [], ◌∷◌, ◌++◌, append_assoc}
use Rattle.std.proofs.Math.ListN.{length, length-append}
use Rattle.std.proofs.Math.Seq.{split_at, append_snoc}
use borrow.Rule.Slice.PartMut.{mid_of}
use Rattle.words.specs.Le.{from_le, to_le, u32_at}
use Rattle.words.specs.laws.Le.{from_to, length_to_le}
use Rattle.words.specs.Lists.{tabulate}
use Rattle.words.specs.laws.Lists.{length_tabulate, get_d_tabulate}
use Rattle.instruction.specs.Instruction.{instruction_at}
use Rattle.instruction.specs.laws.Instruction.{Fields}
use Rattle.instruction.specs.laws.ReadBack.{read_back}
use Rattle.unit.specs.Entry.{metadata_at, metadata_bytes, good_metadata}
use Rattle.unit.specs.laws.UnitLaws.{MetadataFields, metadata_read_back, code_bytes_long, metadata_bytes_all_long, place_bytes_long, result_header_long}
use Rattle.unit.specs.Result.{Retained, retained_from, read_result, result_header, code_bytes, metadata_bytes_all, place_bytes, line_bytes_all, result_bytes, result_metadata_at, result_places_at, result_lines_at}
use Rattle.unit.specs.Size.{result_header_size, instruction_size, metadata_size, place_size, max_instructions}
use Rattle.unit.specs.declared.Line.{Line}
use Rattle.unit.specs.declared.Metadata.{Metadata}
use Rattle.effects.specs.Shape.{no_cell}
use Rattle.pc_map.specs.laws.Retaining.{Section, code_section, metadata_section, place_section}

-- the sections of a result of k instructions
abbrev pub code_in : ℕ → List ℕ → List ℕ
code_in k b = mid_of result_header_size (instruction_size * k) b

abbrev pub metadata_in : ℕ → List ℕ → List ℕ
metadata_in k b = mid_of (result_metadata_at k) (metadata_size * k) b

abbrev pub places_in : ℕ → List ℕ → List ℕ
places_in k b = mid_of (result_places_at k) (place_size * k) b

-- its instructions
abbrev pub retained_in : ℕ → List ℕ → List Retained
retained_in k b = retained_from k result_header_size (result_metadata_at k) (result_places_at k) b

abbrev pub no_retained : Retained
no_retained = record { instruction = no_cell.instruction; metadata = no_cell.metadata; place = 0 }

abbrev pub retained_at : List Retained → ℕ → Retained
retained_at kept p = get_or kept p no_retained

-- metadata whose fields fit their width, and that is as a unit's is
pub record Sound (cases : ℕ) (d : Metadata) : Type 0 where
  pub fits : MetadataFields d
  pub good : good_metadata cases d ≡ true

-- an instruction of a result that can be read back, and be given to the next pass
pub record Fits (cases : ℕ) (r : Retained) : Type 0 where
  pub instruction : Fields r.instruction
  pub metadata : Sound cases r.metadata
  pub place : r.place < 2 ^ 32

abbrev pub AllFit : ℕ → List Retained → Type 0
AllFit cases kept = (p : ℕ) → p < length kept → Fits cases (retained_at kept p)

-- ---- the sections

-- the middle of three parts
pub middle : (a xs b : List ℕ) (i k : ℕ) → length a ≡ i → length xs ≡ k → mid_of i k (a ++ xs ++ b) ≡ xs
middle a xs b i k e f = ap (take k) (ap (drop i) (append_assoc a xs b) ∙ drop_at a (xs ++ b) i e) ∙ take_at xs b k f

module _ (kept : List Retained) (lines : List Line) (rest : List ℕ) where
  abbrev k : ℕ
  k = length kept

  abbrev header : List ℕ
  header = result_header k (length lines)

  abbrev code : List ℕ
  code = code_bytes kept

  abbrev metadata : List ℕ
  metadata = metadata_bytes_all kept

  abbrev places : List ℕ
  places = place_bytes kept

  -- what stands behind the old places
  abbrev after : List ℕ
  after = line_bytes_all lines ++ rest

  front : length (header ++ code) ≡ result_metadata_at k
  front = simp (length-append, result_header_long, code_bytes_long)

  pub code_in_lem : code_in k (result_bytes kept lines ++ rest) ≡ code_bytes kept
  unfolding result_bytes
  code_in_lem =
      let e : result_bytes kept lines ++ rest ≡ header ++ code ++ (metadata ++ (places ++ after)) = simp append_assoc in
      ap (code_in k) e ∙ middle header code (metadata ++ (places ++ after)) result_header_size (instruction_size * k) (result_header_long k (length lines)) (code_bytes_long kept)

  pub metadata_in_lem : metadata_in k (result_bytes kept lines ++ rest) ≡ metadata_bytes_all kept
  unfolding result_bytes
  metadata_in_lem =
      let e : result_bytes kept lines ++ rest ≡ (header ++ code) ++ metadata ++ (places ++ after) = simp append_assoc in
      ap (metadata_in k) e ∙ middle (header ++ code) metadata (places ++ after) (result_metadata_at k) (metadata_size * k) front (metadata_bytes_all_long kept)

  pub places_in_lem : places_in k (result_bytes kept lines ++ rest) ≡ place_bytes kept
  unfolding result_bytes
  places_in_lem =
      let long : length (header ++ code ++ metadata) ≡ result_places_at k = length-append (header ++ code) metadata ∙ rw (front, metadata_bytes_all_long) in
      let e : result_bytes kept lines ++ rest ≡ (header ++ code ++ metadata) ++ places ++ after = simp append_assoc in
      ap (places_in k) e ∙ middle (header ++ code ++ metadata) places after (result_places_at k) (place_size * k) long (place_bytes_long kept)

-- ---- their entries

-- the bytes of one instruction lie between those before it and those after it
module _ {size : ℕ} {bytes : List Retained → List ℕ} (s : Section size bytes) (kept : List Retained) (p : ℕ) (h : p < length kept) where
  pub around : bytes kept ≡ bytes (take p kept) ++ bytes (retained_at kept p ∷ []) ++ bytes (drop (suc p) kept)
  around =
      ap bytes (split_at kept p no_retained h ∙ sym (append_snoc (take p kept) (retained_at kept p) (drop (suc p) kept)))
      ∙ s.more (take p kept ++ (retained_at kept p ∷ [])) (drop (suc p) kept)
      ∙ ap (λ (l : List ℕ). l ++ bytes (drop (suc p) kept)) (s.more (take p kept) (retained_at kept p ∷ []))

  pub ahead_long : length (bytes (take p kept)) ≡ size * p
  ahead_long = s.long (take p kept) ∙ ap (λ (n : ℕ). size * n) (length-take-le p kept (omega arith))

module _ (kept : List Retained) (p : ℕ) (h : p < length kept) where
  abbrev r : Retained
  r = retained_at kept p

  pub instruction_back : Fields r.instruction → instruction_at (code_bytes kept) p ≡ r.instruction
  unfolding code_bytes to_le
  instruction_back f =
      ap (λ (l : List ℕ). instruction_at l p) (around code_section kept p h)
      ∙ read_back (code_bytes (take p kept)) (code_bytes (drop (suc p) kept)) p r.instruction (ahead_long code_section kept p h) f

  pub metadata_back : MetadataFields r.metadata → metadata_at (metadata_bytes_all kept) p ≡ r.metadata
  unfolding metadata_bytes_all metadata_bytes to_le
  metadata_back f =
      ap (λ (l : List ℕ). metadata_at l p) (around metadata_section kept p h)
      ∙ metadata_read_back (metadata_bytes_all (take p kept)) (metadata_bytes_all (drop (suc p) kept)) p r.metadata (ahead_long metadata_section kept p h) f

  pub place_back : r.place < 2 ^ 32 → u32_at (place_bytes kept) (place_size * p) ≡ r.place
  unfolding place_bytes to_le
  place_back f =
      ap (λ (l : List ℕ). u32_at l (place_size * p)) (around place_section kept p h)
      ∙ ap from_le (middle (place_bytes (take p kept)) (to_le 4 r.place) (place_bytes (drop (suc p) kept)) (place_size * p) place_size (ahead_long place_section kept p h) (length_to_le 4 r.place))
      ∙ from_to 4 r.place f

pub retained_back : (cases : ℕ) (kept : List Retained) (lines : List Line) (rest : List ℕ) → AllFit cases kept → retained_in (length kept) (result_bytes kept lines ++ rest) ≡ kept
unfolding retained_from
retained_back cases kept lines rest f =
    rw (code_in_lem kept lines rest, metadata_in_lem kept lines rest, places_in_lem kept lines rest)
    (ext_get_or no_retained (tabulate (length kept) _) kept (length_tabulate (length kept) _)
    (λ p h.
    let l : p < length kept = rw (length_tabulate (length kept) _) at h in
    let fits = f p l in
    get_d_tabulate (length kept) _ p no_retained l ∙ rw (instruction_back kept p l fits.instruction, metadata_back kept p l fits.metadata.fits, place_back kept p l fits.place)))

-- ---- the header

-- the word of a header between those before it and those after it; the last two, of the lines, are not asked for
word_back : (a b : List ℕ) (i v : ℕ) → length a ≡ i → v < 2 ^ 32 → u32_at (a ++ to_le 4 v ++ b) i ≡ v
word_back a b i v e h = ap from_le (middle a (to_le 4 v) b i 4 e (length_to_le 4 v)) ∙ from_to 4 v h

module _ (a b c d : ℕ) (rest : List ℕ) where
  abbrev words : List ℕ
  words = to_le 4 a ++ to_le 4 b ++ to_le 4 c ++ to_le 4 d

  first_word : a < 2 ^ 32 → u32_at (words ++ rest) 0 ≡ a
  first_word h =
      let e : words ++ rest ≡ [] ++ to_le 4 a ++ (to_le 4 b ++ (to_le 4 c ++ (to_le 4 d ++ rest))) = simp append_assoc in
      ap (λ (l : List ℕ). u32_at l 0) e ∙ word_back [] (to_le 4 b ++ (to_le 4 c ++ (to_le 4 d ++ rest))) 0 a refl h

  second_word : b < 2 ^ 32 → u32_at (words ++ rest) 4 ≡ b
  second_word h =
      let e : words ++ rest ≡ to_le 4 a ++ to_le 4 b ++ (to_le 4 c ++ (to_le 4 d ++ rest)) = simp append_assoc in
      ap (λ (l : List ℕ). u32_at l 4) e ∙ word_back (to_le 4 a) (to_le 4 c ++ (to_le 4 d ++ rest)) 4 b (length_to_le 4 a) h

  third_word : c < 2 ^ 32 → u32_at (words ++ rest) 8 ≡ c
  third_word h =
      let e : words ++ rest ≡ to_le 4 a ++ to_le 4 b ++ to_le 4 c ++ (to_le 4 d ++ rest) = simp append_assoc in
      ap (λ (l : List ℕ). u32_at l 8) e ∙ word_back (to_le 4 a ++ to_le 4 b) (to_le 4 d ++ rest) 8 c (simp (length-append, length_to_le)) h

  fourth_word : d < 2 ^ 32 → u32_at (words ++ rest) 12 ≡ d
  fourth_word h = word_back (to_le 4 a ++ to_le 4 b ++ to_le 4 c) rest 12 d (simp (length-append, length_to_le)) h

-- a result is what is read of it, whatever lines it has
pub result_back : (cases : ℕ) (kept : List Retained) (lines : List Line) (rest : List ℕ) → length kept ≤ max_instructions → AllFit cases kept → read_result (result_bytes kept lines ++ rest) ≡ kept
unfolding read_result result_bytes result_header
result_back cases kept lines rest few f =
    let k = length kept in
    let tail : List ℕ = to_le 4 (length lines) ++ (to_le 4 (result_lines_at k) ++ (code_bytes kept ++ (metadata_bytes_all kept ++ (place_bytes kept ++ (line_bytes_all lines ++ rest))))) in
    let e : result_bytes kept lines ++ rest ≡ words k result_header_size (result_metadata_at k) (result_places_at k) tail ++ tail = simp append_assoc in
    let at : (i v : ℕ) → u32_at (words k result_header_size (result_metadata_at k) (result_places_at k) tail ++ tail) i ≡ v → u32_at (result_bytes kept lines ++ rest) i ≡ v
    = λ i v q. ap (λ (l : List ℕ). u32_at l i) e ∙ q in
    rw (
      at 0 k (first_word k result_header_size (result_metadata_at k) (result_places_at k) tail (omega arith)),
      at 4 result_header_size (second_word k result_header_size (result_metadata_at k) (result_places_at k) tail (omega arith)),
      at 8 (result_metadata_at k) (third_word k result_header_size (result_metadata_at k) (result_places_at k) tail (omega arith)),
      at 12 (result_places_at k) (fourth_word k result_header_size (result_metadata_at k) (result_places_at k) tail (omega arith)),
    )
    (retained_back cases kept lines rest f)
