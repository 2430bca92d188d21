-- What one place writes into each section.
-- Assumes nothing.
use Rattle.std.proofs.Common.{◌≡◌, ℕ, ◌+◌, ◌*◌, ◌<◌, ◌≤◌, true, List, [], ◌∷◌, ◌++◌, length, get_or, sym, ap, ◌∙◌, append-nil, zero-add, arith, length-append}
use borrow.Rule.Slice.PartMut.{put_mid}
use Rattle.words.specs.Le.{to_le}
use Rattle.words.specs.laws.Regions.{put_put}
use Rattle.instruction.specs.declared.Instruction.{Instruction}
use Rattle.instruction.specs.Instruction.{to_word, of_word, imm32_unsigned, class}
use Rattle.unit.specs.declared.Metadata.{Metadata}
use Rattle.unit.specs.Entry.{metadata_at, metadata_bytes}
use Rattle.unit.specs.Result.{Retained, result_metadata_at, result_places_at, result_header, code_bytes, metadata_bytes_all, place_bytes, line_bytes_all, result_bytes}
use Rattle.unit.specs.laws.UnitLaws.{result_header_long, code_bytes_long, metadata_bytes_all_long}
use Rattle.unit.specs.Size.{result_header_size, result_size}
use Rattle.effects.specs.Shape.{Cell, cell_at}
use Rattle.effects.specs.laws.Cells.{cell_of, cells_by, cells_long, cell_at_lem}
use Rattle.flow.specs.Branch.{branches, target}
use Rattle.flow.specs.Loop.{is_loop_hint}
use Rattle.pc_map.specs.laws.Listed.{kept_list, kept_each}
use Rattle.pc_map.specs.Relocate.{relocate, retain_from}
use Rattle.pc_map.specs.laws.Movable.{Movable}
use Rattle.pc_map.specs.laws.Relocated.{cell}
use Rattle.pc_map.specs.laws.Retaining.{retained_at, retain_at, retain_many, Section, Written, written_begin, written_turn, written_end}
use Rattle.pc_map.specs.laws.View.{is_retained}

-- what `relocate` asks of the instruction that was read
pub asked : (n k p : ℕ) (i j : Instruction) → i ≡ j → k ≡ n + 1 → Movable n p j → (branches (class i) ≡ true → target p i < k) × (is_loop_hint i ≡ true → imm32_unsigned i < k)
asked n k p i j e f m = rw e (λ b. omega (arith, m.0 b), λ l. omega (arith, m.1 l))

pub end_asked : (bounds : List ℕ) (i j : Instruction) (d e : Metadata) → i ≡ j → d ≡ e → (is_loop_hint j ≡ true → is_retained bounds e.end ≡ true) → is_loop_hint i ≡ true
    → is_retained bounds d.end ≡ true
end_asked bounds i j d e same there g = rw (same, there) g

-- what one place writes, as the code has it: i and d are what was read, j and e what was relocated
module _ (keep : List ℕ) (p w : ℕ) (metadata out out' : List ℕ) (at : ℕ) (i : Instruction) (same : i ≡ of_word w) where
  pub kept_code : (j : Instruction) → ((d : Metadata) → j ≡ (relocate keep p (cell i d)).instruction) → out' ≡ put_mid at 8 out (to_le 8 (to_word j))
      → out' ≡ put_mid at 8 out (code_bytes (retained_at keep p (cell_of metadata p w) ∷ []))
  unfolding code_bytes
  kept_code j f g =
      let moved : j ≡ (relocate keep p (cell_of metadata p w)).instruction = rw same at (f (metadata_at metadata p)) in
      rw (append-nil (to_le 8 (to_word (relocate keep p (cell_of metadata p w)).instruction)), ← moved) g

  pub kept_metadata : (d e : Metadata) → d ≡ metadata_at metadata p → ((q : ℕ) → e ≡ (relocate keep q (cell i d)).metadata) → out' ≡ put_mid at 16 out (metadata_bytes e)
      → out' ≡ put_mid at 16 out (metadata_bytes_all (retained_at keep p (cell_of metadata p w) ∷ []))
  unfolding metadata_bytes_all
  kept_metadata d e there f g =
      let moved : e ≡ (relocate keep p (cell_of metadata p w)).metadata = rw (same, there) at (f p) in
      rw (append-nil (metadata_bytes (relocate keep p (cell_of metadata p w)).metadata), ← moved) g

pub kept_place : (keep : List ℕ) (p : ℕ) (x : Cell) (out out' : List ℕ) (at : ℕ) → out' ≡ put_mid at 4 out (to_le 4 p) → out' ≡ put_mid at 4 out (place_bytes (retained_at keep p x ∷ []))
unfolding place_bytes
kept_place keep p x out out' at g = rw (append-nil (to_le 4 p)) g

-- the retained instructions are as many as the list has places
module _ (keep kept words metadata : List ℕ) (list : kept ≡ kept_list keep) (same : length keep ≡ length words) where
  as_many : length keep ≡ length (cells_by words metadata)
  as_many = same ∙ sym (cells_long words metadata)

  pub listed_many : length (retain_from keep 0 (cells_by words metadata)) ≡ length kept
  listed_many = retain_many keep (cells_by words metadata) as_many ∙ ap length (sym list)

-- a loop over the list of the kept places, which writes a section from byte a on: it is written for the first q of them
pub record WrittenTo (size : ℕ) (bytes : List Retained → List ℕ) (keep kept words metadata : List ℕ) (a : ℕ) (out out' : List ℕ) (q : ℕ) : Type 0 where
  pub list : kept ≡ kept_list keep
  pub same : length keep ≡ length words
  pub written : Written size bytes (retain_from keep 0 (cells_by words metadata)) a out out' q

module _ {size : ℕ} {bytes : List Retained → List ℕ} (s : Section size bytes) {keep kept words metadata : List ℕ} {a : ℕ} {out : List ℕ} where
  pub section_begin : kept ≡ kept_list keep → length keep ≡ length words → WrittenTo size bytes keep kept words metadata a out out 0
  section_begin list same = record { list = list; same = same; written = written_begin s (retain_from keep 0 (cells_by words metadata)) a out }

  module _ {out₁ : List ℕ} {q : ℕ} (w : WrittenTo size bytes keep kept words metadata a out out₁ q) where
    many : length (retain_from keep 0 (cells_by words metadata)) ≡ length kept
    many = listed_many keep kept words metadata w.list w.same

    pub section_turn : {out₂ : List ℕ} → q < length kept → a + size * length kept ≤ length out
        → out₂ ≡ put_mid (a + size * q) size out₁ (bytes (retained_at keep (get_or kept q 0) (cell_of metadata (get_or kept q 0) (get_or words (get_or kept q 0) 0)) ∷ []))
        → WrittenTo size bytes keep kept words metadata a out out₂ (q + 1)
    section_turn {out₂} h room e =
        let cells = cells_by words metadata in
        let same = w.same in
        let inside : get_or kept q 0 < length words = rw w.list (kept_each (λ p. p < length words) keep (λ p g e. omega arith) q (rw w.list at h)) in
        let at : get_or (retain_from keep 0 cells) q (retained_at keep 0 (cell_at cells 0)) ≡ retained_at keep (get_or kept q 0) (cell_of metadata (get_or kept q 0) (get_or words (get_or kept q 0) 0)) =
        retain_at keep cells (as_many keep kept words metadata w.list same) q ∙ rw (← w.list, cell_at_lem words metadata (get_or kept q 0) inside) in
        record {
          list = w.list;
          same = same;
          written = written_turn s (retain_from keep 0 cells) a out out₁ out₂ q (retained_at keep 0 (cell_at cells 0)) w.written (rw many h) (rw many room) (rw at e);
        }

    pub section_end : q ≡ length kept → out₁ ≡ put_mid a (size * length kept) out (bytes (retain_from keep 0 (cells_by words metadata)))
    section_end e = written_end s (retain_from keep 0 (cells_by words metadata)) a out out₁ q w.written (e ∙ sym many) ∙ rw many

-- ---- the four parts of a result, one after another

put_on : (k j : ℕ) (out ys zs : List ℕ) → length ys ≡ k → k ≤ length out → put_mid k j (put_mid 0 k out ys) zs ≡ put_mid 0 (k + j) out (ys ++ zs)
put_on k j out ys zs e h =
    ap (λ (m : ℕ). put_mid m j (put_mid 0 k out ys) zs) (sym (zero-add k)) ∙ put_put out 0 k ys e (rw (zero-add k) h) j zs

pub all_written : (k : ℕ) (xs : List Retained) (out : List ℕ) {o₁ o₂ o₃ o₄ : List ℕ} → length xs ≡ k → result_size k 0 ≤ length out
    → o₁ ≡ put_mid 0 result_header_size out (result_header k 0) → o₂ ≡ put_mid result_header_size (8 * k) o₁ (code_bytes xs) → o₃ ≡ put_mid (result_metadata_at k) (16 * k) o₂ (metadata_bytes_all xs)
    → o₄ ≡ put_mid (result_places_at k) (4 * k) o₃ (place_bytes xs) → o₄ ≡ put_mid 0 (result_size k 0) out (result_bytes xs [])
unfolding result_bytes line_bytes_all
all_written k xs out long room e₁ e₂ e₃ e₄ =
    let h = result_header k 0 in
    let c = code_bytes xs in
    let d = metadata_bytes_all xs in
    let header = result_header_long k 0 in
    let code : length (h ++ c) ≡ result_header_size + 8 * k = omega (arith, length-append h c, code_bytes_long xs) in
    let entries : length (h ++ c ++ d) ≡ result_header_size + 8 * k + 16 * k = omega (arith, length-append (h ++ c) d, metadata_bytes_all_long xs) in
    let size : result_size k 0 ≡ result_header_size + 8 * k + 16 * k + 4 * k = omega arith in
    rw (long, size, append-nil (h ++ c ++ d ++ place_bytes xs))
    (e₄
    ∙ rw (
      e₃,
      e₂,
      e₁,
      put_on result_header_size (8 * k) out h c header (omega arith),
      put_on (result_header_size + 8 * k) (16 * k) out (h ++ c) d code (omega arith),
      put_on (result_header_size + 8 * k + 16 * k) (4 * k) out (h ++ c ++ d) (place_bytes xs) entries (omega arith),
    ))
