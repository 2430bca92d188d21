-- The retained instructions by the list of the kept places, and the sections of a result that are written one instruction
-- after another.
-- Assumes nothing.
use Rattle.std.specs.Prelude.{◌≡◌, ℕ, zero, suc, ◌+◌, ◌*◌, ◌<◌, ◌≤◌, Bool, true, false, cond, List, [], ◌∷◌, ◌++◌, map, length, get_or, take, drop, slice_index, slice_index_or, refl}
use Rattle.std.proofs.Common.{sym, ap, ◌∙◌, append_assoc, zero-add, mul-zero, mul-add, mul-one, mul-le-mul_left, add-one, take-append-drop, take-suc, length-take-le}
use native.Mathlib.Omega.{arith}
use Rattle.std.proofs.lemmas.List.{length-map}
use Rattle.std.proofs.Math.ListN.{drop_of_length-le, get_or-map}
use Rattle.std.proofs.Math.Seq.{take-length, drop-cons}
use borrow.Rule.Slice.PartMut.{put_mid}
use Rattle.words.specs.Le.{to_le}
use Rattle.words.specs.laws.Regions.{put_put}
use Rattle.instruction.specs.Instruction.{to_word}
use Rattle.unit.specs.Entry.{metadata_bytes}
use Rattle.unit.specs.Result.{Retained, code_bytes, metadata_bytes_all, place_bytes}
use Rattle.unit.specs.laws.UnitLaws.{code_bytes_long, metadata_bytes_all_long, place_bytes_long}
use Rattle.effects.specs.Shape.{Cell, cell_at, no_cell}
use Rattle.flow.specs.laws.Flags.{Flags}
use Rattle.pc_map.specs.Boundary.{is_kept, boundary}
use Rattle.pc_map.specs.laws.Listed.{kept_from, kept_list, kept_many}
use Rattle.pc_map.specs.Relocate.{relocate, retain_from}

-- what a kept place retains
abbrev pub retained_at : List ℕ → ℕ → Cell → Retained
retained_at keep p x = record { instruction = (relocate keep p x).instruction; metadata = (relocate keep p x).metadata; place = p }

abbrev retained_of : List ℕ → List Cell → ℕ → Retained
retained_of keep cells p = retained_at keep p (cell_at cells p)

module _ (keep : List ℕ) (cells : List Cell) (same : length keep ≡ length cells) where
  -- place by place, the k places from p on
  listed : (k p : ℕ) → p + k ≡ length cells → retain_from keep p (drop p cells) ≡ map (retained_of keep cells) (kept_from p (drop p keep))
  unfolding retain_from kept_from
  listed zero p e =
      let none : length cells ≤ p = omega arith in
      let all : length keep ≤ p = omega arith in
      rw (drop_of_length-le cells none, drop_of_length-le keep all)
  listed (suc k) p e =
      let h : p < length cells = omega arith in
      let g : p < length keep = omega arith in
      rw (drop-cons cells p no_cell h, drop-cons keep p 0 g) (go (is_kept keep p) (listed k (suc p) (omega arith)))
    where
      go : (t : Bool) → retain_from keep (suc p) (drop (suc p) cells) ≡ map (retained_of keep cells) (kept_from (suc p) (drop (suc p) keep))
          → cond t (retained_of keep cells p ∷ retain_from keep (suc p) (drop (suc p) cells)) (retain_from keep (suc p) (drop (suc p) cells))
          ≡ map (retained_of keep cells) (cond t (p ∷ kept_from (suc p) (drop (suc p) keep)) (kept_from (suc p) (drop (suc p) keep)))
      go true ih = rw ih
      go false ih = ih

  pub retain_listed : retain_from keep 0 cells ≡ map (λ p. retained_at keep p (cell_at cells p)) (kept_list keep)
  retain_listed = listed (length cells) 0 (zero-add (length cells))

  pub retain_at : (q : ℕ) → slice_index_or (retain_from keep 0 cells) q (retained_at keep 0 (cell_at cells 0)) ≡ retained_at keep (slice_index (kept_list keep) q) (cell_at cells (slice_index (kept_list keep) q))
  retain_at q = ap (λ (l : List Retained). get_or l q (retained_of keep cells 0)) retain_listed ∙ get_or-map (retained_of keep cells) (kept_list keep) q 0

  pub retain_many : length (retain_from keep 0 cells) ≡ length (kept_list keep)
  retain_many = ap length retain_listed ∙ length-map (kept_list keep) (retained_of keep cells)

pub retain_all : (keep : List ℕ) → Flags keep → (cells : List Cell) → length keep ≡ length cells → length (retain_from keep 0 cells) ≡ boundary keep (length cells)
retain_all keep f cells same = retain_many keep cells same ∙ kept_many keep f ∙ ap (boundary keep) same

-- ---- sections

-- the bytes of one section of a result, `size` for each instruction
pub record Section (size : ℕ) (bytes : List Retained → List ℕ) : Type 0 where
  pub nothing : bytes [] ≡ []
  pub more : (xs ys : List Retained) → bytes (xs ++ ys) ≡ bytes xs ++ bytes ys
  pub long : (xs : List Retained) → length (bytes xs) ≡ size * length xs

bytes_append : (one : Retained → List ℕ) (bytes : List Retained → List ℕ) → bytes [] ≡ [] → ((x : Retained) (xs : List Retained) → bytes (x ∷ xs) ≡ one x ++ bytes xs)
    → (xs ys : List Retained) → bytes (xs ++ ys) ≡ bytes xs ++ bytes ys
bytes_append one bytes none cons [] ys = rw none
bytes_append one bytes none cons (x ∷ xs) ys =
    cons x (xs ++ ys) ∙ ap (λ (l : List ℕ). one x ++ l) (bytes_append one bytes none cons xs ys) ∙ sym (append_assoc (one x) (bytes xs) (bytes ys)) ∙ ap (λ (l : List ℕ). l ++ bytes ys) (sym (cons x xs))

pub code_section : Section 8 code_bytes
unfolding code_bytes
code_section = record { nothing = refl; more = bytes_append (λ x. to_le 8 (to_word x.instruction)) code_bytes refl (λ x xs. refl); long = code_bytes_long }

pub metadata_section : Section 16 metadata_bytes_all
unfolding metadata_bytes_all
metadata_section = record { nothing = refl; more = bytes_append (λ x. metadata_bytes x.metadata) metadata_bytes_all refl (λ x xs. refl); long = metadata_bytes_all_long }

pub place_section : Section 4 place_bytes
unfolding place_bytes
place_section = record { nothing = refl; more = bytes_append (λ x. to_le 4 x.place) place_bytes refl (λ x xs. refl); long = place_bytes_long }

-- a loop that writes a section from byte a on: it is written for the first q instructions
abbrev pub Written : ℕ → (List Retained → List ℕ) → List Retained → ℕ → List ℕ → List ℕ → ℕ → Type 0
Written size bytes xs a out out' q = out' ≡ put_mid a (size * q) out (bytes (take q xs))

module _ {size : ℕ} {bytes : List Retained → List ℕ} (s : Section size bytes) (xs : List Retained) (a : ℕ) (out : List ℕ) where
  pub written_begin : Written size bytes xs a out out 0
  written_begin = rw (mul-zero size, s.nothing) (sym (take-append-drop a out))

  pub written_turn : (out₁ out₂ : List ℕ) (q : ℕ) (d : Retained) → Written size bytes xs a out out₁ q → q < length xs → a + size * length xs ≤ length out
      → out₂ ≡ put_mid (a + size * q) size out₁ (bytes (slice_index_or xs q d ∷ [])) → Written size bytes xs a out out₂ (q + 1)
  written_turn out₁ out₂ q d w h room next =
      let front : length (take q xs) ≡ q = length-take-le q xs (omega arith) in
      let long : length (bytes (take q xs)) ≡ size * q = s.long (take q xs) ∙ ap (λ (k : ℕ). size * k) front in
      let fits : size * q ≤ size * length xs = mul-le-mul_left size (omega arith) in
      let more : take (q + 1) xs ≡ take q xs ++ (slice_index_or xs q d ∷ []) = rw (add-one q) (take-suc xs q d h) in
      rw (next, w, more, s.more (take q xs) (slice_index_or xs q d ∷ []), mul-add size, mul-one size)
      (put_put out a (size * q) (bytes (take q xs)) long (omega arith) size (bytes (slice_index_or xs q d ∷ [])))

  pub written_end : (out₁ : List ℕ) (q : ℕ) → Written size bytes xs a out out₁ q → q ≡ length xs → out₁ ≡ put_mid a (size * length xs) out (bytes xs)
  written_end out₁ q w e = w ∙ rw (e, take-length xs)
