-- A result with its lines: the entries behind it, and their number in its header.
-- Assumes nothing.
use Rattle.std.specs.Prelude.{◌≡◌, ℕ, zero, suc, ◌+◌, ◌*◌, ◌/◌, ◌^◌, ◌<◌, get_or, take}
use Rattle.std.proofs.Math.Path.{sym, ap}
use Rattle.std.proofs.Common.{◌∙◌, mul-suc, take-append-drop, ext_get_or}
use mathlib.Core.List.{List, [], ◌∷◌, ◌++◌, append_assoc, append-nil}
use native.Mathlib.Omega.{arith}
use Rattle.std.proofs.Math.ListN.{length, drop, length-append}
use Rattle.std.proofs.lemmas.List.{length-map}
use Rattle.std.proofs.Math.Seq.{take_at, drop_at, drop-drop, drop-append-add}
use borrow.Rule.Slice.PartMut.{mid_of, put_mid}
use Rattle.words.specs.Le.{from_le, to_le, u32_at}
use Rattle.words.specs.laws.Le.{from_to, length_to_le}
use Rattle.words.specs.laws.Lists.{length_tabulate, get_d_tabulate}
use Rattle.unit.specs.declared.Line.{Line}
use Rattle.unit.specs.Entry.{lines_in}
use Rattle.unit.specs.Result.{Retained, code_bytes, metadata_bytes_all, place_bytes, line_bytes_all, result_header, result_bytes, result_metadata_at, result_places_at, result_lines_at}
use Rattle.unit.specs.Size.{line_size, place_size, result_header_size, result_size}
use Rattle.unit.specs.laws.UnitLaws.{code_bytes_long, metadata_bytes_all_long, place_bytes_long}
use Rattle.lines.specs.Lines.{moved_lines, places_of}
use Rattle.lines.specs.laws.Below.{places_in}
use Rattle.lines.specs.laws.Moving.{RisingLines, SweptAll, Unlined, old_places}

-- ---- the old places are read back

place_at : (kept : List Retained) → ((i : ℕ) → i < length (places_of kept) → get_or (places_of kept) i 0 < 2 ^ 32) → (i : ℕ) → i < length (places_of kept)
    → u32_at (place_bytes kept) (place_size * i) ≡ get_or (places_of kept) i 0
unfolding place_bytes
place_at [] f i h = absurd (omega arith)
place_at (x ∷ xs) f zero h = ap from_le (take_at (to_le 4 x.place) (place_bytes xs) 4 (length_to_le 4 x.place)) ∙ from_to 4 x.place (f 0 (omega arith))
place_at (x ∷ xs) f (suc i) h =
    let past : place_size * suc i ≡ length (to_le 4 x.place) + place_size * i = rw (length_to_le 4 x.place) (mul-suc place_size i ∙ omega arith) in
    ap from_le (ap (take 4) (ap (λ (j : ℕ). drop j (to_le 4 x.place ++ place_bytes xs)) past ∙ drop-append-add (to_le 4 x.place) (place_bytes xs) (place_size * i)))
    ∙ place_at xs (λ i h. f (suc i) (omega arith)) i (omega arith)

places_back : (kept : List Retained) → ((i : ℕ) → i < length (places_of kept) → get_or (places_of kept) i 0 < 2 ^ 32) → places_in (place_bytes kept) ≡ places_of kept
places_back kept f =
    let bytes = place_bytes_long kept in
    let as_many = length-map kept (λ (x : Retained). x.place) in
    let long : length (places_in (place_bytes kept)) ≡ length (place_bytes kept) / place_size = length_tabulate (length (place_bytes kept) / place_size) _ in
    ext_get_or 0 (places_in (place_bytes kept)) (places_of kept) (omega arith)
    (λ i h. get_d_tabulate (length (place_bytes kept) / place_size) _ i 0 (omega arith) ∙ place_at kept f i (omega arith))

-- ---- the parts of a result: its header before and after the number of lines, its sections, its lines

module _ (kept : List Retained) (k : ℕ) (many : length kept ≡ k) where
  head : List ℕ
  head = to_le 4 k ++ to_le 4 result_header_size ++ to_le 4 (result_metadata_at k) ++ to_le 4 (result_places_at k)

  body : List ℕ
  body = to_le 4 (result_lines_at k) ++ (code_bytes kept ++ (metadata_bytes_all kept ++ place_bytes kept))

  head_long : length head ≡ 16
  unfolding head
  head_long = simp (length-append, length_to_le)

  body_long : 20 + length body ≡ result_lines_at k
  unfolding body
  body_long = simp (length-append, length_to_le, code_bytes_long, metadata_bytes_all_long, place_bytes_long, many) (omega arith)

  in_parts : (ls : List Line) → result_bytes kept ls ≡ head ++ (to_le 4 (length ls) ++ (body ++ line_bytes_all ls))
  unfolding result_bytes result_header head body
  in_parts ls = rw many (simp append_assoc)

  module _ (rest : List ℕ) (ls : List Line) where
    abbrev bare : List ℕ
    bare = result_bytes kept [] ++ rest

    bare_parts : result_bytes kept [] ++ rest ≡ head ++ (to_le 4 0 ++ (body ++ rest))
    unfolding line_bytes_all
    bare_parts = ap (λ (l : List ℕ). l ++ rest) (in_parts []) ∙ simp (append_assoc, append-nil)

    front : List ℕ
    front = head ++ (to_le 4 0 ++ body)

    front_long : length front ≡ result_lines_at k
    unfolding front
    front_long = length-append head (to_le 4 0 ++ body) ∙ rw (length-append (to_le 4 0) body, length_to_le 4 0, head_long) (omega (arith, body_long))

    entries_put : put_mid (result_lines_at k) (line_size * length ls) (result_bytes kept [] ++ rest) (line_bytes_all ls) ≡ head ++ (to_le 4 0 ++ (body ++ (line_bytes_all ls ++ drop (line_size * length ls) rest)))
    unfolding front
    entries_put =
        let split : result_bytes kept [] ++ rest ≡ front ++ rest = bare_parts ∙ simp append_assoc in
        rw (split, take_at front rest (result_lines_at k) front_long, drop_at front rest (result_lines_at k) front_long) (simp append_assoc)

    count_put : put_mid 16 4 (put_mid (result_lines_at k) (line_size * length ls) (result_bytes kept [] ++ rest) (line_bytes_all ls)) (to_le 4 (length ls))
        ≡ head ++ (to_le 4 (length ls) ++ (body ++ (line_bytes_all ls ++ drop (line_size * length ls) rest)))
    count_put =
        let tail = body ++ (line_bytes_all ls ++ drop (line_size * length ls) rest) in
        rw (entries_put, take_at head (to_le 4 0 ++ tail) 16 head_long, drop_at head (to_le 4 0 ++ tail) 16 head_long, drop_at (to_le 4 0) tail 4 (length_to_le 4 0))

    -- a result with lines, in the place of one without
    pub lines_put : put_mid 16 4 (put_mid (result_lines_at k) (line_size * length ls) (result_bytes kept [] ++ rest) (line_bytes_all ls)) (to_le 4 (length ls))
        ≡ put_mid 0 (result_size k (length ls)) (result_bytes kept [] ++ rest) (result_bytes kept ls)
    unfolding front
    lines_put =
        let split : result_bytes kept [] ++ rest ≡ front ++ rest = bare_parts ∙ simp append_assoc in
        let size : result_size k (length ls) ≡ result_lines_at k + line_size * length ls = omega arith in
        let past : drop (result_size k (length ls)) (result_bytes kept [] ++ rest) ≡ drop (line_size * length ls) rest =
        rw (split, size, ← drop-drop (line_size * length ls) (result_lines_at k) (front ++ rest), drop_at front rest (result_lines_at k) front_long) in
        count_put ∙ sym (ap (λ (l : List ℕ). result_bytes kept ls ++ l) past ∙ rw (in_parts ls) (simp append_assoc))

    pub places_there : mid_of (result_places_at k) (place_size * k) (result_bytes kept [] ++ rest) ≡ place_bytes kept
    unfolding body head
    places_there =
        let sections = code_bytes kept ++ metadata_bytes_all kept in
        let before = head ++ (to_le 4 0 ++ (to_le 4 (result_lines_at k) ++ sections)) in
        let split : result_bytes kept [] ++ rest ≡ before ++ (place_bytes kept ++ rest) = bare_parts ∙ simp append_assoc in
        let long : length before ≡ result_places_at k = simp (length-append, length_to_le, code_bytes_long, metadata_bytes_all_long, many) (omega arith) in
        ap (mid_of (result_places_at k) (place_size * k)) split ∙ ap (take (place_size * k)) (drop_at before (place_bytes kept ++ rest) (result_places_at k) long)
        ∙ take_at (place_bytes kept) rest (place_size * k) (place_bytes_long kept ∙ rw many)

-- ---- what `write_lines` leaves

pub lined : (kept : List Retained) (k : ℕ) (lines out out₁ out₂ : List ℕ) (count : ℕ) → Unlined kept k out → RisingLines (lines_in lines) → SweptAll k lines out out₁ count
    → out₂ ≡ put_mid 16 4 out₁ (to_le 4 count) → out₂ ≡ put_mid 0 (result_size k (length (moved_lines (places_of kept) (lines_in lines)))) out (result_bytes kept (moved_lines (places_of kept) (lines_in lines)))
lined kept k lines out out₁ out₂ count u rise swept e =
    let rest = drop (result_size k 0) out in
    let split : out ≡ result_bytes kept [] ++ rest = sym (take-append-drop (result_size k 0) out) ∙ ap (λ (l : List ℕ). l ++ rest) u.front in
    let old : old_places k out ≡ places_of kept = ap (old_places k) split ∙ ap places_in (places_there kept k u.many rest []) ∙ places_back kept u.small in
    let s = swept (rw old u.rising) rise in
    let ls = moved_lines (places_of kept) (lines_in lines) in
    let size : count ≡ length ls = rw old at s.0 in
    let entries : out₁ ≡ put_mid (result_lines_at k) (line_size * length ls) out (line_bytes_all ls) = rw (← size) (rw old at s.1) in
    let written : out₂ ≡ put_mid 16 4 (put_mid (result_lines_at k) (line_size * length ls) out (line_bytes_all ls)) (to_le 4 (length ls)) = e ∙ rw (entries, size) in
    written ∙ (rw (← split) at (lines_put kept k u.many rest ls))
