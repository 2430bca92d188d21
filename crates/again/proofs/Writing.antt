-- A buffer written from its front on: a header, and the unit again part by part.
-- Assumes nothing.
use mathlib.Core.Path.{◌≡◌, refl, sym, ap, subst, ◌∙◌}
use mathlib.Core.List.{List, [], ◌++◌}
use Prim.Native.Nat.{ℕ, ◌+◌, ◌-◌, ◌*◌, ◌%◌, ◌^◌, ◌≤◌, ◌<◌}
use native.Mathlib.Nat.{zero-add}
use native.Mathlib.Numerals.{add-one}
use native.Mathlib.Omega.{arith}
use lib.ListN.{length, get_or, take, length-append}
use lib.Seq.{take_all}
use borrow.Rule.Slice.PartMut.{mid_of, put_mid}
use Rattle.words.specs.Bytes.{Bytes}
use Rattle.words.specs.Le.{to_le, u32_at}
use Rattle.words.specs.laws.Le.{length_to_le, to_le_mod}
use Rattle.words.specs.laws.Regions.{mid_long, put_long, put_put}
use Rattle.unit.specs.Layout.{header_of}
use Rattle.unit.specs.Size.{header_size, instruction_size, metadata_size, line_size, result_header_size}
use Rattle.unit.specs.laws.UnitLaws.{WellFormed}
use Rattle.unit.proofs.laws.UnitLaws.{unit_laid}
use Rattle.unit.specs.declared.Header.{Header}
use Rattle.again.specs.Again.{counts_with, offsets_of, header_with, header_words, header_bytes, bytes_of}
use Rattle.again.specs.LaidOut.{laid_unit}
use Rattle.again.specs.laws.Entries.{bytes_next, ahead_long}
use Rattle.again.specs.laws.Found.{ResultOf, Writable}
use Rattle.again.proofs.laws.Found.{again_parts}
use Rattle.again.specs.laws.Laid.{size_with}
use Rattle.again.proofs.laws.Laid.{words_long, header_long}

-- ---- bytes at the front of a buffer

pub record Begins (out out' bytes : List ℕ) : Type 0 where
  pub room : length bytes ≤ length out
  pub front : out' ≡ put_mid 0 (length bytes) out bytes

pub begins_none : (out : List ℕ) → Begins out out []
begins_none out = record { room = omega arith; front = refl }

module _ {out out' bytes : List ℕ} (b : Begins out out' bytes) where
  pub begins_long : length out' ≡ length out
  begins_long = let room = b.room in ap length b.front ∙ put_long out 0 (length bytes) bytes refl (omega arith)

  -- bytes more
  pub begins_more : (more : List ℕ) (at k : ℕ) {out'' : List ℕ} → length bytes ≡ at → length more ≡ k → at + k ≤ length out → out'' ≡ put_mid at k out' more → Begins out out'' (bytes ++ more)
  begins_more more at k {out''} e f room g =
      let long : length (bytes ++ more) ≡ at + k = length-append bytes more ∙ rw (e, f) in
      let put : put_mid at k (put_mid 0 at out bytes) more ≡ put_mid 0 (at + k) out (bytes ++ more) = rw zero-add at (put_put out 0 at bytes e (omega arith) k more) in
      record {
        room = rw long room;
        front = g ∙ rw (b.front, e, long) put;
      }

-- ---- the words of a header

pub header_begun : (h : Header) (out : List ℕ) → Begins out out (bytes_of (to_le 4) (take 0 (header_words h)))
unfolding bytes_of
header_begun h out = begins_none out

pub header_turn : (h : Header) (out : List ℕ) (q v : ℕ) {w w' : List ℕ} → header_size ≤ length out → q < 18 → v ≡ get_or (header_words h) q 0 % 2 ^ 32
    → Begins out w (bytes_of (to_le 4) (take q (header_words h))) → w' ≡ put_mid (4 * q) 4 w (to_le 4 v) → Begins out w' (bytes_of (to_le 4) (take (q + 1) (header_words h)))
header_turn h out q v {w} {w'} room below e b f =
    let inside : q < length (header_words h) = rw (words_long h) below in
    let word : to_le 4 v ≡ to_le 4 (get_or (header_words h) q 0) = ap (to_le 4) e ∙ to_le_mod 4 (get_or (header_words h) q 0) in
    rw (add-one q, bytes_next (to_le 4) (header_words h) q 0 inside, ← word)
    (begins_more b (to_le 4 v) (4 * q) 4 (ahead_long (to_le 4) 4 (length_to_le 4) (header_words h) q inside) (length_to_le 4 v) (omega arith) f)

pub header_end : (h : Header) (out : List ℕ) (q : ℕ) {w : List ℕ} → q ≡ 18 → Begins out w (bytes_of (to_le 4) (take q (header_words h))) → w ≡ put_mid 0 header_size out (header_bytes h)
header_end h out q {w} e b =
    let all : take q (header_words h) ≡ header_words h = take_all q (header_words h) (rw (words_long h) (omega arith)) in
    let front : w ≡ put_mid 0 (length (header_bytes h)) out (header_bytes h) = rw all at b.front in
    front ∙ rw (header_long h)

-- ---- the unit again

-- what is written one after the other
abbrev pub coded_bytes : List ℕ → Header → List ℕ
coded_bytes b h = header_bytes h ++ mid_of result_header_size (instruction_size * h.counts.instructions) b

abbrev pub described_bytes : List ℕ → Header → List ℕ
described_bytes b h = coded_bytes b h ++ mid_of (u32_at b 8) (metadata_size * h.counts.metadata) b

abbrev pub shared_bytes : List ℕ → List ℕ → Header → List ℕ
shared_bytes u b h = described_bytes b h ++ mid_of (u32_at u 44) (h.offsets.lines - h.offsets.types) u

abbrev pub lined_bytes : List ℕ → List ℕ → Header → List ℕ
lined_bytes u b h = shared_bytes u b h ++ mid_of (u32_at b 20) (line_size * h.counts.lines) b

-- its parts lie within the unit and the result, and there is room for them
pub record Parts (u b : List ℕ) (room : ℕ) (h : Header) : Type 0 where
  pub code_at : h.offsets.code ≡ header_size
  pub metadata_at_lem : h.offsets.metadata ≡ h.offsets.code + instruction_size * h.counts.instructions
  pub types_at : h.offsets.types ≡ h.offsets.metadata + metadata_size * h.counts.metadata
  pub lines_at : h.offsets.types ≤ h.offsets.lines
  pub header_in : header_size ≤ length u
  pub code_in_lem : result_header_size + instruction_size * h.counts.instructions ≤ length b
  pub metadata_in_lem : u32_at b 8 + metadata_size * h.counts.metadata ≤ length b
  pub others_in : u32_at u 44 + (h.offsets.lines - h.offsets.types) ≤ length u
  pub lines_in_lem : u32_at b 20 + line_size * h.counts.lines ≤ length b
  pub fits : h.offsets.lines + line_size * h.counts.lines ≤ room

module _ {u b : List ℕ} (f : WellFormed u) (r : ResultOf (header_of u).counts b) where
  abbrev again : Header
  again = header_with (header_of u).counts (u32_at b 0) (u32_at b 16)

  -- as many bytes stand between metadata and lines as in the given unit
  as_many : again.offsets.lines - again.offsets.types ≡ (header_of u).offsets.lines - (header_of u).offsets.types
  unfolding counts_with offsets_of
  as_many = let s = f.sections in omega (arith, s.constants, s.functions, s.externs, s.cases, s.lines)

  parts_again : (room : ℕ) → size_with (header_of u).counts (u32_at b 0) (u32_at b 16) ≤ room → Parts u b room again
  unfolding counts_with offsets_of header_of
  parts_again room e =
      let s = f.sections in
      let whole = r.whole in
      let others = as_many in
      record {
        code_at = refl;
        metadata_at_lem = refl;
        types_at = refl;
        lines_at = omega arith;
        header_in = f.header;
        code_in_lem = omega arith;
        metadata_in_lem = omega (arith, r.metadata);
        others_in = omega (arith, s.constants, s.functions, s.externs, s.cases, s.lines, s.end);
        lines_in_lem = omega (arith, r.lines);
        fits = e;
      }

  lined_again : Bytes b → lined_bytes u b again ≡ laid_unit u b
  unfolding counts_with header_of
  lined_again bytes = rw (as_many, r.metadata, r.lines) (sym (again_parts f r bytes))

pub parts_of : {u b : List ℕ} {room : ℕ} {h : Header} → Writable u b room h → Parts u b room h
parts_of {u} {b} {room} {h} w = subst (Parts u b room) (sym w.header) (parts_again (unit_laid u w.laid) w.result room w.fits)

module _ {u b : List ℕ} {room : ℕ} {h : Header} (p : Parts u b room h) where
  coded_long : length (coded_bytes b h) ≡ h.offsets.metadata
  coded_long = length-append (header_bytes h) _ ∙ rw (header_long h, mid_long b result_header_size (instruction_size * h.counts.instructions) p.code_in_lem) (omega (arith, p.code_at, p.metadata_at_lem))

  described_long : length (described_bytes b h) ≡ h.offsets.types
  described_long = length-append (coded_bytes b h) _ ∙ rw (coded_long, mid_long b (u32_at b 8) (metadata_size * h.counts.metadata) p.metadata_in_lem) (omega (arith, p.types_at))

  shared_long : length (shared_bytes u b h) ≡ h.offsets.lines
  shared_long = length-append (described_bytes b h) _ ∙ rw (described_long, mid_long u (u32_at u 44) (h.offsets.lines - h.offsets.types) p.others_in) (omega (arith, p.lines_at))

  -- room for each part
  pub code_fits : h.offsets.code + instruction_size * h.counts.instructions ≤ room
  code_fits = omega (arith, p.fits, p.lines_at, p.types_at, p.metadata_at_lem)

  pub metadata_fits : h.offsets.metadata + metadata_size * h.counts.metadata ≤ room
  metadata_fits = omega (arith, p.fits, p.lines_at, p.types_at)

  pub others_fit : h.offsets.types + (h.offsets.lines - h.offsets.types) ≤ room
  others_fit = omega (arith, p.fits, p.lines_at)

module _ {u b : List ℕ} (out : List ℕ) {h : Header} (p : Parts u b (length out) h) where
  pub wrote_header : {w : List ℕ} → w ≡ put_mid 0 header_size out (header_bytes h) → Begins out w (header_bytes h)
  wrote_header e = record { room = rw (header_long h) (omega (arith, p.code_at, code_fits p)); front = rw (header_long h) e }

  pub wrote_code : {w w' : List ℕ} → Begins out w (header_bytes h)
      → w' ≡ put_mid h.offsets.code (instruction_size * h.counts.instructions) w (mid_of result_header_size (instruction_size * h.counts.instructions) b) → Begins out w' (coded_bytes b h)
  wrote_code f e =
      begins_more f (mid_of result_header_size (instruction_size * h.counts.instructions) b) _ _ (header_long h ∙ sym p.code_at) (mid_long b result_header_size _ p.code_in_lem) (code_fits p) e

  pub wrote_metadata : {w w' : List ℕ} (start : ℕ) → start ≡ u32_at b 8 → Begins out w (coded_bytes b h)
      → w' ≡ put_mid h.offsets.metadata (metadata_size * h.counts.metadata) w (mid_of start (metadata_size * h.counts.metadata) b) → Begins out w' (described_bytes b h)
  wrote_metadata start s f e =
      begins_more f (mid_of (u32_at b 8) (metadata_size * h.counts.metadata) b) _ _ (coded_long p) (mid_long b (u32_at b 8) _ p.metadata_in_lem) (metadata_fits p) (e ∙ rw s)

  pub wrote_others : {w w' : List ℕ} (start : ℕ) → start ≡ u32_at u 44 → Begins out w (described_bytes b h)
      → w' ≡ put_mid h.offsets.types (h.offsets.lines - h.offsets.types) w (mid_of start (h.offsets.lines - h.offsets.types) u) → Begins out w' (shared_bytes u b h)
  wrote_others start s f e =
      begins_more f (mid_of (u32_at u 44) (h.offsets.lines - h.offsets.types) u) _ _ (described_long p) (mid_long u (u32_at u 44) _ p.others_in) (others_fit p) (e ∙ rw s)

  pub wrote_lines : {w w' : List ℕ} (start : ℕ) → start ≡ u32_at b 20 → Begins out w (shared_bytes u b h)
      → w' ≡ put_mid h.offsets.lines (line_size * h.counts.lines) w (mid_of start (line_size * h.counts.lines) b) → Begins out w' (lined_bytes u b h)
  wrote_lines start s f e =
      begins_more f (mid_of (u32_at b 20) (line_size * h.counts.lines) b) _ _ (shared_long p) (mid_long b (u32_at b 20) _ p.lines_in_lem) p.fits (e ∙ rw s)

pub unit_written : {u b : List ℕ} (out : List ℕ) {h : Header} → Writable u b (length out) h → Bytes b → {w : List ℕ} → Begins out w (lined_bytes u b h) → w ≡ put_mid 0 (length (laid_unit u b)) out (laid_unit u b)
unit_written {u} {b} out {h} w bytes e =
    let all : lined_bytes u b h ≡ laid_unit u b = ap (lined_bytes u b) w.header ∙ lined_again (unit_laid u w.laid) w.result bytes in
    e.front ∙ ap (λ (l : List ℕ). put_mid 0 (length l) out l) all
