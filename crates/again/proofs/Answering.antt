-- The answer and the buffer after it, by the tests that the code makes.
-- Assumes nothing.
use Rattle.std.specs.Prelude.{Option, Some, None, Ok, Err, Result}
use mathlib.Core.Path.{◌≡◌, refl, sym, ap, ◌∙◌}
use mathlib.Core.Bool.{true, false}
use mathlib.Core.List.{List}
use Prim.Native.Nat.{ℕ, ◌+◌, ◌*◌, ◌≤◌, ◌<◌}
use native.Mathlib.Omega.{arith}
use lib.ListN.{length}
use borrow.Author.Tests.{le-leb, lt-leb}
use borrow.Rule.Slice.PartMut.{put_mid}
use Rattle.words.specs.Le.{u32_at}
use Rattle.unit.specs.Refusal.{Refused}
use Rattle.unit.specs.Layout.{header_of, is_unit, layout_of}
use Rattle.unit.specs.Refusal.{short_buffer}
use Rattle.unit.specs.Size.{line_size}
use Rattle.unit.specs.laws.UnitLaws.{WellFormed, layout_unit}
use Rattle.unit.proofs.laws.UnitLaws.{unit_laid}
use Rattle.unit.specs.declared.Header.{Header}
use Rattle.again.specs.Again.{counts_with, offsets_of, header_with}
use Rattle.again.specs.LaidOut.{is_result_of, laid_unit, room_answer, result_answer, unit_answer, laid_answer, output_by, output_laid}
use Rattle.unit.specs.declared.refusal.Refusal.{Refusal}
use Rattle.again.specs.laws.Found.{ResultOf, lines_at, Writable}
use Rattle.again.proofs.laws.Found.{result_of, again_size}

abbrev pub LaysOut : List ℕ → List ℕ → List ℕ → Result (Option ℕ) Refusal → List ℕ → Type 0
LaysOut u b out r out' = (r ≡ laid_answer u b (length out)) × (out' ≡ output_laid u b out)

pub unit_refused : (u b out : List ℕ) (k p : ℕ) → layout_of u ≡ Refused k p → LaysOut u b out (Refused k p) out
unfolding laid_answer unit_answer output_laid output_by
unit_refused u b out k p e = rw e (refl, refl)

-- the given header is the unit's
of_unit_lem : (u b : List ℕ) (h : Header) → layout_of u ≡ Ok h → is_result_of (header_of u).counts b ≡ is_result_of h.counts b
of_unit_lem u b h e = ap (λ (x : Header). is_result_of x.counts b) (sym (layout_unit u h e).1)

pub none_found : (u b out : List ℕ) (h : Header) → layout_of u ≡ Ok h → is_result_of h.counts b ≡ false → LaysOut u b out (Ok None) out
unfolding laid_answer unit_answer result_answer output_laid output_by
none_found u b out h e f = rw (e, of_unit_lem u b h e, f) (refl, refl)

-- ---- a unit with header h, and a result of it

pub record Found (u b : List ℕ) (h : Header) : Type 0 where
  pub checked : layout_of u ≡ Ok h
  pub found : is_result_of h.counts b ≡ true

module _ {u b : List ℕ} {h : Header} (f : Found u b h) where
  laid : is_unit u ≡ true
  laid = (layout_unit u h f.checked).0

  well : WellFormed u
  well = unit_laid u laid

  given : h ≡ header_of u
  given = (layout_unit u h f.checked).1

  of_given : is_result_of (header_of u).counts b ≡ true
  of_given = of_unit_lem u b h f.checked ∙ f.found

  pub result_found : ResultOf (header_of u).counts b
  result_found = result_of (header_of u).counts b of_given

  -- the unit again is no longer than the unit
  pub no_longer : lines_at (counts_with h.counts (u32_at b 0) (u32_at b 16)) ≤ length u
  unfolding counts_with
  no_longer =
      let s = well.sections in
      let r = result_found in
      let e : h.counts ≡ (header_of u).counts = ap (λ (x : Header). x.counts) given in
      rw e (omega (arith, r.instructions, r.described, s.code, s.metadata, s.types, s.constants, s.functions, s.externs, s.cases, s.lines, s.end))

-- ---- and the header g of the unit again, with n instructions and l lines

pub record Headed (u b : List ℕ) (h g : Header) (n l : ℕ) : Type 0 where
  pub of : Found u b h
  pub many : n ≡ u32_at b 0
  pub lined : l ≡ u32_at b 16
  pub header : g ≡ header_with h.counts n l

module _ {u b : List ℕ} {h g : Header} {n l : ℕ} (a : Headed u b h g n l) where
  again : g ≡ header_with (header_of u).counts (u32_at b 0) (u32_at b 16)
  again = let e : h.counts ≡ (header_of u).counts = ap (λ (x : Header). x.counts) (given a.of) in a.header ∙ rw (e, a.many, a.lined)

  pub lines_below : g.offsets.lines ≤ length u
  unfolding counts_with offsets_of
  lines_below = let most = no_longer a.of in rw (a.header, a.many) most

  size : g.offsets.lines + line_size * l ≡ length (laid_unit u b)
  size = rw a.lined (ap (λ (x : Header). x.offsets.lines + line_size * u32_at b 16) again ∙ sym (again_size (well a.of) (result_found a.of)))

  module _ (out : List ℕ) where
    pub short_room : length out < g.offsets.lines + line_size * l → LaysOut u b out (Refused short_buffer 0) out
    unfolding laid_answer unit_answer result_answer room_answer output_laid output_by
    short_room e = rw (a.of.checked, of_given a.of, lt-leb (length (laid_unit u b)) (length out) (rw (← size) e)) (refl, refl)

    pub may_write : g.offsets.lines + line_size * l ≤ length out → Writable u b (length out) g
    may_write e =
        record {
          laid = laid a.of;
          result = result_found a.of;
          header = again;
          fits = rw (← again_size (well a.of) (result_found a.of), ← size) e;
        }

    pub written : (out' : List ℕ) → g.offsets.lines + line_size * l ≤ length out → out' ≡ put_mid 0 (length (laid_unit u b)) out (laid_unit u b)
        → LaysOut u b out (Ok (Some (g.offsets.lines + line_size * l))) out'
    unfolding laid_answer unit_answer result_answer room_answer output_laid output_by
    written out' e w = rw (a.of.checked, of_given a.of, size, le-leb (length (laid_unit u b)) (length out) (rw (← size) e)) (refl, w)
