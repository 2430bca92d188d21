-- What holds of every unit; what is written is read back; the length of a result.
-- Assumes nothing.
use Rattle.std.specs.Prelude.{◌≡◌, true, List, ℕ, leb, length}
use Rattle.std.proofs.Common.{eqb-true, leb-true}
use Rattle.words.specs.laws.Truth.{both}
use Rattle.unit.specs.Layout.{header_of, sections_follow, good_counts, good_entries, has_sections, is_unit}
use Rattle.unit.specs.Size.{header_size}
use Rattle.unit.specs.declared.Header.{Header}
use Rattle.unit.specs.laws.UnitLaws.{Sections, WellFormed, Within, entries, has_counts, has_header, lengths, passed, within}

pub sections_follow_lem : (h : Header) (size : ℕ) → sections_follow h size ≡ true → Sections h size
unfolding sections_follow
sections_follow_lem h size e =
    let lines = both _ _ e in
    let cases = both _ _ lines.0 in
    let externs = both _ _ cases.0 in
    let functions = both _ _ externs.0 in
    let constants = both _ _ functions.0 in
    let types = both _ _ constants.0 in
    let metadata = both _ _ types.0 in
    let code = both _ _ metadata.0 in
    record {
      code = eqb-true _ _ code.0;
      metadata = eqb-true _ _ code.1;
      types = eqb-true _ _ metadata.1;
      constants = eqb-true _ _ types.1;
      functions = eqb-true _ _ constants.1;
      externs = eqb-true _ _ functions.1;
      cases = eqb-true _ _ externs.1;
      lines = eqb-true _ _ cases.1;
      end = eqb-true _ _ lines.1;
    }

pub has_sections_lem : (u : List ℕ) → has_sections u ≡ true → Sections (header_of u) (length u)
unfolding has_sections
has_sections_lem u e = sections_follow_lem (header_of u) (length u) (both (sections_follow (header_of u) (length u)) _ (passed (leb header_size (length u)) _ e).1).0

pub unit_laid : (u : List ℕ) → is_unit u ≡ true → WellFormed u
unfolding is_unit good_counts
unit_laid u e =
    let tests = passed (has_sections u) (good_entries u) e in
    let counts = both _ _ (has_counts u tests.0) in
    let s : Sections (header_of u) (length u) = has_sections_lem u tests.0 in
    let w : Within (header_of u) (length u) = within (header_of u) (length u) s in
    record {
      header = has_header u tests.0;
      locals = leb-true _ _ counts.0;
      defer = leb-true _ _ counts.1;
      good = tests.1;
      sections = s;
      within = w;
      lengths = lengths u w;
      entries = entries u tests.1;
    }
