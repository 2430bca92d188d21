use mathlib.Core.Path.{◌≡◌, sym, ap, ◌∙◌}
use Rattle.std.specs.Prelude.{Err}
use mathlib.Core.Bool.{true}
use borrow.Author.Tests.{not-true, not-false}
use native.Mathlib.Omega.{arith}
use Rattle.unit.specs.Layout.{has_sections, is_unit, lines_rise, header_of}
use Rattle.unit.specs.laws.UnitLaws.{has_header, no_sections, by_entries, not_laid_out, lines_fall, too_many_cases_lem, laid_out_lem}
use Rattle.unit.proofs.laws.UnitLaws.{has_sections_lem}
use Rattle.parse.proofs.check.Goals as goal
use Rattle.parse.proofs.check.Goals.{After-word, Else-not-entries, Else-not-has_sections, Else-not-lines_rise}

-- the tests that passed
sections : (c : Else-not-has_sections) → has_sections c.args.unit.now ≡ true
sections c = sym c.has_sections.ensures ∙ c.if-not-has_sections.false

entries : (c : Else-not-entries) → has_sections c.args.unit.now ≡ true → is_unit c.args.unit.now ≡ true
entries c there = by_entries _ true there (sym c.sweep-entries.ensures.0 ∙ not-false _ c.if-not-entries.false)

rise : (c : Else-not-lines_rise) → lines_rise c.args.unit.now ≡ true
rise c = sym c.lines_rise.ensures ∙ c.if-not-lines_rise.false

pub returns-then-not-has_sections : goal.returns-then-not-has_sections
returns-then-not-has_sections c = ap Err c.at.ensures.refusal ∙ sym (not_laid_out _ (no_sections _ (sym c.has_sections.ensures ∙ c.if-not-has_sections.true)))

pub sweep-entries-requires : goal.sweep-entries-requires
sweep-entries-requires c = has_sections_lem _ (sections c)

pub returns-then-not-entries : goal.returns-then-not-entries
returns-then-not-entries c = ap Err c.at-then-not-entries.ensures.refusal ∙ sym (not_laid_out _ (by_entries _ _ (sections (goal.at.returns-then-not-entries c).Else-not-has_sections) (sym c.sweep-entries.ensures.0 ∙ not-true _ c.if-not-entries.true)))

pub lines_rise-requires : goal.lines_rise-requires
lines_rise-requires c = has_sections_lem _ (sections (goal.at.lines_rise-requires c).Else-not-has_sections)

pub returns-then-not-lines_rise : goal.returns-then-not-lines_rise
returns-then-not-lines_rise c = ap Err c.at-then-not-lines_rise.ensures.refusal ∙ sym (lines_fall _ (entries (goal.at.returns-then-not-lines_rise c).Else-not-entries (sections (goal.at.returns-then-not-lines_rise c).Else-not-has_sections)) (sym c.lines_rise.ensures ∙ c.if-not-lines_rise.true))

pub word-requires : goal.word-requires
word-requires c = (has_header _ (sections (goal.at.word-requires c).Else-not-has_sections), omega arith)

-- the lowest wide select and the number of entries, as the definition has them
pub returns-then-wide-word : goal.returns-then-wide-word
unfolding header_of
returns-then-wide-word c =
    let lines = (goal.at.returns-then-wide-word c).Else-not-lines_rise in
    let found = lines.sweep-entries.ensures.1 in
    ap Err (rw found at c.at-then-wide-word.ensures.refusal) ∙ sym (too_many_cases_lem _ (entries (goal.at.returns-then-wide-word c).Else-not-entries (sections (goal.at.returns-then-wide-word c).Else-not-has_sections)) (rise lines) (rw (found, c.word.ensures.0) at c.if-wide-word.true))

pub header-requires : goal.header-requires
header-requires c = has_header _ (sections (goal.at.header-requires c).Else-not-has_sections)

pub returns : goal.returns
unfolding header_of
returns c =
    let word = (goal.at.returns c).After-word in
    let lines = (goal.at.returns c).Else-not-lines_rise in
    rw c.header.ensures (sym (laid_out_lem _ (entries (goal.at.returns c).Else-not-entries (sections (goal.at.returns c).Else-not-has_sections)) (rise lines) (rw (lines.sweep-entries.ensures.1, word.word.ensures.0) at c.if-wide-word.false)))
