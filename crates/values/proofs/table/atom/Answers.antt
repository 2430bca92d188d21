use Rattle.values.proofs.Reading.{integer_none, integer_zero, integer_entry, float_entry}
use Rattle.values.specs.laws.Folded.{integer_of}
use Rattle.values.proofs.table.atom.Goals as goal

pub returns-then-number-zero : goal.returns-then-number-zero
unfolding integer_of
returns-then-number-zero c = integer_none c.requires.0 _ c.if-number-zero.true

pub returns-then-number-zero-2 : goal.returns-then-number-zero-2
unfolding integer_of
returns-then-number-zero-2 c = integer_zero c.requires.0 _ c.if-number-zero-2.true

pub returns-then-t-at-eq0 : goal.returns-then-t-at-eq0
unfolding integer_of
returns-then-t-at-eq0 c = let s = c.before.before.before.before.before.before.before in integer_entry s.requires.0 _ c.if-number-zero.false c.if-number-zero-2.false s.requires.1 c.constants_at.ensures c.if-t-at-eq0.true

pub returns : goal.returns
unfolding integer_of
returns c = let s = c.before.before.before.before.before.before.before in float_entry s.requires.0 _ c.if-number-zero.false c.if-number-zero-2.false s.requires.1 c.constants_at.ensures c.if-t-at-eq0.false
