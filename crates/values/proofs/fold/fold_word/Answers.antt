use Rattle.std.proofs.Common.{ne_eqb}
use Rattle.values.specs.Fold.{fold_word}
use Rattle.values.proofs.fold.fold_word.Goals as goal

pub returns-in-19 : goal.returns-in-19
unfolding fold_word
returns-in-19 c = rw c.in-19.is

pub returns-in-20 : goal.returns-in-20
unfolding fold_word
returns-in-20 c = rw c.in-20.is

pub returns-in-21 : goal.returns-in-21
unfolding fold_word
returns-in-21 c = rw c.in-21.is (cc)

pub returns-in-26 : goal.returns-in-26
unfolding fold_word
returns-in-26 c = rw c.in-26.is c.wrapping_neg.ensures

pub returns-in-32 : goal.returns-in-32
unfolding fold_word
returns-in-32 c = rw c.in-32.is (cc)

pub returns-in-33 : goal.returns-in-33
unfolding fold_word
returns-in-33 c = rw c.in-33.is (cc)

pub returns-in-34 : goal.returns-in-34
unfolding fold_word
returns-in-34 c = rw c.in-34.is (cc)

pub returns-in-35 : goal.returns-in-35
unfolding fold_word
returns-in-35 c = rw c.in-35.is (cc)

pub returns-in-36 : goal.returns-in-36
unfolding fold_word
returns-in-36 c = rw c.in-36.is (cc)

pub returns-in-37 : goal.returns-in-37
unfolding fold_word
returns-in-37 c = rw c.in-37.is (cc)

pub returns-in-38 : goal.returns-in-38
unfolding fold_word
returns-in-38 c = rw c.in-38.is (cc)

pub returns-in-39 : goal.returns-in-39
unfolding fold_word
returns-in-39 c = rw c.in-39.is (cc)

pub returns-in-40 : goal.returns-in-40
unfolding fold_word
returns-in-40 c = rw c.in-40.is (cc)

pub returns-in-41 : goal.returns-in-41
unfolding fold_word
returns-in-41 c = rw c.in-41.is (cc)

pub returns-in_default : goal.returns-in_default
unfolding fold_word
returns-in_default c = rw (ne_eqb _ 19 c.in_default.in_default-own.rest.0.0.0.0.0.0.0.0.0.0.0.0.0.1, ne_eqb _ 20 c.in_default.in_default-own.rest.0.0.0.0.0.0.0.0.0.0.0.0.1, ne_eqb _ 21 c.in_default.in_default-own.rest.0.0.0.0.0.0.0.0.0.0.0.1, ne_eqb _ 26 c.in_default.in_default-own.rest.0.0.0.0.0.0.0.0.0.0.1, ne_eqb _ 32 c.in_default.in_default-own.rest.0.0.0.0.0.0.0.0.0.1, ne_eqb _ 33 c.in_default.in_default-own.rest.0.0.0.0.0.0.0.0.1, ne_eqb _ 34 c.in_default.in_default-own.rest.0.0.0.0.0.0.0.1, ne_eqb _ 35 c.in_default.in_default-own.rest.0.0.0.0.0.0.1, ne_eqb _ 36 c.in_default.in_default-own.rest.0.0.0.0.0.1, ne_eqb _ 37 c.in_default.in_default-own.rest.0.0.0.0.1, ne_eqb _ 38 c.in_default.in_default-own.rest.0.0.0.1, ne_eqb _ 39 c.in_default.in_default-own.rest.0.0.1, ne_eqb _ 40 c.in_default.in_default-own.rest.0.1, ne_eqb _ 41 c.in_default.in_default-own.rest.1) c.bit_word.ensures
