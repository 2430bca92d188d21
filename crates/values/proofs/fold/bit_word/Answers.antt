use Rattle.std.proofs.Common.{sym, arith, ne_eqb}
use Rattle.values.specs.Fold.{bit_word}
use Rattle.values.specs.laws.Bitwise.{and_bits, or_bits, xor_bits}
use Rattle.values.proofs.fold.bit_word.Goals as goal

pub returns-in-48 : goal.returns-in-48
unfolding bit_word
returns-in-48 c = rw c.in-48.is (sym (and_bits (omega arith) (omega arith)))

pub returns-in-49 : goal.returns-in-49
unfolding bit_word
returns-in-49 c = rw c.in-49.is (sym (or_bits (omega arith) (omega arith)))

pub returns-in-50 : goal.returns-in-50
unfolding bit_word
returns-in-50 c = rw c.in-50.is (sym (xor_bits (omega arith) (omega arith)))

pub returns-in-51 : goal.returns-in-51
unfolding bit_word
returns-in-51 c = rw c.in-51.is (sym (and_bits (omega arith) (omega arith)))

pub returns-in-52 : goal.returns-in-52
unfolding bit_word
returns-in-52 c = rw c.in-52.is

pub returns-in-56 : goal.returns-in-56
unfolding bit_word
returns-in-56 c = rw c.in-56.is c.word_of.ensures

pub returns-in_default : goal.returns-in_default
unfolding bit_word
returns-in_default c = rw (ne_eqb _ 48 c.in_default.in_default-own.rest.0.0.0.0.0.1, ne_eqb _ 49 c.in_default.in_default-own.rest.0.0.0.0.1, ne_eqb _ 50 c.in_default.in_default-own.rest.0.0.0.1, ne_eqb _ 51 c.in_default.in_default-own.rest.0.0.1, ne_eqb _ 52 c.in_default.in_default-own.rest.0.1, ne_eqb _ 56 c.in_default.in_default-own.rest.1) c.truncate.ensures
