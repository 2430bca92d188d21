use mathlib.Core.Path.{refl, ◌∙◌}
use Prim.Native.Nat.{◌-◌, ◌/◌}
use native.Mathlib.Omega.{arith}
use Rattle.unit.specs.Size.{header_size}
use Rattle.short.specs.laws.Digits.{at_header, at_code, at_zero}
use Rattle.short.proofs.byte.Goals as goal

pub returns-then-i-lt-HEADER : goal.returns-then-i-lt-HEADER
returns-then-i-lt-HEADER c =
    let a = c.args in
    c.byte_of.ensures ∙ rw c.header_word.ensures (at_header a.n a.rank a.i c.if-i-lt-HEADER.true)

pub word-requires : goal.word-requires
word-requires c = c.digit.ensures.1

pub returns-then-at-n : goal.returns-then-at-n
returns-then-at-n c =
    let inside = c.if-at-n.true in
    let low = c.if-i-lt-HEADER.false in
    let a = c.args in
    c.byte_of-then-at-n.ensures
    ∙ rw (c.word.ensures, c.digit.ensures.0) (at_code a.n a.rank a.i ((a.i - header_size) / 8) low (omega arith) refl)

pub returns : goal.returns
returns c =
    let a = c.args in
    let low = c.if-i-lt-HEADER.false in
    let behind = c.if-at-n.false in
    at_zero a.n a.rank a.i (omega arith) c.requires.1
