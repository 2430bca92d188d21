use borrow.Enum.Refused.{opened}
use Rattle.numbering.proofs.Classes.{pure_none, operator_named, operator_pure}
use Rattle.numbering.proofs.Walking.{as_becomes, pure_by_lem, forget_becomes}
use native.Mathlib.Omega.{arith}
use mathlib.Core.Path.{refl, sym, ◌∙◌}
use Rattle.values.specs.laws.Memory.{key_atom}
use Rattle.numbering.specs.laws.Walk.{pure_by}
use Rattle.values.specs.laws.Named.{Named}
use Rattle.numbering.proofs.walk.number_pure.Goals as goal

pub number_operator-requires : goal.number_operator-requires
number_operator-requires c =
    let yes = sym c.is_operator.ensures ∙ c.if-is_operator.true in
    let h = operator_named c.args.k _ c.args.i yes c.requires.1 in
    (c.requires.0, h.0, rw c.is_binary.ensures h.1, h.2, c.requires.2)

pub returns-then-is_operator : goal.returns-then-is_operator
returns-then-is_operator c =
    let yes = sym c.is_operator.ensures ∙ c.if-is_operator.true in
    as_becomes (omega arith) (omega arith) (omega arith)
    (λ dest d l T v y h. (y.0, rw c.is_binary.ensures (operator_pure _ c.args.k c.args.p c.args.i v yes)))
    c.number_operator.ensures

pub store_constant-requires : goal.store_constant-requires
unfolding Named
store_constant-requires c = (c.requires.0, rw c.in-LoadInt.is at c.requires.1, omega arith)

pub number_constant-requires : goal.number_constant-requires
unfolding Named
number_constant-requires c = (c.requires.0, rw c.in-LoadConst.is at c.requires.1)

pub number_copy-requires : goal.number_copy-requires
unfolding Named
number_copy-requires c = let h = rw c.in-Copy.is at c.requires.1 in (c.requires.0, h.0, h.1)

pub returns-in-LoadInt : goal.returns-in-LoadInt
unfolding pure_by key_atom
returns-in-LoadInt c =
    pure_by_lem c.args.i c.args.p _ c.in-LoadInt.is (λ dest d l T v y. (tt, rw c.imm32.ensures)) (omega arith) (omega arith) (omega arith) c.store_constant.ensures

pub returns-in-LoadConst : goal.returns-in-LoadConst
unfolding pure_by
returns-in-LoadConst c =
    pure_by_lem c.args.i c.args.p _ c.in-LoadConst.is (λ dest d l T v y. (tt, rw (y.1, c.constant-constant.ensures))) (omega arith) (omega arith) (omega arith) c.number_constant.ensures

pub returns-in-Copy : goal.returns-in-Copy
unfolding pure_by
returns-in-Copy c =
    pure_by_lem c.args.i c.args.p _ c.in-Copy.is (λ dest d l T v y. (tt, refl)) (omega arith) (omega arith) (omega arith) c.number_copy.ensures

pub returns-in_default : goal.returns-in_default
returns-in_default c =
    let no = sym c.is_operator.ensures ∙ c.if-is_operator.false in
    forget_becomes c.forget.ensures (λ dest d l T v. pure_none _ c.args.k c.args.p c.args.i v (opened c.in_default.in_default-own.keys4) no)
