use borrow.Enum.Refused.{opened}
use Rattle.numbering.proofs.Classes.{number_other, jump_named, jump_by_lem}
use Rattle.numbering.proofs.Walking.{as_becomes}
use native.Mathlib.Omega.{arith}
use mathlib.Core.Path.{sym, ◌∙◌}
use Rattle.values.specs.Number.{number_by_with}
use Rattle.numbering.specs.laws.Walk.{}
use Rattle.values.specs.laws.Named.{Named}
use Rattle.numbering.proofs.walk.number_one.Goals as goal

pub number_jump-requires : goal.number_jump-requires
number_jump-requires c = (c.requires.0, jump_named c.class-k.result _ c.args.i c.in-JumpIf.in-JumpIf-own.keys1 (rw c.class-k.ensures c.requires.1))

pub number_return-requires : goal.number_return-requires
unfolding Named
number_return-requires c = let k = sym c.class-k.ensures ∙ c.in-Return.is in (c.requires.0, rw k at c.requires.1)

pub number_other-requires : goal.number_other-requires
number_other-requires c = (c.requires.0, rw c.class-k.ensures c.requires.1, c.requires.2)

pub returns-in-JumpIf : goal.returns-in-JumpIf
returns-in-JumpIf c = as_becomes (omega arith) (omega arith) (omega arith) (λ dest d l T v y h. (tt, rw (← c.class-k.ensures, c.jumps_on_zero.ensures) (jump_by_lem _ _ c.args.p c.args.i v c.in-JumpIf.in-JumpIf-own.keys1))) c.number_jump.ensures

pub returns-in-Return : goal.returns-in-Return
unfolding Named number_by_with
returns-in-Return c = let k = sym c.class-k.ensures ∙ c.in-Return.is in as_becomes (omega arith) (omega arith) (omega arith) (λ dest d l T v y h. (tt, rw k)) c.number_return.ensures

pub returns-in_default : goal.returns-in_default
returns-in_default c = as_becomes (omega arith) (omega arith) (omega arith) (λ dest d l T v y h. (y, sym (rw (← c.class-k.ensures) (number_other _ _ c.args.p c.args.i v (opened c.in_default.in_default-own.keys3))))) c.number_other.ensures
