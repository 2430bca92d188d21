use borrow.Enum.Refused.{opened}
use Rattle.numbering.proofs.Walking.{jump_undecided, jump_decided}
use Rattle.numbering.specs.laws.Walk.{takes}
use mathlib.Core.Path.{sym, ◌∙◌}
use Rattle.numbering.proofs.walk.number_jump.Goals as goal

pub returns-in_default : goal.returns-in_default
returns-in_default c = jump_undecided c.args.i (takes c.args.zero) _ c.requires.1 c.number-d.ensures.0 c.atom-value.ensures (opened c.in_default.in_default-own.keys2) c.undecided.ensures

pub returns-then-taken : goal.returns-then-taken
returns-then-taken c = jump_decided c.args.i (takes c.args.zero) _ c.requires.1 c.number-d.ensures.0 c.atom-value.ensures c.requires.0.ready c.in-Integer.is (sym c.taken.ensures ∙ c.if-taken.true) c.new.ensures

pub returns : goal.returns
returns c = jump_decided c.args.i (takes c.args.zero) _ c.requires.1 c.number-d.ensures.0 c.atom-value.ensures c.requires.0.ready c.in-Integer.is (sym c.taken.ensures ∙ c.if-taken.false) c.new-2.ensures
