use Rattle.numbering.proofs.Walking.{defines}
use native.Mathlib.Omega.{arith}
use Rattle.numbering.proofs.walk.define.Goals as goal

pub store-requires : goal.store-requires
store-requires c = let w = c.requires.6 in let l = c.learn.ensures w.op w.flags w.left w.right w.op_fits w.flags_fits w.left_low w.right_low w.is in (l.kept.ready, c.requires.1, omega (arith, c.requires.2))

pub returns : goal.returns
returns c = λ op flags left right a b d e q. defines (c.learn.ensures op flags left right a b d e q) c.store.ensures
