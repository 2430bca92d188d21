use Rattle.numbering.proofs.Walking.{kind_known, constant_becomes, forget_becomes, constant_unknown}
use Rattle.numbering.proofs.walk.number_constant.Goals as goal

pub store_constant-requires : goal.store_constant-requires
store_constant-requires c = (c.requires.0, c.requires.1, kind_known c.loaded.ensures.1 c.in-Some.is)

pub returns-in-Some : goal.returns-in-Some
returns-in-Some c = constant_becomes c.args.i c.loaded.ensures.0 c.in-Some.is c.store_constant.ensures

pub returns-in-None : goal.returns-in-None
returns-in-None c = forget_becomes c.forget.ensures (λ dest. constant_unknown _ c.args.i c.loaded.ensures.0 c.in-None.is)
