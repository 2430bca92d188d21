use Rattle.std.proofs.Common.{refl, arith}
use Rattle.words.specs.Lists.{every}
use Rattle.instruction.specs.Class.{named_class}
use Rattle.instruction.specs.laws.Class.{class_cast}
use Rattle.flow.specs.Branch.{branches}
use Rattle.flow.specs.laws.BranchLaws.{bit_byte}
use Rattle.flow.proofs.branch.branches.Goals as goal

pub returns : goal.returns
unfolding every named_class branches
returns c = bit_byte _ _ (omega arith) (class_cast _ branches refl c.args.c)
