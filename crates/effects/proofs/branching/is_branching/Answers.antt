use mathlib.Core.Path.{refl}
use Rattle.words.specs.Lists.{every}
use Rattle.instruction.specs.Class.{named_class, number_of}
use Rattle.instruction.specs.laws.Class.{class_cast}
use Rattle.effects.specs.laws.Branching.{is_branching}
use Rattle.effects.proofs.branching.is_branching.Goals as goal

pub returns : goal.returns
unfolding every named_class number_of
returns c = class_cast _ is_branching refl c.args.c
