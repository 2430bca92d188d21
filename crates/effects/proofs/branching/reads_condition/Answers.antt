use mathlib.Core.Path.{refl}
use Rattle.words.specs.Lists.{every}
use Rattle.instruction.specs.Class.{named_class, number_of}
use Rattle.instruction.specs.laws.Class.{class_cast}
use Rattle.effects.specs.laws.Branching.{reads_condition}
use Rattle.effects.proofs.branching.reads_condition.Goals as goal

pub returns : goal.returns
unfolding every named_class number_of
returns c = class_cast _ reads_condition refl c.args.c
