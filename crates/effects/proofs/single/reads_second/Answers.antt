use mathlib.Core.Path.{refl}
use Rattle.words.specs.Lists.{every}
use Rattle.instruction.specs.Class.{named_class, number_of}
use Rattle.instruction.specs.laws.Class.{class_cast}
use Rattle.effects.specs.laws.Single.{reads_second}
use Rattle.effects.proofs.single.reads_second.Goals as goal

pub returns : goal.returns
unfolding every named_class number_of
returns c = class_cast _ reads_second refl c.args.c
