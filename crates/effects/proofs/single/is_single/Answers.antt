use mathlib.Core.Path.{refl}
use Rattle.words.specs.Lists.{every}
use Rattle.instruction.specs.Class.{named_class, number_of}
use Rattle.instruction.specs.laws.Class.{class_cast}
use Rattle.effects.specs.laws.Single.{is_single}
use Rattle.effects.proofs.single.is_single.Goals as goal

pub returns : goal.returns
unfolding every named_class number_of
returns c = class_cast _ is_single refl c.args.c
