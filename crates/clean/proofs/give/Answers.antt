use mathlib.Core.Path.{refl}
use Rattle.clean.specs.laws.Cleaning.{give_answers}
use Rattle.clean.proofs.give.Goals as goal

pub returns : goal.returns
returns c = give_answers c.args.k c.args.passes c.args.from.now c.args.out.now _ _ c.requires.3 refl (rw (c.copy.ensures, c.output_room-room.ensures) refl)
