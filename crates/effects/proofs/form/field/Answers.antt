use Rattle.effects.specs.laws.Plain.{field_slot}
use Rattle.effects.proofs.form.field.Goals as goal

pub returns : goal.returns
returns c = field_slot _ _ c.requires
