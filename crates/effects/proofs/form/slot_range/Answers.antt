use Rattle.effects.specs.laws.Plain.{slot_form}
use Rattle.effects.proofs.form.slot_range.Goals as goal

pub returns : goal.returns
returns c = λ T m. rw (slot_form T (record { instruction = c.args.i; metadata = m }) c.args.form c.requires, ← c.slot.ensures)
