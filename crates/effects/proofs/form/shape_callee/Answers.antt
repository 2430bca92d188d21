use Rattle.effects.proofs.form.shape_callee.Goals as goal

pub returns : goal.returns
returns c = cc
