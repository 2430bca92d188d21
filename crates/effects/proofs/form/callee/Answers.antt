use Rattle.effects.proofs.form.callee.Goals as goal

pub returns : goal.returns
returns c = cc
