use Rattle.std.proofs.Common.{refl}
use Rattle.use_def.specs.laws.SingleSets.{put_single_write}
use Rattle.use_def.proofs.touch.take_single_write.Goals as goal

pub returns : goal.returns
returns c = (λ T m. put_single_write _ _ refl c.requires.single T m _ _ _ c.field.ensures c.put.ensures, rw (← c.field.ensures) c.put.ensures)
