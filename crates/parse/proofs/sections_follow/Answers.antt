use native.Mathlib.Nat.{one-mul}
use Rattle.words.specs.Le.{u32_at}
use Rattle.unit.specs.Layout.{header_of, sections_follow}
use Rattle.parse.proofs.sections_follow.Goals as goal

pub returns : goal.returns
unfolding header_of sections_follow
returns c = cc (one-mul (u32_at c.args.unit.now 12))
