use Rattle.std.proofs.Common.{◌≡◌, ap, ◌∙◌, arith, ◌+◌, ◌-◌}
use borrow.Rule.Slice.PartMut.{put_mid}
use Rattle.words.specs.laws.Le.{to_le_low}
use Rattle.words.proofs.le.write_u32.Goals as goal

pub returns : goal.returns
returns c =
    let a = c.args in
    let long : a.at + 4 - a.at ≡ 4 = omega arith in
    rw long (ap (put_mid a.at 4 a.d.now) (c.copy_from_slice.ensures.after ∙ c.to_le_bytes.ensures ∙ to_le_low 4 a.v))
