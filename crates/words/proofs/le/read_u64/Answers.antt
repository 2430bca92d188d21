use Rattle.std.proofs.Common.{rules, ◌≡◌, ◌∙◌, arith, ◌+◌, ◌-◌}
use Rattle.std.specs.Array.{IsWholeChunk}
use borrow.Rule.Slice.PartMut.{mid_of}
use Rattle.words.specs.laws.Le.{mid_le}
use Rattle.words.proofs.le.read_u64.Goals as goal

pub returns : goal.returns
returns c =
    let a = c.args in
    let long : a.at + 8 - a.at ≡ 8 = omega arith in
    let whole : IsWholeChunk (mid_of a.at (a.at + 8 - a.at) a.s.now) c.unwrap.result.now 8 = search rules in
    c.from_le_bytes.ensures ∙ mid_le 7 a.s.now _ a.at (rw long at whole.same) (omega arith)
