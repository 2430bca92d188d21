use Rattle.std.proofs.Common.{length, arith}
use Rattle.pc_map.proofs.Writing.{asked, kept_code}
use Rattle.pc_map.proofs.retained.write_instruction.Goals as goal

pub relocate-i-requires : goal.relocate-i-requires
relocate-i-requires c =
    let a = c.args in
    let v = asked (length a.words.now) (length a.map.boundaries.now) a.p _ _ c.from_word.ensures c.requires.1 c.requires.3 in
    (omega arith, omega arith, v.0, v.1)

pub returns : goal.returns
returns c =
    let a = c.args in
    λ keep metadata m. kept_code keep a.p _ metadata a.out.now _ a.at _ c.from_word.ensures _ (c.relocate-i.ensures keep m) c.write.ensures
