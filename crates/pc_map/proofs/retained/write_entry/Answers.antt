use Rattle.pc_map.proofs.Writing.{end_asked, kept_metadata}
use Rattle.pc_map.proofs.retained.write_entry.Goals as goal

pub relocate_metadata-d-requires : goal.relocate_metadata-d-requires
relocate_metadata-d-requires c = end_asked c.args.map.boundaries.now c.from_word-i.result _ c.metadata.result _ c.from_word-i.ensures c.metadata.ensures c.requires.3

pub returns : goal.returns
returns c =
    let a = c.args in
    λ keep m. kept_metadata keep a.p _ a.metadata.now a.out.now _ a.at _ c.from_word-i.ensures _ _ c.metadata.ensures (c.relocate_metadata-d.ensures keep m) c.write_metadata.ensures
