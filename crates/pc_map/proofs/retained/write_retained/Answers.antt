use Rattle.effects.specs.laws.Cells.{cells_by}
use Rattle.pc_map.specs.Relocate.{retain_from}
use Rattle.pc_map.proofs.Writing.{listed_many, all_written}
use Rattle.std.proofs.Common.{length}
use Rattle.pc_map.proofs.retained.write_retained.Goals as goal

pub returns : goal.returns
returns c =
    let a = c.args in
    λ keep l.
    all_written (length a.kept.now) (retain_from keep 0 (cells_by a.words.now a.metadata.now)) a.out.now
    (listed_many keep a.kept.now a.words.now a.metadata.now l.list l.long)
    c.requires.fits
    c.write_header.ensures
    (c.write_code.ensures keep a.metadata.now l)
    (rw c.metadata_at.ensures at (c.write_metadata.ensures keep l))
    (rw c.places_at.ensures at (c.write_places.ensures keep a.words.now a.metadata.now l.list l.long))
