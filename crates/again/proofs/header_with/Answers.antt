use Rattle.again.proofs.header_with.Goals as goal

pub offsets_of-offsets-requires : goal.offsets_of-offsets-requires
offsets_of-offsets-requires c = record { fits = rw c.counts_with-counts.ensures.counts c.requires.fits }

pub returns : goal.returns
returns c = record { header = cc }
