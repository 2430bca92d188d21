use Rattle.values.specs.laws.Entries.{bucket_of}
use Rattle.values.specs.laws.Search.{scaled_low, scaled_fits}
use Rattle.std.proofs.Common.{◌/◌, arith, le-ltb, lt-ltb}
use Rattle.values.proofs.entries.bucket.Goals as goal

pub overflow_mul-mixed : goal.overflow_mul-mixed
overflow_mul-mixed c = record { fits = scaled_fits (c.mix.result / 4294967296) c.args.h (omega arith) c.requires.1 }

pub returns-then-left-h : goal.returns-then-left-h
unfolding bucket_of
returns-then-left-h c = (rw (lt-ltb _ _ c.if-left-h.true), c.if-left-h.true)

pub returns-else-left-h : goal.returns-else-left-h
unfolding bucket_of
returns-else-left-h c =
    let s = c.before.before in
    let low = scaled_low (c.mix.result / 4294967296) s.args.h (omega arith) s.requires.0 in
    (rw (le-ltb s.args.left s.args.h c.if-left-h.false, ← c.mix.ensures), low)
