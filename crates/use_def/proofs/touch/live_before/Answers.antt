use Rattle.unit.specs.Entry.{metadata_at}
use Rattle.effects.specs.Shape.{Tables, Cell, tables_with}
use Rattle.use_def.specs.laws.Touched.{writes_fit_any, before}
use Rattle.use_def.proofs.touch.live_before.Goals as goal

pub put_writes-requires : goal.put_writes-requires
put_writes-requires c = (c.requires.0, writes_fit_any c.requires.1)

pub put_reads-requires : goal.put_reads-requires
put_reads-requires c = rw c.put_writes.auto.row c.requires

pub returns : goal.returns
returns c =
    let cases = c.args.tables.cases.now in
    let T : Tables = tables_with cases c.args.tables.callees in
    let x : Cell = record { instruction = c.args.i; metadata = metadata_at c.args.metadata.now c.args.p } in
    before T x _ _ _ (c.put_writes.ensures cases) c.put_reads.ensures
