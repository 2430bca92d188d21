use Rattle.std.proofs.Common.{◌≡◌, ◌*◌, false, length, sym, ◌∙◌}
use Rattle.unit.specs.Entry.{metadata_at}
use Rattle.effects.specs.Shape.{Tables, Cell, tables_in}
use Rattle.effects.specs.laws.ByClass.{is_outside}
use Rattle.use_def.specs.laws.Touched.{put_reads, reads_in}
use Rattle.use_def.proofs.touch.put_reads.Goals as goal

pub put_each_read-requires : goal.put_each_read-requires
put_each_read-requires c =
    let f = c.requires.1 in
    let d = c.ranges_metadata.ensures in
    (f.few, d.cases c.args.tables.cases.now f.cases, rw (d.reads (tables_in c.args.tables)) f.reads_fit)

pub returns-then-is_outside : goal.returns-then-is_outside
returns-then-is_outside c =
    rw (← c.ranges_metadata.ensures.reads (tables_in c.args.tables)) c.put_each_read.ensures

pub put_range-requires : goal.put_range-requires
put_range-requires c =
    let T : Tables = tables_in c.args.tables in
    let x : Cell = record { instruction = c.args.i; metadata = metadata_at c.args.metadata.now c.args.p } in
    let k = c.class-c in
    let inside : is_outside k.result ≡ false = sym c.is_outside.ensures ∙ c.if-is_outside.false in
    (c.requires.1.few, reads_in T x k.result k.ensures inside (64 * length c.args.row.now) 0 _ c.requires.1.reads_fit c.first_read.ensures)

pub put_range-requires-2 : goal.put_range-requires-2
put_range-requires-2 c =
    let T : Tables = tables_in c.args.tables in
    let x : Cell = record { instruction = c.args.i; metadata = metadata_at c.args.metadata.now c.args.p } in
    let k = c.class-c in
    let inside : is_outside k.result ≡ false = sym c.is_outside.ensures ∙ c.if-is_outside.false in
    rw c.put_range.auto.row (c.requires.1.few, reads_in T x k.result k.ensures inside (64 * length c.args.row.now) 1 _ c.requires.1.reads_fit c.second_read.ensures)

pub returns : goal.returns
returns c =
    let T : Tables = tables_in c.args.tables in
    let x : Cell = record { instruction = c.args.i; metadata = metadata_at c.args.metadata.now c.args.p } in
    let k = c.class-c in
    let inside : is_outside k.result ≡ false = sym c.is_outside.ensures ∙ c.if-is_outside.false in
    put_reads T x k.result k.ensures inside _ _ _ _ _ _ c.first_read.ensures c.second_read.ensures c.put_range.ensures c.put_range-2.ensures
