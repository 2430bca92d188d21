use Rattle.std.proofs.Common.{[], ◌≡◌, ◌*◌, false, length, sym, ◌∙◌}
use Rattle.unit.specs.Entry.{metadata_at}
use Rattle.effects.specs.Shape.{Tables, Cell, tables_with}
use Rattle.effects.specs.laws.ByClass.{is_outside}
use Rattle.use_def.specs.laws.Touched.{put_writes, writes_in}
use Rattle.use_def.proofs.touch.put_writes.Goals as goal

pub put_each_write-requires : goal.put_each_write-requires
put_each_write-requires c =
    let f = c.requires.1 in
    let d = c.ranges_metadata.ensures in
    record { few = f.few; fit = λ cases. rw (d.writes (tables_with cases c.args.callees)) (f.fit cases) }

pub returns-then-is_outside : goal.returns-then-is_outside
returns-then-is_outside c =
    λ cases. rw (← c.ranges_metadata.ensures.writes (tables_with cases c.args.callees)) (c.put_each_write.ensures cases)

pub put_range-requires : goal.put_range-requires
put_range-requires c =
    let T : Tables = tables_with [] c.args.callees in
    let x : Cell = record { instruction = c.args.i; metadata = metadata_at c.args.metadata.now c.args.p } in
    let k = c.class-c in
    let inside : is_outside k.result ≡ false = sym c.is_outside.ensures ∙ c.if-is_outside.false in
    (c.requires.1.few, writes_in T x k.result k.ensures inside (64 * length c.args.row.now) 0 _ (c.requires.1.fit []) c.write.ensures)

pub returns : goal.returns
returns c =
    let x : Cell = record { instruction = c.args.i; metadata = metadata_at c.args.metadata.now c.args.p } in
    let k = c.class-c in
    let inside : is_outside k.result ≡ false = sym c.is_outside.ensures ∙ c.if-is_outside.false in
    λ cases.
    put_writes (tables_with cases c.args.callees) x k.result k.ensures inside _ _ _ _ c.write.ensures c.put_range.ensures
