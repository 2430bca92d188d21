use Rattle.values.proofs.Growing.{expressions_room, expression_new, learns}
use Rattle.values.proofs.table.learn.Goals as goal

pub insert-requires : goal.insert-requires
insert-requires c =
    let s = c.before.before.before.before.before.before in
    let r = expressions_room s.requires.0 s.requires.1 in
    rw (c.expressions_at-start.ensures, c.end_at-end.ensures)
    (record { linked = s.requires.0.order.expressions; bucket = s.requires.2; low = s.requires.3; first = s.requires.4; few = r.0; room = r.1; absent = expression_new s.requires.0 _ s.requires.6 })

pub returns : goal.returns
returns c =
    let s = c.before.before.before.before.before.before.before.before.before in
    let a = c.expressions_at-start.ensures in
    let z = c.end_at-end.ensures in
    λ op flags left right fop fflags l r e.
    rw (a, z)
    (learns s.requires.0 op flags left right s.args.d fop fflags l r s.requires.5 s.requires.1 _ (rw (a, z, e) at c.insert.ensures))
