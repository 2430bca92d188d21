use Rattle.values.proofs.Growing.{interns_zero, interns_found, interns_new, constants_room, interned_few}
use Rattle.values.proofs.Recording.{few}
use Rattle.values.specs.laws.Entries.{newest}
use Rattle.values.specs.laws.Memory.{memory_of, constant_key}
use Rattle.std.proofs.Common.{◌≡◌, arith}
use Rattle.values.proofs.table.constant.Goals as goal
use Rattle.values.proofs.table.constant.Tie as tie
use Rattle.values.proofs.table.constant.Lts
use Rattle.values.proofs.table.constant.Reads

abbrev After-find-f : Type 0
After-find-f = Lts.After-find tie.the-claims Reads.Pre Reads.Post

abbrev Start : Type 0
Start = Lts.Start tie.the-claims Reads.Pre Reads.Post

abbrev start : After-find-f → Start
start c = c.before.before.before.before.before.before.before.before.before.before.before

-- what is found in the table of constants
found : (c : After-find-f) → let m = memory_of (start c).args.n (start c).args.locals (start c).args.t.now in c.find-f.result ≡ newest m.constant_table (start c).args.n m.constants (constant_key (start c).args.kind (start c).args.bits)
found c = rw (c.constants_at-start.ensures, c.expressions_at-end.ensures) at c.find-f.ensures

pub returns-then-kind-bits : goal.returns-then-kind-bits
returns-then-kind-bits c = interns_zero c.requires.0 _ _ c.if-kind-bits.true

pub find-f-requires : goal.find-f-requires
find-f-requires c =
    let a = c.constants_at-start.ensures in
    let z = c.expressions_at-end.ensures in
    rw (a, z)
    (record { epoch = _; linked = c.requires.0.order.constants; first = rw (← c.bucket-b.ensures.0) (rw (a, z) at c.head-first.ensures) })

pub overflow_add-result : goal.overflow_add-result
overflow_add-result c = let s = (start c.before).requires.0 in record { fits = omega (arith, interned_few s _ (found c.before), few s, s.order.locals) }

pub returns-then-f-gt0 : goal.returns-then-f-gt0
returns-then-f-gt0 c = interns_found (start c.before).requires.0 _ _ _ (found c.before) c.if-f-gt0.true

pub insert-requires : goal.insert-requires
insert-requires c =
    let s = start c.before.before in
    let a = c.constants_at-start.ensures in
    let z = c.expressions_at-end.ensures in
    let e = c.bucket-b.ensures in
    let r = constants_room s.requires.0 s.requires.1 in
    rw (a, z)
    (record { linked = s.requires.0.order.constants; bucket = e.0; low = e.1; first = rw (a, z) at c.head-first.ensures; few = r.0; room = r.1; absent = rw (← found c.before.before) (omega (arith, c.if-f-gt0.false)) })

pub returns : goal.returns
returns c =
    let s = start c.before.before.before.before.before in
    let a = c.constants_at-start.ensures in
    let z = c.expressions_at-end.ensures in
    rw (a, z)
    (interns_new s.requires.0 _ _ s.requires.2 c.if-kind-bits.false (rw (← found c.before.before.before.before.before) c.if-f-gt0.false) s.requires.1 _ (rw (a, z) at c.insert.ensures))
