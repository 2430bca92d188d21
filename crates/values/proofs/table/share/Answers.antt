use Rattle.values.proofs.Recording.{Bounded, end_inside, put_asks, near_found, shares_none, shares_found, shares_other}
use Rattle.std.proofs.Common.{length, refl, arith}
use Rattle.values.proofs.table.share.Goals as goal
use Rattle.values.proofs.table.share.Tie as tie
use Rattle.values.proofs.table.share.Lts
use Rattle.values.proofs.table.share.Reads

abbrev After-end_of-end : Type 0
After-end_of-end = Lts.After-end_of tie.the-claims Reads.Pre Reads.Post

abbrev Start : Type 0
Start = Lts.Start tie.the-claims Reads.Pre Reads.Post

abbrev start : After-end_of-end → Start
start c = c.before.before.before.before.before.before.before.before.before

bounded : (c : After-end_of-end) → Bounded (start c).args.n (length (start c).args.types.now) (start c).args.types.now (start c).args.t.now (start c).args.s (start c).args.d
    c.bounds_place-at.result c.first_of-first.result c.end_of-end.result
bounded c =
    record {
      ready = (start c).requires.0;
      typed = refl;
      slot = (start c).requires.1;
      used = (start c).requires.2;
      place = c.bounds_place-at.ensures;
      first_is = c.first_of-first.ensures;
      end_is = c.end_of-end.ensures;
    }

pub lowest-near-requires : goal.lowest-near-requires
lowest-near-requires c = ((bounded c.before).ready, end_inside (bounded c.before))

pub returns-then-end-near : goal.returns-then-end-near
returns-then-end-near c = shares_none (bounded c.before.before.before.before.before.before.before) c.lowest-near.ensures c.if-end-near.true c.put.ensures

pub lowest_typed-r-requires : goal.lowest_typed-r-requires
lowest_typed-r-requires c =
    let w = bounded c.before.before.before in
    let l = c.if-end-near.false in
    (w.ready, end_inside w, omega (arith, end_inside w), near_found w c.lowest-near.ensures l)

pub put-requires-2 : goal.put-requires-2
put-requires-2 c = let w = bounded c.before.before.before.before.before in put_asks w (end_inside w)

pub overflow_cast-result : goal.overflow_cast-result
overflow_cast-result c =
    let w = bounded c.before.before.before.before.before.before.before.before.before in
    record { fits = omega (arith, c.if-r-end.true, end_inside w, w.ready.order.locals) }

pub returns-then-r-end : goal.returns-then-r-end
returns-then-r-end c = shares_found (bounded c.before.before.before.before.before.before.before.before.before) c.lowest-near.ensures c.lowest_typed-r.ensures c.put-2.ensures c.if-r-end.true

pub returns : goal.returns
returns c = shares_other (bounded c.before.before.before.before.before.before.before.before.before) c.lowest-near.ensures c.lowest_typed-r.ensures c.put-2.ensures c.if-r-end.false
