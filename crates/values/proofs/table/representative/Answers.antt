use Rattle.values.proofs.Recording.{Walks, walk_fits, walk_ready, walk_number, walk_near, represents}
use Rattle.std.proofs.Common.{length, refl, arith}
use Rattle.values.proofs.table.representative.Goals as goal
use Rattle.values.proofs.table.representative.Tie as tie
use Rattle.values.proofs.table.representative.Lts
use Rattle.values.proofs.table.representative.Reads

abbrev After-lowest-near : Type 0
After-lowest-near = Lts.After-lowest tie.the-claims Reads.Pre Reads.Post

abbrev Start : Type 0
Start = Lts.Start tie.the-claims Reads.Pre Reads.Post

abbrev start : After-lowest-near → Start
start c = c.before.before.before.before.before.before.before.before.before

-- the walk to `near`
walks : (c : After-lowest-near) → Walks (start c).args.n (length (start c).args.types.now) (start c).args.types.now (start c).args.t.now (start c).args.s (start c).args.d
    c.bounds_place-at.result c.min-from.result c.lowest-near.result
walks c =
    let first = c.first_of.ensures in
    record {
      ready = (start c).requires.0;
      typed = refl;
      slot = (start c).requires.1;
      number = (start c).requires.2;
      place = c.bounds_place-at.ensures;
      from_s = omega arith;
      from_first = rw (← first) (omega arith);
      from_most = λ k l h. omega (arith, first);
      group = c.lowest-near.ensures;
    }

pub overflow_add-t : goal.overflow_add-t
overflow_add-t c = record { fits = walk_fits (walks c.before) (omega (arith, c.slice_known-2-1.given c.bounds_place-at.result)) }

pub lowest_typed-requires : goal.lowest_typed-requires
lowest_typed-requires c =
    let w = walks c.before in
    (walk_ready w, omega (arith, w.slot), omega (arith, w.slot, walk_near w), walk_number w)

pub returns : goal.returns
returns c = represents (walks c.before.before) c.lowest_typed.ensures
