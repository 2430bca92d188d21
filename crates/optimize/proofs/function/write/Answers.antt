use mathlib.Core.Path.{◌≡◌, ap}
use mathlib.Core.List.{List}
use Prim.Native.Nat.{ℕ, ◌+◌, ◌-◌}
use native.Mathlib.Omega.{arith}
use lib.ListN.{length, get_or}
use borrow.Rule.Slice.PartMut.{mid_of, put_mid}
use Rattle.unit.specs.laws.Region.{keep_at, list_at}
use Rattle.pc_map.specs.Boundary.{boundary}
use Rattle.pc_map.specs.laws.Listed.{kept_list}
use Rattle.optimize.specs.laws.Decided.{Finished, few_retained, list_asks, listed_keep, listed_finished, listed_there, write_asks, write_output}
use Rattle.optimize.proofs.function.write.Goals as goal
use Rattle.optimize.proofs.function.write.Tie as tie
use Rattle.optimize.proofs.function.write.Lts
use Rattle.optimize.proofs.function.write.Reads

abbrev After-list_kept : Type 0
After-list_kept = Lts.After-list_kept tie.the-claims Reads.Pre Reads.Post tie.handed_clauses

abbrev Start : Type 0
Start = Lts.Start tie.the-claims Reads.Pre Reads.Post tie.handed_clauses

pub list_kept-requires : goal.list_kept-requires
list_kept-requires c = rw (c.keep_at-keep.ensures, c.list_in.ensures) (list_asks c.requires.held.finished)

-- the kept places are listed
abbrev start : After-list_kept → Start
start l = l.before.before.before.before.before.before.before.before

there : (l : After-list_kept) → l.keep_at-keep.result ≡ keep_at (start l).args.n
there l = l.keep_at-keep.ensures

-- the work then
abbrev work : After-list_kept → List ℕ
work l = let a = (start l).args in put_mid (keep_at a.n) (length a.work32.now - keep_at a.n) a.work32.now l.list_kept.new.work

finished : (l : After-list_kept) → Finished (start l).args.n (start l).args.metadata.now (work l) (start l).args.work64.now
finished l =
    let there = l.keep_at-keep.ensures in
    let list = l.list_in.ensures in
    listed_finished (start l).requires.held.finished l.list_kept.new.work (rw there at l.list_kept.auto.work) (rw (there, list) at l.list_kept.ensures.0) (rw (there, list) at l.list_kept.ensures.1)

kept : (l : After-list_kept) → let n = (start l).args.n in mid_of (keep_at n) n (work l) ≡ mid_of (keep_at n) n (start l).args.work32.now
kept l =
    let there = l.keep_at-keep.ensures in
    let list = l.list_in.ensures in
    listed_keep (start l).requires.held.finished l.list_kept.new.work (rw there at l.list_kept.auto.work) (rw (there, list) at l.list_kept.ensures.0) (rw (there, list) at l.list_kept.ensures.1)

listed : (l : After-list_kept) → let n = (start l).args.n in mid_of (list_at n) (boundary (mid_of (keep_at n) n (work l)) n) (work l) ≡ kept_list (mid_of (keep_at n) n (work l))
listed l =
    let there = l.keep_at-keep.ensures in
    let list = l.list_in.ensures in
    rw (kept l) (listed_there (start l).requires.held.finished l.list_kept.new.work (rw there at l.list_kept.auto.work) (rw (there, list) at l.list_kept.ensures.0) (rw (there, list) at l.list_kept.ensures.1))

-- the number of retained instructions, as the code reads it
counted : (l : After-list_kept) → let a = (start l).args in
    get_or (put_mid l.keep_at-keep.result (length a.work32.now - l.keep_at-keep.result) a.work32.now l.list_kept.new.work) (l.keep_at-keep.result + a.n + a.n) 0 ≡ get_or (work l) (keep_at a.n + a.n + a.n) 0
counted l = let a = (start l).args in ap (λ (k : ℕ). get_or (put_mid k (length a.work32.now - k) a.work32.now l.list_kept.new.work) (k + a.n + a.n) 0) (there l)

pub overflow_cast-retained : goal.overflow_cast-retained
overflow_cast-retained c = omega (arith, counted c.before.before.before.before.before, few_retained (finished c.before.before.before.before.before))

pub overflow_add-list : goal.overflow_add-list
overflow_add-list c = omega (arith, counted c.before.before.before.before.before.before.before, few_retained (finished c.before.before.before.before.before.before.before), c.list_at-list.ensures)

pub slice_bounds-write_retained-end-3 : goal.slice_bounds-write_retained-end-3
slice_bounds-write_retained-end-3 c = omega (arith, counted c.before.before.before.before.before.before.before, few_retained (finished c.before.before.before.before.before.before.before), c.list_at-list.ensures)

pub write_retained-requires : goal.write_retained-requires
write_retained-requires c =
    let s = start c.before.before.before.before.before.before.before.before.before in
    let keep = keep_at (start c.before.before.before.before.before.before.before.before.before).args.n in
    let list = c.list_at-list.result in
    rw (there c.before.before.before.before.before.before.before.before.before) (write_asks (finished c.before.before.before.before.before.before.before.before.before) (listed c.before.before.before.before.before.before.before.before.before) ((start c.before.before.before.before.before.before.before.before.before).args.n - 0) (keep + (start c.before.before.before.before.before.before.before.before.before).args.n + (start c.before.before.before.before.before.before.before.before.before).args.n + 1 - (keep + (start c.before.before.before.before.before.before.before.before.before).args.n)) list (list + get_or (work c.before.before.before.before.before.before.before.before.before) (keep + (start c.before.before.before.before.before.before.before.before.before).args.n + (start c.before.before.before.before.before.before.before.before.before).args.n) 0 - list) (omega arith) (omega arith) c.list_at-list.ensures (omega arith)
    (length s.args.out.now) (rw (kept c.before.before.before.before.before.before.before.before.before) s.requires.held.relocated) s.requires.room)

pub returns : goal.returns
returns c =
    let s = start c.before.before.before.before.before.before.before.before.before.before.before.before in
    let keep = keep_at (start c.before.before.before.before.before.before.before.before.before.before.before.before).args.n in
    let list = c.list_at-list.result in
    record {
      written = λ made z. write_output (finished c.before.before.before.before.before.before.before.before.before.before.before.before) (listed c.before.before.before.before.before.before.before.before.before.before.before.before) ((start c.before.before.before.before.before.before.before.before.before.before.before.before).args.n - 0) (keep + (start c.before.before.before.before.before.before.before.before.before.before.before.before).args.n + (start c.before.before.before.before.before.before.before.before.before.before.before.before).args.n + 1 - (keep + (start c.before.before.before.before.before.before.before.before.before.before.before.before).args.n)) list (list + get_or (work c.before.before.before.before.before.before.before.before.before.before.before.before) (keep + (start c.before.before.before.before.before.before.before.before.before.before.before.before).args.n + (start c.before.before.before.before.before.before.before.before.before.before.before.before).args.n) 0 - list) (omega arith) (omega arith) c.list_at-list.ensures (omega arith)
          made s.args.out.now _ (rw (kept c.before.before.before.before.before.before.before.before.before.before.before.before) z) (rw (there c.before.before.before.before.before.before.before.before.before.before.before.before) at c.write_retained.ensures);
    }
