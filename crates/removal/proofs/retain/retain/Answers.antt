use mathlib.Core.Path.{◌≡◌, ◌∙◌}
use mathlib.Core.List.{List}
use Prim.Native.Nat.{ℕ, ◌+◌, ◌-◌, ◌≤◌}
use native.Mathlib.Omega.{arith}
use lib.ListN.{length}
use borrow.Rule.Slice.PartMut.{mid_of, put_mid}
use Rattle.words.specs.laws.Regions.{mid_long, put_long}
use Rattle.unit.specs.laws.Region.{keep_at}
use Rattle.answer.specs.Answer.{sections_of}
use Rattle.removal.specs.laws.KeptWork.{Useful, Stored}
use Rattle.removal.specs.laws.RetainedWork.{hints_asks, hints_retainable, stores_long, behind_same, jumps_asks, jumps_retained}
use Rattle.removal.proofs.retain.retain.Goals as goal
use Rattle.removal.proofs.retain.retain.Tie as tie
use Rattle.removal.proofs.retain.retain.Lts
use Rattle.removal.proofs.retain.retain.Reads

abbrev After-drop_hints : Type 0
After-drop_hints = Lts.After-drop_hints tie.the-claims Reads.Pre Reads.Post tie.handed_clauses

abbrev After-drop_stores : Type 0
After-drop_stores = Lts.After-drop_stores tie.the-claims Reads.Pre Reads.Post tie.handed_clauses

abbrev After-keep_at-keep : Type 0
After-keep_at-keep = Lts.After-keep_at tie.the-claims Reads.Pre Reads.Post tie.handed_clauses

abbrev Start : Type 0
Start = Lts.Start tie.the-claims Reads.Pre Reads.Post tie.handed_clauses

pub drop_hints-requires : goal.drop_hints-requires
drop_hints-requires c =
    let a = c.args in
    rw c.keep_at-keep.ensures
    (hints_asks a.n (a.n - 0) a.at a.count (a.at + a.count - a.at) a.metadata.now a.work32.now a.work64.now (omega arith) (omega arith) c.requires.given c.requires.within c.requires.listed)

-- plain hints are dropped
abbrev placed : After-drop_hints → After-keep_at-keep
placed h = h.before.before.before.before

abbrev begin : After-drop_hints → Start
begin h = (placed h).before.before.before.before.before

module _ (h : After-drop_hints) where
  there : (placed h).keep_at-keep.result ≡ keep_at (begin h).args.n
  there = (placed h).keep_at-keep.ensures

  hinted_long : length h.drop_hints.new.work ≡ length (mid_of (keep_at (begin h).args.n) (length (begin h).args.work32.now - keep_at (begin h).args.n) (begin h).args.work32.now)
  hinted_long = rw there at h.drop_hints.auto.work

  hinted : Useful (mid_of 0 ((begin h).args.n - 0) (begin h).args.work64.now) (begin h).args.metadata.now (mid_of (keep_at (begin h).args.n) (length (begin h).args.work32.now - keep_at (begin h).args.n) (begin h).args.work32.now) h.drop_hints.new.work
  hinted = rw there at h.drop_hints.ensures

pub drop_stores-requires : goal.drop_stores-requires
drop_stores-requires c =
    let s = begin c.before.before.before.before.before in
    let a = s.args in record {
      laid = s.requires.laid;
      given = rw (there c.before.before.before.before.before)
          (hints_retainable (sections_of a.unit.now) a.n (a.n - 0) a.metadata.now a.work32.now a.work64.now c.drop_hints.new.work a.at (a.at - 0) (omega arith) (omega arith) (omega (arith, s.requires.within)) s.requires.given (hinted_long c.before.before.before.before.before) (hinted c.before.before.before.before.before));
    }

-- what came before the last step
abbrev hints : After-drop_stores → After-drop_hints
hints d = d.before.before.before.before.before

abbrev start : After-drop_stores → Start
start d = begin (hints d)

-- the work with the hints dropped
abbrev useful : After-drop_stores → List ℕ
useful d =
    let a = (start d).args in
    put_mid (keep_at a.n) (length a.work32.now - keep_at a.n) a.work32.now (hints d).drop_hints.new.work

module _ (d : After-drop_stores) where
  stored-long : length d.drop_stores.new.work32 ≡ length (useful d)
  stored-long = rw (there (hints d)) at d.drop_stores.auto.work32

  stored : Stored (sections_of (start d).args.unit.now) (start d).args.n (start d).args.metadata.now (useful d) (mid_of 0 ((start d).args.at - 0) (start d).args.work64.now) d.drop_stores.new.work32 d.drop_stores.new.work64
  stored = rw (there (hints d)) at d.drop_stores.ensures.stored

long : (d : After-drop_stores) → length d.drop_stores.new.work32 ≡ length (start d).args.work32.now
long d =
    let h = hints d in
    let s = start d in
    let a = s.args in
    stores_long (sections_of a.unit.now) a.n (a.n - 0) a.metadata.now a.work32.now a.work64.now h.drop_hints.new.work a.at (a.at - 0) (omega arith) (omega arith) (omega (arith, s.requires.within)) s.requires.given (hinted_long h) (hinted h) d.drop_stores.new.work32 d.drop_stores.new.work64 (stored-long d) d.drop_stores.auto.work64 (stored d)

pub overflow_add-at-2 : goal.overflow_add-at-2
overflow_add-at-2 c = let s = start c.before.before.before.before.before.before in omega (arith, s.requires.within)

pub offset_bounds-work64-at-2 : goal.offset_bounds-work64-at-2
offset_bounds-work64-at-2 c = let s = start c.before.before.before.before.before.before in omega (arith, s.requires.within)

pub offset_bounds-work32-keep-2 : goal.offset_bounds-work32-keep-2
offset_bounds-work32-keep-2 c = omega (arith, there (hints c.before.before.before.before.before.before.before), (start c.before.before.before.before.before.before.before).requires.given.few)

pub slice_bounds-drop_jumps-count-3 : goal.slice_bounds-drop_jumps-count-3
slice_bounds-drop_jumps-count-3 c = omega (arith, long c.before.before.before.before.before.before.before, there (hints c.before.before.before.before.before.before.before), (start c.before.before.before.before.before.before.before).requires.given.long32)

pub slice_bounds-drop_jumps-start-3 : goal.slice_bounds-drop_jumps-start-3
slice_bounds-drop_jumps-start-3 c = omega (arith, long c.before.before.before.before.before.before.before, there (hints c.before.before.before.before.before.before.before), (start c.before.before.before.before.before.before.before).requires.given.long32)

pub drop_jumps-requires : goal.drop_jumps-requires
drop_jumps-requires c =
    let h = hints c.before.before.before.before.before.before.before.before in
    let s = start c.before.before.before.before.before.before.before.before in
    let a = s.args in
    rw (there h)
    (jumps_asks (sections_of a.unit.now) a.n (a.n - 0) a.metadata.now a.work32.now a.work64.now h.drop_hints.new.work a.at (a.at - 0) (omega arith) (omega arith) (omega (arith, s.requires.within)) s.requires.given (hinted_long h) (hinted h) c.drop_stores.new.work32 c.drop_stores.new.work64 (stored-long c.before.before.before.before.before.before.before.before) c.drop_stores.auto.work64 (stored c.before.before.before.before.before.before.before.before) a.count (a.at + a.count - a.at) (omega arith) s.requires.listed)

pub shape_of-work32 : goal.shape_of-work32
shape_of-work32 c =
    let room : keep_at (start c.before.before.before.before.before.before.before.before.before.before.before).args.n + (length c.drop_stores.new.work32 - keep_at (start c.before.before.before.before.before.before.before.before.before.before.before).args.n) ≤ length c.drop_stores.new.work32 = omega (arith, long c.before.before.before.before.before.before.before.before.before.before.before, (start c.before.before.before.before.before.before.before.before.before.before.before).requires.given.long32) in
    rw (there (hints c.before.before.before.before.before.before.before.before.before.before.before))
    (put_long c.drop_stores.new.work32 (keep_at (start c.before.before.before.before.before.before.before.before.before.before.before).args.n) _ c.drop_jumps.new.work ((rw (there (hints c.before.before.before.before.before.before.before.before.before.before.before)) at c.drop_jumps.auto.work) ∙ mid_long c.drop_stores.new.work32 (keep_at (start c.before.before.before.before.before.before.before.before.before.before.before).args.n) _ room) room ∙ long c.before.before.before.before.before.before.before.before.before.before.before)

pub returns : goal.returns
returns c =
    let h = hints c.before.before.before.before.before.before.before.before.before.before.before in
    let s = start c.before.before.before.before.before.before.before.before.before.before.before in
    let a = s.args in
    rw (there h) (record { retained = jumps_retained (sections_of a.unit.now) a.n (a.n - 0) a.metadata.now a.work32.now a.work64.now h.drop_hints.new.work a.at (a.at - 0) (omega arith) (omega arith) (omega (arith, s.requires.within)) s.requires.given (hinted_long h) (hinted h) c.drop_stores.new.work32 c.drop_stores.new.work64 (stored-long c.before.before.before.before.before.before.before.before.before.before.before) c.drop_stores.auto.work64 (stored c.before.before.before.before.before.before.before.before.before.before.before) c.drop_jumps.new.work (rw (there h) at c.drop_jumps.auto.work) (rw (there h) at c.drop_jumps.ensures); behind = behind_same (sections_of a.unit.now) a.n (a.n - 0) a.metadata.now a.work32.now a.work64.now h.drop_hints.new.work a.at (a.at - 0) (omega arith) (omega arith) (omega (arith, s.requires.within)) s.requires.given (hinted_long h) (hinted h) c.drop_stores.new.work32 c.drop_stores.new.work64 (stored-long c.before.before.before.before.before.before.before.before.before.before.before) c.drop_stores.auto.work64 (stored c.before.before.before.before.before.before.before.before.before.before.before) })
