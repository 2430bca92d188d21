use mathlib.Core.Path.{◌≡◌, refl}
use mathlib.Core.List.{List}
use Prim.Native.Nat.{ℕ, ◌+◌, ◌-◌}
use native.Mathlib.Omega.{arith}
use lib.ListN.{length}
use borrow.Rule.Slice.PartMut.{mid_of}
use Rattle.words.specs.laws.Regions.{mid_long}
use Rattle.unit.specs.laws.Region.{keep_at}
use Rattle.unit.specs.Layout.{constants_of}
use Rattle.answer.specs.Answer.{sections_of}
use Rattle.removal.specs.laws.Retained.{blocks_asks, stores_asks, stores_leave}
use Rattle.removal.proofs.retain.drop_stores.Goals as goal
use Rattle.removal.proofs.retain.drop_stores.Goals.{After-keep_at-at}

-- where the kept places stand is known: the code's words, and the lengths of the two front parts of the 32-bit work
abbrev words : After-keep_at-at → List ℕ
words k = mid_of 0 k.args.n k.args.work64.now

code_long : (k : After-keep_at-at) → length (words k) ≡ k.args.n
code_long k = mid_long k.args.work64.now 0 k.args.n (omega (arith, k.requires.given.long64))

front : (k : After-keep_at-at) → k.keep_at-at.result - 0 ≡ keep_at k.args.n
front k = omega (arith, k.keep_at-at.ensures)

kept : (k : After-keep_at-at) → k.keep_at-at.result + k.args.n - 0 ≡ keep_at k.args.n + k.args.n
kept k = omega (arith, k.keep_at-at.ensures)

pub number_blocks-count-requires : goal.number_blocks-count-requires
number_blocks-count-requires c =
    let a = c.args in
    let k = (goal.at.number_blocks-count-requires c).After-keep_at-at in
    blocks_asks (sections_of a.unit.now) a.n (words k) a.metadata.now a.work32.now (length a.work64.now) c.requires.given (code_long k) _ (front k)

pub drop_dead_stores-requires : goal.drop_dead_stores-requires
unfolding sections_of
drop_dead_stores-requires c =
    let a = c.args in
    let k = (goal.at.drop_dead_stores-requires c).After-keep_at-at in
    let b = c.number_blocks-count in
    rw (c.types.ensures, c.of_unit.ensures.functions, c.of_unit.ensures.externs, c.of_unit.ensures.cases)
    (stores_asks (sections_of a.unit.now) a.n _ _ (words k) a.metadata.now a.work32.now (length a.work64.now) (front k) (kept k) c.requires.given (code_long k) _ b.new.work b.auto.work b.ensures.0 b.ensures.1)

pub returns : goal.returns
unfolding sections_of
returns c =
    let a = c.args in
    let k = (goal.at.returns c).After-keep_at-at in
    let b = c.number_blocks-count in
    let dropped = rw (c.types.ensures, c.of_unit.ensures.functions, c.of_unit.ensures.externs, c.of_unit.ensures.cases, c.requires.given.typed) at (c.drop_dead_stores.ensures.0 (constants_of a.unit.now)) in record {
      stored = stores_leave (sections_of a.unit.now) a.n _ _ (words k) a.metadata.now a.work32.now (length a.work64.now) (front k) (kept k) c.requires.given (code_long k) _ b.new.work b.auto.work b.ensures.0 b.ensures.1 a.work64.now _ _ refl dropped c.drop_dead_stores.ensures.1;
    }
