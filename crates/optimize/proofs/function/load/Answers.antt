use mathlib.Core.Path.{◌≡◌}
use mathlib.Core.List.{List, ◌++◌}
use Prim.Native.Nat.{ℕ, ◌-◌}
use native.Mathlib.Omega.{arith}
use lib.ListN.{length}
use borrow.Rule.Slice.PartMut.{mid_of, post_of}
use Rattle.flow.specs.laws.Listing.{ListedBy}
use Rattle.answer.specs.Answer.{sections_of}
use Rattle.optimize.specs.laws.Given.{words_in}
use Rattle.optimize.specs.laws.Chain.{load_front, load_long, operands_asks}
use Rattle.optimize.specs.laws.Steps.{list_made}
use Rattle.optimize.proofs.function.load.Goals as goal
use Rattle.optimize.proofs.function.load.Goals.{After-load}

-- the code is in the work
abbrev loaded : After-load → List ℕ
loaded l = let a = l.args in l.load.new.words ++ post_of 0 (a.n - 0) a.work64.now

front : (l : After-load) → let a = l.args in mid_of 0 a.n (loaded l) ≡ words_in a.n a.code.now
front l =
    let a = l.args in
    load_front a.n (a.n - 0) a.code.now a.work64.now l.load.new.words (omega arith) (omega (arith, l.requires.room)) l.load.ensures

long : (l : After-load) → length (loaded l) ≡ length l.args.work64.now
long l =
    let a = l.args in
    load_long a.n (a.n - 0) a.code.now a.work64.now l.load.new.words (omega arith) (omega (arith, l.requires.room)) l.load.ensures

pub check_operands-requires : goal.check_operands-requires
unfolding sections_of
check_operands-requires c =
    let a = c.args in
    rw (c.types.ensures, c.of_unit.ensures.cases, c.requires.given.typed)
    (operands_asks a.n a.code.now a.metadata.now (sections_of a.unit.now) c.requires.given a.at _ c.requires.list (rw (long (goal.at.check_operands-requires c).After-load) c.requires.room))

pub returns : goal.returns
unfolding sections_of ListedBy
returns c =
    let a = c.args in record {
      answer = rw (c.types.ensures, c.of_unit.ensures.functions, c.of_unit.ensures.externs, c.of_unit.ensures.cases, c.requires.given.typed, front (goal.at.returns c).After-load) at c.check_operands.ensures.0;
      loaded = λ count e.
          let listed = rw e at c.check_operands.ensures.1 in
          list_made a.n _ a.at count a.code.now (loaded (goal.at.returns c).After-load) _ c.requires.list c.requires.given.some (rw (long (goal.at.returns c).After-load) c.requires.room) c.check_operands.auto.memory (front (goal.at.returns c).After-load) listed.0 listed.1 c.check_operands.ensures.2;
    }
