use mathlib.Core.Path.{◌≡◌, ◌∙◌}
use Prim.Native.Nat.{◌+◌, ◌-◌}
use native.Mathlib.Omega.{arith}
use lib.ListN.{length}
use Rattle.words.specs.laws.Regions.{mid_long, drop_behind}
use Rattle.answer.specs.Answer.{sections_of}
use Rattle.optimize.specs.laws.Steps.{leaders_asks, number_asks, number_renumbered}
use Rattle.optimize.proofs.function.number.Goals as goal
use Rattle.optimize.proofs.function.number.Tie as tie
use Rattle.optimize.proofs.function.number.Lts
use Rattle.optimize.proofs.function.number.Reads

abbrev After-mark_leaders : Type 0
After-mark_leaders = Lts.After-mark_leaders tie.the-claims Reads.Pre Reads.Post tie.handed_clauses

abbrev Start : Type 0
Start = Lts.Start tie.the-claims Reads.Pre Reads.Post tie.handed_clauses

pub mark_leaders-requires : goal.mark_leaders-requires
mark_leaders-requires c =
    let a = c.args in
    leaders_asks a.work32.now c.requires.numberable c.requires.listed (a.n - 0) (a.n - 0) (a.at + a.count - a.at) (omega arith) (omega arith) (omega arith)

abbrev start : After-mark_leaders → Start
start m = m.before.before.before.before.before.before.before

size : (m : After-mark_leaders) → length m.mark_leaders.new.marks ≡ (start m).args.n - 0
size m = let s = start m in m.mark_leaders.auto.marks ∙ mid_long s.args.work32.now 0 (s.args.n - 0) (omega (arith, s.requires.numberable.long32))

pub number_code-requires : goal.number_code-requires
unfolding sections_of
number_code-requires c =
    let s = start c.before.before.before.before.before.before.before in
    let a = s.args in
    rw c.types.ensures
    (number_asks a.n (a.n - 0) (sections_of a.unit.now).locals a.at a.count (a.at - 0) a.work32.now a.work64.now c.mark_leaders.new.marks (omega arith) (omega arith) (size c.before.before.before.before.before.before.before) s.requires.numberable s.requires.listed _ s.requires.typed)

pub returns : goal.returns
unfolding sections_of
returns c =
    let s = start c.before.before.before.before.before.before.before.before.before.before in
    let a = s.args in
    let whole : a.at - 0 ≡ a.at = omega arith in record {
      numbered = λ metadata.
          number_renumbered a.n (a.n - 0) (sections_of a.unit.now).locals a.at a.count (a.at - 0) a.work32.now a.work64.now c.mark_leaders.new.marks (omega arith) (omega arith) (size c.before.before.before.before.before.before.before.before.before.before) s.requires.numberable s.requires.listed _ metadata
          c.number_code.new.memory c.number_code.auto.memory (c.mark_leaders.ensures metadata) (rw (c.types.ensures, c.constants.ensures) at (c.number_code.ensures metadata (sections_of a.unit.now).locals (sections_of a.unit.now).tables));
      behind = drop_behind a.work64.now c.number_code.new.memory a.at (a.at - 0) (omega arith) (c.number_code.auto.memory ∙ mid_long a.work64.now 0 (a.at - 0) (omega (arith, s.requires.listed.within)) ∙ whole);
    }
