use mathlib.Core.Path.{◌≡◌}
use native.Mathlib.Omega.{arith}
use lib.ListN.{length}
use Rattle.words.specs.Bytes.{Bytes}
use Rattle.unit.specs.Layout.{header_of}
use Rattle.unit.proofs.laws.UnitLaws.{unit_laid}
use Rattle.optimize.specs.laws.Given.{answers_same}
use Rattle.optimize.specs.laws.Whole.{room_out, work_workable, work_outcome}
use Rattle.optimize.proofs.pass.work.Goals as goal
use Rattle.optimize.proofs.pass.work.Tie as tie
use Rattle.optimize.proofs.pass.work.Lts
use Rattle.optimize.proofs.pass.work.Reads

abbrev After-metadata : Type 0
After-metadata = Lts.After-metadata tie.the-claims Reads.Pre Reads.Post tie.handed_clauses

abbrev Start : Type 0
Start = Lts.Start tie.the-claims Reads.Pre Reads.Post tie.handed_clauses

pub word-n-requires : goal.word-n-requires
word-n-requires c = ((unit_laid c.args.unit.now c.requires.admitted.laid).header, omega arith)

-- the sections are found
abbrev start : After-metadata → Start
start m = m.before.before.before.before.before.before.before

unit-bytes : (m : After-metadata) → Bytes (start m).args.unit.now
unit-bytes m i = omega (arith, m.shared_slice_known-1.given i)

counted : (m : After-metadata) → m.word-n.result ≡ (header_of (start m).args.unit.now).counts.instructions
unfolding header_of
counted m = m.word-n.ensures.0

pub optimize-requires : goal.optimize-requires
optimize-requires c =
    let s = start c.before.before.before.before in
    let a = s.args in
    let out = room_out a.unit.now (length a.out.now) (length a.work32.now) (length a.work64.now) s.requires.admitted.lent in record { given = work_workable (unit-bytes c.before.before.before.before) s.requires.admitted _ _ _ (counted c.before.before.before.before) c.code.ensures c.metadata.ensures (length a.out.now) (length a.work32.now) (length a.work64.now) s.requires.admitted.lent; room = omega (arith, counted c.before.before.before.before) }

pub returns : goal.returns
returns c =
    let s = start c.before.before.before.before.before.before.before.before.before.before.before in record { answers = answers_same _ _ _ _ _ (work_outcome (unit-bytes c.before.before.before.before.before.before.before.before.before.before.before) s.requires.admitted _ _ _ (counted c.before.before.before.before.before.before.before.before.before.before.before) c.code.ensures c.metadata.ensures) c.optimize.ensures.answers }
