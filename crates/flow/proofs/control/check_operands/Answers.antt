use Rattle.unit.specs.Refusal.{test_number}
use Rattle.std.proofs.Common.{◌≡◌, ℕ, ◌+◌, ◌<◌, ◌≤◌, List, length, get_or, ap, ◌∙◌, arith}
use borrow.Rule.Slice.PartMut.{mid_of}
use Rattle.words.specs.laws.Regions.{mid_long}
use Rattle.effects.specs.Shape.{Tables}
use Rattle.effects.specs.Check.{operand_refusal, operand_check}
use Rattle.effects.specs.laws.Cells.{cell_of}
use Rattle.effects.specs.laws.Unrefused.{refused_none, refused_later, refused_with}
use Rattle.flow.specs.laws.Listing.{check_of, ListedBy}
use Rattle.flow.proofs.Controlling.{Controlling, controlling_word, controlling_turn, controlling_end}
use Rattle.flow.proofs.control.check_operands.Goals as goal

-- what a turn's call answers
tested : (locals : ℕ) (T : Tables) (metadata : List ℕ) {xs w : List ℕ} {n at count p r : ℕ} → Controlling xs n at w count p → n ≤ at → at + n ≤ length xs → p < n
    → r ≡ operand_refusal locals T (cell_of metadata p (get_or w p 0))
    → r ≡ operand_refusal locals T (cell_of metadata p (get_or (mid_of 0 n xs) p 0))
tested locals T metadata {p = p} l after room h e =
    e ∙ ap (λ (w : ℕ). operand_refusal locals T (cell_of metadata p w)) (controlling_word l after room h)

-- a place of the words
place : (xs : List ℕ) (at : ℕ) {n p : ℕ} → at + n ≤ length xs → p < n → p < length (mid_of 0 n xs)
place xs at {n = n} room h = rw (mid_long xs 0 n (omega arith)) h

pub returns-in-Some : goal.returns-in-Some
unfolding operand_check check_of ListedBy
returns-in-Some c =
    let l = c.loop-p.invariant in
    let h = c.loop-p-test.true in
    (refused_with l.0 (place _ _ c.requires.2 h) (tested _ _ _ l.1 c.requires.1 c.requires.2 h c.operand_refusal-refused.ensures) c.in-Some.reason (ap test_number c.in-Some.is) c.at.ensures.refusal, tt, l.1.same)

pub loop-p-preserved : goal.loop-p-preserved
loop-p-preserved c =
    let l = c.loop-p.invariant in
    let h = c.loop-p-test.true in (
      refused_later l.0 (place _ _ c.requires.2 h) (tested _ _ _ l.1 c.requires.1 c.requires.2 h c.operand_refusal-refused.ensures) (ap test_number c.in_default.is),
      controlling_turn l.1 c.requires.1 c.requires.2 h _ c.control.ensures,
    )

pub returns : goal.returns
unfolding operand_check check_of ListedBy
returns c =
    let l = c.loop-p.invariant in
    let end = controlling_end l.1 c.loop-p-test.false in (
      refused_none l.0 (rw (mid_long c.args.memory.now 0 c.args.n (omega (arith, c.requires.2))) c.loop-p-test.false),
      (end.0, end.1),
      end.2,
    )
