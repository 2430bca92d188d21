-- Document 02, L2: "In one pass only functions with a folded value outside 32 bits and such a slot may get another answer".
-- Assumes nothing.
use Rattle.std.specs.Prelude.{◌≡◌, refl, List}
use Rattle.std.proofs.Common.{ap}
use Rattle.effects.specs.Shape.{Sections, Cell}
use Rattle.effects.specs.Check.{operand_check}
use Rattle.flow.specs.Branch.{branch_check}
use Rattle.flow.specs.Block.{leaders}
use Rattle.values.specs.Values.{empty}
use Rattle.values.specs.Number.{Rule, stays, held_or_stays, number_code_with}
use Rattle.values.specs.laws.Wide.{NoneMeets, apart_same}
use Rattle.answer.specs.Pass.{Outcome, checked, after_branches, after_operands, optimized}

-- the answer of a pass whose walk has another rule for a wide value
unfoldable pub optimized_with : (S : Sections) → Rule → List Cell → Outcome
optimized_with S wide cells =
    let leads = leaders cells in
    let rest = checked (branch_check cells) (after_branches S cells leads (number_code_with S wide leads cells)) in
    checked (operand_check S.locals S.tables cells) rest

-- with L2's rule it is the answer
pub with_its_rule : (S : Sections) (cells : List Cell) → optimized_with S (held_or_stays S) cells ≡ optimized S cells
unfolding optimized_with optimized after_operands
with_its_rule S cells = refl

-- where no folded value outside 32 bits meets such a slot, the answer is that of the rule before L2
pub apart_answer : (S : Sections) (cells : List Cell) → NoneMeets S (leaders cells) 0 empty cells → optimized S cells ≡ optimized_with S stays cells
unfolding optimized_with optimized after_operands
apart_answer S cells none = rw (apart_same S (leaders cells) cells none)
