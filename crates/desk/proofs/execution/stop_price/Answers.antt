use Rattle.std.proofs.Common.{◌≡◌, Ok, ℕ, ◌<◌, List, length, get_or, ap, ◌∙◌, arith, rules}
use Rattle.instruction.specs.declared.Instruction.{Instruction}
use Rattle.instruction.specs.Instruction.{instruction_at}
use Rattle.unit.specs.Layout.{code_of}
use Rattle.answer.specs.Answer.{cells_of}
use Rattle.desk.specs.declared.Stop.TheVariants.{Returned, Panicked, Ended, Other, Limit}
use Rattle.desk.specs.Charge.{price_at}
use Rattle.desk.proofs.laws.Checking.{read_cell}
use Rattle.desk.specs.laws.Spent.{stop_price}
use Rattle.desk.proofs.laws.Unit.{place_inside}
use Rattle.desk.proofs.execution.stop_price.Goals as goal

-- the price that is found is that of the cell
found : (u code tariff : List ℕ) (p : ℕ) {price : ℕ} → code ≡ code_of u → p < length (cells_of u) → price ≡ get_or tariff (instruction_at code p).op 0
    → price ≡ price_at tariff (cells_of u) p
found u code tariff p c h e = e ∙ ap (λ (i : Instruction). get_or tariff i.op 0) (read_cell u p c h)

-- where a step stops the run there is an instruction
pub price_at-requires : goal.price_at-requires
unfolding stop_price
price_at-requires c =
    let z : c.in-Ok-Returned.field-0 ≡ Returned c.in-Ok-Returned.field-0-0 c.in-Ok-Returned.field-0-1 = search rules in
    let inside : c.args.p < length (cells_of c.args.unit.now) = c.requires.place (rw (c.in-Ok-Returned.is ∙ ap Ok z) (omega arith)) in
    record { code = place_inside c.args.unit.now c.requires.laid _ _ c.code-code.ensures inside; tariff = c.requires.tariff }

pub price_at-requires-in-Ok-Panicked : goal.price_at-requires-in-Ok-Panicked
unfolding stop_price
price_at-requires-in-Ok-Panicked c =
    let z : c.in-Ok-Panicked.field-0 ≡ Panicked c.in-Ok-Panicked.field-0-0 c.in-Ok-Panicked.field-0-1 = search rules in
    let inside : c.args.p < length (cells_of c.args.unit.now) = c.requires.place (rw (c.in-Ok-Panicked.is ∙ ap Ok z) (omega arith)) in
    record { code = place_inside c.args.unit.now c.requires.laid _ _ c.code-code.ensures inside; tariff = c.requires.tariff }

pub returns-in-Ok-Returned : goal.returns-in-Ok-Returned
unfolding stop_price
returns-in-Ok-Returned c =
    let z : c.in-Ok-Returned.field-0 ≡ Returned c.in-Ok-Returned.field-0-0 c.in-Ok-Returned.field-0-1 = search rules in
    let e = c.in-Ok-Returned.is ∙ ap Ok z in
    let inside : c.args.p < length (cells_of c.args.unit.now) = c.requires.place (rw e (omega arith)) in
    record { price = rw e (found c.args.unit.now _ c.args.tariff.now _ c.code-code.ensures inside c.price_at.ensures.price) }

pub returns-in-Ok-Panicked : goal.returns-in-Ok-Panicked
unfolding stop_price
returns-in-Ok-Panicked c =
    let z : c.in-Ok-Panicked.field-0 ≡ Panicked c.in-Ok-Panicked.field-0-0 c.in-Ok-Panicked.field-0-1 = search rules in
    let e = c.in-Ok-Panicked.is ∙ ap Ok z in
    let inside : c.args.p < length (cells_of c.args.unit.now) = c.requires.place (rw e (omega arith)) in
    record { price = rw e (found c.args.unit.now _ c.args.tariff.now _ c.code-code.ensures inside c.price_at-in-Ok-Panicked.ensures.price) }

pub returns-in-Ok-Ended : goal.returns-in-Ok-Ended
unfolding stop_price
returns-in-Ok-Ended c =
    let z : c.in-Ok-Ended.field-0 ≡ Ended = search rules in
    record { price = rw (c.in-Ok-Ended.is ∙ ap Ok z) }

pub returns-in-Ok-Other : goal.returns-in-Ok-Other
unfolding stop_price
returns-in-Ok-Other c =
    let z : c.in-Ok-Other.field-0 ≡ Other c.in-Ok-Other.field-0-0 = search rules in
    record { price = rw (c.in-Ok-Other.is ∙ ap Ok z) }

pub returns-in-Ok-Limit : goal.returns-in-Ok-Limit
unfolding stop_price
returns-in-Ok-Limit c =
    let z : c.in-Ok-Limit.field-0 ≡ Limit = search rules in
    record { price = rw (c.in-Ok-Limit.is ∙ ap Ok z) }

pub returns-in-Err : goal.returns-in-Err
unfolding stop_price
returns-in-Err c = record { price = rw c.in-Err.is }
