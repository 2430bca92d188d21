use Rattle.std.proofs.Common.{◌≡◌, ℕ, ◌≤◌, List, length, sym, refl, ap, ◌∙◌, arith}
use Rattle.instruction.specs.Instruction.{instruction_at}
use Rattle.desk.specs.Charge.{highest_price}
use Rattle.desk.specs.laws.Priced.{Advance, Placed, stands}
use Rattle.desk.proofs.laws.Unit.{Turn, turn_inside, priced_turn_over, turn_executable, priced_turn_goes, priced_turn_stays}
use Rattle.desk.proofs.execution.advance_priced.Goals as goal
use Rattle.desk.proofs.execution.advance_priced.Goals.{In-loop-left, After-price_at-price}

-- ---- what holds there

-- a price has 16 bits
price-few : (c : After-price_at-price) → c.price_at-price.result ≤ highest_price
price-few c =
    let o = (instruction_at c.code-code.result.now c.loop-left.p).op in
    rw c.price_at-price.ensures.price (omega (arith, c.type_inv.tariff o))

-- what a turn has
turn : (c : In-loop-left) → Turn c.args.unit.now c.code-code.result.now c.constants-constants.result.now c.loop-left.left c.loop-left.p c.loop-left.frame
turn c =
    let in-turn = turn_inside c.args.unit.now c.requires.laid c.code-code.result.now c.code-code.ensures c.loop-left.left c.loop-left.p c.loop-left-test.true in
    record {
      bytes = λ i. omega (arith, c.type_inv.unit i);
      laid = c.requires.laid;
      runnable = c.requires.runnable;
      code_found = c.code-code.ensures;
      constants_found = c.constants-constants.ensures;
      some = in-turn.0;
      inside = in-turn.1;
      frame = c.loop-left.invariant.long ∙ c.requires.frame;
    }

-- where it stands, it stays
placed : {a : Advance} {p k v : ℕ} {f : List ℕ} → a ≡ stands p k v f → Placed a p k v f
placed e =
    record {
      place = sym (ap (λ (a : Advance). a.place) e);
      left = sym (ap (λ (a : Advance). a.left) e);
      spent = sym (ap (λ (a : Advance). a.spent) e);
      frame = sym (ap (λ (a : Advance). a.frame) e);
    }

-- ---- the goals

pub code-code-requires : goal.code-code-requires
code-code-requires c = c.requires.laid

pub constants-constants-requires : goal.constants-constants-requires
constants-constants-requires c = c.requires.laid

pub loop-left-init : goal.loop-left-init
loop-left-init c = record { same = refl; long = refl; few = omega arith }

pub execute-q-requires : goal.execute-q-requires
execute-q-requires c = let all = turn_executable (turn (goal.at.execute-q-requires c).In-loop-left) in record { code = all.0; executable = all.1 }

pub shape_of-frame-then-q-ge-NOWHERE : goal.shape_of-frame-then-q-ge-NOWHERE
shape_of-frame-then-q-ge-NOWHERE c =
    let d = c.execute-q.ensures in
    let stays = priced_turn_stays (turn (goal.at.shape_of-frame-then-q-ge-NOWHERE c).In-loop-left) (d.place, d.frame) c.args.tariff.now c.loop-left.spent c.if-q-ge-NOWHERE.true in
    ap length stays.1 ∙ c.loop-left.invariant.long

pub returns-then-q-ge-NOWHERE : goal.returns-then-q-ge-NOWHERE
returns-then-q-ge-NOWHERE c =
    let d = c.execute-q.ensures in
    let stays = priced_turn_stays (turn (goal.at.returns-then-q-ge-NOWHERE c).In-loop-left) (d.place, d.frame) c.args.tariff.now c.loop-left.spent c.if-q-ge-NOWHERE.true in
    record { reached = rw stays.1 (placed (c.loop-left.invariant.same ∙ stays.0)) }

pub price_at-price-requires : goal.price_at-price-requires
price_at-price-requires c = record { code = (turn_executable (turn (goal.at.price_at-price-requires c).In-loop-left)).0; tariff = c.requires.tariff }

pub overflow_add-spent : goal.overflow_add-spent
overflow_add-spent c = omega (arith, c.loop-left.invariant.few, price-few (goal.at.overflow_add-spent c).After-price_at-price)

pub overflow_sub-left : goal.overflow_sub-left
overflow_sub-left c = (turn (goal.at.overflow_sub-left c).In-loop-left).some

pub loop-left-smaller : goal.loop-left-smaller
loop-left-smaller c = let some = (turn (goal.at.loop-left-smaller c).In-loop-left).some in omega arith

pub loop-left-preserved : goal.loop-left-preserved
loop-left-preserved c =
    let t = turn (goal.at.loop-left-preserved c).In-loop-left in
    let d = c.execute-q.ensures in
    let goes = priced_turn_goes t (d.place, d.frame) c.args.tariff.now c.loop-left.spent c.price_at-price.ensures.price c.if-q-ge-NOWHERE.false in
    let some = t.some in
    record {
      same = c.loop-left.invariant.same ∙ goes.0;
      long = goes.1 ∙ sym c.requires.frame;
      few = omega (arith, c.loop-left.invariant.few, price-few (goal.at.loop-left-preserved c).After-price_at-price);
    }

pub shape_of-frame : goal.shape_of-frame
shape_of-frame c = c.loop-left.invariant.long

pub returns : goal.returns
returns c =
    let h = c.loop-left in
    record {
      reached =
          placed
          (h.invariant.same
          ∙ priced_turn_over c.args.unit.now c.requires.laid c.code-code.result.now c.code-code.ensures h.left h.p c.args.tariff.now h.spent h.frame c.loop-left-test.false);
    }
