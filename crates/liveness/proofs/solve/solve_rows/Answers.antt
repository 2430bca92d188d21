use mathlib.Core.Path.{refl}
use mathlib.Core.Bool.{false≢true}
use Prim.Native.Nat.{◌*◌, ◌≤◌}
use native.Mathlib.Nat.{mul-le-mul}
use native.Mathlib.Omega.{arith}
use Rattle.effects.specs.Shape.{tables_in}
use Rattle.liveness.specs.laws.Droppable.{few_words, few_blocks}
use Rattle.liveness.specs.laws.Stores.{no_words, too_many}
use Rattle.liveness.specs.laws.Workable.{Workable, workable}
use Rattle.liveness.proofs.solve.solve_rows.Goals as goal
use Rattle.liveness.proofs.solve.solve_rows.Goals.{After-laid_out}

pub returns-then-w-eq0 : goal.returns-then-w-eq0
returns-then-w-eq0 c =
    record { found = λ e. absurd (false≢true e); none = λ e constants. no_words c.requires.known c.set_words-w.ensures constants c.if-w-eq0.true; code = refl }

pub overflow_mul-w : goal.overflow_mul-w
overflow_mul-w c =
    let words : c.set_words-w.result ≤ 1024 = few_words c.requires.known c.set_words-w.ensures in
    let blocks : c.args.count ≤ 65536 = omega (arith, few_blocks c.requires.known c.set_words-w.ensures, c.requires.known.most) in
    let size : c.set_words-w.result * c.args.count ≤ 1024 * 65536 = mul-le-mul words blocks in
    record { fits = omega arith }

pub returns-then-w-count-gt-MAX_SET_WORDS : goal.returns-then-w-count-gt-MAX_SET_WORDS
returns-then-w-count-gt-MAX_SET_WORDS c =
    record { found = λ e. absurd (false≢true e); none = λ e constants. too_many c.requires.known c.set_words-w.ensures constants c.if-w-count-gt-MAX_SET_WORDS.true; code = refl }

-- the sets as they are laid out
works : (c : After-laid_out) → Workable c.laid_out.result (tables_in c.args.tables) c.args.memory.now c.args.metadata.now c.args.types.now c.args.table.now
works c =
    workable c.requires.known c.set_words-w.ensures _ c.laid_out.ensures (omega arith) (omega arith) c.requires.room c.requires.flags

pub solve_blocks-requires : goal.solve_blocks-requires
solve_blocks-requires c = record { workable = (_, works (goal.at.solve_blocks-requires c).After-laid_out) }

pub returns : goal.returns
returns c =
    let words = c.set_words-w.ensures in
    let g = rw (c.laid_out.ensures, words) at (works (goal.at.returns c).After-laid_out) in
    let x = rw (c.laid_out.ensures, words) at c.solve_blocks.ensures in
    record { found = λ e constants. x.found e _ constants g; none = λ e constants. x.none e _ constants g; code = x.code }
