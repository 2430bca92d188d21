use mathlib.Core.Path.{◌≡◌, refl, ◌∙◌}
use mathlib.Core.Logic.{⊎_elim}
use Prim.Native.Nat.{◌+◌, ◌*◌, ◌<◌}
use native.Mathlib.Omega.{arith}
use Rattle.effects.specs.Shape.{Tables, tables_in}
use Rattle.liveness.specs.laws.SetMemory.{past_sums, in_sums, sums_turn, same_word, same_code_lem}
use Rattle.words.specs.laws.Only.{only_none, only_both, same_mid}
use Rattle.liveness.specs.laws.Shown.{row_before}
use Rattle.liveness.specs.laws.Visit.{summed_begin}
use Rattle.liveness.proofs.block.summarize.Goals as goal

pub loop-b-init : goal.loop-b-init
loop-b-init c = (refl, only_none _ _, summed_begin _ _ _ _ _ _ _)

pub overflow_mul-at : goal.overflow_mul-at
overflow_mul-at c =
    omega (arith, row_before c.args.sets.width c.loop-b.b c.args.sets.count (omega arith), c.requires.0.end)

pub overflow_cast-start : goal.overflow_cast-start
overflow_cast-start c = omega (arith, c.shared_slice_known-in-loop-b-1.given c.loop-b.b)

pub overflow_cast-end : goal.overflow_cast-end
overflow_cast-end c = omega (arith, c.shared_slice_known-in-loop-b-2-1.given (c.loop-b.b + 1))

pub summarize_block-requires : goal.summarize_block-requires
summarize_block-requires c =
    let l = c.loop-b in
    let d = c.requires.0 in
    let below : l.b < c.args.sets.count = omega arith in
    let rise = c.requires.2 l.b below in
    let room = row_before c.args.sets.width l.b c.args.sets.count below in record {
      fits = record {
        code = omega (arith, rise.1, d.row, d.uses);
        apart = omega (arith, room, d.preserved);
        room = rw l.invariant.0 (omega (arith, room, d.live, d.end));
        entries = omega (arith, rise.1);
        flags = rw c.requires.4 rise.1;
        fits = λ p h. let q : p < c.args.sets.code = omega (arith, rise.1) in rw (same_word c.args.sets _ _ _ l.invariant.1 (past_sums c.args.sets _ d) p q) (c.requires.5 p q);
        some = c.requires.6;
      };
      places = omega (arith, rise.0);
    }

pub loop-b-preserved : goal.loop-b-preserved
loop-b-preserved c =
    let l = c.loop-b in
    let y = c.summarize_block in
    let t = c.args.sets in
    let d = c.requires.0 in
    let T : Tables = tables_in c.args.tables in
    let below = c.loop-b-test.true in
    let rise = c.requires.2 l.b below in
    let laid = rw (← l.invariant.0) at d in
    let only = in_sums t l.memory y.new.memory l.b laid below y.ensures.rest in
    let code = same_code_lem t _ _ _ l.invariant.1 (past_sums t _ d) d in
    let sum = rw code at (y.ensures.sets t.code rise.1 (omega (arith, d.row, d.uses))) in
    (y.auto.memory ∙ l.invariant.0, only_both _ _ _ _ l.invariant.1 only, sums_turn t l.memory y.new.memory l.b laid below y.ensures.rest T c.args.keep.now _ c.args.starts.now l.invariant.2 sum)

pub shape_of-memory : goal.shape_of-memory
shape_of-memory c = c.loop-b.invariant.0

pub returns : goal.returns
returns c =
    let l = c.loop-b in
    let t = c.args.sets in
    let d = c.requires.0 in
    let end : l.b ≡ t.count = omega arith in (
      rw end at l.invariant.2,
      same_code_lem t _ _ _ l.invariant.1 (past_sums t _ d) d,
      same_mid _ _ _ l.invariant.1 t.live (t.width * t.count) d.end (λ j i. ⊎_elim (λ k. omega (arith, i.0, k.1, d.preserved, d.live)) (λ k. omega (arith, i.0, k.1, d.live))),
    )
