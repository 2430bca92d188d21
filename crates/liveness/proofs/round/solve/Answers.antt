use mathlib.Core.Path.{◌≡◌, refl, ◌∙◌}
use Prim.Native.Nat.{◌+◌, ◌-◌}
use native.Mathlib.Omega.{arith}
use Rattle.effects.specs.laws.Cells.{cells_by}
use Rattle.liveness.specs.laws.SetMemory.{code_words, uses_of, preserved_of, live_of, still_ready, rows_code, rows_uses, rows_preserved}
use Rattle.words.specs.laws.Only.{only_none, only_both}
use Rattle.liveness.specs.laws.Solving.{solving_begin, solving_turn, solving_found, solving_none}
use Rattle.liveness.proofs.round.solve.Goals as goal

pub loop-init : goal.loop-init
loop-init c =
    let all : c.args.limit - 0 ≡ c.args.limit = omega arith in
    (refl, only_none _ _, λ S leaders keep metadata rows a. rw all (solving_begin S leaders keep _ _ _ _ rows _ _ _ _ _ a))

pub round-requires : goal.round-requires
round-requires c =
    let l = c.loop in
    still_ready c.args.sets c.args.memory.now l.memory c.requires.coded.laid l.invariant.1 c.args.blocks.now c.args.starts.now c.requires

pub shape_of-memory-then-not-round : goal.shape_of-memory-then-not-round
shape_of-memory-then-not-round c = c.round.auto.memory ∙ c.loop.invariant.0

pub returns-then-not-round : goal.returns-then-not-round
returns-then-not-round c =
    let l = c.loop in
    let x = c.round in
    let t = c.args.sets in
    let m = c.args.memory.now in
    let d = c.requires.coded.laid in
    let o = l.invariant.1 in
    let done = rw (rows_code t m l.memory d o, rows_uses t m l.memory d o, rows_preserved t m l.memory d o) at x.ensures.0 in
    let all = only_both _ _ _ _ o x.ensures.1 in (
      λ S leaders keep metadata rows a.
          let v = l.invariant.2 S leaders keep metadata rows a in
          solving_found S leaders keep (cells_by (code_words t m) metadata) t.width t.count c.args.limit rows c.args.blocks.now c.args.starts.now (uses_of t m) (preserved_of t m) (live_of t l.memory) _ (c.args.limit - l.counter) (omega arith) v _ (done S leaders keep metadata v.current v.around) c.if-not-round.true,
      rows_code t m x.new.memory d all,
      rows_uses t m x.new.memory d all,
      rows_preserved t m x.new.memory d all,
    )

pub loop-preserved : goal.loop-preserved
loop-preserved c =
    let l = c.loop in
    let x = c.round in
    let t = c.args.sets in
    let m = c.args.memory.now in
    let d = c.requires.coded.laid in
    let o = l.invariant.1 in
    let done = rw (rows_code t m l.memory d o, rows_uses t m l.memory d o, rows_preserved t m l.memory d o) at x.ensures.0 in
    let less : c.args.limit - (l.counter + 1) ≡ c.args.limit - l.counter - 1 = omega arith in (
      x.auto.memory ∙ l.invariant.0,
      only_both _ _ _ _ o x.ensures.1,
      λ S leaders keep metadata rows a.
          let v = l.invariant.2 S leaders keep metadata rows a in
          rw less
          (solving_turn S leaders keep (cells_by (code_words t m) metadata) t.width t.count c.args.limit rows c.args.blocks.now c.args.starts.now (uses_of t m) (preserved_of t m) (live_of t l.memory) _ (c.args.limit - l.counter) (omega arith) v _ (done S leaders keep metadata v.current v.around) c.if-not-round.false),
    )

pub shape_of-memory : goal.shape_of-memory
shape_of-memory c = c.loop.invariant.0

pub returns : goal.returns
returns c =
    let l = c.loop in
    let t = c.args.sets in
    let m = c.args.memory.now in
    let d = c.requires.coded.laid in
    let end : c.args.limit - l.counter ≡ 0 = omega arith in (
      λ S leaders keep metadata rows a. solving_none S leaders keep (cells_by (code_words t m) metadata) t.width t.count c.args.limit rows c.args.blocks.now c.args.starts.now (uses_of t m) (preserved_of t m) _ _ end (l.invariant.2 S leaders keep metadata rows a),
      rows_code t m l.memory d l.invariant.1,
      rows_uses t m l.memory d l.invariant.1,
      rows_preserved t m l.memory d l.invariant.1,
    )
