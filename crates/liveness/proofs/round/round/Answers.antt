use mathlib.Core.Path.{◌≡◌, refl, ◌∙◌}
use Prim.Native.Nat.{◌+◌, ◌-◌, ◌<◌}
use native.Mathlib.Omega.{arith}
use lib.ListN.{get_or}
use Rattle.effects.specs.laws.Cells.{cells_by}
use Rattle.liveness.specs.laws.SetMemory.{code_words, uses_of, preserved_of, live_of, visited_then}
use Rattle.words.specs.laws.Only.{only_none, only_both}
use Rattle.liveness.specs.laws.Rounding.{rounding_begin, rounding_turn, rounding_end}
use Rattle.liveness.proofs.round.round.Goals as goal

pub loop-b-init : goal.loop-b-init
loop-b-init c =
    (refl, only_none _ _, λ S leaders keep metadata rows a. rounding_begin S leaders keep _ _ _ rows _ _ _ _ _ a)

pub loop-b-preserved : goal.loop-b-preserved
loop-b-preserved c =
    let l = c.loop-b in
    let x = c.visit_block-changed in
    let t = c.args.sets in
    let m = c.args.memory.now in
    let below : l.b - 1 < t.count = omega arith in
    let one : l.b ≡ l.b - 1 + 1 = omega arith in
    let last = get_or c.args.starts.now (l.b - 1 + 1) 0 - 1 in
    let rise = c.requires.rising (l.b - 1) below in
    let inner : last < t.code = omega (arith, rise.0, rise.1) in (
      x.auto.memory ∙ l.invariant.0,
      only_both _ _ _ _ l.invariant.1 x.ensures.1,
      λ S leaders keep metadata rows a.
          rounding_turn S leaders keep (cells_by (code_words t m) metadata) t.width t.count rows c.args.blocks.now c.args.starts.now (uses_of t m) (preserved_of t m) (live_of t m) a
          (live_of t l.memory) (live_of t x.new.memory) l.b (l.b - 1) last l.changed x.result one below refl (l.invariant.2 S leaders keep metadata rows a)
          (visited_then t m l.memory c.requires.coded.laid l.invariant.1 metadata (l.b - 1) last c.args.blocks.now (live_of t l.memory) (live_of t x.new.memory) x.result inner x.ensures.0),
    )

pub returns : goal.returns
returns c =
    let l = c.loop-b in
    let end : l.b ≡ 0 = omega arith in
    (λ S leaders keep metadata rows a. rounding_end S leaders keep _ _ _ rows _ _ _ _ _ a _ _ (rw end at (l.invariant.2 S leaders keep metadata rows a)), l.invariant.1)
