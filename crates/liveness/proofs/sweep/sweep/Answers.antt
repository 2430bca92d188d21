use mathlib.Core.Path.{◌≡◌, refl, sym, ◌∙◌}
use Prim.Native.Nat.{suc, ◌+◌, ◌-◌, ◌≤◌, ◌<◌}
use native.Mathlib.Omega.{arith}
use lib.ListN.{length, get_or}
use Rattle.words.specs.laws.Regions.{mid_long}
use Rattle.unit.specs.laws.Region.{keep_at}
use Rattle.effects.specs.laws.Cells.{cells_long}
use Rattle.liveness.specs.laws.SetMemory.{code_words, row_of, live_of, leaders_of, blocks_of, flags_of, row_inside, code_word, same_word, same_code_lem, same_live, same_leaders, same_blocks, still_coded}
use Rattle.words.specs.laws.Only.{only_none, only_both, lent, lent_long, put_only}
use Rattle.liveness.specs.laws.Sweep.{sweep_begin, sweep_end, code_turn}
use Rattle.liveness.proofs.sweep.sweep.Goals as goal

pub loop-p-init : goal.loop-p-init
loop-p-init c =
    let m = c.args.memory.now in
    let l = c.requires.0.coded.laid in
    let long : length (code_words c.args.sets m) ≡ c.args.sets.code = mid_long m 0 c.args.sets.code (omega (arith, l.row, row_inside _ _ l)) in
    (refl, refl, only_none _ _, only_none _ _, λ locals constants rows g. sweep_begin _ _ _ _ rows _ _ _ g _ _ (sym (cells_long (code_words c.args.sets m) c.args.metadata.now ∙ long)))

pub enter_place-requires : goal.enter_place-requires
enter_place-requires c =
    let l = c.loop-p in
    let t = c.args.sets in
    let r = c.requires.0 in
    let part : t.code + t.code - t.code ≡ t.code = omega arith in
    let whole : t.code - 0 ≡ t.code = omega arith in
    let room : 0 + t.code ≤ length l.table = omega (arith, l.invariant.1, r.long_table) in
    (rw (part, same_blocks t.code _ _ r.long_table l.invariant.3) (still_coded t _ _ _ l.invariant.2 (λ j i. omega (arith, i.0, r.coded.laid.row)) _ r.coded), omega arith, rw whole (mid_long l.table 0 t.code room))

pub sweep_place-requires : goal.sweep_place-requires
sweep_place-requires c =
    let l = c.loop-p in
    let there = c.keep_at-flags.ensures in
    let x = c.enter_place in
    let t = c.args.sets in
    let r = c.requires.0 in
    let d = r.coded.laid in
    let h : l.p - 1 < t.code = omega arith in
    let o = only_both _ _ _ _ l.invariant.2 x.ensures.1 in
    let same = same_word t _ _ _ o (λ j i. omega (arith, i.0, d.row)) (l.p - 1) h in
    let laid = rw (← o.long) at d in
    let long : length (row_of t x.new.memory) ≡ t.width = mid_long x.new.memory t.row t.width (row_inside _ _ laid) in
    (laid, h, r.entries, rw there (lent_long l.table (keep_at t.code) t.code (rw l.invariant.1 r.long_table)), rw same (record { few = rw long r.few; typed = r.typed (l.p - 1) h; inside = rw long (r.held (l.p - 1) h) }), rw same (r.fits (l.p - 1) h), c.requires.1)

pub loop-p-preserved : goal.loop-p-preserved
loop-p-preserved c =
    let l = c.loop-p in
    let there = c.keep_at-flags.ensures in
    let x = c.enter_place in
    let y = c.sweep_place in
    let t = c.args.sets in
    let n = t.code in
    let m = c.args.memory.now in
    let r = c.requires.0 in
    let d = r.coded.laid in
    let h : l.p - 1 < n = omega arith in
    let e : l.p ≡ suc (l.p - 1) = omega (arith, c.loop-p-test.true) in
    let part : n + n - n ≡ n = omega arith in
    let whole : n - 0 ≡ n = omega arith in
    let flags : keep_at n + n - keep_at n ≡ n = omega arith in
    let z = lent l.table (keep_at n) n y.new.keep (rw l.invariant.1 r.long_table) (rw there at y.auto.keep) in
    let long : length (code_words t m) ≡ n = mid_long m 0 n (omega (arith, d.row, row_inside _ _ d)) in
    let word : get_or (code_words t m) (l.p - 1) 0 ≡ get_or l.memory (l.p - 1) 0 = code_word m n (l.p - 1) h ∙ sym (same_word t _ _ _ l.invariant.2 (λ j i. omega (arith, i.0, d.row)) (l.p - 1) h) in
    let same = same_word t _ _ _ x.ensures.1 (λ j i. omega (arith, i.0, d.row)) (l.p - 1) h in
    let enter = rw (whole, part, same_leaders n _ _ r.long_table l.invariant.3, same_blocks n _ _ r.long_table l.invariant.3, same_live t m l.memory d l.invariant.2) at x.ensures.0 in
    let swept = rw (there, flags, same) at y.ensures.0 in
    rw there (
      y.auto.memory ∙ x.auto.memory ∙ l.invariant.0,
      z.0.long ∙ l.invariant.1,
      only_both _ _ _ _ l.invariant.2 (only_both _ _ _ _ x.ensures.1 y.ensures.1),
      only_both _ _ _ _ l.invariant.3 z.0,
      λ locals constants rows g.
          rw z.1
          (code_turn _ (leaders_of n c.args.table.now) _ (code_words t m) c.args.metadata.now rows t.width (blocks_of n c.args.table.now) (live_of t m) g (flags_of n l.table) (row_of t l.memory) (row_of t x.new.memory) _ _ n l.p (l.p - 1) _ long word e h
          (l.invariant.4 locals constants rows g) enter swept),
    )

pub shape_of-memory : goal.shape_of-memory
shape_of-memory c = c.loop-p.invariant.0

pub shape_of-table : goal.shape_of-table
shape_of-table c = c.loop-p.invariant.1

pub returns : goal.returns
returns c =
    let l = c.loop-p in
    let t = c.args.sets in
    let d = c.requires.0.coded.laid in
    let end : l.p ≡ 0 = omega arith in (
      λ locals constants rows g. sweep_end _ _ _ _ rows _ _ _ g _ (row_of t l.memory) (rw end at (l.invariant.4 locals constants rows g)),
      put_only (keep_at t.code) t.code _ _ l.invariant.3 c.requires.0.long_table,
      same_code_lem t _ _ _ l.invariant.2 (λ j i. omega (arith, i.0, d.row)) d,
    )
