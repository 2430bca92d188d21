use mathlib.Core.Path.{◌≡◌, refl, sym, ◌∙◌}
use mathlib.Core.Logic.{⊎_elim}
use Prim.Native.Nat.{suc, ◌+◌, ◌-◌, ◌≤◌}
use native.Mathlib.Omega.{arith}
use lib.ListN.{length, get_or}
use borrow.Rule.Slice.PartMut.{mid_of, put_mid}
use Rattle.words.specs.laws.Regions.{mid_long}
use Rattle.effects.specs.Shape.{Tables, tables_in}
use Rattle.effects.specs.laws.Cells.{cell_of, cells_by}
use Rattle.liveness.specs.laws.SetMemory.{cell_in}
use Rattle.words.specs.laws.Only.{only_none, only_both, lent_long, both_lent, same_mid}
use Rattle.liveness.specs.laws.Through.{summary_begin, summary_turn}
use Rattle.liveness.proofs.block.summarize_block.Goals as goal

pub loop-p-init : goal.loop-p-init
loop-p-init c =
    let v = c.fill in
    let u = c.fill-2 in
    let T : Tables = tables_in c.args.tables in
    let m = c.args.memory.now in
    let x = both_lent m c.args.sets.uses c.args.sets.preserved c.args.sets.width u.new.self v.new.self _ c.requires.fits.apart c.requires.fits.room refl v.auto.self u.auto.self in
    let long : length (mid_of c.args.sets.uses c.args.sets.width m) ≡ c.args.sets.width = mid_long m c.args.sets.uses c.args.sets.width (omega arith) in
    let none = rw (x.was, long) at (u.ensures.after (λ y e. e)) in
    let all = rw (lent_long m c.args.sets.preserved c.args.sets.width c.requires.fits.room) at (v.ensures.after (λ y e. e)) in
    (c.requires.places, refl, only_none _ _, λ n h g. summary_begin T c.args.keep.now _ c.args.sets.width _ _ _ _ _ refl (omega arith) (x.low ∙ none) (x.high ∙ all) (rw x.low (rw (x.was, long) at u.auto.self)))

pub summarize_place-requires : goal.summarize_place-requires
summarize_place-requires c =
    let v = c.fill in
    let u = c.fill-2 in
    let l = c.loop-p in
    let m = c.args.memory.now in
    let x = both_lent m c.args.sets.uses c.args.sets.preserved c.args.sets.width u.new.self v.new.self _ c.requires.fits.apart c.requires.fits.room refl v.auto.self u.auto.self in
    let o = only_both _ _ _ _ x.only l.invariant.2 in
    let f = c.requires.fits in
    let q : l.p - 1 + 1 ≤ c.args.end = omega arith in record {
      fits = record {
        code = omega (arith, f.code);
        apart = f.apart;
        room = rw o.long f.room;
        entries = omega (arith, f.entries);
        flags = omega (arith, f.flags);
        fits = λ p h. rw (o.same p (⊎_elim (λ i. omega (arith, i.0, f.code)) (λ i. omega (arith, i.0, f.code, f.apart)))) (f.fits p (omega arith));
        some = f.some;
      };
    }

pub loop-p-preserved : goal.loop-p-preserved
loop-p-preserved c =
    let v = c.fill in
    let u = c.fill-2 in
    let l = c.loop-p in
    let y = c.summarize_place in
    let T : Tables = tables_in c.args.tables in
    let m = c.args.memory.now in
    let x = both_lent m c.args.sets.uses c.args.sets.preserved c.args.sets.width u.new.self v.new.self _ c.requires.fits.apart c.requires.fits.room refl v.auto.self u.auto.self in
    let m₂ = put_mid c.args.sets.uses (c.args.sets.uses + c.args.sets.width - c.args.sets.uses) (put_mid c.args.sets.preserved (c.args.sets.preserved + c.args.sets.width - c.args.sets.preserved) m v.new.self) u.new.self in
    let q : l.p ≡ suc (l.p - 1) = omega arith in
    let word = get_or l.memory (l.p - 1) 0 in
    let same = l.invariant.2.same (l.p - 1) (⊎_elim (λ i. omega (arith, i.0)) (λ i. omega (arith, i.0))) in
    let room : c.args.sets.uses + c.args.sets.width ≤ length l.memory = rw (l.invariant.1, x.only.long) (omega arith) in
    let long : length (mid_of c.args.sets.uses c.args.sets.width y.new.memory) ≡ length (mid_of c.args.sets.uses c.args.sets.width l.memory) = mid_long y.new.memory c.args.sets.uses c.args.sets.width (rw y.auto.memory room) ∙ sym (mid_long l.memory c.args.sets.uses c.args.sets.width room) in (
      omega arith,
      y.auto.memory ∙ l.invariant.1,
      only_both _ _ _ _ l.invariant.2 y.ensures.rest,
      λ n h g.
          let within : n ≤ length m₂ = rw x.only.long (omega arith) in
          summary_turn T c.args.keep.now (cells_by (mid_of 0 n m₂) c.args.metadata.now) (cell_of c.args.metadata.now (l.p - 1) word) (mid_of c.args.sets.uses c.args.sets.width l.memory) (mid_of c.args.sets.preserved c.args.sets.width l.memory) (mid_of c.args.sets.uses c.args.sets.width y.new.memory) (mid_of c.args.sets.preserved c.args.sets.width y.new.memory) l.p (l.p - 1) _ q (omega arith) (cell_in m₂ c.args.metadata.now n (l.p - 1) word within (omega arith) same) (l.invariant.3 n h g) long y.ensures.sets,
    )

pub shape_of-memory : goal.shape_of-memory
shape_of-memory c =
    let v = c.fill in
    let u = c.fill-2 in
    c.loop-p.invariant.1 ∙ (both_lent c.args.memory.now c.args.sets.uses c.args.sets.preserved c.args.sets.width u.new.self v.new.self _ c.requires.fits.apart c.requires.fits.room refl v.auto.self u.auto.self).only.long

pub returns : goal.returns
returns c =
    let v = c.fill in
    let u = c.fill-2 in
    let l = c.loop-p in
    let m = c.args.memory.now in
    let x = both_lent m c.args.sets.uses c.args.sets.preserved c.args.sets.width u.new.self v.new.self _ c.requires.fits.apart c.requires.fits.room refl v.auto.self u.auto.self in
    let end : l.p ≡ c.args.start = omega arith in record {
      sets = λ n h g.
          let code = same_mid _ m _ x.only 0 n (omega arith) (λ j i. ⊎_elim (λ k. omega (arith, i.1, k.0)) (λ k. omega (arith, i.1, k.0))) in
          rw (code, end) at (l.invariant.3 n h g);
      rest = only_both _ _ _ _ x.only l.invariant.2;
    }
