use Rattle.std.proofs.Common.{◌≡◌, ℕ, ◌-◌, length, sym, ap, ◌∙◌, arith}
use Rattle.effects.specs.laws.Cells.{cells_by, cells_long}
use Rattle.flow.specs.Loop.{reached_places}
use Rattle.flow.specs.Reach.{reached}
use Rattle.flow.specs.laws.Successors.{following}
use Rattle.flow.proofs.Walked.{first_outside, walked_begin, walked_end}
use Rattle.flow.proofs.reach.mark_reached.Goals as goal

all : (n : ℕ) → n - 0 ≡ n
all n = omega arith

pub loop-sp-init : goal.loop-sp-init
loop-sp-init c = walked_begin _ _ _ _ c.requires.3 _ (all (length c.args.words.now)) (c.fill.ensures.after (λ y e. e)) c.requires.0

pub returns : goal.returns
unfolding reached_places
returns c =
    let a = c.args in
    let n = length a.words.now in
    let next = following (cells_by a.words.now a.metadata.now) in
    let end : c.loop-sp.sp ≡ 0 = omega arith in
    let outside = first_outside n next a.work.now _ c.requires.3 _ (all n) (c.fill.ensures.after (λ y e. e)) in
    let done = walked_end n next a.work.now _ _ outside (rw end at c.loop-sp.invariant) in
    (done.0 ∙ ap (λ (k : ℕ). reached k next) (sym (cells_long a.words.now a.metadata.now)), done.1)
