use mathlib.Core.Path.{◌≡◌, ap, ◌∙◌}
use mathlib.Core.List.{List}
use Prim.Native.Nat.{ℕ, ◌+◌, ◌*◌, ◌-◌, ◌/◌, ◌%◌, ◌^◌, ◌≤◌, ◌<◌}
use native.Mathlib.Omega.{arith}
use Rattle.words.specs.Le.{u64_at}
use Rattle.unit.specs.Size.{header_size}
use Rattle.short.specs.laws.Digits.{read_word, below_base}
use Rattle.short.specs.laws.Ranks.{small_power, none_read, more_read, all_read, read_below}
use Rattle.short.proofs.rank.Goals as goal

pub loop-p-init : goal.loop-p-init
loop-p-init c = (omega arith, λ k h same. none_read c.args.n k h)

-- the rank is small
rank-small : (n p rank : ℕ) → n ≤ 4 → p < n → rank < 24 ^ p → rank < 331776
rank-small n p rank few low h = let b = small_power p (omega arith) in omega arith

pub overflow_mul-rank : goal.overflow_mul-rank
overflow_mul-rank c =
    let small = rank-small c.args.n c.loop-p.p c.loop-p.rank c.requires.1 c.loop-p-test.true c.loop-p.invariant.0 in
    omega arith

pub read_u64-requires : goal.read_u64-requires
read_u64-requires c =
    let low = c.loop-p-test.true in
    omega (arith, c.requires.2)

pub overflow_add-rank : goal.overflow_add-rank
overflow_add-rank c =
    let small = rank-small c.args.n c.loop-p.p c.loop-p.rank c.requires.1 c.loop-p-test.true c.loop-p.invariant.0 in
    let few = c.index.ensures.0 in
    omega arith

pub loop-p-preserved : goal.loop-p-preserved
loop-p-preserved c =
    let a = c.args in
    let low = c.loop-p-test.true in
    let p = c.loop-p.p in (
      read_below p c.loop-p.rank c.index.result c.loop-p.invariant.0 c.index.ensures.0,
      λ k h same.
          let e = a.n - (p + 1) in
          let word = c.read_u64.ensures ∙ ap (λ (u : List ℕ). u64_at u (header_size + 8 * p)) same ∙ read_word a.n k p e (omega arith) in
          more_read a.n p k c.loop-p.rank c.index.result low (c.loop-p.invariant.1 k h same) (c.index.ensures.1 (k / 24 ^ e % 24) (below_base (k / 24 ^ e)) word),
    )

pub returns : goal.returns
returns c =
    let n = c.args.n in
    let end : c.loop-p.p ≡ n = omega arith in
    (rw end at c.loop-p.invariant.0, λ k h same. c.loop-p.invariant.1 k h same ∙ all_read n c.loop-p.p k end)
