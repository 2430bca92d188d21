use mathlib.Core.Path.{sym}
use Rattle.std.specs.Prelude.{ℕ, ◌-◌, ◌/◌, ◌^◌, ◌≤◌, ◌<◌}
use Rattle.std.proofs.Common.{arith, lit<}
use Rattle.std.proofs.Math.Nat.{one-le-pow, pow-le-pow_right}
use Rattle.short.specs.laws.Digits.{digit_at, below_base}
use Rattle.short.proofs.digit.Goals as goal

-- a power of a place's weight fits its type, and a division by it has an answer
weight : (e : ℕ) → e ≤ 3 → 24 ^ e < 2 ^ 64
weight e h = let most : 24 ^ e ≤ 24 ^ 3 = pow-le-pow_right (lit< tt) h in omega arith

pub pow-requires : goal.pow-requires
pow-requires c = weight (c.args.n - 1 - c.args.p) (omega arith)

pub nonzero_div-result : goal.nonzero_div-result
nonzero_div-result c = rw c.pow.ensures (one-le-pow (c.args.n - 1 - c.args.p) 24 (lit< tt))

pub returns : goal.returns
returns c =
    let a = c.args in
    let p = c.requires in
    let few = below_base (a.rank / c.pow.result) in
    (rw c.pow.ensures (sym (digit_at a.n a.rank a.p (a.n - 1 - a.p) (omega (arith, p)))), few)
