use mathlib.Core.Path.{◌≡◌, sym, ◌∙◌}
use mathlib.Core.Bool.{true≢false}
use mathlib.Core.List.{List}
use Prim.Native.Nat.{ℕ, ◌+◌, ◌<◌, ◌≤◌, ◌^◌}
use native.Mathlib.Omega.{arith}
use lib.ListN.{length}
use Rattle.std.specs.Prelude.{Some}
use Rattle.short.specs.Short.{short_count, first_of, unit_at, unit_size}
use Rattle.short.specs.laws.Ranks.{numbered}
use Rattle.short.proofs.Finding.{Candidate, LengthIs, no_length, found, not_found}
use Rattle.short.proofs.find_number.Goals as goal

candidate : {u : List ℕ} {n rank : ℕ} → LengthIs u (Some n) → (2 ≤ n) × (n ≤ 4) × (length u ≡ unit_size n)
    → (rank < 24 ^ n) × ((k : ℕ) → k < 24 ^ n → u ≡ unit_at n k → rank ≡ k) → Candidate u n rank
candidate lengths some ranks =
    record { two = some.0; four = some.1; lengths = lengths; inside = ranks.0; ranks = ranks.1 }

number_small : {u : List ℕ} {n rank first : ℕ} → Candidate u n rank → first ≡ first_of n → first + rank < short_count
number_small d e = rw e (numbered _ _ d.two d.four d.inside).some

pub returns-in_err-n : goal.returns-in_err-n
returns-in_err-n c = rw c.from_residual.ensures (no_length _ c.in_err-n.ensures.only)

pub returns-then-not-is_unit_of : goal.returns-then-not-is_unit_of
returns-then-not-is_unit_of c =
    let n = c.in_ok-n.ensures in
    not_found (candidate n.only n.some c.rank-rank.ensures) (λ same. true≢false (sym (c.is_unit_of.ensures.1 same) ∙ c.if-not-is_unit_of.true))

pub overflow_cast-result : goal.overflow_cast-result
overflow_cast-result c =
    let n = c.in_ok-n.ensures in
    let small = number_small (candidate n.only n.some c.rank-rank.ensures) c.first_of.ensures in
    omega arith

pub overflow_add-result : goal.overflow_add-result
overflow_add-result c =
    let n = c.in_ok-n.ensures in
    let small = number_small (candidate n.only n.some c.rank-rank.ensures) c.first_of.ensures in
    omega arith

pub returns : goal.returns
returns c =
    let n = c.in_ok-n.ensures in
    rw c.first_of.ensures (found (candidate n.only n.some c.rank-rank.ensures) (c.is_unit_of.ensures.0 c.if-not-is_unit_of.false))
