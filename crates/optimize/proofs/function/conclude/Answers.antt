use mathlib.Core.Path.{◌≡◌, sym, ap, ◌∙◌}
use Prim.Native.Nat.{ℕ, ◌+◌, ◌-◌}
use native.Mathlib.Omega.{arith}
use lib.ListN.{get_or}
use Rattle.std.proofs.lemmas.Result.{err_from_is_err_and}
use Rattle.words.specs.Bytes.{Bytes}
use Rattle.unit.specs.laws.Region.{keep_at}
use Rattle.optimize.specs.laws.Concluded.{Words}
use Rattle.optimize.specs.laws.Decided.{few_retained, conclude_same_asks, conclude_relocation_asks, concluded_unchanged, concluded_refused, concluded_rewritten}
use Rattle.optimize.proofs.function.conclude.Goals as goal
use Rattle.optimize.proofs.function.conclude.Goals.{After-keep_at-keep}

code_bytes_lem : (k : After-keep_at-keep) → Bytes k.args.code.now
code_bytes_lem k i = omega (arith, k.type_inv.code i)

words : (k : After-keep_at-keep) → Words k.args.work64.now
words k i = omega (arith, k.type_inv.work64 i)

-- the number of retained instructions
counted : (k : After-keep_at-keep) → get_or k.args.work32.now (k.keep_at-keep.result + k.args.n + k.args.n) 0 ≡ get_or k.args.work32.now (keep_at k.args.n + k.args.n + k.args.n) 0
counted k = let a = k.args in ap (λ (i : ℕ). get_or a.work32.now (i + a.n + a.n) 0) k.keep_at-keep.ensures

pub overflow_cast-retained : goal.overflow_cast-retained
overflow_cast-retained c = omega (arith, counted (goal.at.overflow_cast-retained c).After-keep_at-keep, few_retained c.requires.finished)

pub is_unchanged-requires : goal.is_unchanged-requires
is_unchanged-requires c = conclude_same_asks c.requires.finished (c.args.n - 0) c.args.n (omega arith) (omega arith) c.args.code.now c.requires.code

pub returns-then-is_unchanged : goal.returns-then-is_unchanged
returns-then-is_unchanged c =
    let a = c.args in
    let k = (goal.at.returns-then-is_unchanged c).After-keep_at-keep in
    record { answer = concluded_unchanged c.requires.finished (a.n - 0) a.n (omega arith) (omega arith) a.code.now (code_bytes_lem k) (words k) _ (counted k) (sym c.is_unchanged.ensures ∙ c.if-is_unchanged.true) }

pub check_relocation-requires : goal.check_relocation-requires
check_relocation-requires c =
    let a = c.args in
    rw c.keep_at-keep.ensures (conclude_relocation_asks c.requires.finished (a.n - 0) (keep_at a.n + a.n - keep_at a.n) (omega arith) (omega arith) a.at a.count (a.at + a.count - a.at) (omega arith) c.requires.listed)

pub returns-in_err-check_relocation : goal.returns-in_err-check_relocation
returns-in_err-check_relocation c =
    let a = c.args in
    let k = (goal.at.returns-in_err-check_relocation c).After-keep_at-keep in
    let p = err_from_is_err_and c.from_residual.result c.from_residual.ensures.1 in
    record {
      answer = rw (p.1, p.2) (concluded_refused c.requires.finished (a.n - 0) (keep_at a.n + a.n - keep_at a.n) (omega arith) (omega arith) a.code.now (code_bytes_lem k) (words k) _ (counted k)
          (sym c.is_unchanged.ensures ∙ c.if-is_unchanged.false) _ (rw c.keep_at-keep.ensures at c.check_relocation.ensures) _ _ c.in_err-check_relocation.was);
    }

pub returns : goal.returns
returns c =
    let a = c.args in
    let k = (goal.at.returns c).After-keep_at-keep in
    record {
      answer = concluded_rewritten c.requires.finished (a.n - 0) (keep_at a.n + a.n - keep_at a.n) (omega arith) (omega arith) a.code.now (code_bytes_lem k) (words k) _ (counted k)
          (sym c.is_unchanged.ensures ∙ c.if-is_unchanged.false) _ (rw c.keep_at-keep.ensures at c.check_relocation.ensures) c.in_ok-check_relocation.was;
    }
