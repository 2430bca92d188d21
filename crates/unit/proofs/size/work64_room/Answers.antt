use mathlib.Core.Path.{◌≡◌}
use Prim.Native.Nat.{ℕ, ◌*◌, ◌≤◌}
use native.Mathlib.Nat.{zero-mul, mul-le-mul}
use native.Mathlib.Omega.{arith}
use Rattle.unit.specs.Size.{set_words}
use Rattle.unit.proofs.size.work64_room.Goals as goal

-- at most 1,024 words, and n below 2^32
product : (w k : ℕ) → w ≤ 1024 → k ≤ 4294967295 → 3 * w * k ≤ 3072 * 4294967295
product w k words few =
    let thrice : 3 * w ≤ 3072 = omega arith in
    mul-le-mul thrice few

pub overflow_mul-result-else-w-eq0-4 : goal.overflow_mul-result-else-w-eq0-4
overflow_mul-result-else-w-eq0-4 c = record { fits = omega (arith, product c.set_words-w.result c.min.result (omega arith) (omega arith)) }

pub overflow_add-result-else-w-eq0-3 : goal.overflow_add-result-else-w-eq0-3
overflow_add-result-else-w-eq0-3 c = record { fits = omega (arith, product c.set_words-w.result c.min.result (omega arith) (omega arith)) }

pub returns-then-w-eq0 : goal.returns-then-w-eq0
returns-then-w-eq0 c =
    let none : set_words c.args.s ≡ 0 = omega arith in
    rw none (simp zero-mul (omega arith))

pub returns-else-w-eq0 : goal.returns-else-w-eq0
returns-else-w-eq0 c = cc
