use Prim.Native.Nat.{ℕ, ◌*◌, ◌^◌, ◌≤◌, ◌<◌}
use native.Mathlib.Nat.{mul-le-mul}
use native.Mathlib.Omega.{arith}
use Rattle.unit.proofs.section.past.Goals as goal

-- the bytes of the entries
product : {size count : ℕ} → size ≤ 16 → count < 2 ^ 32 → size * count ≤ 16 * 4294967295
product {count = n} small low = mul-le-mul small (let most : n ≤ 4294967295 = omega arith in most)

pub overflow_mul-result : goal.overflow_mul-result
overflow_mul-result c = record { fits = omega (arith, product c.args.s.small c.word-2.ensures.1) }

pub overflow_add-result : goal.overflow_add-result
overflow_add-result c = record { fits = omega (arith, product c.args.s.small c.word-2.ensures.1) }

pub returns : goal.returns
returns c = cc
