use mathlib.Core.Path.{◌≡◌, refl}
use mathlib.Core.Bool.{Bool, true, false, ◌||◌, ◌&&◌}
use mathlib.Core.List.{List, [], ◌∷◌}
use Prim.Native.Nat.{ℕ, zero, suc, ◌/◌, ◌%◌, ◌^◌, ◌<◌}
use lib.Dec.{eqb, ltb}
use Rattle.words.specs.Lists.{every}
use Rattle.words.specs.laws.Lists.{every_at}
use Rattle.values.specs.laws.Folded.{agree, agree_same}
use lib.ListN.{length, get_or, get_or-eq_default}
use native.Mathlib.Omega.{arith}
use borrow.Author.Tests.{ltb-true, ltb-false, ne_eqb}
use Rattle.numbering.proofs.walk.scalar.Goals as goal

-- within the list no default is read
inside : (l : List ℕ) (i : ℕ) → i < length l → get_or l i 1 ≡ get_or l i 0
inside [] i h = absurd (omega arith)
inside (x ∷ xs) zero h = refl
inside (x ∷ xs) (suc i) h = inside xs i (omega arith)

-- Value and Float are bits 0 and 5
bit-of-type : (k : ℕ) → (ltb k 6 && eqb (33 / 2 ^ (k % 8) % 2) 1) ≡ (eqb k 0 || eqb k 5)
unfolding every agree
bit-of-type k = go (ltb k 6) refl
  where
    go : (x : Bool) → ltb k 6 ≡ x → (ltb k 6 && eqb (33 / 2 ^ (k % 8) % 2) 1) ≡ (eqb k 0 || eqb k 5)
    go true e = agree_same (ltb k 6 && eqb (33 / 2 ^ (k % 8) % 2) 1) (eqb k 0 || eqb k 5) (every_at 6 (λ k. agree (ltb k 6 && eqb (33 / 2 ^ (k % 8) % 2) 1) (eqb k 0 || eqb k 5)) refl k (ltb-true k 6 e))
    go false e = let far = ltb-false k 6 e in rw (e, ne_eqb k 0 (λ q. omega arith), ne_eqb k 5 (λ q. omega arith))

pub returns-then-at-types : goal.returns-then-at-types
returns-then-at-types c = rw (inside c.args.types.now c.args.s c.if-at-types.true) (bit-of-type (get_or c.args.types.now c.args.s 0))

pub returns : goal.returns
returns c = rw (get_or-eq_default c.args.types.now 1 c.if-at-types.false)
