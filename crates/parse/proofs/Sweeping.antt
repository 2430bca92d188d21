-- A loop that goes over all numbers below a bound: what it has found so far is the definition so far.
-- Assumes nothing.
use mathlib.Core.Path.{◌≡◌, refl}
use mathlib.Core.Bool.{Bool, true, false, cond, ◌&&◌}
use Prim.Native.Nat.{ℕ, suc, ◌+◌}
use native.Mathlib.Numerals.{add-one}
use lib.Dec.{eqb}
use Rattle.words.specs.Lists.{every, lowest_below}

-- a number more, which passes or not
pub every_more : (k : ℕ) (t : ℕ → Bool) (good passes : Bool) → good ≡ every k t → passes ≡ t k → (good && passes) ≡ every (k + 1) t
unfolding every
every_more k t good passes e f = rw (add-one k, e, f) (go (every k t) (t k))
  where
    go : (a b : Bool) → (a && b) ≡ cond b a false
    go true true = refl
    go true false = refl
    go false true = refl
    go false false = refl

pub lowest_more : (k : ℕ) (t : ℕ → Bool) (found : ℕ) (passes : Bool) → found ≡ lowest_below k t → passes ≡ t k → cond (eqb found k) (cond passes k (suc k)) found ≡ lowest_below (k + 1) t
unfolding lowest_below
lowest_more k t found passes e f = rw (add-one k, e, f)
