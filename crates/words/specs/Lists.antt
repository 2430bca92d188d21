-- Definitions. Tests over lists and over the numbers below a bound.
-- Assumes nothing.
use Rattle.std.specs.Prelude.{ℕ, zero, suc, ◌+◌, Bool, true, false, cond, List, [], ◌∷◌, ◌==◌}

-- is x among these?
abbrev pub is_in : ℕ → List ℕ → Bool
is_in x [] = false
is_in x (y ∷ ys) = let rest = is_in x ys in cond (x == y) true rest

-- does each number below n pass?
unfoldable pub every : ℕ → (ℕ → Bool) → Bool
every zero t = true
every (suc n) t = let rest = every n t in cond (t n) rest false

-- the lowest number below n that passes, or n
unfoldable pub lowest_below : ℕ → (ℕ → Bool) → ℕ
lowest_below zero t = 0
lowest_below (suc n) t = let rest = lowest_below n t in cond (rest == n) (cond (t n) n (suc n)) rest

-- the values of f at the k numbers from p on, and at all below n
unfoldable pub tabulate_from {ℓ} : {A : Type ℓ} → ℕ → ℕ → (ℕ → A) → List A
tabulate_from p zero f = []
tabulate_from p (suc k) f = f p ∷ tabulate_from (suc p) k f

unfoldable pub tabulate {ℓ} : {A : Type ℓ} → ℕ → (ℕ → A) → List A
unfolding tabulate_from
tabulate n f = tabulate_from 0 n f

unfoldable pub sum : List ℕ → ℕ
sum [] = 0
sum (x ∷ xs) = x + sum xs

-- f at each element and its place, counted from p
unfoldable pub map_from {ℓ ℓ'} : {A : Type ℓ} {B : Type ℓ'} → (ℕ → A → B) → ℕ → List A → List B
map_from f p [] = []
map_from f p (x ∷ xs) = f p x ∷ map_from f (suc p) xs
