-- Laws of Lists.
-- Assumes nothing.
use Rattle.std.specs.Prelude.{◌≡◌, ℕ, zero, suc, ◌+◌, ◌<◌, Bool, true, false, cond, List, [], ◌∷◌, ◌++◌, length, take, ◌==◌, slice_index, slice_index_or}
use Rattle.std.proofs.Math.Path.{refl, ap}
use Rattle.std.proofs.Common.{◌∙◌, arith, suc-add, add_assoc, add-one, take-suc, eqb-true}
use Rattle.std.proofs.Math.Nat.{add-zero, zero-add, add-suc}
use Rattle.std.proofs.lemmas.Bool.{eqb-false}
use Rattle.words.specs.Lists.{every, map_from, sum, tabulate, tabulate_from}

-- how many numbers below n pass
abbrev pub count : ℕ → (ℕ → Bool) → ℕ
count zero t = 0
count (suc n) t = cond (t n) 1 0 + count n t

pub every_at : (n : ℕ) (t : ℕ → Bool) → every n t ≡ true → (k : ℕ) → k < n → t k ≡ true
unfolding every
every_at zero t e k h = absurd (omega arith)
every_at (suc n) t e k h = go (t n) refl (k == n) refl e (λ e l. every_at n t e k l)
  where
    go : (b : Bool) → t n ≡ b → (q : Bool) → (k == n) ≡ q → cond b (every n t) false ≡ true → (every n t ≡ true → k < n → t k ≡ true) → t k ≡ true
    go true r true s e f = rw (eqb-true k n s) r
    go true r false s e f =
        let other : k ≡ n → ⊥ = eqb-false k n s in
        f e (omega arith)
    go false r q s e f = let z : ◌≡◌ {A = ℕ} 0 1 = cc in absurd (omega arith)

pub every_all : (n : ℕ) (t : ℕ → Bool) → ((k : ℕ) → k < n → t k ≡ true) → every n t ≡ true
unfolding every
every_all zero t f = refl
every_all (suc n) t f = rw (f n (omega arith)) (every_all n t (λ k h. f k (omega arith)))

pub every_not : (n : ℕ) (t : ℕ → Bool) (k : ℕ) → k < n → t k ≡ false → every n t ≡ false
every_not n t k h e = go (every n t) refl
  where
    go : (b : Bool) → every n t ≡ b → every n t ≡ false
    go true r = let w : t k ≡ true = every_at n t r k h in let z : ◌≡◌ {A = ℕ} 0 1 = cc in absurd (omega arith)
    go false r = r

-- ---- laws

module _ {A B : Type 0} where
  pub length_map_from : (f : ℕ → A → B) (p : ℕ) (l : List A) → length (map_from f p l) ≡ length l
  unfolding map_from
  length_map_from f p [] = refl
  length_map_from f p (x ∷ xs) = ap suc (length_map_from f (suc p) xs)

  pub get_d_map_from : (f : ℕ → A → B) (p : ℕ) (l : List A) (k : ℕ) (d : A) (e : B) → k < length l → slice_index_or (map_from f p l) k e ≡ f (p + k) (slice_index_or l k d)
  unfolding map_from
  get_d_map_from f p [] k d e h = absurd (omega arith)
  get_d_map_from f p (x ∷ xs) zero d e h = rw add-zero
  get_d_map_from f p (x ∷ xs) (suc k) d e h = get_d_map_from f (suc p) xs k d e (omega arith) ∙ rw (suc-add p k, add-suc p k)

module _ {A : Type 0} where
  pub length_tabulate_from : (p k : ℕ) (f : ℕ → A) → length (tabulate_from p k f) ≡ k
  unfolding tabulate_from
  length_tabulate_from p zero f = refl
  length_tabulate_from p (suc k) f = ap suc (length_tabulate_from (suc p) k f)

  pub get_d_tabulate_from : (p k : ℕ) (f : ℕ → A) (i : ℕ) (d : A) → i < k → slice_index_or (tabulate_from p k f) i d ≡ f (p + i)
  unfolding tabulate_from
  get_d_tabulate_from p zero f i d h = absurd (omega arith)
  get_d_tabulate_from p (suc k) f zero d h = rw add-zero
  get_d_tabulate_from p (suc k) f (suc i) d h = get_d_tabulate_from (suc p) k f i d (omega arith) ∙ rw (suc-add p i, add-suc p i)

  pub length_tabulate : (n : ℕ) (f : ℕ → A) → length (tabulate n f) ≡ n
  unfolding tabulate
  length_tabulate n f = length_tabulate_from 0 n f

  pub get_d_tabulate : (n : ℕ) (f : ℕ → A) (i : ℕ) (d : A) → i < n → slice_index_or (tabulate n f) i d ≡ f i
  unfolding tabulate
  get_d_tabulate n f i d h = get_d_tabulate_from 0 n f i d h ∙ rw zero-add

pub sum_append : (xs ys : List ℕ) → sum (xs ++ ys) ≡ sum xs + sum ys
unfolding sum
sum_append [] ys = rw zero-add
sum_append (x ∷ xs) ys = rw (sum_append xs ys, add_assoc)

-- one element more
pub sum_take : (l : List ℕ) (p : ℕ) → p < length l → sum (take (p + 1) l) ≡ sum (take p l) + slice_index l p
unfolding sum
sum_take l p h = rw (add-one p, take-suc l p 0 h) (sum_append (take p l) (slice_index l p ∷ []) ∙ rw add-zero)
