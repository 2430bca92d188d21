-- Values and their numbers: equal values have equal numbers.
-- Assumes nothing.
use Rattle.std.specs.Prelude.{None, Some}
use Rattle.std.proofs.Common.{◌≡◌, ℕ, suc, ◌+◌, ◌-◌, ◌<◌, ◌≤◌, Bool, true, false, cond, eqb, ltb, List, sym, refl, ap, ◌∙◌, arith, ltb-false, ltb-true, le-ltb, lt-ltb, eq-eqb, ne_eqb, eqb-true}
use borrow.Author.Tests.{eqb-false}
use Rattle.words.specs.laws.Truth.{same_bool}
use Rattle.values.specs.Values.{at_start, same_atom}
use Rattle.values.specs.laws.Folded.{integer_of}
use Rattle.values.specs.laws.Lowest.{same_atom_lem, atom_same}
use Rattle.values.specs.laws.Entries.{Key, key, key_at, newest}
use Rattle.values.specs.laws.Memory.{Memory, key_atom, constant_key, limit, atom_at, integer_at, Ordered, atom_in}
use Rattle.values.specs.declared.Atom.{Atom}
use Rattle.values.specs.declared.Atom.TheVariants.{Integer, Float, Definition}

key_both : (k : Key) {x y : ℕ} → k.left ≡ x → k.right ≡ y → k ≡ key x y
key_both k {x} {y} e f = ap (λ (z : ℕ). key z k.right) e ∙ ap (λ (z : ℕ). key x z) f

module _ (n S : ℕ) where
  -- the value of a number, by the region that it is in
  module _ (dest : ℕ → ℕ) (c : List ℕ) where
    pub atom_start : (d : ℕ) → d < S → atom_at n S dest c d ≡ Definition at_start d
    unfolding atom_at
    atom_start d h = rw (lt-ltb d S h)

    pub atom_place : (p : ℕ) → p < n → atom_at n S dest c (S + p) ≡ Definition p (dest p)
    unfolding atom_at
    atom_place p h =
        let far : S ≤ S + p = omega arith in
        let near : S + p < S + n = omega arith in
        let back : S + p - S ≡ p = omega arith in
        rw (le-ltb (S + p) S far, lt-ltb (S + p) (S + n) near, back)

    pub atom_zero : atom_at n S dest c (S + n) ≡ Integer 0
    unfolding atom_at
    atom_zero =
        let far : S ≤ S + n = omega arith in
        let here : S + n ≤ S + n = omega arith in
        rw (le-ltb (S + n) S far, le-ltb (S + n) (S + n) here, eq-eqb (S + n) (S + n) refl)

    pub atom_constant : (j : ℕ) → atom_at n S dest c (S + n + 1 + j) ≡ key_atom (key_at c n j)
    unfolding atom_at
    atom_constant j =
        let far : S ≤ S + n + 1 + j = omega arith in
        let past : S + n ≤ S + n + 1 + j = omega arith in
        let other : S + n + 1 + j ≡ S + n → ⊥ = λ e. omega arith in
        let back : S + n + 1 + j - (S + n + 1) ≡ j = omega arith in
        rw (le-ltb (S + n + 1 + j) S far, le-ltb (S + n + 1 + j) (S + n) past, ne_eqb (S + n + 1 + j) (S + n) other, back)

    -- the known integer of a number is that of its value
    pub integer_at_lem : (d : ℕ) → integer_at n S c d ≡ integer_of (atom_at n S dest c d)
    unfolding integer_at atom_at integer_of key_atom
    integer_at_lem d = go (ltb d S) refl (ltb d (S + n)) refl (eqb d (S + n)) (eqb (key_at c n (d - (S + n + 1))).right 0)
      where
        go : (a : Bool) → ltb d S ≡ a → (b : Bool) → ltb d (S + n) ≡ b → (e f : Bool)
            → cond b None (cond e (Some 0) (cond f (Some (key_at c n (d - (S + n + 1))).left) None))
            ≡ integer_of (cond a (Definition at_start d) (cond b (Definition (d - S) (dest (d - S))) (cond e (Integer 0) (cond f (Integer (key_at c n (d - (S + n + 1))).left) (Float (key_at c n (d - (S + n + 1))).left)))))
        go true g true h e f = refl
        go true g false h e f =
            let x : d < S = ltb-true d S g in
            let y : S + n ≤ d = ltb-false d (S + n) h in
            absurd (omega arith)
        go false g true h e f = refl
        go false g false h true f = refl
        go false g false h false true = refl
        go false g false h false false = refl

  -- the number of a value: what finds a number again
  unfoldable number_of : Memory → Atom → ℕ
  number_of m (Integer x) = cond (eqb x 0) (S + n) (S + n + newest m.constant_table n m.constants (constant_key 0 x))
  number_of m (Float x) = S + n + newest m.constant_table n m.constants (constant_key 1 x)
  number_of m (Definition p s) = cond (ltb p n) (S + p) s

  module _ (few : n ≤ 65536) (dest : ℕ → ℕ) {m : Memory} (o : Ordered n S m) where
    -- a constant with its entry
    constant_found : (k : Key) (j : ℕ) → k.right ≤ 1 → (k ≡ constant_key 0 0 → ⊥) → newest m.constant_table n m.constants k ≡ j → number_of m (key_atom k) ≡ S + n + j
    unfolding number_of key_atom
    constant_found k j kind other e = go (eqb k.right 0) refl
      where
        zero : (t : Bool) → eqb k.left 0 ≡ t → k.right ≡ 0 → cond t (S + n) (S + n + newest m.constant_table n m.constants (constant_key 0 k.left)) ≡ S + n + j
        zero true f g = absurd (other (key_both k (eqb-true k.left 0 f) g))
        zero false f g = rw (← g) (ap (λ (x : ℕ). S + n + x) e)

        go : (t : Bool) → eqb k.right 0 ≡ t → number_of m (cond t (Integer k.left) (Float k.left)) ≡ S + n + j
        go true f = zero (eqb k.left 0) refl (eqb-true k.right 0 f)
        go false f =
            let one : k.right ≡ 1 = let z = eqb-false k.right 0 f in omega arith in
            rw (← one) (ap (λ (x : ℕ). S + n + x) e)

    number_again : (d : ℕ) → d < limit n S m → number_of m (atom_in n S dest m d) ≡ d
    unfolding number_of
    number_again d h = start (ltb d S) refl
      where
        constant : (j : ℕ) → d ≡ S + n + 1 + j → number_of m (atom_in n S dest m d) ≡ d
        constant j e =
            let low : j < m.constants = omega arith in
            rw (e, atom_constant dest m.constant_table j)
            (constant_found (key_at m.constant_table n j) (suc j) (o.kinds j low) (o.not_zero j low) (o.constants.once j low) ∙ omega arith)

        zero : (t : Bool) → eqb d (S + n) ≡ t → S + n ≤ d → number_of m (atom_in n S dest m d) ≡ d
        zero true e l = let z : d ≡ S + n = eqb-true d (S + n) e in rw (z, atom_zero dest m.constant_table)
        zero false e l = let z = eqb-false d (S + n) e in constant (d - (S + n + 1)) (omega arith)

        place : (t : Bool) → ltb d (S + n) ≡ t → S ≤ d → number_of m (atom_in n S dest m d) ≡ d
        place true e l =
            let below : d < S + n = ltb-true d (S + n) e in
            let at : d ≡ S + (d - S) = omega arith in
            let p : d - S < n = omega arith in
            ap (λ (x : ℕ). number_of m (atom_in n S dest m x)) at ∙ rw (atom_place dest m.constant_table (d - S) p, lt-ltb (d - S) n p) (sym at)
        place false e l = zero (eqb d (S + n)) refl (ltb-false d (S + n) e)

        start : (t : Bool) → ltb d S ≡ t → number_of m (atom_in n S dest m d) ≡ d
        start true e =
            let low : d < S = ltb-true d S e in
            let far : n ≤ at_start = omega arith in
            rw (atom_start dest m.constant_table d low, le-ltb at_start n far)
        start false e = place (ltb d (S + n)) refl (ltb-false d S e)

    -- equal values have equal numbers
    pub same_number : (d e : ℕ) → d < limit n S m → e < limit n S m → same_atom (atom_in n S dest m d) (atom_in n S dest m e) ≡ eqb d e
    same_number d e h g =
        same_bool (same_atom (atom_in n S dest m d) (atom_in n S dest m e)) (eqb d e)
        (λ q. eq-eqb d e (sym (number_again d h) ∙ ap (number_of m) (same_atom_lem (atom_in n S dest m d) (atom_in n S dest m e) q) ∙ number_again e g))
        (λ q. rw (eqb-true d e q) (atom_same (atom_in n S dest m e)))

    -- a constant without an entry has no number
    pub no_number : (k : Key) → k.right ≤ 1 → (k ≡ constant_key 0 0 → ⊥) → newest m.constant_table n m.constants k ≡ 0 → (d : ℕ) → d < limit n S m → atom_in n S dest m d ≡ key_atom k → ⊥
    unfolding key_atom
    no_number k kind other e d h q =
        let at : d ≡ S + n + 0 = sym (number_again d h) ∙ ap (number_of m) q ∙ constant_found k 0 kind other e in
        let here : d ≡ S + n = omega arith in
        let zero : Integer 0 ≡ key_atom k = sym (atom_zero dest m.constant_table) ∙ ap (atom_in n S dest m) (sym here) ∙ q in
        go (eqb k.right 0) refl zero
      where
        go : (t : Bool) → eqb k.right 0 ≡ t → Integer 0 ≡ cond t (Integer k.left) (Float k.left) → ⊥
        go true f z = let x : 0 ≡ k.left = cc in other (key_both k (sym x) (eqb-true k.right 0 f))
        go false f z = let x : ◌≡◌ {A = ℕ} 0 1 = cc in absurd (omega arith)
