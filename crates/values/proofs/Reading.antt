-- What the look-ups of the table read: the words of the memory, by their places in it.
-- Assumes nothing.
use Rattle.std.specs.Prelude.{None, Some}
use Rattle.std.proofs.Common.{◌≡◌, ℕ, zero, suc, ◌+◌, ◌-◌, ◌*◌, ◌<◌, ◌≤◌, List, get_or, sym, refl, ap, ◌∙◌, arith, le-ltb, lt-ltb, eq-eqb, ne_eqb}
use Rattle.words.specs.laws.Regions.{get_mid}
use Rattle.values.specs.laws.Entries.{Key, key_at, newest}
use Rattle.values.specs.laws.Search.{newest_le}
use Rattle.values.specs.laws.Memory.{constants_at, expressions_at, end_at, Memory, memory_of, number_at, integer_at, expression_if, expression_at, limit, Ready}
use Rattle.values.proofs.Recording.{few}

module _ {n S : ℕ} {t : List ℕ} (g : Ready n S t) where
  abbrev m : Memory
  m = memory_of n S t

  -- numbers are small
  pub number_small : (d : ℕ) → d < limit n S (memory_of n S t) → d < 16777216
  number_small d l = let a = g.order.few_constants in let b = g.order.locals in let c = few g in omega arith

  -- a slot's number
  pub number_read : (s : ℕ) {x : ℕ} → s < S → x ≡ number_at (memory_of n S t) s → (x ≡ number_at (memory_of n S t) s) × (x < limit n S (memory_of n S t))
  number_read s l e = (e, rw e (g.order.slots_low s l))

  -- the known integer of a number: none of a definition, 0, or what its entry says
  pub integer_none : (d : ℕ) → d < S + n → None ≡ integer_at n S (memory_of n S t).constant_table d
  unfolding integer_at
  integer_none d l = rw (lt-ltb d (S + n) l)

  pub integer_zero : (d : ℕ) → d ≡ S + n → Some 0 ≡ integer_at n S (memory_of n S t).constant_table d
  unfolding integer_at
  integer_zero d e = let far : S + n ≤ d = omega arith in rw (le-ltb d (S + n) far, eq-eqb d (S + n) e)

  module _ (d : ℕ) (past : S + n ≤ d) (other : d ≡ S + n → ⊥) (used : d < limit n S (memory_of n S t)) {a : ℕ} (start : a ≡ constants_at n S) where
    abbrev at : ℕ
    at = a + n + 4 * (d - (S + n) - 1)

    abbrev j : ℕ
    j = d - (S + n + 1)

    entry_word : (i : ℕ) → i < 4 → get_or m.constant_table (n + 4 * j + i) 0 ≡ get_or t (at + i) 0
    entry_word i h =
        let c = g.order.few_constants in
        let inside : n + 4 * j + i < expressions_at n S - constants_at n S = omega arith in
        let here : constants_at n S + (n + 4 * j + i) ≡ at + i = omega arith in
        get_mid t (constants_at n S) (expressions_at n S - constants_at n S) (n + 4 * j + i) 0 inside ∙ ap (λ (x : ℕ). get_or t x 0) here

    left_word : (key_at m.constant_table n j).left ≡ get_or t at 0
    left_word =
        let e : n + 4 * j + 0 ≡ n + 4 * j = omega arith in
        let f : at + 0 ≡ at = omega arith in
        ap (λ (x : ℕ). get_or m.constant_table x 0) (sym e) ∙ entry_word 0 (omega arith) ∙ ap (λ (x : ℕ). get_or t x 0) f

    pub integer_entry : get_or t (a + n + 4 * (d - (S + n) - 1) + 1) 0 ≡ 0 → Some (get_or t (a + n + 4 * (d - (S + n) - 1)) 0) ≡ integer_at n S (memory_of n S t).constant_table d
    unfolding integer_at
    integer_entry e = rw (le-ltb d (S + n) past, ne_eqb d (S + n) other, entry_word 1 (omega arith), e, left_word)

    pub float_entry : (get_or t (a + n + 4 * (d - (S + n) - 1) + 1) 0 ≡ 0 → ⊥) → None ≡ integer_at n S (memory_of n S t).constant_table d
    unfolding integer_at
    float_entry e = rw (le-ltb d (S + n) past, ne_eqb d (S + n) other, entry_word 1 (omega arith), ne_eqb (get_or t (a + n + 4 * (d - (S + n) - 1) + 1) 0) 0 e)

  -- the number of an expression's value
  module _ (k : Key) where
    pub expression_none : {f : ℕ} → f ≡ newest (memory_of n S t).expression_table n (memory_of n S t).expressions k → f ≡ 0 → None ≡ expression_at n S (memory_of n S t) k
    unfolding expression_if
    expression_none e q = rw (← e, q)

    pub found_few : {f : ℕ} → f ≡ newest (memory_of n S t).expression_table n (memory_of n S t).expressions k → f ≤ n
    found_few e = let a = g.order.few_expressions in let b = newest_le m.expression_table n k m.expressions in omega arith

    pub expression_value : {a : ℕ} → a ≡ expressions_at n S → (f : ℕ) → f ≡ newest (memory_of n S t).expression_table n (memory_of n S t).expressions k → (f ≡ 0 → ⊥)
        → Some (get_or t (a + n + 4 * (f - 1) + 2) 0) ≡ expression_at n S (memory_of n S t) k
    unfolding expression_if
    expression_value start zero e q = absurd (q refl)
    expression_value {a} start (suc i) e q =
        let b = found_few e in
        let inside : n + 4 * i + 2 < end_at n S - expressions_at n S = omega arith in
        let here : expressions_at n S + (n + 4 * i + 2) ≡ a + n + 4 * (suc i - 1) + 2 = omega arith in
        rw (← e) (ap Some (sym (get_mid t (expressions_at n S) (end_at n S - expressions_at n S) (n + 4 * i + 2) 0 inside ∙ ap (λ (x : ℕ). get_or t x 0) here)))
