-- A constant or an expression more: the memory is in order and holds the table of values with it.
-- Assumes nothing.
use Rattle.std.proofs.Common.{◌≡◌, ℕ, zero, suc, ◌+◌, ◌-◌, ◌*◌, ◌/◌, ◌%◌, ◌<◌, ◌≤◌, Bool, true, false, cond, ◌&&◌, eqb, ltb, List, ◌∷◌, get_or, sym, refl, ap, ◌∙◌, arith, ltb-false, ltb-true, eq-eqb, eqb-true}
use borrow.Author.Tests.{eqb-false}
use Rattle.words.specs.laws.Truth.{both, same_bool}
use Rattle.values.specs.Values.{Values, Expression, expression_in, same_atom, same_expression, learn}
use Rattle.values.specs.laws.Entries.{Key, key_at, value, newest, same_key, Added}
use Rattle.values.specs.laws.Search.{same_key_lem, key_same, newest_le, newest_key}
use Rattle.values.specs.laws.Lowest.{same_atom_lem}
use Rattle.values.specs.laws.Memory.{Memory, number_at, bounds_of, key_atom, constant_key, expression_key, limit, expression_if, expression_at, Ordered, atom_in, atom_found, HasNumber, Holds}
use Rattle.values.specs.declared.Atom.{Atom}
use Rattle.std.specs.Prelude.{Some, None, Option}
use Rattle.values.proofs.Atoms.{atom_start, atom_place, atom_zero, atom_constant, same_number, no_number}
use Rattle.values.proofs.Holding.{number_same, grown, taught, small}

module _ (n S : ℕ) (few : n ≤ 65536) where
  -- ---- the key of an expression: its digits are in it
  module _ (op flags left right : ℕ) (a : op < 256) (b : flags < 256) (c : left < 16777216) where
    pub key_left : (op + 256 * flags + 65536 * left + 1099511627776 * right) / 65536 % 16777216 ≡ left
    key_left =
        let x : ℕ = op + 256 * flags in
        let e : (op + 256 * flags + 65536 * left + 1099511627776 * right) / 65536 ≡ left + 16777216 * right = omega arith in
        rw e (omega arith)

    pub key_right : (op + 256 * flags + 65536 * left + 1099511627776 * right) / 1099511627776 ≡ right
    key_right = omega arith

  -- the bounds of a slot's number, where all bounds are as they were
  kept_bounds : {m : Memory} (o : Ordered n S m) (bounds : ℕ → ℕ) → ((x : ℕ) → x < 2 * (S + 2 * n + 1) → bounds x ≡ m.bounds x) → (types : List ℕ) (r : ℕ) → r < S
      → bounds (bounds_of (number_at m r) (get_or types r 0)) ≡ m.bounds (bounds_of (number_at m r) (get_or types r 0))
  kept_bounds {m} o bounds same types r l = let f = o.slots_low r l in let g = o.few_constants in same (bounds_of (number_at m r) (get_or types r 0)) (omega arith)

  -- ---- a constant more, with the next number
  module _ {m : Memory} (o : Ordered n S m) (k : Key) (kind : k.right ≤ 1) (other : k ≡ constant_key 0 0 → ⊥) (new : newest m.constant_table n m.constants k ≡ 0) (room : m.constants < n)
      (u : List ℕ) (g : Added m.constant_table u n m.epoch m.constants k 0) (slot bounds : ℕ → ℕ)
      (slots : (r : ℕ) → r < S → slot r ≡ m.slot r) (bounds-same : (x : ℕ) → x < 2 * (S + 2 * n + 1) → bounds x ≡ m.bounds x) where
    abbrev more : Memory
    more = grown m slot bounds u

    abbrev next : ℕ
    next = S + n + 1 + m.constants

    kept_number : (r : ℕ) → r < S → number_at more r ≡ number_at m r
    kept_number r l = number_same m more r refl (slots r l)

    -- the keys of the entries, with the new one
    entries : (P : ℕ → Key → Type 0) → P m.constants k → ((j : ℕ) → j < m.constants → P j (key_at m.constant_table n j)) → (j : ℕ) → j < m.constants + 1 → P j (key_at u n j)
    entries P h f j l = go (eqb j m.constants) refl
      where
        go : (t : Bool) → eqb j m.constants ≡ t → P j (key_at u n j)
        go true q = rw (eqb-true j m.constants q, g.is_key) h
        go false q = let z = eqb-false j m.constants q in let y : j < m.constants = omega arith in rw (g.keys j y) (f j y)

    pub more_ordered : Ordered n S (grown m slot bounds u)
    more_ordered =
        record {
          locals = o.locals;
          constants = g.linked;
          expressions = o.expressions;
          few_constants = omega arith;
          few_expressions = o.few_expressions;
          slots_past = λ r l. rw (slots r l) (o.slots_past r l);
          bounds_past = λ x l. rw (bounds-same x l) (o.bounds_past x l);
          bounds_low = λ x l. rw (bounds-same x l) (o.bounds_low x l);
          slots_low = λ r l. rw (kept_number r l) (omega (arith, o.slots_low r l));
          values_low = λ j l. omega (arith, o.values_low j l);
          lefts_low = λ j l. omega (arith, o.lefts_low j l);
          rights_low = λ j l. omega (arith, o.rights_low j l);
          not_zero = entries (λ j l. l ≡ constant_key 0 0 → ⊥) other o.not_zero;
          kinds = entries (λ j l. l.right ≤ 1) kind o.kinds;
        }

    module _ (dest : ℕ → ℕ) where
      -- the new number has the constant, the others what they had
      pub atom_next : atom_in n S dest more (S + n + 1 + m.constants) ≡ key_atom k
      atom_next = atom_constant n S dest u m.constants ∙ ap key_atom g.is_key

      pub atom_kept : (d : ℕ) → d < limit n S m → atom_in n S dest more d ≡ atom_in n S dest m d
      atom_kept d l = start (ltb d S) refl
        where
          constant : (j : ℕ) → d ≡ S + n + 1 + j → atom_in n S dest more d ≡ atom_in n S dest m d
          constant j e =
              let y : j < m.constants = omega arith in
              rw e (atom_constant n S dest u j ∙ ap key_atom (g.keys j y) ∙ sym (atom_constant n S dest m.constant_table j))

          zeroed : (t : Bool) → eqb d (S + n) ≡ t → S + n ≤ d → atom_in n S dest more d ≡ atom_in n S dest m d
          zeroed true e f = rw (eqb-true d (S + n) e) (atom_zero n S dest u ∙ sym (atom_zero n S dest m.constant_table))
          zeroed false e f = let z = eqb-false d (S + n) e in constant (d - (S + n + 1)) (omega arith)

          place : (t : Bool) → ltb d (S + n) ≡ t → S ≤ d → atom_in n S dest more d ≡ atom_in n S dest m d
          place true e f =
              let below : d < S + n = ltb-true d (S + n) e in
              let at : d ≡ S + (d - S) = omega arith in
              let p : d - S < n = omega arith in
              ap (atom_in n S dest more) at ∙ atom_place n S dest u (d - S) p ∙ sym (atom_place n S dest m.constant_table (d - S) p) ∙ ap (atom_in n S dest m) (sym at)
          place false e f = zeroed (eqb d (S + n)) refl (ltb-false d (S + n) e)

          start : (t : Bool) → ltb d S ≡ t → atom_in n S dest more d ≡ atom_in n S dest m d
          start true e = let y : d < S = ltb-true d S e in atom_start n S dest u d y ∙ sym (atom_start n S dest m.constant_table d y)
          start false e = place (ltb d (S + n)) refl (ltb-false d S e)

      -- a value that had a number still has it, and the constant had none
      renumbered : {w : Atom} → HasNumber n S dest m w → HasNumber n S dest more w
      renumbered z = record { number = z.number; low = omega (arith, z.low); is = atom_kept z.number z.low ∙ z.is }

      unnumbered : {w : Atom} → w ≡ key_atom k → HasNumber n S dest m w → ⊥
      unnumbered e z = no_number n S few dest o k kind other new z.number z.low (z.is ∙ e)

      not_some : {A : Type 0} (x : Option A) → ((y : A) → x ≡ Some y → ⊥) → x ≡ None
      not_some (Some y) f = absurd (f y refl)
      not_some None f = refl

      -- each number is an old one or the new one
      numbers : (P : ℕ → Type 0) → P (S + n + 1 + m.constants) → ((d : ℕ) → d < limit n S m → P d) → (d : ℕ) → d < limit n S more → P d
      numbers P h f d l = go (eqb d next) refl
        where
          go : (t : Bool) → eqb d next ≡ t → P d
          go true q = rw (eqb-true d next q) h
          go false q = let z = eqb-false d next q in f d (omega arith)

      module _ (types : List ℕ) {v : Values} (h : Holds n S types dest v m) where
        -- an expression of the new number is not known
        abbrev asked : ℕ → ℕ → ℕ → ℕ → Type 0
        asked op flags left right =
            atom_found n S dest more (expression_at n S more (expression_key op flags left right))
            ≡ expression_in v.expressions (record { opcode = op; flags = flags; left = atom_in n S dest more left; right = atom_in n S dest more right })

        not_found : (x : ℕ) → ((j : ℕ) → x ≡ suc j → ⊥) → x ≡ 0
        not_found zero f = refl
        not_found (suc j) f = absurd (f j refl)

        unknown : (op flags left right : ℕ)
            → ((j : ℕ) → newest m.expression_table n m.expressions (expression_key op flags left right) ≡ suc j → ⊥)
            → ((w : Atom) → expression_in v.expressions (record { opcode = op; flags = flags; left = atom_in n S dest more left; right = atom_in n S dest more right }) ≡ Some w → ⊥)
            → asked op flags left right
        unfolding atom_found expression_if
        unknown op flags left right f q =
            rw (not_found (newest m.expression_table n m.expressions (expression_key op flags left right)) f)
            (sym (not_some (expression_in v.expressions (record { opcode = op; flags = flags; left = atom_in n S dest more left; right = atom_in n S dest more right })) q))

        -- an expression of old numbers is what it was
        found_more : (f : Option ℕ) → ((d : ℕ) → f ≡ Some d → d < limit n S m) → atom_found n S dest more f ≡ atom_found n S dest m f
        unfolding atom_found
        found_more (Some d) l = ap Some (atom_kept d (l d refl))
        found_more None l = refl

        value_used : (x : ℕ) → x ≤ m.expressions → (d : ℕ) → expression_if n S m.expression_table x ≡ Some d → d < limit n S m
        unfolding expression_if
        value_used zero l d e = let z : ◌≡◌ {A = ℕ} 0 1 = cc in absurd (omega arith)
        value_used (suc j) l d e =
            let z : value m.expression_table n j ≡ d = cc in
            let y : j < m.expressions = omega arith in
            rw (← z) (o.values_low j y)

        expressions_more : (op flags left right : ℕ) → op < 256 → flags < 256 → left < limit n S more → right < limit n S more → asked op flags left right
        expressions_more op flags left right a b c d =
            numbers (λ x. asked op flags x right) new_left
            (λ x l. numbers (λ y. asked op flags x y) (new_right x l) (λ y f. old x y l f) right d) left c
          where
            big : next ≤ 196608
            big = let x = o.locals in let y = o.few_constants in omega arith

            new_left : asked op flags next right
            new_left =
                unknown op flags next right
                (λ j q.
                let found = newest_key m.expression_table n (expression_key op flags next right) m.expressions j q in
                let digit : (key_at m.expression_table n j).left / 65536 % 16777216 ≡ next
                = ap (λ (x : Key). x.left / 65536 % 16777216) found.1 ∙ key_left op flags next right a b (omega (arith, big)) in
                omega (arith, o.lefts_low j found.0))
                (λ w q. unnumbered atom_next (h.left_numbered (record { opcode = op; flags = flags; left = atom_in n S dest more next; right = atom_in n S dest more right }) w q))

            new_right : (x : ℕ) → x < limit n S m → asked op flags x next
            new_right x l =
                unknown op flags x next
                (λ j q.
                let found = newest_key m.expression_table n (expression_key op flags x next) m.expressions j q in
                let digit : (key_at m.expression_table n j).left / 1099511627776 ≡ next
                = ap (λ (y : Key). y.left / 1099511627776) found.1 ∙ key_right op flags x next a b (omega (arith, big)) in
                omega (arith, o.rights_low j found.0))
                (λ w q. unnumbered atom_next (h.right_numbered (record { opcode = op; flags = flags; left = atom_in n S dest more x; right = atom_in n S dest more next }) w q))

            old : (x y : ℕ) → x < limit n S m → y < limit n S m → asked op flags x y
            old x y l f =
                let bound : newest m.expression_table n m.expressions (expression_key op flags x y) ≤ m.expressions = newest_le m.expression_table n (expression_key op flags x y) m.expressions in
                rw (atom_kept x l, atom_kept y f)
                (found_more (expression_at n S m (expression_key op flags x y)) (value_used (newest m.expression_table n m.expressions (expression_key op flags x y)) bound)
                ∙ h.expressions op flags x y a b l f)

        pub more_holds : Holds n S types dest v (grown m slot bounds u)
        more_holds =
            record {
              slots = λ r l. rw (kept_number r l, atom_kept (number_at m r) (o.slots_low r l)) (h.slots r l);
              first = λ r l. rw (kept_number r l, kept_bounds o bounds bounds-same types r l) (h.first r l);
              end = λ r l. rw (kept_number r l, kept_bounds o bounds bounds-same types r l) (h.end r l);
              expressions = expressions_more;
              left_numbered = λ e w q. renumbered (h.left_numbered e w q);
              right_numbered = λ e w q. renumbered (h.right_numbered e w q);
            }

  -- ---- an expression more
  module _ {m : Memory} (o : Ordered n S m) (op flags left right d : ℕ) (a : op < 256) (b : flags < 256) (l : left < limit n S m) (r : right < limit n S m) (used : d < limit n S m)
      (room : m.expressions < n) (u : List ℕ) (g : Added m.expression_table u n m.epoch m.expressions (expression_key op flags left right) d) (slot bounds : ℕ → ℕ)
      (slots : (s : ℕ) → s < S → slot s ≡ m.slot s) (bounds-same : (x : ℕ) → x < 2 * (S + 2 * n + 1) → bounds x ≡ m.bounds x) where
    abbrev learnt : Memory
    learnt = taught m slot bounds u

    big_left : left < 16777216
    big_left = omega (arith, small n S few o)

    -- the entries, with the new one
    terms : (P : ℕ → Key → ℕ → Type 0) → P m.expressions (expression_key op flags left right) d
        → ((j : ℕ) → j < m.expressions → P j (key_at m.expression_table n j) (value m.expression_table n j)) → (j : ℕ) → j < m.expressions + 1 → P j (key_at u n j) (value u n j)
    terms P h f j y = go (eqb j m.expressions) refl
      where
        go : (t : Bool) → eqb j m.expressions ≡ t → P j (key_at u n j) (value u n j)
        go true q = rw (eqb-true j m.expressions q, g.is_key, g.is_value) h
        go false q = let z = eqb-false j m.expressions q in let x : j < m.expressions = omega arith in rw (g.keys j x, g.values j x) (f j x)

    pub learn_ordered : Ordered n S (taught m slot bounds u)
    learn_ordered =
        record {
          locals = o.locals;
          constants = o.constants;
          expressions = g.linked;
          few_constants = o.few_constants;
          few_expressions = omega arith;
          slots_past = λ s y. rw (slots s y) (o.slots_past s y);
          bounds_past = λ x y. rw (bounds-same x y) (o.bounds_past x y);
          bounds_low = λ x y. rw (bounds-same x y) (o.bounds_low x y);
          slots_low = λ s y. rw (number_same m learnt s refl (slots s y)) (o.slots_low s y);
          values_low = terms (λ j x y. y < limit n S m) used (λ j y. o.values_low j y);
          lefts_low = terms (λ j x y. x.left / 65536 % 16777216 < limit n S m) (rw (key_left op flags left right a b big_left) l) (λ j y. o.lefts_low j y);
          rights_low = terms (λ j x y. x.left / 1099511627776 < limit n S m) (rw (key_right op flags left right a b big_left) r) (λ j y. o.rights_low j y);
          not_zero = o.not_zero;
          kinds = o.kinds;
        }

    module _ (types : List ℕ) (dest : ℕ → ℕ) {v : Values} (h : Holds n S types dest v m) where
      abbrev term : ℕ → ℕ → ℕ → ℕ → Expression
      term op flags left right = record { opcode = op; flags = flags; left = atom_in n S dest m left; right = atom_in n S dest m right }

      digits : (o f l o' f' l' r r' : ℕ) → o < 256 → f < 256 → o' < 256 → f' < 256 → l < 16777216 → l' < 16777216
          → o + 256 * f + 65536 * l + 1099511627776 * r ≡ o' + 256 * f' + 65536 * l' + 1099511627776 * r' → (o ≡ o') × (f ≡ f') × (l ≡ l') × (r ≡ r')
      digits o f l o' f' l' r r' a b a' b' c c' e = (omega arith, omega arith, omega arith, omega arith)

      same_term : (op' flags' left' right' : ℕ) → op' < 256 → flags' < 256 → left' < limit n S m → right' < limit n S m
          → same_key (expression_key op flags left right) (expression_key op' flags' left' right') ≡ same_expression (term op flags left right) (term op' flags' left' right')
      unfolding same_expression
      same_term op' flags' left' right' a' b' l' r' =
          rw (same_number n S few dest o left left' l l', same_number n S few dest o right right' r r')
          (same_bool (same_key (expression_key op flags left right) (expression_key op' flags' left' right')) (cond (eqb op op' && eqb flags flags') (eqb left left' && eqb right right') false) there back)
        where
          there : same_key (expression_key op flags left right) (expression_key op' flags' left' right') ≡ true → cond (eqb op op' && eqb flags flags') (eqb left left' && eqb right right') false ≡ true
          there q =
              let e = same_key_lem (expression_key op flags left right) (expression_key op' flags' left' right') q in
              let p = digits op flags left op' flags' left' right right' a b a' b' big_left (omega (arith, small n S few o)) (ap (λ (x : Key). x.left) e) in
              rw (eq-eqb op op' p.0, eq-eqb flags flags' p.1, eq-eqb left left' p.2, eq-eqb right right' p.3)

          apart : (s t x y : Bool) → cond (s && t) (x && y) false ≡ true → (s ≡ true) × (t ≡ true) × (x ≡ true) × (y ≡ true)
          apart true true x y q = let z = both x y q in (refl, refl, z.0, z.1)
          apart true false x y q = let z : ◌≡◌ {A = ℕ} 0 1 = cc in absurd (omega arith)
          apart false t x y q = let z : ◌≡◌ {A = ℕ} 0 1 = cc in absurd (omega arith)

          back : cond (eqb op op' && eqb flags flags') (eqb left left' && eqb right right') false ≡ true → same_key (expression_key op flags left right) (expression_key op' flags' left' right') ≡ true
          back q =
              let p = apart (eqb op op') (eqb flags flags') (eqb left left') (eqb right right') q in
              rw (eqb-true op op' p.0, eqb-true flags flags' p.1, eqb-true left left' p.2, eqb-true right right' p.3) (key_same (expression_key op' flags' left' right'))

      -- the number of the new expression, and those of the others
      found_learnt : (t : Bool) (x : ℕ) → x ≤ m.expressions
          → atom_found n S dest learnt (expression_if n S u (cond t (m.expressions + 1) x)) ≡ cond t (Some (atom_in n S dest m d)) (atom_found n S dest m (expression_if n S m.expression_table x))
      unfolding atom_found expression_if
      found_learnt true x y = rw (one m.expressions, g.is_value)
        where
          one : (z : ℕ) → z + 1 ≡ suc z
          one z = omega arith
      found_learnt false zero y = refl
      found_learnt false (suc j) y = let z : j < m.expressions = omega arith in rw (g.values j z)

      asked_more : (op' flags' left' right' : ℕ) → op' < 256 → flags' < 256 → left' < limit n S m → right' < limit n S m
          → atom_found n S dest learnt (expression_at n S learnt (expression_key op' flags' left' right'))
          ≡ expression_in (record { expression = term op flags left right; value = atom_in n S dest m d } ∷ v.expressions) (term op' flags' left' right')
      unfolding expression_in
      asked_more op' flags' left' right' a' b' l' r' =
          let old : ℕ = newest m.expression_table n m.expressions (expression_key op' flags' left' right') in
          ap (λ (x : ℕ). atom_found n S dest learnt (expression_if n S u x)) (g.answer (expression_key op' flags' left' right'))
          ∙ found_learnt (same_key (expression_key op flags left right) (expression_key op' flags' left' right')) (newest m.expression_table n m.expressions (expression_key op' flags' left' right'))
          (newest_le m.expression_table n (expression_key op' flags' left' right') m.expressions)
          ∙ rw (same_term op' flags' left' right' a' b' l' r', h.expressions op' flags' left' right' a' b' l' r')

      known_more : (P : Expression → Type 0) → P (term op flags left right) → ((e : Expression) (w : Atom) → expression_in v.expressions e ≡ Some w → P e)
          → ((e e' : Expression) → same_expression e e' ≡ true → P e → P e')
          → (e : Expression) (w : Atom) → expression_in (record { expression = term op flags left right; value = atom_in n S dest m d } ∷ v.expressions) e ≡ Some w → P e
      unfolding expression_in
      known_more P p f same e w = go (same_expression (term op flags left right) e) refl
        where
          go : (t : Bool) → same_expression (term op flags left right) e ≡ t → cond t (Some (atom_in n S dest m d)) (expression_in v.expressions e) ≡ Some w → P e
          go true q z = same (term op flags left right) e q p
          go false q z = f e w z

      same_parts : (e e' : Expression) → same_expression e e' ≡ true → (e.left ≡ e'.left) × (e.right ≡ e'.right)
      unfolding same_expression
      same_parts e e' q = go (eqb e.opcode e'.opcode && eqb e.flags e'.flags) (same_atom e.left e'.left) refl (same_atom e.right e'.right) refl q
        where
          go : (s x : Bool) → same_atom e.left e'.left ≡ x → (y : Bool) → same_atom e.right e'.right ≡ y → cond s (x && y) false ≡ true → (e.left ≡ e'.left) × (e.right ≡ e'.right)
          go true x f y k z = let p = both x y z in (same_atom_lem e.left e'.left (f ∙ p.0), same_atom_lem e.right e'.right (k ∙ p.1))
          go false x f y k z = let w : ◌≡◌ {A = ℕ} 0 1 = cc in absurd (omega arith)

      renamed : {w : Atom} → HasNumber n S dest m w → HasNumber n S dest learnt w
      renamed z = record { number = z.number; low = z.low; is = z.is }

      pub learn_holds : Holds n S types dest (learn v (record { opcode = op; flags = flags; left = atom_in n S dest m left; right = atom_in n S dest m right }) (atom_in n S dest m d)) (taught m slot bounds u)
      unfolding learn
      learn_holds =
          record {
            slots = λ s y. rw (number_same m learnt s refl (slots s y)) (h.slots s y);
            first = λ s y. rw (number_same m learnt s refl (slots s y), kept_bounds o bounds bounds-same types s y) (h.first s y);
            end = λ s y. rw (number_same m learnt s refl (slots s y), kept_bounds o bounds bounds-same types s y) (h.end s y);
            expressions = asked_more;
            left_numbered = known_more (λ e. HasNumber n S dest learnt e.left) (record { number = left; low = l; is = refl }) (λ e w q. renamed (h.left_numbered e w q))
                (λ e e' q z. rw (← (same_parts e e' q).0) z);
            right_numbered = known_more (λ e. HasNumber n S dest learnt e.right) (record { number = right; low = r; is = refl }) (λ e w q. renamed (h.right_numbered e w q))
                (λ e e' q z. rw (← (same_parts e e' q).1) z);
          }
