-- The memory holds a table of values: after each change of its words it is in order and holds the table with that change.
-- Assumes nothing.
use Rattle.std.proofs.Common.{◌≡◌, ℕ, ◌+◌, ◌*◌, ◌/◌, ◌%◌, ◌<◌, ◌≤◌, Bool, true, false, eqb, List, ◌∷◌, get_or, sym, refl, ◌∙◌, arith, lt-ltb, eq-eqb, ne_eqb, eqb-true}
use borrow.Author.Tests.{eqb-false}
use Rattle.values.specs.Values.{Values, empty, value_in, expression_in, store}
use Rattle.values.specs.laws.Entries.{newest, Linked}
use Rattle.values.specs.laws.Memory.{Memory, number_at, bounds_of, first_of, end_of, expression_key, limit, expression_if, expression_at, Ordered, atom_in, atom_found, Holds}
use Rattle.std.specs.Prelude.{Some, None, Option}
use Rattle.values.proofs.Atoms.{atom_start}

-- ---- the words of slots and bounds

module _ (epoch d : ℕ) (fits : d < 4294967296) where
  abbrev word : ℕ
  word = 4294967296 * epoch + d

  pub word_epoch : (4294967296 * epoch + d) / 4294967296 ≡ epoch
  word_epoch = omega arith

  word_low : word % 4294967296 ≡ d
  word_low = omega arith

  -- what was just stored in a slot
  pub number_stored : (m : Memory) (s : ℕ) → m.epoch ≡ epoch → m.slot s ≡ 4294967296 * epoch + d → number_at m s ≡ d
  unfolding number_at
  number_stored m s e f = rw (f, e, word_epoch, word_low, eq-eqb epoch epoch refl)

pub number_same : (m m' : Memory) (s : ℕ) → m'.epoch ≡ m.epoch → m'.slot s ≡ m.slot s → number_at m' s ≡ number_at m s
unfolding number_at
number_same m m' s e f = rw (e, f)

-- bounds of this epoch, from `low` to `high`
module _ (epoch low high word : ℕ) (is : word ≡ 4294967296 * epoch + 65536 * low + high) (low_fits : low < 65536) (high_fits : high < 65536) where
  pub bounds_epoch : word / 4294967296 ≡ epoch
  bounds_epoch = omega arith

  pub bounds_high : word % 65536 ≡ high
  bounds_high = omega arith

  pub bounds_first : (d : ℕ) → first_of epoch word d ≡ low
  unfolding first_of
  bounds_first d =
      let q : word / 65536 ≡ 65536 * epoch + low = omega arith in
      let e : (65536 * epoch + low) % 65536 ≡ low = omega arith in
      rw (bounds_epoch, eq-eqb epoch epoch refl, q, e)

  pub bounds_end : (S d : ℕ) → end_of S epoch word d ≡ high + 1
  unfolding end_of
  bounds_end S d = rw (bounds_epoch, eq-eqb epoch epoch refl, bounds_high)

-- ---- memories that differ from another one in some words

abbrev pub turned : Memory → (ℕ → ℕ) → (ℕ → ℕ) → Memory
turned m slot bounds =
    record {
      epoch = m.epoch;
      constants = m.constants;
      expressions = m.expressions;
      slot = slot;
      bounds = bounds;
      constant_table = m.constant_table;
      expression_table = m.expression_table;
    }

-- with one constant more
abbrev pub grown : Memory → (ℕ → ℕ) → (ℕ → ℕ) → List ℕ → Memory
grown m slot bounds u =
    record {
      epoch = m.epoch;
      constants = m.constants + 1;
      expressions = m.expressions;
      slot = slot;
      bounds = bounds;
      constant_table = u;
      expression_table = m.expression_table;
    }

-- with one expression more
abbrev pub taught : Memory → (ℕ → ℕ) → (ℕ → ℕ) → List ℕ → Memory
taught m slot bounds u =
    record {
      epoch = m.epoch;
      constants = m.constants;
      expressions = m.expressions + 1;
      slot = slot;
      bounds = bounds;
      constant_table = m.constant_table;
      expression_table = u;
    }

module _ (n S : ℕ) (few : n ≤ 65536) where
  -- numbers are small
  pub small : {m : Memory} → Ordered n S m → limit n S m ≤ 196609
  small o = let a = o.locals in let b = o.few_constants in omega arith

  -- ---- bounds x are now w, and some slots may have other numbers
  module _ {m : Memory} (o : Ordered n S m) (slot bounds : ℕ → ℕ) (x w : ℕ) (here : bounds x ≡ w) (there : (y : ℕ) → (y ≡ x → ⊥) → bounds y ≡ m.bounds y) where
    abbrev new : Memory
    new = turned m slot bounds

    -- what holds of w and of the other bounds
    bounds_by : (P : ℕ → ℕ → Type 0) → P x w → ((y : ℕ) → P y (m.bounds y)) → (y : ℕ) → P y (bounds y)
    bounds_by P h f y = go (eqb y x) refl
      where
        go : (t : Bool) → eqb y x ≡ t → P y (bounds y)
        go true q = rw (eqb-true y x q, here) h
        go false q = rw (there y (eqb-false y x q)) (f y)

    pub turned_ordered : (w / 4294967296 ≡ m.epoch) → w % 65536 < S → ((r : ℕ) → r < S → slot r / 4294967296 ≤ m.epoch)
        → ((r : ℕ) → r < S → number_at (turned m slot bounds) r < limit n S m) → Ordered n S (turned m slot bounds)
    turned_ordered now inside slots_past slots_low =
        record {
          locals = o.locals;
          constants = o.constants;
          expressions = o.expressions;
          few_constants = o.few_constants;
          few_expressions = o.few_expressions;
          slots_past = slots_past;
          bounds_past = bounds_by (λ y z. y < 2 * (S + 2 * n + 1) → z / 4294967296 ≤ m.epoch) (λ l. omega arith) o.bounds_past;
          bounds_low = bounds_by (λ y z. y < 2 * (S + 2 * n + 1) → z / 4294967296 ≡ m.epoch → z % 65536 < S) (λ l e. inside) o.bounds_low;
          slots_low = slots_low;
          values_low = o.values_low;
          lefts_low = o.lefts_low;
          rights_low = o.rights_low;
          not_zero = o.not_zero;
          kinds = o.kinds;
        }

    module _ (types : List ℕ) (dest : ℕ → ℕ) {v : Values} (h : Holds n S types dest v m) where
      abbrev index : ℕ → ℕ
      index r = bounds_of (number_at new r) (get_or types r 0)

      found_same : (f : Option ℕ) → atom_found n S dest new f ≡ atom_found n S dest m f
      unfolding atom_found
      found_same (Some d) = refl
      found_same None = refl

      -- the slots that w is of lie within it, and the others have their numbers
      pub turned_holds : {v' : Values} → v'.expressions ≡ v.expressions
          → ((r : ℕ) → r < S → atom_in n S dest m (number_at (turned m slot bounds) r) ≡ value_in v'.slots r)
          → ((r : ℕ) → r < S → bounds_of (number_at (turned m slot bounds) r) (get_or types r 0) ≡ x
          → (first_of m.epoch w (number_at (turned m slot bounds) r) ≤ r) × (r < end_of S m.epoch w (number_at (turned m slot bounds) r)))
          → ((r : ℕ) → r < S → (bounds_of (number_at (turned m slot bounds) r) (get_or types r 0) ≡ x → ⊥) → number_at (turned m slot bounds) r ≡ number_at m r)
          → Holds n S types dest v' (turned m slot bounds)
      turned_holds {v'} same values inside others =
          record {
            slots = values;
            first = λ r l. (within r l (eqb (index r) x) refl).0;
            end = λ r l. (within r l (eqb (index r) x) refl).1;
            expressions = λ op flags left right a b c d. rw same (found_same (expression_at n S m (expression_key op flags left right)) ∙ h.expressions op flags left right a b c d);
            left_numbered = λ e u q. let z = h.left_numbered e u (rw same at q) in record { number = z.number; low = z.low; is = z.is };
            right_numbered = λ e u q. let z = h.right_numbered e u (rw same at q) in record { number = z.number; low = z.low; is = z.is };
          }
        where
          within : (r : ℕ) → r < S → (b : Bool) → eqb (index r) x ≡ b
              → (first_of m.epoch (bounds (index r)) (number_at new r) ≤ r) × (r < end_of S m.epoch (bounds (index r)) (number_at new r))
          within r l true q = let e : index r ≡ x = eqb-true (index r) x q in rw (e, here) (inside r l e)
          within r l false q =
              let e = eqb-false (index r) x q in
              rw (there (index r) e, others r l e) (h.first r l, h.end r l)

  -- ---- a number stored in a slot, and bounds that reach to it
  module _ {m : Memory} (o : Ordered n S m) (s d type low high : ℕ) (is-slot : s < S) (used : d < limit n S m) (low_s : low ≤ s) (s-high : s ≤ high) (high-low : high < S)
      (slot bounds : ℕ → ℕ) (here : slot s ≡ 4294967296 * m.epoch + d) (there : (r : ℕ) → r < S → (r ≡ s → ⊥) → slot r ≡ m.slot r)
      (bounds_here : bounds (bounds_of d type) ≡ 4294967296 * m.epoch + 65536 * low + high) (bounds_there : (y : ℕ) → (y ≡ bounds_of d type → ⊥) → bounds y ≡ m.bounds y) where
    abbrev put : Memory
    put = turned m slot bounds

    abbrev w : ℕ
    w = 4294967296 * m.epoch + 65536 * low + high

    narrow : d < 4294967296
    narrow = omega (arith, small o)

    low_fits : low < 65536
    low_fits = let a = o.locals in omega arith

    high_fits : high < 65536
    high_fits = let a = o.locals in omega arith

    stored_here : number_at put s ≡ d
    stored_here = number_stored m.epoch d narrow put s refl here

    stored_there : (r : ℕ) → r < S → (r ≡ s → ⊥) → number_at put r ≡ number_at m r
    stored_there r l g = number_same m put r refl (there r l g)

    -- what holds of slot s and of the others
    slots_put : (P : ℕ → ℕ → Type 0) → P s d → ((r : ℕ) → r < S → (r ≡ s → ⊥) → P r (number_at m r)) → (r : ℕ) → r < S → P r (number_at put r)
    slots_put P h f r l = go (eqb r s) refl
      where
        go : (t : Bool) → eqb r s ≡ t → P r (number_at put r)
        go true q = rw (eqb-true r s q, stored_here) h
        go false q = rw (stored_there r l (eqb-false r s q)) (f r l (eqb-false r s q))

    past_put : (r : ℕ) → r < S → slot r / 4294967296 ≤ m.epoch
    past_put r l = go (eqb r s) refl
      where
        go : (t : Bool) → eqb r s ≡ t → slot r / 4294967296 ≤ m.epoch
        go true q = rw (eqb-true r s q, here) (omega (arith, word_epoch m.epoch d narrow))
        go false q = rw (there r l (eqb-false r s q)) (o.slots_past r l)

    pub put_ordered : Ordered n S (turned m slot bounds)
    put_ordered =
        turned_ordered o slot bounds (bounds_of d type) w bounds_here bounds_there (bounds_epoch m.epoch low high w refl low_fits high_fits)
        (rw (bounds_high m.epoch low high w refl low_fits high_fits) high-low) past_put
        (slots_put (λ r x. x < limit n S m) used (λ r l g. o.slots_low r l))

    -- the slots of the group that held number d before lie within the bounds
    pub put_holds : (types : List ℕ) (dest : ℕ → ℕ) {v : Values} → get_or types s 0 ≡ type → Holds n S types dest v m
        → ((r : ℕ) → r < S → number_at m r ≡ d → get_or types r 0 % 2 ≡ type % 2 → (low ≤ r) × (r ≤ high))
        → Holds n S types dest (store v s (atom_in n S dest m d)) (turned m slot bounds)
    unfolding store value_in
    put_holds types dest {v} is h cover =
        turned_holds o slot bounds (bounds_of d type) w bounds_here bounds_there types dest h refl
        (slots_put (λ r x. atom_in n S dest m x ≡ value_in (record { slot = s; value = atom_in n S dest m d } ∷ v.slots) r)
        (rw (eq-eqb s s refl)) (λ r l g. rw (ne_eqb s r (λ e. g (sym e))) (h.slots r l)))
        (λ r l e. rw (bounds_first m.epoch low high w refl low_fits high_fits (number_at put r), bounds_end m.epoch low high w refl low_fits high_fits S (number_at put r)) (inside r l e))
        (λ r l e. stored_there r l (λ q. e (rw (q, stored_here, is))))
      where
        apart : (a b c e : ℕ) → 2 * a + c % 2 ≡ 2 * b + e % 2 → (a ≡ b) × (c % 2 ≡ e % 2)
        apart a b c e q = (omega arith, omega arith)

        inside : (r : ℕ) → r < S → bounds_of (number_at put r) (get_or types r 0) ≡ bounds_of d type → (low ≤ r) × (r < high + 1)
        inside =
            slots_put (λ r x. bounds_of x (get_or types r 0) ≡ bounds_of d type → (low ≤ r) × (r < high + 1)) (λ e. (low_s, omega arith))
            (λ r l g e. let q = apart (number_at m r) d (get_or types r 0) type e in let c = cover r l q.0 q.1 in (c.0, omega (arith, c.1)))

  -- ---- the first slot of some bounds raised
  module _ {m : Memory} (o : Ordered n S m) (x low high : ℕ) (low_narrow : low < 65536) (high-low : high < S)
      (slot bounds : ℕ → ℕ) (slots : (r : ℕ) → r < S → slot r ≡ m.slot r)
      (here : bounds x ≡ 4294967296 * m.epoch + 65536 * low + high) (there : (y : ℕ) → (y ≡ x → ⊥) → bounds y ≡ m.bounds y) where
    abbrev raised : Memory
    raised = turned m slot bounds

    abbrev z : ℕ
    z = 4294967296 * m.epoch + 65536 * low + high

    high_narrow : high < 65536
    high_narrow = let a = o.locals in omega arith

    number : (r : ℕ) → r < S → number_at raised r ≡ number_at m r
    number r l = number_same m raised r refl (slots r l)

    pub raise_ordered : Ordered n S (turned m slot bounds)
    raise_ordered =
        turned_ordered o slot bounds x z here there (bounds_epoch m.epoch low high z refl low_narrow high_narrow)
        (rw (bounds_high m.epoch low high z refl low_narrow high_narrow) high-low) (λ r l. rw (slots r l) (o.slots_past r l)) (λ r l. rw (number r l) (o.slots_low r l))

    pub raise_holds : (types : List ℕ) (dest : ℕ → ℕ) {v : Values} → Holds n S types dest v m
        → ((r : ℕ) → r < S → bounds_of (number_at m r) (get_or types r 0) ≡ x → (low ≤ r) × (r ≤ high))
        → Holds n S types dest v (turned m slot bounds)
    raise_holds types dest {v} h cover =
        turned_holds o slot bounds x z here there types dest h refl (λ r l. rw (number r l) (h.slots r l))
        (λ r l e.
        let c = cover r l (rw (number r l) at e) in
        rw (bounds_first m.epoch low high z refl low_narrow high_narrow (number_at raised r), bounds_end m.epoch low high z refl low_narrow high_narrow S (number_at raised r)) (c.0, omega (arith, c.1)))
        (λ r l e. number r l)

  -- ---- nothing is known where all is of an earlier epoch
  module _ (m : Memory) (locals : S ≤ 65536) (constants : m.constants ≡ 0) (expressions : m.expressions ≡ 0)
      (linked : Linked m.constant_table n m.epoch 0) (terms-linked : Linked m.expression_table n m.epoch 0)
      (slots : (s : ℕ) → s < S → m.slot s / 4294967296 < m.epoch) (bounds : (x : ℕ) → x < 2 * (S + 2 * n + 1) → m.bounds x / 4294967296 < m.epoch) where
    own : (s : ℕ) → s < S → number_at m s ≡ s
    unfolding number_at
    own s l = let f = slots s l in rw (ne_eqb (m.slot s / 4294967296) m.epoch (λ e. omega arith))

    pub nothing_ordered : Ordered n S m
    nothing_ordered =
        record {
          locals = locals;
          constants = rw constants linked;
          expressions = rw expressions terms-linked;
          few_constants = omega arith;
          few_expressions = omega arith;
          slots_past = λ s l. let f = slots s l in omega arith;
          bounds_past = λ x l. let f = bounds x l in omega arith;
          bounds_low = λ x l e. let f = bounds x l in absurd (omega arith);
          slots_low = λ s l. rw (own s l) (omega arith);
          values_low = λ j l. absurd (omega arith);
          lefts_low = λ j l. absurd (omega arith);
          rights_low = λ j l. absurd (omega arith);
          not_zero = λ j l. absurd (omega arith);
          kinds = λ j l. absurd (omega arith);
        }

    -- no bounds are of this epoch: those of a slot's own number are of that slot
    module _ (types : List ℕ) (s : ℕ) (l : s < S) where
      earlier : eqb (m.bounds (bounds_of s (get_or types s 0)) / 4294967296) m.epoch ≡ false
      earlier = let f = bounds (bounds_of s (get_or types s 0)) (omega arith) in ne_eqb (m.bounds (bounds_of s (get_or types s 0)) / 4294967296) m.epoch (λ e. omega arith)

      own_first : first_of m.epoch (m.bounds (bounds_of s (get_or types s 0))) s ≤ s
      unfolding first_of
      own_first = rw earlier (omega arith)

      own_end : s < end_of S m.epoch (m.bounds (bounds_of s (get_or types s 0))) s
      unfolding end_of
      own_end = rw (earlier, lt-ltb s S l) (omega arith)

    pub nothing_holds : (types : List ℕ) (dest : ℕ → ℕ) → Holds n S types dest empty m
    unfolding value_in expression_in atom_found expression_if newest
    nothing_holds types dest =
        record {
          slots = λ s l. rw (own s l) (atom_start n S dest m.constant_table s l);
          first = λ s l. rw (own s l) (own_first types s l);
          end = λ s l. rw (own s l) (own_end types s l);
          expressions = λ op flags left right a b c d. rw expressions;
          left_numbered = λ e w q. let z : ◌≡◌ {A = ℕ} 0 1 = cc in absurd (omega arith);
          right_numbered = λ e w q. let z : ◌≡◌ {A = ℕ} 0 1 = cc in absurd (omega arith);
        }
