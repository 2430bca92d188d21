-- What the functions of the table do to the memory, each with the table of values that it then holds.
-- Assumes nothing.
use Rattle.std.proofs.Common.{◌≡◌, ℕ, ◌+◌, ◌-◌, ◌*◌, ◌/◌, ◌%◌, ◌<◌, ◌≤◌, Bool, true, false, cond, eqb, ltb, List, length, get_or, set, sym, refl, ap, ◌∙◌, subst, arith, length-set, get_or-set_other, get_or-set_same, ltb-false, ltb-true, eq-eqb, eqb-true}
use mathlib.Core.Bool.{false≢true}
use Rattle.std.specs.Prelude.{Some, None}
use lib.Seq.{set-get_or}
use borrow.Rule.Slice.PartMut.{mid_of}
use borrow.Author.Tests.{eqb-false}
use Rattle.words.specs.laws.Regions.{mid_set_before}
use Rattle.words.specs.laws.Truth.{both}
use Rattle.values.specs.Values.{Values, value_of, lowest_slot, or_itself, representative}
use Rattle.values.specs.laws.Lowest.{holds_as}
use Rattle.values.proofs.laws.Lowest.{lowest_is, lowest_none}
use Rattle.values.specs.laws.Entries.{Linked}
use Rattle.values.specs.laws.Adding.{next_epoch}
use Rattle.values.specs.laws.Memory.{slots_at, bounds_at, constants_at, expressions_at, end_at, Memory, memory_of, number_at, bounds_of, first_of, end_of, alike, holder, Lowest, limit, Ordered, Ready, atom_in, Holds}
use Rattle.values.specs.laws.Promises.{Kept, Same, puts, Puts, Clears, Represents, Stores, Shares}
use Rattle.values.proofs.Atoms.{same_number}
use Rattle.values.proofs.Holding.{turned, number_same, put_ordered, put_holds, raise_ordered, raise_holds, nothing_ordered, nothing_holds}

-- a word of a slot or of bounds stored: the counts and the tables of entries are as they were
set_memory : (n S : ℕ) (t : List ℕ) (i w : ℕ) → slots_at ≤ i → i < constants_at n S
    → memory_of n S (set t i w) ≡ turned (memory_of n S t) (λ s. get_or (set t i w) (slots_at + s) 0) (λ x. get_or (set t i w) (bounds_at S + x) 0)
set_memory n S t i w l h =
    rw (
      get_or-set_other t i 0 w 0 (λ e. omega arith),
      get_or-set_other t i 1 w 0 (λ e. omega arith),
      get_or-set_other t i 2 w 0 (λ e. omega arith),
      mid_set_before t (constants_at n S) (expressions_at n S - constants_at n S) i w h,
      mid_set_before t (expressions_at n S) (end_at n S - expressions_at n S) i w (omega arith),
    )

module _ {n S : ℕ} {t : List ℕ} (g : Ready n S t) where
  abbrev m : Memory
  m = memory_of n S t

  pub few : n ≤ 65536
  few = g.order.constants.few

  pub some_code : 0 < n
  some_code = g.order.constants.some

  -- nothing changes
  pub unchanged : {k c e : ℕ} → Kept n S k c e t t
  unchanged = record { ready = g; long = refl; epochs = omega arith; constants = omega arith; expressions = omega arith }

  pub same_self : Same n S t t
  same_self = record { numbers = λ s l. refl; constants = refl; table = refl }

  -- a list of the same length whose memory is m': it stays in order as m' is
  module _ {t' : List ℕ} {m' : Memory} (is : memory_of n S t' ≡ m') (epoch : m'.epoch ≡ (memory_of n S t).epoch) where
    pub kept_as : {c e : ℕ} → length t' ≡ length t → Ordered n S m' → m'.constants ≤ (memory_of n S t).constants + c → m'.expressions ≤ (memory_of n S t).expressions + e → Kept n S 0 c e t t'
    kept_as long order few_constants few_expressions =
        record {
          ready = record { long = rw long g.long; order = rw is order };
          long = long;
          epochs = rw (ap (λ (x : Memory). x.epoch) is) (omega arith);
          constants = rw (ap (λ (x : Memory). x.constants) is) few_constants;
          expressions = rw (ap (λ (x : Memory). x.expressions) is) few_expressions;
        }

    pub same_as : m'.constants ≡ (memory_of n S t).constants → m'.constant_table ≡ (memory_of n S t).constant_table → ((s : ℕ) → s < S → get_or t' (slots_at + s) 0 ≡ get_or t (slots_at + s) 0) → Same n S t t'
    same_as constants table slots =
        record {
          numbers = λ s l. number_same m (memory_of n S t') s (ap (λ (x : Memory). x.epoch) is ∙ epoch) (slots s l);
          constants = ap (λ (x : Memory). x.constants) is ∙ constants;
          table = ap (λ (x : Memory). x.constant_table) is ∙ table;
        }

  -- all is forgotten
  module _ (more : (memory_of n S t).epoch < 4294967295) where
    abbrev c₁ : List ℕ
    c₁ = set t 0 (get_or t 0 0 + 1)

    abbrev c₂ : List ℕ
    c₂ = set c₁ 1 0

    abbrev c₃ : List ℕ
    c₃ = set c₂ 2 0

    long : length c₃ ≡ length t
    long = simp length-set

    word : (i : ℕ) → slots_at ≤ i → get_or c₃ i 0 ≡ get_or t i 0
    word i l = get_or-set_other c₂ 2 i 0 0 (λ e. omega arith) ∙ get_or-set_other c₁ 1 i 0 0 (λ e. omega arith) ∙ get_or-set_other t 0 i (get_or t 0 0 + 1) 0 (λ e. omega arith)

    epoch : get_or c₃ 0 0 ≡ get_or t 0 0 + 1
    epoch = get_or-set_other c₂ 2 0 0 0 (λ e. omega arith) ∙ get_or-set_other c₁ 1 0 0 0 (λ e. omega arith) ∙ get_or-set_same t 0 (get_or t 0 0 + 1) 0 (omega (arith, g.long))

    constants : get_or c₃ 1 0 ≡ 0
    constants = get_or-set_other c₂ 2 1 0 0 (λ e. omega arith) ∙ get_or-set_same c₁ 1 0 0 (simp length-set (omega (arith, g.long)))

    expressions : get_or c₃ 2 0 ≡ 0
    expressions = get_or-set_same c₂ 2 0 0 (simp length-set (omega (arith, g.long)))

    region : (a k : ℕ) → slots_at ≤ a → mid_of a k c₃ ≡ mid_of a k t
    region a k l = mid_set_before c₂ a k 2 0 (omega arith) ∙ mid_set_before c₁ a k 1 0 (omega arith) ∙ mid_set_before t a k 0 (get_or t 0 0 + 1) (omega arith)

    linked : Linked (memory_of n S c₃).constant_table n (memory_of n S c₃).epoch 0
    linked = rw (region (constants_at n S) (expressions_at n S - constants_at n S) (omega arith), epoch) (next_epoch g.order.constants (omega arith))

    terms : Linked (memory_of n S c₃).expression_table n (memory_of n S c₃).epoch 0
    terms = rw (region (expressions_at n S) (end_at n S - expressions_at n S) (omega arith), epoch) (next_epoch g.order.expressions (omega arith))

    slots : (s : ℕ) → s < S → get_or c₃ (slots_at + s) 0 / 4294967296 < get_or c₃ 0 0
    slots s l = rw (word (slots_at + s) (omega arith), epoch) (let f = g.order.slots_past s l in omega arith)

    bounds : (x : ℕ) → x < 2 * (S + 2 * n + 1) → get_or c₃ (bounds_at S + x) 0 / 4294967296 < get_or c₃ 0 0
    bounds x l = rw (word (bounds_at S + x) (omega arith), epoch) (let f = g.order.bounds_past x l in omega arith)

    pub clears : Clears n S t (set (set (set t 0 (get_or t 0 0 + 1)) 1 0) 2 0)
    clears =
        record {
          kept = record {
            ready = record { long = rw long g.long; order = nothing_ordered n S few (memory_of n S c₃) g.order.locals constants expressions linked terms slots bounds };
            long = long;
            epochs = rw epoch (omega arith);
            constants = rw constants (omega arith);
            expressions = rw expressions (omega arith);
          };
          holds = nothing_holds n S few (memory_of n S c₃) g.order.locals constants expressions linked terms slots bounds;
        }

  -- the bounds' words lie before the tables of entries
  pub bounds_inside : (d type : ℕ) → d < limit n S (memory_of n S t) → bounds_at S + bounds_of d type < constants_at n S
  bounds_inside d type l = let a = g.order.few_constants in omega arith

  pub bounds_long : (d type : ℕ) → d < limit n S (memory_of n S t) → bounds_at S + bounds_of d type < length t
  bounds_long d type l = let a = bounds_inside d type l in let b = g.long in omega arith

  -- the bounds end among the slots
  pub end_low : (d type : ℕ) → d < limit n S (memory_of n S t) → end_of S (memory_of n S t).epoch ((memory_of n S t).bounds (bounds_of d type)) d ≤ S
  unfolding end_of
  end_low d type l = go (eqb (m.bounds (bounds_of d type) / 4294967296) m.epoch) refl (ltb d S) refl
    where
      go : (a : Bool) → eqb (m.bounds (bounds_of d type) / 4294967296) m.epoch ≡ a → (b : Bool) → ltb d S ≡ b
          → cond a (m.bounds (bounds_of d type) % 65536 + 1) (cond b (d + 1) 0) ≤ S
      go true e b q =
          let f = g.order.few_constants in
          let z = g.order.bounds_low (bounds_of d type) (omega arith) (eqb-true (m.bounds (bounds_of d type) / 4294967296) m.epoch e) in
          omega arith
      go false e true q = let z = ltb-true d S q in omega arith
      go false e false q = omega arith

  -- ---- which slots hold a number

  module _ (types : List ℕ) (d : ℕ) (used : d < limit n S (memory_of n S t)) (type : ℕ) where
    -- a slot of the type that holds the value is one of the group
    exact_group : (q : ℕ) → holder types m d type true q ≡ true → holder types m d type false q ≡ true
    unfolding holder alike
    exact_group q e = let b = both (eqb (number_at m q) d) (eqb (get_or types q 0) type) e in rw (b.0, eqb-true (get_or types q 0) type b.1, eq-eqb (type % 2) (type % 2) refl)

    -- and one of the group lies within the bounds
    module _ (dest : ℕ → ℕ) {v : Values} (h : Holds n S types dest v (memory_of n S t)) where
      abbrev w : ℕ
      w = m.bounds (bounds_of d type)

      pub within : (q : ℕ) → q < S → number_at (memory_of n S t) q ≡ d → get_or types q 0 % 2 ≡ type % 2
          → (first_of (memory_of n S t).epoch ((memory_of n S t).bounds (bounds_of d type)) d ≤ q) × (q < end_of S (memory_of n S t).epoch ((memory_of n S t).bounds (bounds_of d type)) d)
      within q l e k = rw (← e, ← k) (h.first q l, h.end q l)

      group_within : (q : ℕ) → q < S → holder types m d type false q ≡ true → (first_of m.epoch w d ≤ q) × (q < end_of S m.epoch w d)
      unfolding holder alike
      group_within q l e = let b = both (eqb (number_at m q) d) (eqb (get_or types q 0 % 2) (type % 2)) e in within q l (eqb-true (number_at m q) d b.0) (eqb-true (get_or types q 0 % 2) (type % 2) b.1)

      -- the test of the definition is that of the memory
      holds_holder : (q : ℕ) → q < S → holds_as v (atom_in n S dest m d) type q (get_or types q 0) ≡ holder types m d type true q
      unfolding holder alike
      holds_holder q l = rw (← h.slots q l, same_number n S few dest g.order (number_at m q) d (g.order.slots_low q l) used)

  -- ---- a number stored in a slot

  module _ (types : List ℕ) (s d : ℕ) (low : s < S) (used : d < limit n S (memory_of n S t)) where
    abbrev x : ℕ
    x = bounds_of d (get_or types s 0)

    abbrev stored : ℕ → ℕ → List ℕ
    stored first last = puts t s d (bounds_at S + x) first last

    module _ (first last : ℕ) (first-s : first ≤ s) (s-last : s ≤ last) (last_low : last < S) where
      abbrev W : ℕ
      W = 4294967296 * get_or t 0 0 + 65536 * first + last

      abbrev D : ℕ
      D = 4294967296 * get_or t 0 0 + d

      abbrev t₁ : List ℕ
      t₁ = set t (bounds_at S + x) W

      abbrev t₂ : List ℕ
      t₂ = set t₁ (slots_at + s) D

      memory₂ : memory_of n S t₂ ≡ turned m (λ r. get_or t₂ (slots_at + r) 0) (λ y. get_or t₂ (bounds_at S + y) 0)
      memory₂ =
          set_memory n S t₁ (slots_at + s) D (omega arith) (omega arith)
          ∙ ap (λ (y : Memory). turned y (λ r. get_or t₂ (slots_at + r) 0) (λ y. get_or t₂ (bounds_at S + y) 0)) (set_memory n S t (bounds_at S + x) W (omega arith) (bounds_inside d (get_or types s 0) used))

      long₂ : length t₂ ≡ length t
      long₂ = simp length-set

      slot_here : get_or t₂ (slots_at + s) 0 ≡ D
      slot_here = get_or-set_same t₁ (slots_at + s) D 0 (simp length-set (let a = g.long in omega arith))

      slot_there : (r : ℕ) → r < S → (r ≡ s → ⊥) → get_or t₂ (slots_at + r) 0 ≡ get_or t (slots_at + r) 0
      slot_there r l f = get_or-set_other t₁ (slots_at + s) (slots_at + r) D 0 (λ q. f (omega arith)) ∙ get_or-set_other t (bounds_at S + x) (slots_at + r) W 0 (λ q. omega arith)

      bounds_here : get_or t₂ (bounds_at S + x) 0 ≡ W
      bounds_here = get_or-set_other t₁ (slots_at + s) (bounds_at S + x) D 0 (λ q. omega arith) ∙ get_or-set_same t (bounds_at S + x) W 0 (bounds_long d (get_or types s 0) used)

      bounds_there : (y : ℕ) → (y ≡ x → ⊥) → get_or t₂ (bounds_at S + y) 0 ≡ get_or t (bounds_at S + y) 0
      bounds_there y f = get_or-set_other t₁ (slots_at + s) (bounds_at S + y) D 0 (λ q. omega arith) ∙ get_or-set_other t (bounds_at S + x) (bounds_at S + y) W 0 (λ q. f (omega arith))

      stores_within : ((dest : ℕ → ℕ) (v : Values) → Holds n S types dest v m → (r : ℕ) → r < S → number_at m r ≡ d → get_or types r 0 % 2 ≡ get_or types s 0 % 2 → (first ≤ r) × (r ≤ last))
          → Stores n S types t s d t₂
      stores_within cover =
          record {
            kept = kept_as memory₂ refl long₂
                (put_ordered n S few g.order s d (get_or types s 0) first last low used first-s s-last last_low (λ r. get_or t₂ (slots_at + r) 0) (λ y. get_or t₂ (bounds_at S + y) 0) slot_here slot_there bounds_here bounds_there) (omega arith) (omega arith);
            holds = λ dest v h.
                rw memory₂
                (put_holds n S few g.order s d (get_or types s 0) first last low used first-s s-last last_low (λ r. get_or t₂ (slots_at + r) 0) (λ y. get_or t₂ (bounds_at S + y) 0) slot_here slot_there bounds_here bounds_there types dest refl h (cover dest v h));
          }

    -- the slots of the group that held number d before lie from `first` on and before `end`
    stores_by : {first end : ℕ} {t' : List ℕ} → end ≤ S → Puts t s d (bounds_at S + bounds_of d (get_or types s 0)) first end t'
        → ((dest : ℕ → ℕ) (v : Values) → Holds n S types dest v (memory_of n S t) → (r : ℕ) → r < S → number_at (memory_of n S t) r ≡ d → get_or types r 0 % 2 ≡ get_or types s 0 % 2 → (first ≤ r) × (r < end))
        → Stores n S types t s d t'
    stores_by l p cover =
        rw p.is (stores_within p.low p.high p.low_s p.high_s (p.inside S low l)
        (λ dest v h r k e f. let c = cover dest v h r k e f in (omega (arith, p.low_first, c.0), omega (arith, p.high_end, c.1))))

    stored_by : {first end : ℕ} {t' : List ℕ} → first ≡ first_of (memory_of n S t).epoch ((memory_of n S t).bounds (bounds_of d (get_or types s 0))) d
        → end ≡ end_of S (memory_of n S t).epoch ((memory_of n S t).bounds (bounds_of d (get_or types s 0))) d
        → Puts t s d (bounds_at S + bounds_of d (get_or types s 0)) first end t' → Stores n S types t s d t'
    stored_by e f p = stores_by (rw f (end_low d (get_or types s 0) used)) p (λ dest v h r l a b. rw (e, f) (within types d used (get_or types s 0) dest h r l a b))

    -- the lowest slot of the type that held the value before, in two walks: one of the group, from the bounds' first slot on, and one of
    -- the very type from there on
    module _ (typed : length types ≡ S) {first end near : ℕ} (first_is : first ≡ first_of (memory_of n S t).epoch ((memory_of n S t).bounds (bounds_of d (get_or types s 0))) d)
        (end_is : end ≡ end_of S (memory_of n S t).epoch ((memory_of n S t).bounds (bounds_of d (get_or types s 0))) d)
        (group : Lowest types (memory_of n S t) d (get_or types s 0) false first end near) where
      abbrev type : ℕ
      type = get_or types s 0

      module _ (dest : ℕ → ℕ) {v : Values} (h : Holds n S types dest v (memory_of n S t)) where
        -- a slot of the group that holds the number is not below `near`
        near_low : (q : ℕ) → q < S → holder types m d type false q ≡ true → (near ≤ q) × (q < end)
        near_low q l e = go (ltb q near) refl
          where
            inside : (first ≤ q) × (q < end)
            inside = rw (first_is, end_is) (group_within types d used type dest h q l e)

            go : (b : Bool) → ltb q near ≡ b → (near ≤ q) × (q < end)
            go true b = absurd (false≢true (sym (group.passed q inside.0 (ltb-true q near b)) ∙ e))
            go false b = (ltb-false q near b, inside.1)

        group_low : (q : ℕ) → q < S → number_at m q ≡ d → get_or types q 0 % 2 ≡ type % 2 → (near ≤ q) × (q < end)
        unfolding holder alike
        group_low q l e k = near_low q l (rw (e, k, eq-eqb d d refl, eq-eqb (type % 2) (type % 2) refl))

        -- a slot of the type holds the value only from `near` on and before `end`
        none_at : (q : ℕ) → q < S → (near ≤ q → q < end → holder types m d type true q ≡ false) → holds_as v (atom_in n S dest m d) type q (get_or types q 0) ≡ false
        none_at q l f = rw (holds_holder types d used type dest h q l) (go (holder types m d type true q) refl)
          where
            go : (b : Bool) → holder types m d type true q ≡ b → b ≡ false
            go true e = let c = near_low q l (exact_group types d used type q e) in absurd (false≢true (sym (f c.0 c.1) ∙ e))
            go false e = refl

        none_found : ((q : ℕ) → near ≤ q → q < end → holder types m d type true q ≡ false) → None ≡ lowest_slot types v (atom_in n S dest m d) type
        none_found f = rw (lowest_none v (atom_in n S dest m d) type types (λ q l. none_at q (rw typed at l) (f q)))

      none_shared : {t' : List ℕ} → end ≤ near → Puts t s d (bounds_at S + bounds_of d (get_or types s 0)) s 0 t' → Shares n S types t s d None t'
      none_shared k p =
          record {
            stores = stores_by (omega arith) p (λ dest v h r l e f. let c = group_low dest h r l e f in absurd (omega (arith, c.0, c.1)));
            lowest = λ dest v h. none_found dest h (λ q a b. absurd (omega arith));
          }

      module _ {r : ℕ} (very : Lowest types (memory_of n S t) d (get_or types s 0) true near end r) {t' : List ℕ} (p : Puts t s d (bounds_at S + bounds_of d (get_or types s 0)) near end t') where
        end_slots : end ≤ S
        end_slots = rw end_is (end_low d type used)

        shared : Stores n S types t s d t'
        shared = stores_by end_slots p (λ dest v h q l e f. group_low dest h q l e f)

        found_shared : r < end → Shares n S types t s d (Some r) t'
        found_shared k =
            record {
              stores = shared;
              lowest = λ dest v h.
                  let l : r < S = omega (arith, end_slots) in
                  rw (lowest_is v (atom_in n S dest m d) type types r (rw typed l) (holds_holder types d used type dest h r l ∙ very.hit k)
                  (λ q a. let b : q < S = omega arith in none_at dest h q b (λ c e. very.passed q c a)));
            }

        other_shared : end ≤ r → Shares n S types t s d None t'
        other_shared k = record { stores = shared; lowest = λ dest v h. none_found dest h (λ q a b. very.passed q a (omega arith)) }

  -- ---- the slot that stands for slot s

  module _ (types : List ℕ) (typed : length types ≡ S) (s d : ℕ) (low : s < S) (is : d ≡ number_at (memory_of n S t) s) {from near : ℕ}
      (from_s : from ≤ s) (at_first : first_of (memory_of n S t).epoch ((memory_of n S t).bounds (bounds_of d (get_or types s 0))) s ≤ s → from ≡ first_of (memory_of n S t).epoch ((memory_of n S t).bounds (bounds_of d (get_or types s 0))) s)
      (at_slot : s ≤ first_of (memory_of n S t).epoch ((memory_of n S t).bounds (bounds_of d (get_or types s 0))) s → from ≡ s)
      (group : Lowest types (memory_of n S t) d (get_or types s 0) false from s near) where
    abbrev own : ℕ
    own = get_or types s 0

    abbrev b : ℕ
    b = m.bounds (bounds_of d own)

    used_s : d < limit n S m
    used_s = rw is (g.order.slots_low s low)

    near_s : near ≤ s
    near_s = group.high from_s

    -- where the bounds are not of this epoch, the walk starts at s
    from_bounds : (dest : ℕ → ℕ) {v : Values} → Holds n S types dest v m → (q : ℕ) → q < S → holder types m d own false q ≡ true → q ≤ s → from ≤ q
    unfolding first_of end_of
    from_bounds dest h q l e k = go (eqb (b / 4294967296) m.epoch) refl
      where
        inside : (first_of m.epoch b d ≤ q) × (q < end_of S m.epoch b d)
        inside = group_within types d used_s own dest h q l e

        self : (first_of m.epoch b d ≤ s) × (s < end_of S m.epoch b d)
        self = within types d used_s own dest h s low (sym is) refl

        go : (a : Bool) → eqb (b / 4294967296) m.epoch ≡ a → from ≤ q
        go true a =
            let f : first_of m.epoch b s ≡ b / 65536 % 65536 = rw a in
            let i : b / 65536 % 65536 ≤ q = (rw a at inside).0 in
            let z : b / 65536 % 65536 ≤ s = (rw a at self).0 in
            let y = at_first (rw f z) in
            rw (y ∙ f) i
        go false a =
            let i : d ≤ q = (rw a at inside).0 in
            let z : s < cond (ltb d S) (d + 1) 0 = (rw a at self).1 in
            let y : s ≤ d = ends (ltb d S) z in
            omega arith
          where
            ends : (c : Bool) → s < cond c (d + 1) 0 → s ≤ d
            ends true u = omega arith
            ends false u = absurd (omega arith)

    -- a slot of the group up to s that holds the number is not below `near`
    near_up : (dest : ℕ → ℕ) {v : Values} → Holds n S types dest v m → (q : ℕ) → q < S → holder types m d own false q ≡ true → near ≤ q
    near_up dest h q l e = go (ltb q near) refl
      where
        go : (c : Bool) → ltb q near ≡ c → near ≤ q
        go true c =
            let k : q < near = ltb-true q near c in
            let f : from ≤ q = from_bounds dest h q l e (omega (arith, near_s)) in
            absurd (false≢true (sym (group.passed q f k) ∙ e))
        go false c = ltb-false q near c

    -- the slot that is found is the definition's
    module _ {r : ℕ} (very : Lowest types (memory_of n S t) d (get_or types s 0) true near s r) where
      r_s : r ≤ s
      r_s = very.high near_s

      chosen : holder types m d own true r ≡ true
      unfolding holder alike
      chosen = go (ltb r s) refl
        where
          go : (c : Bool) → ltb r s ≡ c → holder types m d own true r ≡ true
          go true c = very.hit (ltb-true r s c)
          go false c = let z : r ≡ s = omega (arith, r_s, ltb-false r s c) in rw (z, ← is, eq-eqb d d refl, eq-eqb own own refl)

      none_lower : (dest : ℕ → ℕ) {v : Values} → Holds n S types dest v m → (q : ℕ) → q < r → holder types m d own true q ≡ false
      none_lower dest h q k = go (holder types m d own true q) refl
        where
          go : (c : Bool) → holder types m d own true q ≡ c → c ≡ false
          go true e =
              let l : q < S = omega (arith, r_s) in
              let a = near_up dest h q l (exact_group types d used_s own q e) in
              absurd (false≢true (sym (very.passed q a k) ∙ e))
          go false e = refl

      stands : (dest : ℕ → ℕ) {v : Values} → Holds n S types dest v m → r ≡ representative types v s
      unfolding representative or_itself
      stands dest {v} h =
          let l : r < S = omega (arith, r_s) in
          let value : value_of v s ≡ atom_in n S dest m d = sym (h.slots s low) ∙ ap (atom_in n S dest m) (sym is) in
          rw (
            value,
            lowest_is v (atom_in n S dest m d) own types r (rw typed l) (holds_holder types d used_s own dest h r l ∙ chosen)
                (λ q k. let a : q < S = omega arith in holds_holder types d used_s own dest h q a ∙ none_lower dest h q k),
          )

    abbrev at : ℕ
    at = bounds_at S + bounds_of d own

    abbrev raised : List ℕ
    raised = set t at (b + 65536 * (near - from))

    -- the bounds' first slot is raised
    module _ (moved : near ≡ from → ⊥) where
      now : b / 4294967296 ≡ m.epoch
      unfolding first_of
      now = go (eqb (b / 4294967296) m.epoch) refl
        where
          go : (a : Bool) → eqb (b / 4294967296) m.epoch ≡ a → b / 4294967296 ≡ m.epoch
          go true a = eqb-true (b / 4294967296) m.epoch a
          go false a =
              let f : first_of m.epoch b s ≡ s = rw a in
              let z : from ≡ s = at_slot (rw f (omega arith)) in
              absurd (moved (omega (arith, near_s, group.low)))

      from_is : from ≡ b / 65536 % 65536
      unfolding first_of
      from_is =
          let f : first_of m.epoch b s ≡ b / 65536 % 65536 = rw (eq-eqb (b / 4294967296) m.epoch now) in
          go (ltb s (b / 65536 % 65536)) refl f
        where
          go : (c : Bool) → ltb s (b / 65536 % 65536) ≡ c → first_of m.epoch b s ≡ b / 65536 % 65536 → from ≡ b / 65536 % 65536
          go true c f =
              let k : s < b / 65536 % 65536 = ltb-true s (b / 65536 % 65536) c in
              let z : from ≡ s = at_slot (rw f (omega arith)) in
              absurd (moved (omega (arith, near_s, group.low)))
          go false c f = at_first (rw f (ltb-false s (b / 65536 % 65536) c)) ∙ f

      raised_word : b + 65536 * (near - from) ≡ 4294967296 * m.epoch + 65536 * near + b % 65536
      raised_word = digits b m.epoch near from now from_is group.low
        where
          digits : (w e k f : ℕ) → w / 4294967296 ≡ e → f ≡ w / 65536 % 65536 → f ≤ k → w + 65536 * (k - f) ≡ 4294967296 * e + 65536 * k + w % 65536
          digits w e k f p q l =
              let a : ℕ = w / 65536 in
              let x : w ≡ 65536 * (w / 65536) + w % 65536 = omega arith in
              let y : w / 65536 ≡ 65536 * e + f = omega arith in
              omega arith

      memory : memory_of n S raised ≡ turned m (λ r. get_or raised (slots_at + r) 0) (λ y. get_or raised (bounds_at S + y) 0)
      memory = set_memory n S t at (b + 65536 * (near - from)) (omega arith) (bounds_inside d own used_s)

      slots_same : (r : ℕ) → r < S → get_or raised (slots_at + r) 0 ≡ get_or t (slots_at + r) 0
      slots_same r l = get_or-set_other t at (slots_at + r) (b + 65536 * (near - from)) 0 (λ e. omega arith)

      raised_here : get_or raised at 0 ≡ 4294967296 * m.epoch + 65536 * near + b % 65536
      raised_here = get_or-set_same t at (b + 65536 * (near - from)) 0 (bounds_long d own used_s) ∙ raised_word

      raised_there : (y : ℕ) → (y ≡ bounds_of d own → ⊥) → get_or raised (bounds_at S + y) 0 ≡ get_or t (bounds_at S + y) 0
      raised_there y f = get_or-set_other t at (bounds_at S + y) (b + 65536 * (near - from)) 0 (λ q. f (omega arith))

      near_fits : near < 65536
      near_fits = omega (arith, near_s, g.order.locals)

      last_low : b % 65536 < S
      last_low = let f = g.order.few_constants in let u = used_s in g.order.bounds_low (bounds_of d own) (omega arith) now

      same_numbers_lem : Same n S t raised
      same_numbers_lem = same_as memory refl refl refl slots_same

      raise_kept : Kept n S 0 0 0 t raised
      raise_kept =
          kept_as memory refl (length-set t at (b + 65536 * (near - from)))
          (raise_ordered n S few g.order (bounds_of d own) near (b % 65536) near_fits last_low (λ r. get_or raised (slots_at + r) 0) (λ y. get_or raised (bounds_at S + y) 0) slots_same raised_here raised_there) (omega arith) (omega arith)

      raise_table : (dest : ℕ → ℕ) (v : Values) → Holds n S types dest v m → Holds n S types dest v (memory_of n S raised)
      unfolding holder alike end_of
      raise_table dest v h =
          rw memory
          (raise_holds n S few g.order (bounds_of d own) near (b % 65536) near_fits last_low (λ r. get_or raised (slots_at + r) 0) (λ y. get_or raised (bounds_at S + y) 0) slots_same raised_here raised_there types dest h cover)
        where
          apart : (a b c e : ℕ) → 2 * a + c % 2 ≡ 2 * b + e % 2 → (a ≡ b) × (c % 2 ≡ e % 2)
          apart a b c e q = (omega arith, omega arith)

          cover : (q : ℕ) → q < S → bounds_of (number_at m q) (get_or types q 0) ≡ bounds_of d own → (near ≤ q) × (q ≤ b % 65536)
          cover q l e =
              let k = apart (number_at m q) d (get_or types q 0) own e in
              let w : q < end_of S m.epoch b d = (within types d used_s own dest h q l k.0 k.1).1 in
              let z : q < b % 65536 + 1 = rw (eq-eqb (b / 4294967296) m.epoch now) at w in
              (near_up dest h q l (rw (k.0, k.1, eq-eqb d d refl, eq-eqb (own % 2) (own % 2) refl)), omega arith)

    -- where nothing was passed, nothing changes
    unraised : near ≡ from → raised ≡ t
    unraised e = let w : b + 65536 * (near - from) ≡ b = omega arith in ap (set t at) w ∙ set-get_or t at 0

    raised_kept : Kept n S 0 0 0 t raised
    raised_kept = go (eqb near from) refl
      where
        go : (c : Bool) → eqb near from ≡ c → Kept n S 0 0 0 t raised
        go true c = rw (unraised (eqb-true near from c)) unchanged
        go false c = raise_kept (eqb-false near from c)

    raised_same : Same n S t raised
    raised_same = go (eqb near from) refl
      where
        go : (c : Bool) → eqb near from ≡ c → Same n S t raised
        go true c = rw (unraised (eqb-true near from c)) same_self
        go false c = same_numbers_lem (eqb-false near from c)

    raised_table : (dest : ℕ → ℕ) (v : Values) → Holds n S types dest v m → Holds n S types dest v (memory_of n S raised)
    raised_table dest v h = go (eqb near from) refl
      where
        go : (c : Bool) → eqb near from ≡ c → Holds n S types dest v (memory_of n S raised)
        go true c = rw (unraised (eqb-true near from c)) h
        go false c = raise_table (eqb-false near from c) dest v h

    -- what is written fits a word
    raised_fits : b < 18446744073709551616 → b + 65536 * (near - from) < 18446744073709551616
    raised_fits f = go (eqb near from) refl
      where
        go : (c : Bool) → eqb near from ≡ c → b + 65536 * (near - from) < 18446744073709551616
        go true c = let z : near ≡ from = eqb-true near from c in omega arith
        go false c =
            let w = raised_word (eqb-false near from c) in
            let x = near_fits (eqb-false near from c) in
            let e = g.order.constants.fits in
            omega arith

    -- the slot that was found holds the number
    near_number : number_at (memory_of n S raised) near ≡ d
    unfolding holder
    near_number = raised_same.numbers near (omega (arith, near_s)) ∙ go (ltb near s) refl
      where
        go : (c : Bool) → ltb near s ≡ c → number_at m near ≡ d
        go true c = eqb-true (number_at m near) d (both (eqb (number_at m near) d) (alike false (get_or types near 0) own) (group.hit (ltb-true near s c))).0
        go false c = let z : near ≡ s = omega (arith, near_s, ltb-false near s c) in rw (z, ← is)

    -- the walk over the raised memory is one over the given
    very_same : {r : ℕ} → Lowest types (memory_of n S raised) d own true near s r → Lowest types m d own true near s r
    unfolding holder
    very_same {r} v =
        let k : r ≤ s = v.high near_s in
        record {
          low = v.low;
          high = v.high;
          passed = λ q a c. rw (← raised_same.numbers q (omega arith)) (v.passed q a c);
          hit = λ c. rw (← raised_same.numbers r (omega arith)) (v.hit c);
        }

    represented : {r : ℕ} → Lowest types (memory_of n S raised) d own true near s r → Represents n S types t s d r raised
    represented very = record { kept = raised_kept; same = raised_same; holds = λ dest v h. (stands (very_same very) dest h, raised_table dest v h) }

-- ---- the place of bounds, as the code has it

module _ {n S : ℕ} {t : List ℕ} (g : Ready n S t) {d : ℕ} (used : d < limit n S (memory_of n S t)) where
  pub place_asks : (S ≤ 65536) × (d < 16777216)
  place_asks = let a = g.order.few_constants in let b = g.order.locals in let c = few g in (b, omega arith)

  pub place_long : {at : ℕ} → at ≤ bounds_at S + 2 * d + 1 → at < length t
  place_long e = let a = g.order.few_constants in let b = g.long in omega arith

-- What is known of the variables of a store.
pub record Bounded (n S : ℕ) (types t : List ℕ) (s d at first end : ℕ) : Type 0 where
  pub ready : Ready n S t
  pub typed : length types ≡ S
  pub slot : s < S
  pub used : d < limit n S (memory_of n S t)
  pub place : at ≡ bounds_at S + bounds_of d (get_or types s 0)
  pub first_is : first ≡ first_of (get_or t 0 0) (get_or t at 0) d
  pub end_is : end ≡ end_of S (get_or t 0 0) (get_or t at 0) d

module _ {n S : ℕ} {types t : List ℕ} {s d at first end : ℕ} (w : Bounded n S types t s d at first end) where
  -- by the bounds' own place
  abbrev Put : ℕ → Type 0
  Put a = Bounded n S types t s d a first end

  own_place : Put (bounds_at S + bounds_of d (get_or types s 0))
  own_place = subst Put w.place w

  pub end_inside : end ≤ S
  end_inside = rw own_place.end_is (end_low w.ready d (get_or types s 0) w.used)

  -- what `put` asks
  pub put_asks : {e : ℕ} → e ≤ S → (s < 65536) × (d < 4294967296) × (at < length t) × (slots_at + s < length t) × (e ≤ 65536) × (get_or t 0 0 < 4294967296)
  put_asks l =
      let a = w.ready.order.locals in
      let b = place_asks w.ready w.used in
      let c = w.ready.long in
      (omega (arith, w.slot), omega (arith, b.1), place_long w.ready w.used (omega (arith, w.place)), omega (arith, w.slot), omega arith, w.ready.order.constants.fits)

  pub stores : {t' : List ℕ} → Puts t s d at first end t' → Stores n S types t s d t'
  stores = rw w.place (stored_by w.ready types s d w.slot w.used own_place.first_is own_place.end_is)

  -- the walks of `share`
  module _ {near : ℕ} (group : Lowest types (memory_of n S t) d (get_or types s 0) false first end near) where
    pub near_found : near < end → number_at (memory_of n S t) near ≡ d
    unfolding holder
    near_found l = eqb-true _ d (both (eqb (number_at (memory_of n S t) near) d) (alike false (get_or types near 0) (get_or types s 0)) (group.hit l)).0

    pub shares_none : {t' : List ℕ} → end ≤ near → Puts t s d at s 0 t' → Shares n S types t s d None t'
    shares_none = rw w.place (none_shared w.ready types s d w.slot w.used w.typed own_place.first_is own_place.end_is group)

    module _ {r : ℕ} (very : Lowest types (memory_of n S t) d (get_or types s 0) true near end r) {t' : List ℕ} where
      pub shares_found : Puts t s d at near end t' → r < end → Shares n S types t s d (Some r) t'
      shares_found = rw w.place (found_shared w.ready types s d w.slot w.used w.typed own_place.first_is own_place.end_is group very)

      pub shares_other : Puts t s d at near end t' → end ≤ r → Shares n S types t s d None t'
      shares_other = rw w.place (other_shared w.ready types s d w.slot w.used w.typed own_place.first_is own_place.end_is group very)

-- The walk of `representative`: what is known of its variables, by the place of the bounds.
pub record Walks (n S : ℕ) (types t : List ℕ) (s d at from near : ℕ) : Type 0 where
  pub ready : Ready n S t
  pub typed : length types ≡ S
  pub slot : s < S
  pub number : d ≡ number_at (memory_of n S t) s
  pub place : at ≡ bounds_at S + bounds_of d (get_or types s 0)
  pub from_s : from ≤ s
  pub from_first : from ≤ first_of (get_or t 0 0) (get_or t at 0) s
  pub from_most : (k : ℕ) → k ≤ first_of (get_or t 0 0) (get_or t at 0) s → k ≤ s → k ≤ from
  pub group : Lowest types (memory_of n S t) d (get_or types s 0) false from s near

module _ {n S : ℕ} {types t : List ℕ} {s d at from near : ℕ} (w : Walks n S types t s d at from near) where
  -- the walk by the bounds' own place
  abbrev At : ℕ → Type 0
  At a = Walks n S types t s d a from near

  here : At (bounds_at S + bounds_of d (get_or types s 0))
  here = subst At w.place w

  abbrev F : ℕ
  F = first_of (get_or t 0 0) (get_or t (bounds_at S + bounds_of d (get_or types s 0)) 0) s

  at_first : F ≤ s → from ≡ F
  at_first l = omega (arith, here.from_first, here.from_most F (omega arith) l)

  at_slot : s ≤ F → from ≡ s
  at_slot l = omega (arith, w.from_s, here.from_most s l (omega arith))

  pub walk_fits : get_or t at 0 < 18446744073709551616 → get_or t at 0 + 65536 * (near - from) < 18446744073709551616
  walk_fits = rw w.place (raised_fits w.ready types w.typed s d w.slot w.number w.from_s at_first at_slot w.group)

  pub walk_ready : Ready n S (set t at (get_or t at 0 + 65536 * (near - from)))
  walk_ready = rw w.place (raised_kept w.ready types w.typed s d w.slot w.number w.from_s at_first at_slot w.group).ready

  pub walk_number : number_at (memory_of n S (set t at (get_or t at 0 + 65536 * (near - from)))) near ≡ d
  walk_number = rw w.place (near_number w.ready types w.typed s d w.slot w.number w.from_s at_first at_slot w.group)

  pub walk_near : near ≤ s
  walk_near = w.group.high w.from_s

  pub represents : {r : ℕ} → Lowest types (memory_of n S (set t at (get_or t at 0 + 65536 * (near - from)))) d (get_or types s 0) true near s r
      → Represents n S types t s d r (set t at (get_or t at 0 + 65536 * (near - from)))
  represents = rw w.place (represented w.ready types w.typed s d w.slot w.number w.from_s at_first at_slot w.group)
