-- A constant or an expression more: what the memory then is, and which table of values it holds.
-- Assumes nothing.
use Rattle.std.proofs.Common.{◌≡◌, ℕ, zero, suc, ◌+◌, ◌-◌, ◌*◌, ◌<◌, ◌≤◌, true, false, ◌&&◌, eqb, List, length, get_or, set, sym, refl, ap, ◌∙◌, arith, length-set, get_or-set_other, get_or-set_same, eq-eqb, eqb-true}
use borrow.Rule.Slice.PartMut.{put_mid}
use Rattle.words.specs.laws.Regions.{mid_long, mid_set_before, get_before}
use Rattle.words.specs.laws.Truth.{both}
use Rattle.values.specs.laws.Entries.{Key, newest, Added}
use Rattle.values.specs.laws.Search.{newest_le, newest_key}
use Rattle.values.specs.laws.Memory.{part, slots_at, bounds_at, constants_at, expressions_at, end_at, Memory, memory_of, key_atom, constant_key, expression_key, limit, expression_if, expression_at, Ready}
use Rattle.values.specs.laws.Promises.{Interns, Learns}
use Rattle.std.specs.Prelude.{None}
use Rattle.values.proofs.Atoms.{atom_zero, atom_constant}
use Rattle.values.proofs.Parts.{put_length, part_put, part_before, part_after}
use Rattle.values.proofs.Holding.{grown, taught}
use Rattle.values.proofs.Learning.{more_ordered, more_holds, atom_next, learn_ordered, learn_holds}
use Rattle.values.proofs.Recording.{few, unchanged, kept_as, same_as}

-- entries from a up to e replaced by u, and their count, word i, by x
record Replaced (n S i a e x : ℕ) (t u t' : List ℕ) : Type 0 where
  long : length t' ≡ length t
  count : get_or t' i 0 ≡ x
  word : (j : ℕ) → (j ≡ i → ⊥) → j < constants_at n S → get_or t' j 0 ≡ get_or t j 0
  slots : (s : ℕ) → s < S → get_or t' (slots_at + s) 0 ≡ get_or t (slots_at + s) 0
  bounds : (x : ℕ) → x < 2 * (S + 2 * n + 1) → get_or t' (bounds_at S + x) 0 ≡ get_or t (bounds_at S + x) 0
  table : part a e t' ≡ u
  before : (b : ℕ) → slots_at ≤ b → b ≤ a → part b a t' ≡ part b a t
  after : (f : ℕ) → e ≤ f → f ≤ length t → part e f t' ≡ part e f t

replaced : (n S i a e x : ℕ) (t u : List ℕ) → i < slots_at → constants_at n S ≤ a → a ≤ e → e ≤ length t → length u ≡ length (part a e t) → Replaced n S i a e x t u (set (put_mid a (e - a) t u) i x)
replaced n S i a e x t u low start from to as_long =
    let t₁ : List ℕ = put_mid a (e - a) t u in
    let inside : a + (e - a) ≤ length t = omega arith in
    let l : length u ≡ e - a = as_long ∙ mid_long t a (e - a) inside in
    let long : length t₁ ≡ length t = put_length a e t u from to l in
    let word : (j : ℕ) → (j ≡ i → ⊥) → j < constants_at n S → get_or (set t₁ i x) j 0 ≡ get_or t j 0
    = λ j o h. get_or-set_other t₁ i j x 0 o ∙ get_before t a (e - a) u l inside j 0 (omega arith) in
    record {
      long = length-set t₁ i x ∙ long;
      count = get_or-set_same t₁ i x 0 (rw long (omega arith));
      word = word;
      slots = λ s h. word (slots_at + s) (λ q. omega arith) (omega arith);
      bounds = λ x h. word (bounds_at S + x) (λ q. omega arith) (omega arith);
      table = mid_set_before t₁ a (e - a) i x (omega arith) ∙ part_put a e t u from to l;
      before = λ b h k. mid_set_before t₁ b (a - b) i x (omega arith) ∙ part_before a e t u from to l b a k (omega arith);
      after = λ f h k. mid_set_before t₁ e (f - e) i x (omega arith) ∙ part_after a e t u from to l e f h k (omega arith);
    }

module _ {n S : ℕ} {t : List ℕ} (g : Ready n S t) where
  abbrev m : Memory
  m = memory_of n S t

  -- room for an entry, where k of n are in use
  room_in : (a e k : ℕ) → a + 5 * n ≡ e → e ≤ end_at n S → k < n → (k < 65536) × (n + 4 * k + 4 ≤ length (part a e t))
  room_in a e k size to h =
      let inside : a + (e - a) ≤ length t = let z = g.long in omega arith in
      let long = mid_long t a (e - a) inside in
      let f = few g in
      (omega arith, omega arith)

  pub constants_room : (memory_of n S t).constants < n → ((memory_of n S t).constants < 65536) × (n + 4 * (memory_of n S t).constants + 4 ≤ length (memory_of n S t).constant_table)
  constants_room = room_in (constants_at n S) (expressions_at n S) m.constants (omega arith) (omega arith)

  pub expressions_room : (memory_of n S t).expressions < n → ((memory_of n S t).expressions < 65536) × (n + 4 * (memory_of n S t).expressions + 4 ≤ length (memory_of n S t).expression_table)
  expressions_room = room_in (expressions_at n S) (end_at n S) m.expressions (omega arith) (omega arith)

  -- Integer 0 has its number
  pub interns_zero : (kind bits : ℕ) → eqb kind 0 && eqb bits 0 ≡ true → Interns n S t kind bits (S + n) t
  unfolding key_atom
  interns_zero kind bits q =
      let z = both (eqb kind 0) (eqb bits 0) q in
      record {
        kept = unchanged g;
        low = omega arith;
        is = λ dest. rw (eqb-true kind 0 z.0, eqb-true bits 0 z.1) (atom_zero n S dest m.constant_table);
        holds = λ types dest v h. h;
      }

  pub interned_few : (k : Key) {f : ℕ} → f ≡ newest (memory_of n S t).constant_table n (memory_of n S t).constants k → f ≤ n
  interned_few k e = let a = g.order.few_constants in let b = newest_le m.constant_table n k m.constants in omega arith

  -- a constant that has an entry
  pub interns_found : (kind bits f : ℕ) → f ≡ newest (memory_of n S t).constant_table n (memory_of n S t).constants (constant_key kind bits) → 0 < f → Interns n S t kind bits (S + n + f) t
  interns_found kind bits zero e l = absurd (omega arith)
  interns_found kind bits (suc j) e l =
      let found = newest_key m.constant_table n (constant_key kind bits) m.constants j (sym e) in
      let at : S + n + suc j ≡ S + n + 1 + j = omega arith in
      record {
        kept = unchanged g;
        low = let x = found.0 in omega arith;
        is = λ dest. rw at (atom_constant n S dest m.constant_table j ∙ ap key_atom found.1);
        holds = λ types dest v h. h;
      }

  -- a new constant
  module _ (kind bits : ℕ) (low : kind ≤ 1) (nonzero : eqb kind 0 && eqb bits 0 ≡ false) (new : newest (memory_of n S t).constant_table n (memory_of n S t).constants (constant_key kind bits) ≤ 0)
      (room : (memory_of n S t).constants < n) (u : List ℕ) (b : Added (memory_of n S t).constant_table u n (memory_of n S t).epoch (memory_of n S t).constants (constant_key kind bits) 0) where
    abbrev t' : List ℕ
    t' = set (put_mid (constants_at n S) (expressions_at n S - constants_at n S) t u) 1 (m.constants + 1)

    r : Replaced n S 1 (constants_at n S) (expressions_at n S) (m.constants + 1) t u t'
    r = replaced n S 1 (constants_at n S) (expressions_at n S) (m.constants + 1) t u (omega arith) (omega arith) (omega arith) (let z = g.long in omega arith) b.long

    memory : memory_of n S t' ≡ grown m (λ s. get_or t' (slots_at + s) 0) (λ d. get_or t' (bounds_at S + d) 0) u
    memory = rw (r.word 0 (λ q. omega arith) (omega arith), r.count, r.word 2 (λ q. omega arith) (omega arith), r.table, r.after (end_at n S) (omega arith) g.long)

    not_zero : constant_key kind bits ≡ constant_key 0 0 → ⊥
    not_zero e =
        let a : kind ≡ 0 = ap (λ (k : Key). k.right) e in
        let b : bits ≡ 0 = ap (λ (k : Key). k.left) e in
        let z : true ≡ false = sym (rw (eq-eqb kind 0 a, eq-eqb bits 0 b)) ∙ nonzero in
        let y : ◌≡◌ {A = ℕ} 0 1 = cc in
        absurd (omega arith)

    none : newest m.constant_table n m.constants (constant_key kind bits) ≡ 0
    none = omega arith

    pub interns_new : Interns n S t kind bits (S + n + 1 + (memory_of n S t).constants) (set (put_mid (constants_at n S) (expressions_at n S - constants_at n S) t u) 1 ((memory_of n S t).constants + 1))
    interns_new =
        record {
          kept = kept_as g memory refl r.long
              (more_ordered n S (few g) g.order (constant_key kind bits) low not_zero none room u b (λ s. get_or t' (slots_at + s) 0) (λ d. get_or t' (bounds_at S + d) 0) r.slots r.bounds) (omega arith) (omega arith);
          low = rw (ap (λ (y : Memory). y.constants) memory) (omega arith);
          is = λ dest. rw (ap (λ (y : Memory). y.constant_table) memory) (atom_next n S (few g) g.order (constant_key kind bits) low not_zero none room u b (λ s. get_or t' (slots_at + s) 0) (λ d. get_or t' (bounds_at S + d) 0) r.slots r.bounds dest);
          holds = λ types dest v h. rw memory (more_holds n S (few g) g.order (constant_key kind bits) low not_zero none room u b (λ s. get_or t' (slots_at + s) 0) (λ d. get_or t' (bounds_at S + d) 0) r.slots r.bounds dest types h);
        }

  -- an expression that has no number has no entry
  pub expression_new : (k : Key) → expression_at n S (memory_of n S t) k ≡ None → newest (memory_of n S t).expression_table n (memory_of n S t).expressions k ≡ 0
  unfolding expression_if
  expression_new k = go (newest m.expression_table n m.expressions k)
    where
      go : (x : ℕ) → expression_if n S m.expression_table x ≡ None → x ≡ 0
      go zero e = refl
      go (suc j) e = let z : ◌≡◌ {A = ℕ} 0 1 = cc in absurd (omega arith)

  -- a new expression
  module _ (op flags left right d : ℕ) (fop : op < 256) (fflags : flags < 256) (l : left < limit n S (memory_of n S t)) (r : right < limit n S (memory_of n S t)) (used : d < limit n S (memory_of n S t))
      (room : (memory_of n S t).expressions < n) (u : List ℕ)
      (b : Added (memory_of n S t).expression_table u n (memory_of n S t).epoch (memory_of n S t).expressions (expression_key op flags left right) d) where
    abbrev e' : List ℕ
    e' = set (put_mid (expressions_at n S) (end_at n S - expressions_at n S) t u) 2 (m.expressions + 1)

    q : Replaced n S 2 (expressions_at n S) (end_at n S) (m.expressions + 1) t u e'
    q = replaced n S 2 (expressions_at n S) (end_at n S) (m.expressions + 1) t u (omega arith) (omega arith) (omega arith) g.long b.long

    memory_e : memory_of n S e' ≡ taught m (λ s. get_or e' (slots_at + s) 0) (λ d. get_or e' (bounds_at S + d) 0) u
    memory_e = rw (q.word 0 (λ z. omega arith) (omega arith), q.word 1 (λ z. omega arith) (omega arith), q.count, q.before (constants_at n S) (omega arith) (omega arith), q.table)

    pub learns : Learns n S t op flags left right d (set (put_mid (expressions_at n S) (end_at n S - expressions_at n S) t u) 2 ((memory_of n S t).expressions + 1))
    learns =
        record {
          kept = kept_as g memory_e refl q.long
              (learn_ordered n S (few g) g.order op flags left right d fop fflags l r used room u b (λ s. get_or e' (slots_at + s) 0) (λ d. get_or e' (bounds_at S + d) 0) q.slots q.bounds) (omega arith) (omega arith);
          same = same_as g memory_e refl refl refl q.slots;
          holds = λ types dest v h. rw memory_e (learn_holds n S (few g) g.order op flags left right d fop fflags l r used room u b (λ s. get_or e' (slots_at + s) 0) (λ d. get_or e' (bounds_at S + d) 0) q.slots q.bounds types dest h);
        }
