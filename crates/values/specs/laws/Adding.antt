-- What the stores of an insertion do to the table, and an empty table.
-- Assumes nothing.
use Rattle.std.specs.Prelude.{◌≡◌, ℕ, zero, suc, ◌+◌, ◌*◌, ◌/◌, ◌%◌, ◌<◌, ◌≤◌, Bool, true, false, cond, List, length, ◌==◌, ◌≢◌, slice_index, slice_index_or, slice_set}
use Rattle.std.proofs.Math.Path.{refl, ap}
use Rattle.std.proofs.Common.{sym, subst, ◌∙◌, add-one, length-set, get_or-set_same, get_or-set_other, below_more}
use native.Mathlib.Omega.{arith}
use borrow.Author.Tests.{eqb-true, eqb-false, eq-eqb, ne_eqb}
use Rattle.values.specs.laws.Entries.{Key, key_at, value, links, child_of, bucket_of, bucket_at, head_at, same_key, newest, Leads, here, down, Forward, Linked, Filled, same, new, Extends, Attached, Addable, Added}
use Rattle.values.specs.laws.Search.{same_key_lem, key_same, bucket_low}
use Rattle.values.specs.laws.Attaching.{child_none, filled_le, filled_later, leads_filled}

-- ---- the words of a new entry, whose links are 0, stored at a
abbrev pub entered : List ℕ → ℕ → Key → ℕ → List ℕ
entered w a k v = slice_set (slice_set (slice_set (slice_set w a k.left) (a + 1) k.right) (a + 2) v) (a + 3) 0

-- a store away from i, and at i
away : (w : List ℕ) (j i v : ℕ) {x : ℕ} → (i ≢ j) → slice_index w i ≡ x → slice_index (slice_set w j v) i ≡ x
away w j i v n e = get_or-set_other w j i v 0 n ∙ e

module _ (w : List ℕ) (a : ℕ) (k : Key) (v : ℕ) where
  abbrev w1 : List ℕ
  w1 = slice_set w a k.left

  abbrev w2 : List ℕ
  w2 = slice_set w1 (a + 1) k.right

  abbrev w3 : List ℕ
  w3 = slice_set w2 (a + 2) v

  -- the words before it are as they were
  before : (i : ℕ) → i < a → slice_index (entered w a k v) i ≡ slice_index w i
  before i l =
      away w3 (a + 3) i 0 (λ e. omega arith)
      (away w2 (a + 2) i v (λ e. omega arith) (away w1 (a + 1) i k.right (λ e. omega arith) (get_or-set_other w a i k.left 0 (λ e. omega arith))))

  module _ (r : a + 4 ≤ length w) where
    word_0 : slice_index_or (entered w a k v) a 0 ≡ k.left
    word_0 =
        away w3 (a + 3) a 0 (λ e. omega arith)
        (away w2 (a + 2) a v (λ e. omega arith)
        (away w1 (a + 1) a k.right (λ e. omega arith) (get_or-set_same w a k.left 0 (omega arith))))

    word_1 : slice_index_or (entered w a k v) (a + 1) 0 ≡ k.right
    word_1 =
        away w3 (a + 3) (a + 1) 0 (λ e. omega arith)
        (away w2 (a + 2) (a + 1) v (λ e. omega arith) (get_or-set_same w1 (a + 1) k.right 0 (simp length-set (omega arith))))

    word_2 : slice_index_or (entered w a k v) (a + 2) 0 ≡ v
    word_2 = away w3 (a + 3) (a + 2) 0 (λ e. omega arith) (get_or-set_same w2 (a + 2) v 0 (simp length-set (omega arith)))

    word_3 : slice_index_or (entered w a k v) (a + 3) 0 ≡ 0
    word_3 = get_or-set_same w3 (a + 3) 0 0 (simp length-set (omega arith))

-- entry `count` in u; the keys and values of the others are as they were
pub record Written (w u : List ℕ) (h count : ℕ) (k : Key) (v : ℕ) : Type 0 where
  pub long : length u ≡ length w
  pub is_key : key_at u h count ≡ k
  pub is_value : value u h count ≡ v
  pub is_leaf : links u h count ≡ 0
  pub keys : (j : ℕ) → j < count → key_at u h j ≡ key_at w h j
  pub values : (j : ℕ) → j < count → value u h j ≡ value w h j

-- so are they after a store to a head or to an earlier link
written_kept : {w x u : List ℕ} {h count : ℕ} {k : Key} {v : ℕ} → Written w x h count k v → length u ≡ length x
    → ((i : ℕ) → h ≤ i → ((j : ℕ) → j < count → i ≢ h + 4 * j + 3) → slice_index u i ≡ slice_index x i) → Written w u h count k v
written_kept {w} {x} {u} {h} {count} s l f =
    let key : (j : ℕ) → key_at u h j ≡ key_at x h j
    = λ j. rw (f (h + 4 * j) (omega arith) (λ i m e. omega arith), f (h + 4 * j + 1) (omega arith) (λ i m e. omega arith)) in
    let val : (j : ℕ) → value u h j ≡ value x h j = λ j. f (h + 4 * j + 2) (omega arith) (λ i m e. omega arith) in
    record {
      long = l ∙ s.long;
      is_key = key count ∙ s.is_key;
      is_value = val count ∙ s.is_value;
      is_leaf = f (h + 4 * count + 3) (omega arith) (λ i m e. omega arith) ∙ s.is_leaf;
      keys = λ j m. key j ∙ s.keys j m;
      values = λ j m. val j ∙ s.values j m;
    }

written : (w : List ℕ) (h count : ℕ) (k : Key) (v : ℕ) → h + 4 * count + 4 ≤ length w → Written w (entered w (h + 4 * count) k v) h count k v
written w h count k v r =
    let a : ℕ = h + 4 * count in
    record {
      long = simp length-set;
      is_key = rw (word_0 w a k v r, word_1 w a k v r);
      is_value = word_2 w a k v r;
      is_leaf = word_3 w a k v r;
      keys = λ j m. rw (before w a k v (h + 4 * j) (omega arith), before w a k v (h + 4 * j + 1) (omega arith));
      values = λ j m. before w a k v (h + 4 * j + 2) (omega arith);
    }

-- ---- a head that was just set, and one that was not
module _ (u : List ℕ) (epoch b i : ℕ) (fits : i < 4294967296) where
  head_set : slice_index_or u b 0 ≡ 4294967296 * epoch + i → (slice_index u b / 4294967296 ≡ epoch) × (head_at u epoch b ≡ i)
  unfolding head_at
  head_set e =
      let high : (4294967296 * epoch + i) / 4294967296 ≡ epoch = omega arith in
      let low : (4294967296 * epoch + i) % 4294967296 ≡ i = omega arith in
      (rw e high, rw (e, high, low, eq-eqb epoch epoch refl))

head_same : (u w : List ℕ) (epoch b : ℕ) → slice_index u b ≡ slice_index w b → head_at u epoch b ≡ head_at w epoch b
unfolding head_at
head_same u w epoch b e = rw e

-- ---- the table with entry `count`, u: its words, and the way to it
pub record Stored (w u : List ℕ) (h epoch count : ℕ) (k : Key) (v : ℕ) : Type 0 where
  pub written : Written w u h count k v
  pub past : (b : ℕ) → b < h → slice_index u b / 4294967296 ≤ epoch
  pub heads : (b : ℕ) → b < h → Filled (suc count) (head_at w epoch b) (head_at u epoch b)
  pub extends : Extends w u h count
  pub leads : Leads u h k.left (head_at u epoch (bucket_of h k)) (suc count)

module _ {w u : List ℕ} {h epoch count : ℕ} {k : Key} {v : ℕ} (g : Linked w h epoch count) (absent : newest w h count k ≡ 0) (s : Stored w u h epoch count k v) where
  -- what led to an entry still does
  leads_with : {path p j : ℕ} → Leads w h path p (suc j) → p ≤ count → Leads u h path p (suc j)
  leads_with here l = here
  leads_with (down {path = path} {j = i} r) l = down (leads_filled (s.extends i path l) (leads_with r (g.forward.low i path l)))

  leads_kept : {path p j : ℕ} → p ≤ count → Leads w h path p (suc j) → Leads u h path p (suc j)
  leads_kept l r = leads_with r l

  newest_kept : (l : Key) (m : ℕ) → m ≤ count → newest u h m l ≡ newest w h m l
  unfolding newest
  newest_kept l zero m = refl
  newest_kept l (suc n) m = rw (ap (λ (x : Key). same_key x l) (s.written.keys n m), newest_kept l n (omega arith))

  answer : (l : Key) → newest u h (count + 1) l ≡ cond (same_key k l) (count + 1) (newest w h count l)
  unfolding newest
  answer l = rw (add-one count, ap (λ (x : Key). same_key x l) s.written.is_key, newest_kept l count (omega arith))

  child_low : (j path : ℕ) → j < count + 1 → child_of (links u h j) path ≤ count + 1
  child_low j path =
      below_more (λ i. child_of (links u h i) path ≤ count + 1) count
      (λ i l. omega (arith, filled_le (s.extends i path l) (omega (arith, g.forward.low i path l))))
      (rw (s.written.is_leaf, child_none path) (omega arith)) j

  child_later : (j path : ℕ) → j < count + 1 → 0 < child_of (links u h j) path → suc j < child_of (links u h j) path
  child_later j path =
      below_more (λ i. 0 < child_of (links u h i) path → suc i < child_of (links u h i) path) count
      (λ i l. filled_later (s.extends i path l) (omega arith) (g.forward.later i path l))
      (rw (s.written.is_leaf, child_none path) (λ z. absurd (omega arith))) j

  -- a key's bits lead to entry i
  abbrev Leading : ℕ → Key → Type 0
  Leading i l = Leads u h l.left (head_at u epoch (bucket_of h l)) (suc i)

  reached : (j : ℕ) → j < count + 1 → Leads u h (key_at u h j).left (head_at u epoch (bucket_at u h j)) (suc j)
  reached =
      below_more (λ i. Leading i (key_at u h i)) count
      (λ i l.
      let b : bucket_at w h i < h = bucket_low h (key_at w h i) g.some in
      subst (Leading i) (sym (s.written.keys i l)) (leads_filled (s.heads (bucket_at w h i) b) (leads_kept (g.heads (bucket_at w h i) b) (g.reached i l))))
      (subst (Leading count) (sym s.written.is_key) s.leads)

  once : (j : ℕ) → j < count + 1 → newest u h (count + 1) (key_at u h j) ≡ suc j
  once =
      below_more (λ i. newest u h (count + 1) (key_at u h i) ≡ suc i) count
      (λ i l. rw (s.written.keys i l) (answer (key_at w h i) ∙ go i l (same_key k (key_at w h i)) refl))
      (rw s.written.is_key (answer k ∙ rw (key_same k) (add-one count)))
    where
      go : (i : ℕ) → i < count → (t : Bool) → same_key k (key_at w h i) ≡ t → cond t (count + 1) (newest w h count (key_at w h i)) ≡ suc i
      go i l true q =
          let z : newest w h count k ≡ suc i = ap (newest w h count) (same_key_lem k (key_at w h i) q) ∙ g.once i l in
          absurd (omega arith)
      go i l false q = g.once i l

  added : h + 4 * count + 4 ≤ length w → Added w u h epoch count k v
  added r =
      record {
        linked = record {
          some = g.some;
          few = g.few;
          fits = g.fits;
          room = rw s.written.long (omega arith);
          past = s.past;
          heads = λ b l. omega (arith, filled_le (s.heads b l) (omega (arith, g.heads b l)));
          forward = record { low = child_low; later = child_later };
          reached = reached;
          once = once;
        };
        answer = answer;
        is_key = s.written.is_key;
        is_value = s.written.is_value;
        keys = s.written.keys;
        values = s.written.values;
        long = s.written.long;
      }

-- ---- what the code of `insert` is proved by
module _ {w : List ℕ} {h epoch count b p : ℕ} {k : Key} (v : ℕ) (g : Addable w h epoch count b p k) where
  abbrev x : List ℕ
  x = entered w (h + 4 * count) k v

  -- the words of heads and of the earlier links are as they were
  head_kept : (i : ℕ) → i < h → slice_index x i ≡ slice_index w i
  head_kept i m = before w (h + 4 * count) k v i (omega arith)

  links_kept : (j : ℕ) → j < count → links x h j ≡ links w h j
  links_kept j m = before w (h + 4 * count) k v (h + 4 * j + 3) (omega arith)

  -- the first entry of its bucket
  pub first_added : p ≡ 0 → Added w (slice_set (entered w (h + 4 * count) k v) b (4294967296 * epoch + (count + 1))) h epoch count k v
  first_added z = added g.linked g.absent stored g.room
    where
      u : List ℕ
      u = slice_set x b (4294967296 * epoch + (count + 1))

      away : (i : ℕ) → (i ≢ b) → slice_index u i ≡ slice_index x i
      away i n = get_or-set_other x b i (4294967296 * epoch + (count + 1)) 0 n

      own : (slice_index u b / 4294967296 ≡ epoch) × (head_at u epoch b ≡ count + 1)
      own = head_set u epoch b (count + 1) (omega (arith, g.few)) (get_or-set_same x b (4294967296 * epoch + (count + 1)) 0 (simp length-set (omega (arith, g.low, g.room))))

      head : (i : ℕ) → i < h → (slice_index u i / 4294967296 ≤ epoch) × Filled (suc count) (head_at w epoch i) (head_at u epoch i)
      head i m = go (i == b) refl
        where
          go : (t : Bool) → (i == b) ≡ t → (slice_index u i / 4294967296 ≤ epoch) × Filled (suc count) (head_at w epoch i) (head_at u epoch i)
          go true q = rw (eqb-true i b q, own.0, sym g.first ∙ z, own.1, add-one count) (omega arith, new)
          go false q =
              let y : slice_index_or u i 0 ≡ slice_index_or w i 0 = away i (eqb-false i b q) ∙ head_kept i m in
              (rw y (g.linked.past i m), rw (head_same u w epoch i y) same)

      stored : Stored w u h epoch count k v
      stored =
          record {
            written = written_kept (written w h count k v g.room) (length-set x b (4294967296 * epoch + (count + 1))) (λ i m n. away i (λ q. omega (arith, g.low)));
            past = λ i m. (head i m).0;
            heads = λ i m. (head i m).1;
            extends = λ j path m. rw (away (h + 4 * j + 3) (λ q. omega (arith, g.low)) ∙ links_kept j m) same;
            leads = rw (← g.bucket, own.1, add-one count) here;
          }

  -- an entry below the first of its bucket: what `attach` asks, and what it then has done
  pub attach_asks : (p ≢ 0) → Forward (entered w (h + 4 * count) k v) h count × (0 < p) × (p ≤ count) × (count < 65536) × (h + 4 * count ≤ length (entered w (h + 4 * count) k v))
  attach_asks n = (
    record {
      low = λ j path m. rw (links_kept j m) (g.linked.forward.low j path m);
      later = λ j path m. rw (links_kept j m) (g.linked.forward.later j path m);
    },
    omega arith,
    rw g.first (g.linked.heads b g.low),
    g.few,
    simp length-set (omega (arith, g.room)),
  )

  pub later_added : {u : List ℕ} → Attached (entered w (h + 4 * count) k v) u h count p k.left → Added w u h epoch count k v
  later_added {u} s = added g.linked g.absent stored g.room
    where
      head : (i : ℕ) → i < h → slice_index u i ≡ slice_index w i
      head i m = s.kept i (λ j n y. omega arith) ∙ head_kept i m

      stored : Stored w u h epoch count k v
      stored =
          record {
            written = written_kept (written w h count k v g.room) s.long (λ i m. s.kept i);
            past = λ i m. rw (head i m) (g.linked.past i m);
            heads = λ i m. rw (head_same u w epoch i (head i m)) same;
            extends = λ j path m. rw (← links_kept j m) (s.extends j path m);
            leads = rw (← g.bucket, head_same u w epoch b (head b g.low), ← g.first) s.leads;
          }

-- ---- an empty table: all heads are of an earlier epoch
empty : {w : List ℕ} {h epoch : ℕ} → 0 < h → h ≤ 65536 → epoch < 4294967296 → h ≤ length w → ((b : ℕ) → b < h → slice_index w b / 4294967296 < epoch) → Linked w h epoch 0
unfolding head_at
empty {w} {h} {epoch} l f n r q =
    record {
      some = l;
      few = f;
      fits = n;
      room = omega arith;
      past = λ b m. omega (arith, q b m);
      heads = λ b m. let z = q b m in rw (ne_eqb (slice_index w b / 4294967296) epoch (λ e. omega arith)) (omega arith);
      forward = record { low = λ j path m. absurd (omega arith); later = λ j path m. absurd (omega arith) };
      reached = λ j m. absurd (omega arith);
      once = λ j m. absurd (omega arith);
    }

pub next_epoch : {w : List ℕ} {h epoch count : ℕ} → Linked w h epoch count → epoch + 1 < 4294967296 → Linked w h (epoch + 1) 0
next_epoch g f = empty g.some g.few f (omega (arith, g.room)) (λ b l. omega (arith, g.past b l))

pub no_entries : (w : List ℕ) (h : ℕ) → 0 < h → h ≤ 65536 → h ≤ length w → ((b : ℕ) → b < h → slice_index w b ≡ 0) → Linked w h 1 0
no_entries w h l f r z = empty l f (omega arith) r (λ b m. rw (z b m) (omega arith))
