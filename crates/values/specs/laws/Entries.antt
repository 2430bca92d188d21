-- A table of entries in a list of words: h heads, then entries of 4 words, a key of two, a value and two links of 32 bits.
-- What a look-up answers, and what heads and links hold: each bucket is a search tree. The bits of a key's first word, the lowest
-- first, are the path from the bucket's head to the key's entry.
-- Assumes nothing.
use Rattle.std.specs.Prelude.{◌≡◌, ℕ, zero, suc, ◌+◌, ◌*◌, ◌/◌, ◌%◌, ◌^◌, ◌<◌, ◌≤◌, Bool, cond, ◌&&◌, List, length, ◌==◌, ◌≢◌, nat_lt, slice_index}

pub record Key : Type 0 where
  pub left : ℕ
  pub right : ℕ

abbrev pub key : ℕ → ℕ → Key
key left right = record { left = left; right = right }

-- the key in the two words from `at` on
abbrev pub key_in : List ℕ → ℕ → Key
key_in w at = key (slice_index w at) (slice_index w (at + 1))

-- the words of entry j
abbrev pub key_at : List ℕ → ℕ → ℕ → Key
key_at w h j = key_in w (h + 4 * j)

abbrev pub value : List ℕ → ℕ → ℕ → ℕ
value w h j = slice_index w (h + 4 * j + 2)

abbrev pub links : List ℕ → ℕ → ℕ → ℕ
links w h j = slice_index w (h + 4 * j + 3)

-- the link on the side that the lowest bit of a path names: 1 + an entry, or 0
unfoldable pub child_of : ℕ → ℕ → ℕ
child_of x path = cond (path % 2 == 0) x (x / 4294967296) % 4294967296

-- the links of which this one is i and the other is 0
unfoldable pub link_of : ℕ → ℕ → ℕ
link_of i path = cond (path % 2 == 0) i (4294967296 * i)

-- a sum of products by odd constants
unfoldable pub mixed : Key → ℕ
mixed k = (k.left * 11400714819323198485 % 2 ^ 64 + k.right * 14029467366897019727 % 2 ^ 64) % 2 ^ 64

-- the bucket of a key: its first word where that is below h, or the high 32 bits of the mixed key, scaled to h
unfoldable pub bucket_of : ℕ → Key → ℕ
bucket_of h k = cond (nat_lt k.left h) k.left (mixed k / 4294967296 * h / 4294967296)

abbrev pub bucket_at : List ℕ → ℕ → ℕ → ℕ
bucket_at w h j = bucket_of h (key_at w h j)

-- are two keys equal?
unfoldable pub same_key : Key → Key → Bool
same_key k l = k.left == l.left && k.right == l.right

-- 1 + the largest j below n with the key, or 0
unfoldable pub newest : List ℕ → ℕ → ℕ → Key → ℕ
newest w h zero k = 0
newest w h (suc n) k =
    let r = newest w h n k in
    cond (same_key (key_at w h n) k) (suc n) r

-- a head: the epoch in which it was set, and 1 + an entry
unfoldable pub head_at : List ℕ → ℕ → ℕ → ℕ
head_at w epoch b = cond (slice_index w b / 4294967296 == epoch) (slice_index w b % 4294967296) 0

-- a path leads from entry p to entry q, both counted from 1: p is q, or what is left of the path leads there from p's child
pub data Leads (w : List ℕ) (h : ℕ) : ℕ → ℕ → ℕ → Type 0 where
  here : {path p : ℕ} → Leads w h path p p
  down : {path j q : ℕ} → Leads w h (path / 2) (child_of (links w h j) path) q → Leads w h path (suc j) q

-- each child is a later entry, so that every walk ends
pub record Forward (w : List ℕ) (h count : ℕ) : Type 0 where
  pub low : (j path : ℕ) → j < count → child_of (links w h j) path ≤ count
  pub later : (j path : ℕ) → j < count → 0 < child_of (links w h j) path → suc j < child_of (links w h j) path

-- the invariant: a key's bits lead from its bucket's head to its entry, and each key has one entry
pub record Linked (w : List ℕ) (h epoch count : ℕ) : Type 0 where
  pub some : 0 < h
  pub few : h ≤ 65536
  pub fits : epoch < 4294967296
  pub room : h + 4 * count ≤ length w
  pub past : (b : ℕ) → b < h → slice_index w b / 4294967296 ≤ epoch
  pub heads : (b : ℕ) → b < h → head_at w epoch b ≤ count
  pub forward : Forward w h count
  pub reached : (j : ℕ) → j < count → Leads w h (key_at w h j).left (head_at w epoch (bucket_at w h j)) (suc j)
  pub once : (j : ℕ) → j < count → newest w h count (key_at w h j) ≡ suc j

-- a head or a link that is as it was, or was 0 and is i
pub data Filled (i : ℕ) : ℕ → ℕ → Type 0 where
  same : {x : ℕ} → Filled i x x
  new : Filled i 0 i

-- what an attachment of entry `count` does to the links of the others: w before, u after
abbrev pub Extends : List ℕ → List ℕ → ℕ → ℕ → Type 0
Extends w u h count = (j path : ℕ) → j < count → Filled (suc count) (child_of (links w h j) path) (child_of (links u h j) path)

-- entry `count` attached below entry p, along a path; all words but one of the earlier links are as they were
pub record Attached (w u : List ℕ) (h count p path : ℕ) : Type 0 where
  pub long : length u ≡ length w
  pub kept : (i : ℕ) → ((j : ℕ) → j < count → i ≢ h + 4 * j + 3) → slice_index u i ≡ slice_index w i
  pub extends : Extends w u h count
  pub leads : Leads u h path p (suc count)

-- what a look-up asks: p is the head of the key's bucket, in the table's epoch
pub record Findable (w : List ℕ) (h count p : ℕ) (k : Key) : Type 0 where
  pub epoch : ℕ
  pub linked : Linked w h epoch count
  pub first : p ≡ head_at w epoch (bucket_of h k)

-- what an insertion asks: room for one entry more, with a key that has none; its bucket is b, whose head is p
pub record Addable (w : List ℕ) (h epoch count b p : ℕ) (k : Key) : Type 0 where
  pub linked : Linked w h epoch count
  pub bucket : b ≡ bucket_of h k
  pub low : b < h
  pub first : p ≡ head_at w epoch b
  pub few : count < 65536
  pub room : h + 4 * count + 4 ≤ length w
  pub absent : newest w h count k ≡ 0

-- what it does: w before, u after
pub record Added (w u : List ℕ) (h epoch count : ℕ) (k : Key) (v : ℕ) : Type 0 where
  pub linked : Linked u h epoch (count + 1)
  pub answer : (l : Key) → newest u h (count + 1) l ≡ cond (same_key k l) (count + 1) (newest w h count l)
  pub is_key : key_at u h count ≡ k
  pub is_value : value u h count ≡ v
  pub keys : (j : ℕ) → j < count → key_at u h j ≡ key_at w h j
  pub values : (j : ℕ) → j < count → value u h j ≡ value w h j
  pub long : length u ≡ length w
