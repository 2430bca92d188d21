-- A word of two links, of which one is filled, and the walk to the place of a new entry.
-- Assumes nothing.
use Rattle.std.specs.Prelude.{◌≡◌, ℕ, zero, suc, ◌+◌, ◌-◌, ◌*◌, ◌/◌, ◌%◌, ◌^◌, ◌<◌, ◌≤◌, Bool, true, false, cond, List, length, ◌==◌, ◌≢◌, slice_set, refl}
use Rattle.std.proofs.Common.{sym, ◌∙◌, add-one, arith, length-set, get_or-set_same, get_or-set_other, eqb-true}
use Rattle.std.proofs.lemmas.Bool.{eqb-false}
use Rattle.values.specs.laws.Entries.{links, child_of, link_of, Leads, here, Forward, Filled, same, new, Extends, Attached}
use Rattle.values.specs.laws.Search.{leads_none, leads_from}

-- ---- a word of two links, by shifts
pub child_shifted : (x path : ℕ) → x / 2 ^ (32 * (path % 2)) % 4294967296 ≡ child_of x path
unfolding child_of
child_shifted x path = go (path % 2) (omega arith)
  where
    go : (r : ℕ) → r < 2 → x / 2 ^ (32 * r) % 4294967296 ≡ cond (r == 0) x (x / 4294967296) % 4294967296
    go zero l = omega arith
    go (suc zero) l = refl
    go (suc (suc r)) l = absurd (omega arith)

pub link_shifted : (i path : ℕ) → i < 4294967296 → i * 2 ^ (32 * (path % 2)) % 2 ^ 64 ≡ link_of i path
unfolding link_of
link_shifted i path f = go (path % 2) (omega arith)
  where
    go : (r : ℕ) → r < 2 → i * 2 ^ (32 * r) % 2 ^ 64 ≡ cond (r == 0) i (4294967296 * i)
    go zero l = omega arith
    go (suc zero) l = omega arith
    go (suc (suc r)) l = absurd (omega arith)

-- ---- one link more
pub child_none : (path : ℕ) → child_of 0 path ≡ 0
unfolding child_of
child_none path = go (path % 2 == 0)
  where
    go : (t : Bool) → cond t 0 (0 / 4294967296) % 4294967296 ≡ 0
    go true = refl
    go false = refl

module _ (x i : ℕ) (fits : i < 4294967296) where
  room : (t : Bool) → cond t x (x / 4294967296) % 4294967296 ≡ 0 → x < 2 ^ 64 → x + cond t i (4294967296 * i) < 2 ^ 64
  room true free l = omega arith
  room false free l =
      let high : x / 4294967296 < 4294967296 = omega arith in
      let none : x / 4294967296 ≡ 0 = omega arith in
      omega arith

  filled : (t : Bool) → cond t x (x / 4294967296) % 4294967296 ≡ 0 → cond t (x + cond t i (4294967296 * i)) ((x + cond t i (4294967296 * i)) / 4294967296) % 4294967296 ≡ i
  filled true free = omega arith
  filled false free =
      let high : (x + 4294967296 * i) / 4294967296 ≡ x / 4294967296 + i = omega arith in
      rw high (omega arith)

  fills : (t s : Bool) → cond t x (x / 4294967296) % 4294967296 ≡ 0
      → Filled i (cond s x (x / 4294967296) % 4294967296) (cond s (x + cond t i (4294967296 * i)) ((x + cond t i (4294967296 * i)) / 4294967296) % 4294967296)
  fills true true free = rw (free, filled true free) new
  fills false false free = rw (free, filled false free) new
  fills true false free = let e : (x + i) / 4294967296 ≡ x / 4294967296 = omega arith in rw e same
  fills false true free = let e : (x + 4294967296 * i) % 4294967296 ≡ x % 4294967296 = omega arith in rw e same

  module _ (path : ℕ) (free : child_of x path ≡ 0) where
    link_room : x < 2 ^ 64 → x + link_of i path < 2 ^ 64
    unfolding child_of link_of
    link_room = room (path % 2 == 0) free

    link_filled : child_of (x + link_of i path) path ≡ i
    unfolding child_of link_of
    link_filled = filled (path % 2 == 0) free

    link_fills : (side : ℕ) → Filled i (child_of x side) (child_of (x + link_of i path) side)
    unfolding child_of link_of
    link_fills side = fills (path % 2 == 0) (side % 2 == 0) free

-- ---- what was 0 and is filled, or is as it was
filled_same : {i x y : ℕ} → Filled i x y → (x ≢ 0) → y ≡ x
filled_same same n = refl
filled_same new n = absurd (n refl)

pub filled_le : {i x y : ℕ} → Filled i x y → x ≤ i → y ≤ i
filled_le same l = l
filled_le new l = omega arith

pub filled_later : {i x y m : ℕ} → Filled i x y → m < i → (0 < x → m < x) → 0 < y → m < y
filled_later same l f = f
filled_later new l f = λ z. l

pub leads_filled : {w : List ℕ} {h path i x y j : ℕ} → Filled i x y → Leads w h path x (suc j) → Leads w h path y (suc j)
leads_filled same r = r
leads_filled new r = absurd (leads_none r)

-- ---- the walk to the place of entry `count`, at entry p - 1, in a table w that is as it was: what is led to from there, in
-- whatever table extends this one, is led to from the start
pub record Descent (w₀ w : List ℕ) (h count first left path p : ℕ) : Type 0 where
  pub kept : w ≡ w₀
  pub forward : Forward w h count
  pub few : count < 65536
  pub room : h + 4 * count ≤ length w
  pub some : 0 < p
  pub low : p ≤ count
  pub back : (u : List ℕ) → Extends w u h count → Leads u h path p (suc count) → Leads u h left first (suc count)

pub descent_start : {w : List ℕ} {h count first left : ℕ} → Forward w h count → 0 < first → first ≤ count → count < 65536 → h + 4 * count ≤ length w → Descent w w h count first left left first
descent_start f l m n r = record { kept = refl; forward = f; few = n; room = r; some = l; low = m; back = λ u x z. z }

module _ {w₀ w : List ℕ} {h count first left path p : ℕ} (s : Descent w₀ w h count first left path p) where
  inside : p - 1 < count
  inside = let l = s.some in let m = s.low in omega arith

  module _ {q : ℕ} (e : q ≡ child_of (links w h (p - 1)) path) where
    module _ (n : q ≡ 0 → ⊥) where
      low : q ≤ count
      low = rw e (s.forward.low (p - 1) path inside)

      later : p < q
      later =
          let z : 0 < child_of (links w h (p - 1)) path = omega arith in
          omega (arith, s.some, s.forward.later (p - 1) path inside z)

      pub descent_less : count - q < count - p
      descent_less = omega (arith, later, low)

      pub descent_on : Descent w₀ w h count first left (path / 2) q
      descent_on =
          record {
            kept = s.kept;
            forward = s.forward;
            few = s.few;
            room = s.room;
            some = omega (arith, later);
            low = low;
            back = λ u x r.
                let kept : child_of (links u h (p - 1)) path ≡ q = filled_same (x (p - 1) path inside) (λ z. n (e ∙ z)) ∙ sym e in
                s.back u x (leads_from s.some (rw kept r));
          }

    -- the end of the walk: the entry goes there
    module _ (z : q ≡ 0) {i : ℕ} (f : i ≡ link_of (count + 1) path) where
      abbrev at : ℕ
      at = h + 4 * (p - 1) + 3

      abbrev u : List ℕ
      u = slice_set w at (links w h (p - 1) + i)

      free : child_of (links w h (p - 1)) path ≡ 0
      free = sym e ∙ z

      small : count + 1 < 4294967296
      small = omega (arith, s.few)

      own : links u h (p - 1) ≡ links w h (p - 1) + link_of (count + 1) path
      own = get_or-set_same w at (links w h (p - 1) + i) 0 (omega (arith, inside, s.room)) ∙ rw f

      extends : Extends w u h count
      extends j side l = go (j == p - 1) refl
        where
          go : (t : Bool) → (j == p - 1) ≡ t → Filled (suc count) (child_of (links w h j) side) (child_of (links u h j) side)
          go true y = rw (eqb-true j (p - 1) y, own, ← add-one count) (link_fills (links w h (p - 1)) (count + 1) small path free side)
          go false y =
              let o = eqb-false j (p - 1) y in
              rw (get_or-set_other w at (h + 4 * j + 3) (links w h (p - 1) + i) 0 (λ x. o (omega arith))) same

      pub attach_room : links w h (p - 1) < 2 ^ 64 → links w h (p - 1) + i < 2 ^ 64
      attach_room l = rw f (link_room (links w h (p - 1)) (count + 1) small path free l)

      pub attached : Attached w₀ (slice_set w (h + 4 * (p - 1) + 3) (links w h (p - 1) + i)) h count first left
      attached =
          rw (← s.kept)
          (record {
            long = length-set w at (links w h (p - 1) + i);
            kept = λ j n. get_or-set_other w at j (links w h (p - 1) + i) 0 (n (p - 1) inside);
            extends = extends;
            leads = s.back u extends (leads_from s.some (rw (own, link_filled (links w h (p - 1)) (count + 1) small path free, add-one count) here));
          })
