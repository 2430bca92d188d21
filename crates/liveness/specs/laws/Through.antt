-- A slot followed from the end of a row of places to its start, and the two sets that tell the same of all slots at once: those
-- that are used before they are written, and those that are preserved, that is never written.
-- Assumes nothing.
use Rattle.std.specs.Prelude.{◌≡◌, Bool, cond, not, ◌&&◌, ◌||◌, List, replicate}
use Rattle.std.proofs.Math.Path.{refl}
use Rattle.std.proofs.Math.Bool.{true, false}
use Prim.Native.Nat.{ℕ, zero, suc, ◌+◌, ◌*◌, ◌-◌, ◌≤◌, ◌<◌}
use native.Mathlib.Omega.{arith}
use Rattle.std.proofs.Math.ListN.{length}
use borrow.Rule.Slice.PartMut.{mid_of, put_mid}
use Rattle.words.specs.laws.Bits.{member}
use Rattle.effects.specs.Shape.{Tables, Cell, cell_at}
use Rattle.pc_map.specs.Boundary.{is_kept}
use Rattle.words.specs.laws.Only.{At, Either, Only, both_lent}
use Rattle.use_def.specs.laws.Sets.{Put}
use Rattle.use_def.specs.laws.Touched.{reading, writing, Before}
use Rattle.use_def.specs.laws.Wordwise.{none_in, all_in}

-- is the slot live before an instruction, if it is so after it?
abbrev pub live_bit : Tables → Bool → Cell → ℕ → Bool → Bool
live_bit T kept x t live = cond kept (reading T x t || (live && not (writing T x t))) live

-- the same over k places from p on
unfoldable pub through : Tables → List ℕ → List Cell → ℕ → ℕ → ℕ → Bool → Bool
through T keep cells t p zero live = live
through T keep cells t p (suc k) live = live_bit T (is_kept keep p) (cell_at cells p) t (through T keep cells t (suc p) k live)

-- what a place, kept or not, makes of the two sets
pub record Placed (T : Tables) (kept : Bool) (x : Cell) (uses preserved uses' preserved' : List ℕ) : Type 0 where
  pub used : (t : ℕ) → member uses' t ≡ live_bit T kept x t (member uses t)
  pub left : (t : ℕ) → member preserved' t ≡ cond kept (cond (writing T x t) false (member preserved t)) (member preserved t)

pub placed : (T : Tables) (kept : Bool) (x : Cell) (u v u' v' : List ℕ) → kept ≡ true → Put false (writing T x) v v' → Before T x u u' → Placed T kept x u v u' v'
placed T kept x u v u' v' k p b = record { used = λ t. rw k (b t); left = λ t. rw k (p t) }

pub not_placed : (T : Tables) (kept : Bool) (x : Cell) (u v : List ℕ) → kept ≡ false → Placed T kept x u v u v
not_placed T kept x u v k = record { used = λ t. rw k; left = λ t. rw k }

-- a kept place, the two sets being lent one after the other
pub lent_placed : (T : Tables) (x : Cell) (kept : Bool) → kept ≡ true → (m : List ℕ) (a b k : ℕ) (xs ys : List ℕ) → a + k ≤ b → b + k ≤ length m
    → length ys ≡ length (mid_of b (b + k - b) m) → length xs ≡ length (mid_of a (a + k - a) (put_mid b (b + k - b) m ys))
    → Put false (writing T x) (mid_of b (b + k - b) m) ys → Before T x (mid_of a (a + k - a) (put_mid b (b + k - b) m ys)) xs
    → (m' : List ℕ) → m' ≡ put_mid a (a + k - a) (put_mid b (b + k - b) m ys) xs → Placed T kept x (mid_of a k m) (mid_of b k m) (mid_of a k m') (mid_of b k m') × Only (Either (At a k) (At b k)) m m'
lent_placed T x kept e m a b k xs ys h g ly lx p q m' d =
    let z = both_lent m a b k xs ys (put_mid b (b + k - b) m ys) h g refl ly lx in
    let part : b + k - b ≡ k = omega arith in
    rw (d, z.low, z.high) (placed T kept x (mid_of a k m) (mid_of b k m) xs ys e (rw part at p) (rw z.was at q), z.only)

-- the sets tell what is live at the start
pub record Summary (T : Tables) (keep : List ℕ) (cells : List Cell) (uses preserved : List ℕ) (p k : ℕ) : Type 0 where
  pub whole : (t : ℕ) → t < 64 * length uses → (live : Bool) → through T keep cells t p k live ≡ (member uses t || (live && member preserved t))

module _ (T : Tables) (keep : List ℕ) (cells : List Cell) where
  pub summary_begin : (n v p k : ℕ) (u l : List ℕ) → v ≡ 18446744073709551615 → k ≡ 0 → u ≡ replicate n 0 → l ≡ replicate n v → length u ≡ n → Summary T keep cells u l p k
  unfolding through
  summary_begin n v p k u l d z e f g = record { whole = whole }
    where
      keeps : (live : Bool) → live ≡ (false || (live && true))
      keeps true = refl
      keeps false = refl

      whole : (t : ℕ) → t < 64 * length u → (live : Bool) → through T keep cells t p k live ≡ (member u t || (live && member l t))
      whole t h live =
          let room : t < 64 * n = rw g at h in
          rw (z, e, f, d, none_in n t, all_in n t room) (keeps live)

  step : (kept r w u a v : Bool) → cond kept (r || ((u || (a && v)) && not w)) (u || (a && v)) ≡ (cond kept (r || (u && not w)) u || (a && cond kept (cond w false v) v))
  step true r w u a v = go r w u a v
    where
      go : (r w u a v : Bool) → (r || ((u || (a && v)) && not w)) ≡ ((r || (u && not w)) || (a && cond w false v))
      go true w u a v = refl
      go false true true true true = refl
      go false true true true false = refl
      go false true true false true = refl
      go false true true false false = refl
      go false true false true true = refl
      go false true false true false = refl
      go false true false false true = refl
      go false true false false false = refl
      go false false true true true = refl
      go false false true true false = refl
      go false false true false true = refl
      go false false true false false = refl
      go false false false true true = refl
      go false false false true false = refl
      go false false false false true = refl
      go false false false false false = refl
  step false r w u a v = refl

  pub summary_turn : (x : Cell) (u v u' v' : List ℕ) (p q e : ℕ) → p ≡ suc q → p ≤ e → cell_at cells q ≡ x → Summary T keep cells u v p (e - p) → length u' ≡ length u
      → Placed T (is_kept keep q) x u v u' v' → Summary T keep cells u' v' q (e - q)
  unfolding through
  summary_turn x u v u' v' p q e d h c s l f = record { whole = whole }
    where
      whole : (t : ℕ) → t < 64 * length u' → (live : Bool) → through T keep cells t q (e - q) live ≡ (member u' t || (live && member v' t))
      whole t g live =
          let more : e - q ≡ suc (e - p) = omega arith in
          let room : t < 64 * length u = rw l at g in
          let tail : through T keep cells t (suc q) (e - p) live ≡ (member u t || (live && member v t)) = rw (← d) (s.whole t room live) in
          rw (more, c, tail, f.used t, f.left t) (step (is_kept keep q) (reading T x t) (writing T x t) (member u t) live (member v t))
