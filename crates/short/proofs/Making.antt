-- What is made of a number, by the tests that the code makes.
-- Assumes nothing.
use Rattle.std.specs.Prelude.{Result, Ok, Option, Some, None}
use mathlib.Core.Path.{◌≡◌, refl, sym, ap, ◌∙◌}
use mathlib.Core.List.{List}
use Prim.Native.Nat.{ℕ, ◌+◌, ◌-◌, ◌≤◌, ◌<◌}
use native.Mathlib.Nat.{zero-add}
use native.Mathlib.Omega.{arith}
use lib.ListN.{length, get_or, set}
use lib.Seq.{ext_get_or}
use borrow.Author.Tests.{lt-ltb, le-ltb, le-leb, lt-leb}
use borrow.Rule.Slice.PartMut.{put_mid}
use Rattle.words.specs.Lists.{tabulate}
use Rattle.words.specs.laws.Lists.{length_tabulate, get_d_tabulate}
use Rattle.words.specs.laws.Regions.{put_long, tabulate_turn}
use Rattle.unit.specs.Refusal.{short_buffer, Refused}
use Rattle.short.specs.Short.{length_of, first_of, unit_size, unit_at, made_of, buffer_after, short_count}
use Rattle.short.specs.laws.Digits.{unit_at_long}
use Rattle.short.specs.laws.Ranks.{parts}
use Rattle.unit.specs.declared.refusal.Refusal.{Refusal}

-- the answer, and the buffer after it
abbrev pub Makes : ℕ → List ℕ → Result (Option ℕ) Refusal → List ℕ → Type 0
Makes k out r out' = (r ≡ made_of k (length out)) × (out' ≡ buffer_after k out)

pub none_made : (k : ℕ) (out : List ℕ) → short_count ≤ k → Makes k out (Ok None) out
unfolding made_of buffer_after
none_made k out h = rw (le-ltb k short_count h) (refl, refl)

-- a list is its elements
all_bytes : (u : List ℕ) (k : ℕ) → length u ≡ k → tabulate k (λ j. get_or u j 0) ≡ u
all_bytes u k e =
    ext_get_or 0 (tabulate k (λ j. get_or u j 0)) u (length_tabulate k _ ∙ sym e)
    (λ i h. let low : i < k = rw (length_tabulate k _) at h in get_d_tabulate k (λ j. get_or u j 0) i 0 low)

-- the bytes below i are written
pub record Written (n rank end : ℕ) (out out' : List ℕ) (i : ℕ) : Type 0 where
  pub within : i ≤ end
  pub room : end ≤ length out
  pub bytes : out' ≡ put_mid 0 i out (tabulate i (λ j. get_or (unit_at n rank) j 0))

pub none_written : (n rank end : ℕ) (out : List ℕ) → end ≤ length out → Written n rank end out out 0
unfolding tabulate
none_written n rank end out room = record { within = omega arith; room = room; bytes = refl }

module _ {n rank end : ℕ} {out out' : List ℕ} {i : ℕ} (w : Written n rank end out out' i) where
  pub written_long : length out' ≡ length out
  written_long = let within = w.within in let room = w.room in ap length w.bytes ∙ put_long out 0 i (tabulate i _) (length_tabulate i _) (omega arith)

  pub written_more : i < end → (v : ℕ) → v ≡ get_or (unit_at n rank) i 0 → Written n rank end out (set out' i v) (i + 1)
  written_more h v e =
      let room = w.room in
      record {
        within = omega arith;
        room = room;
        bytes = rw (zero-add i) at (tabulate_turn (λ j. get_or (unit_at n rank) j 0) out out' 0 i v w.bytes e (omega arith));
      }

-- the parts of a number, as the code has them
pub record Known (k n first end : ℕ) : Type 0 where
  pub some : k < short_count
  pub length_is : n ≡ length_of k
  pub first_is : first ≡ first_of n
  pub end_is : end ≡ unit_size n

module _ {k n first end : ℕ} (d : Known k n first end) where
  pub few : n ≤ 4
  few = rw d.length_is (parts k d.some).four

  pub first_below : first ≤ k
  first_below = let whole = (parts k d.some).whole in rw (d.first_is, d.length_is) (omega arith)

  module _ (out : List ℕ) where
    pub short_made : length out < end → Makes k out (Refused short_buffer 0) out
    unfolding made_of buffer_after
    short_made h =
        let size : end ≡ unit_size (length_of k) = d.end_is ∙ ap unit_size d.length_is in
        rw (lt-ltb k short_count d.some, lt-leb (unit_size (length_of k)) (length out) (rw (← size) h)) (refl, refl)

    pub unit_made : end ≤ length out → (out' : List ℕ) (i : ℕ) → end ≤ i → Written n (k - first) end out out' i → Makes k out (Ok (Some end)) out'
    unfolding made_of buffer_after
    unit_made room out' i past w =
        let within = w.within in
        let all : i ≡ end = omega arith in
        let size : end ≡ unit_size (length_of k) = d.end_is ∙ ap unit_size d.length_is in
        let rank : unit_at n (k - first) ≡ unit_at (length_of k) (k - first_of (length_of k)) = rw (d.first_is, d.length_is) in
        let bytes : out' ≡ put_mid 0 (unit_size (length_of k)) out (unit_at (length_of k) (k - first_of (length_of k))) = w.bytes ∙ rw (all, size, rank, all_bytes (unit_at (length_of k) (k - first_of (length_of k))) (unit_size (length_of k)) (unit_at_long (length_of k) _)) in
        rw (lt-ltb k short_count d.some, le-leb (unit_size (length_of k)) (length out) (rw (← size) room), ← size) (refl, rw size bytes)
