-- The unit of a number fits the program's buffer.
-- Assumes nothing.
use Rattle.std.specs.Prelude.{Result, Ok, Option, Some, None}
use Rattle.std.proofs.Common.{◌≡◌, ◌∙◌, refl, List, replicate, ℕ, ◌≤◌, ◌<◌, arith, length, take, lt-ltb, le-leb}
use lib.Seq.{take_at}
use borrow.Rule.Slice.PartMut.{put_mid}
use Rattle.words.specs.laws.Regions.{put_long}
use Rattle.short.specs.Short.{length_of, rank_of, unit_size, unit_of, short_count, made_of, buffer_after}
use Rattle.short.specs.laws.Ranks.{parts}
use Rattle.short.specs.laws.Digits.{unit_at_long}
use Rattle.unit.specs.Refusal.{Refused}
use Rattle.unit.specs.declared.refusal.Refusal.{Refusal}

-- what is made of a number k with a buffer of 256 bytes
pub record Made256 (k : ℕ) (out : List ℕ) (r : Result (Option ℕ) Refusal) (out' : List ℕ) : Type 0 where
  pub some : k < short_count
  pub room : length out ≡ 256
  pub answer : r ≡ made_of k (length out)
  pub buffer : out' ≡ buffer_after k out

-- what the code that makes it promises is that
pub made256 : {k : ℕ} {r : Result (Option ℕ) Refusal} {out' : List ℕ} → k < short_count → (r ≡ made_of k 256) × (out' ≡ buffer_after k (replicate 256 0)) → Made256 k (replicate 256 0) r out'
made256 low e = record { some = low; room = refl; answer = e.0; buffer = e.1 }

module _ {k : ℕ} {out : List ℕ} {r : Result (Option ℕ) Refusal} {out' : List ℕ} (m : Made256 k out r out') where
  fits : unit_size (length_of k) ≤ length out
  fits = let few = (parts k m.some).four in let room = m.room in omega arith

  pub made : r ≡ Ok (Some (unit_size (length_of k)))
  unfolding made_of
  made = m.answer ∙ rw (lt-ltb k short_count m.some, le-leb (unit_size (length_of k)) (length out) fits)

  pub put : out' ≡ put_mid 0 (unit_size (length_of k)) out (unit_of k)
  unfolding buffer_after
  put = m.buffer ∙ rw (lt-ltb k short_count m.some, le-leb (unit_size (length_of k)) (length out) fits)

  module _ (size : ℕ) (e : r ≡ Ok (Some size)) where
    size_is : size ≡ unit_size (length_of k)
    size_is = cc made

    pub front : take size out' ≡ unit_of k
    front = rw (size_is, put) (take_at (unit_of k) _ (unit_size (length_of k)) (unit_at_long (length_of k) (rank_of k)))

    pub inside : size ≤ length out'
    inside =
        let long = put_long out 0 (unit_size (length_of k)) (unit_of k) (unit_at_long (length_of k) (rank_of k)) (let h = fits in omega arith) in
        rw (size_is, put) (rw long fits)

  pub not_refused : (n p : ℕ) → r ≡ Refused n p → ⊥
  not_refused n p e = let z : ◌≡◌ {A = ℕ} 0 1 = cc made in omega arith

  pub not_none : r ≡ Ok None → ⊥
  not_none e = let z : ◌≡◌ {A = ℕ} 0 1 = cc made in omega arith
