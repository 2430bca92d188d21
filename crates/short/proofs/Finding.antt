-- The number of a unit: what its length and its instructions say is the only one that it can have.
-- Assumes nothing.
use mathlib.Core.Path.{◌≡◌, ap, ◌∙◌}
use mathlib.Core.List.{List}
use Prim.Native.Nat.{ℕ, ◌+◌, ◌^◌, ◌≤◌, ◌<◌}
use lib.ListN.{length}
use Rattle.short.specs.Short.{length_of, first_of, rank_of, unit_size, unit_at, unit_of, short_count, HasNumber}
use Rattle.short.specs.laws.Digits.{unit_at_long}
use Rattle.short.specs.laws.Ranks.{parts, numbered}
use Rattle.std.specs.Prelude.{Option, Some, None}
use Rattle.std.proofs.lemmas.Option.{none-some}

-- the length of the function is the one that the unit's length leaves
abbrev pub LengthIs : List ℕ → Option ℕ → Type 0
LengthIs u found = (m : ℕ) → 2 ≤ m → m ≤ 4 → length u ≡ unit_size m → found ≡ Some m

length_of_number : (u : List ℕ) (found : Option ℕ) (k : ℕ) → LengthIs u found → k < short_count → u ≡ unit_of k → found ≡ Some (length_of k)
length_of_number u found k lengths h same =
    let p = parts k h in
    lengths (length_of k) p.two p.four (ap length same ∙ unit_at_long (length_of k) (rank_of k))

pub no_length : (u : List ℕ) → LengthIs u None → HasNumber u None
unfolding HasNumber
no_length u lengths k h same = let e = length_of_number u None k lengths h same in absurd (none-some _ e)

-- and its rank the one that its instructions leave
pub record Candidate (u : List ℕ) (n rank : ℕ) : Type 0 where
  pub two : 2 ≤ n
  pub four : n ≤ 4
  pub lengths : LengthIs u (Some n)
  pub inside : rank < 24 ^ n
  pub ranks : (k : ℕ) → k < 24 ^ n → u ≡ unit_at n k → rank ≡ k

module _ {u : List ℕ} {n rank : ℕ} (c : Candidate u n rank) where
  pub found : u ≡ unit_at n rank → HasNumber u (Some (first_of n + rank))
  unfolding HasNumber
  found same = let d = numbered n rank c.two c.four c.inside in (d.some, rw (d.rank_is, d.length_is) same)

  pub not_found : (u ≡ unit_at n rank → ⊥) → HasNumber u None
  unfolding HasNumber
  not_found other k h same =
      let n-is : n ≡ length_of k = cc (length_of_number u (Some n) k c.lengths h same) in
      let unit : u ≡ unit_at n (rank_of k) = rw n-is same in
      let rank_is = c.ranks (rank_of k) (rw n-is (parts k h).inside) unit in
      other (rw rank_is unit)
