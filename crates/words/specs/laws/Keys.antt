-- The last arm of a match on a number: the keys of the arms before it are ruled out.
-- Assumes nothing.
use Rattle.std.specs.Prelude.{◌≡◌, ℕ, zero, suc, ◌+◌, ◌<◌, ◌≤◌, false, List, [], ◌∷◌, ◌≢◌, refl}
use Rattle.std.proofs.Common.{add-zero, add-suc, arith, ne_eqb}
use Rattle.words.specs.Lists.{is_in}

-- none of the n numbers from s on
abbrev pub Past : ℕ → ℕ → ℕ → Type 0
Past s zero o = Unit {0}
Past s (suc n) o = Past s n o × (o ≢ s + n)

pub past : (s n : ℕ) {o : ℕ} → s ≤ o → Past s n o → s + n ≤ o
past s zero h m = rw add-zero h
past s (suc n) h m =
    let before = past s n h m.0 in
    let other = m.1 in
    rw add-suc (omega arith)

pub only : (k : ℕ) {n : ℕ} → n < suc k → k ≤ n → n ≡ k
only k less h = omega arith

-- none of these, which are listed from the last
abbrev pub NoneOf : List ℕ → ℕ → Type 0
NoneOf [] o = Unit {0}
NoneOf (k ∷ ks) o = NoneOf ks o × (o ≢ k)

pub none_of : (keys : List ℕ) (o : ℕ) → NoneOf keys o → is_in o keys ≡ false
none_of [] o m = refl
none_of (k ∷ ks) o m = rw (ne_eqb o k m.1) (none_of ks o m.0)
