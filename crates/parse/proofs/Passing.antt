-- `all` over the numbers below a bound is the test of them all.
-- Assumes nothing.
use Rattle.std.specs.Prelude.{◌≡◌, ℕ, ◌<◌, Bool, true, false, List, Option}
use Rattle.std.specs.List.{range_with_len, list_all, FoldsTo}
use Rattle.std.specs.Iterator.{YieldsThen}
use Rattle.std.specs.Fn.{Called}
use denote.Param.Members.{Mut}
use Rattle.std.specs.Option.{MatchOption}
use Rattle.std.proofs.Common.{◌∙◌, zero-add}
use Rattle.std.proofs.lemmas.Iterator.{YieldsList}
use Rattle.std.proofs.lemmas.Iterator.Search.{all_from_yields_List}
use Rattle.std.proofs.lemmas.List.FromFn.{get_or-range_with_len, length-range_with_len}
use Rattle.std.proofs.lemmas.List.Sums.{AllPass-from_list_all, list_all-from_AllPass}
use Rattle.words.specs.Lists.{every}
use Rattle.words.specs.laws.Lists.{every_at, every_all}
use Rattle.words.specs.laws.Truth.{same_bool}

pub every_listed : (n : ℕ) (t : ℕ → Bool) → list_all t (range_with_len 0 n) ≡ every n t
every_listed n t = same_bool _ _ up down
  where
    up : list_all t (range_with_len 0 n) ≡ true → every n t ≡ true
    up e = every_all n t (λ k h. rw (get_or-range_with_len 0 n k 0 h ∙ zero-add k) at (AllPass-from_list_all t (range_with_len 0 n) e k 0 (rw (length-range_with_len 0 n) h)))

    down : every n t ≡ true → list_all t (range_with_len 0 n) ≡ true
    down e = list_all-from_AllPass t (range_with_len 0 n) (λ k d h. let low : k < n = rw (length-range_with_len 0 n) at h in rw (get_or-range_with_len 0 n k d low ∙ zero-add k) (every_at n t e k low))

pub every_passed : {S F : Type 0} {steps : S → Option ℕ → S → Type 0} {g : Mut F (ℕ × Unit {0}) Bool} {s : S} {r : Bool} (n : ℕ) (t : ℕ → Bool) (u : S) (f : F)
    → (xs : List ℕ) × (o : Option ℕ) × (j : F) × YieldsThen steps s xs o u × FoldsTo (λ p x q. Called g p (x, tt) true q) f xs j × MatchOption o (r ≡ true) (λ x. (r ≡ false) × ((h : F) × Called g j (x, tt) false h))
    → YieldsList steps (λ x. x) s (range_with_len 0 n) → ((x : ℕ) (b : Bool) (q : F) → Called g f (x, tt) b q → (q ≡ f) × (b ≡ t x)) → r ≡ every n t
every_passed n t u f d e k = all_from_yields_List t u f _ d e k ∙ every_listed n t
