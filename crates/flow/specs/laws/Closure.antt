-- `reached` holds place 0, is closed under successors, and is the least such set.
-- Assumes nothing.
use Rattle.std.specs.Prelude.{◌≡◌, ℕ, zero, suc, ◌+◌, ◌<◌, ◌≤◌, Bool, true, false, List, [], ◌∷◌, length, replicate, ◌==◌, slice_index, slice_set}
use Rattle.std.proofs.Math.Path.{refl, sym, ap}
use Rattle.std.proofs.Common.{◌∙◌, not-suc-le-zero, arith, length-set, get_or-set_same, eq-eqb, eqb-true}
use Rattle.std.proofs.Math.Logic.{inl, inr}
use mathlib.Core.List.Memᴰ
use Rattle.std.proofs.Math.Decide.{ℕ_discrete}
use Rattle.std.proofs.Math.ListN.{length-replicate}
use Rattle.words.specs.Lists.{sum}
use Rattle.flow.specs.Reach.{Reach, start, step, mark_all, mark_if, sweep, sweeps, reached}
use Rattle.flow.specs.laws.Marks.{In, Marked, Grew, grew_set, grew_self, grew_zeros, no_marks, grew_kept, grew_long, sum_grew, same_or_more, marked_set}

-- place 0 alone
abbrev only_first : ℕ → List ℕ
only_first n = slice_set (replicate n 0) 0 1

mark_grew : {a b : List ℕ} → Grew a b → (qs : List ℕ) → Grew a (mark_all b qs)
unfolding mark_all
mark_grew g [] = g
mark_grew g (q ∷ qs) = mark_grew (grew_set g q) qs

mark_marks : (m qs : List ℕ) (q : ℕ) → Grew m m → In q qs → q < length m → Marked (mark_all m qs) q
unfolding mark_all
mark_marks m [] q g x3 h = elim x3 [ ]
mark_marks m (x ∷ qs) q g (Memᴰ.head e) h = grew_kept (mark_grew (grew_self (grew_set g x)) qs) q (rw e (get_or-set_same m x 1 0 (rw e at h)))
mark_marks m (x ∷ qs) q g (Memᴰ.tail i) h = mark_marks (slice_set m x 1) qs q (grew_self (grew_set g x)) i (simp length-set h)

if_grew : {a b : List ℕ} (t : Bool) → Grew a b → (qs : List ℕ) → Grew a (mark_if t b qs)
unfolding mark_if
if_grew true g qs = mark_grew g qs
if_grew false g qs = g

if_yes : (t : Bool) (m qs : List ℕ) → t ≡ true → mark_if t m qs ≡ mark_all m qs
unfolding mark_if
if_yes t m qs e = rw (e, mark_if)

module _ (n : ℕ) (next : ℕ → List ℕ) where
  sweep_grew : {a b : List ℕ} → Grew a b → (k : ℕ) → Grew a (sweep next k b)
  unfolding sweep
  sweep_grew g zero = g
  sweep_grew {a} {b} g (suc k) = if_grew (slice_index (sweep next k b) k == 1) (sweep_grew g k) (next k)

  -- the successors of a marked place are marked by the sweep that passes it
  sweep_marks : (m : List ℕ) → Grew m m → (p q : ℕ) → Marked m p → In q (next p) → q < length m → (k : ℕ) → p < k → Marked (sweep next k m) q
  unfolding sweep
  sweep_marks m g p q e i h zero lt = absurd (not-suc-le-zero lt)
  sweep_marks m g p q e i h (suc k) lt = go (sweep_marks m g p q e i h k) (ℕ_discrete k p)
    where
      gs : Grew m (sweep next k m)
      gs = sweep_grew g k

      go : (p < k → Marked (sweep next k m) q) → Dec (k ≡ p) → Marked (sweep next (suc k) m) q
      go ih (yes d) =
          let t = eq-eqb (slice_index (sweep next k m) k) 1 (rw d (grew_kept (sweep_grew g p) p e)) in
          rw (if_yes (slice_index (sweep next k m) k == 1) (sweep next k m) (next k) t)
          (mark_marks (sweep next k m) (next k) q (grew_self gs) (rw d i) (rw (grew_long gs) h))
      go ih (no d) = grew_kept (if_grew (slice_index (sweep next k m) k == 1) (grew_self gs) (next k)) q (ih (omega arith))

  -- once a sweep changes nothing, no later one does
  stays : (k : ℕ) (m : List ℕ) → sweep next n m ≡ m → sweeps n next k m ≡ m
  unfolding sweeps
  stays zero m e = refl
  stays (suc k) m e = rw e (stays k m e)

  sweeps_grew : {a b : List ℕ} → Grew a b → (k : ℕ) → Grew a (sweeps n next k b)
  unfolding sweeps
  sweeps_grew g zero = g
  sweeps_grew {b = b} g (suc k) = sweeps_grew {b = sweep next n b} (sweep_grew g n) k

  -- each sweep marks one more, or is the last
  settled : (k : ℕ) (m : List ℕ) → Grew m m → length m ≡ n → n ≤ k + sum m → sweep next n (sweeps n next k m) ≡ sweeps n next k m
  unfolding sweeps
  settled zero m g l h = elim (same_or_more (sweep_grew g n)) [
    | inl e ↦ sym e
    | inr lt ↦ let c = sum_grew (sweep_grew g n) in let d = grew_long (sweep_grew g n) in absurd (omega arith)
  ]
  settled (suc k) m g l h = elim (same_or_more (sweep_grew g n)) [
    | inl e ↦ let r : sweeps n next (suc k) m ≡ m = stays (suc k) m (sym e) in ap (sweep next n) r ∙ sym e ∙ sym r
    | inr lt ↦ settled k (sweep next n m) (grew_self (sweep_grew g n)) (grew_long (sweep_grew g n) ∙ l) (omega arith)
  ]

  first : Grew (only_first n) (only_first n)
  first = grew_self (grew_set (grew_zeros n) 0)

  pub reached_bits : Grew (reached n next) (reached n next)
  unfolding reached
  reached_bits = grew_self (sweeps_grew first n)

  pub reached_long : length (reached n next) ≡ n
  unfolding reached
  reached_long = grew_long (sweeps_grew first n) ∙ simp (length-set, length-replicate)

  pub reached_zero : 0 < n → Marked (reached n next) 0
  unfolding reached
  reached_zero h = grew_kept (sweeps_grew first n) 0 (get_or-set_same (replicate n 0) 0 1 0 (simp length-replicate h))

  pub reached_closed : (p q : ℕ) → p < n → Marked (reached n next) p → In q (next p) → q < n → Marked (reached n next) q
  unfolding reached
  reached_closed p q h e i lt =
      let l : length (only_first n) ≡ n = simp (length-set, length-replicate) in
      rw (← settled n (only_first n) first l (omega arith))
      (sweep_marks (reached n next) reached_bits p q e i (rw reached_long lt) n h)

  -- what holds of place 0 and goes from a place to its successors, holds of all that is reached
  module _ (P : ℕ → Type 0) (closed : (p q : ℕ) → P p → In q (next p) → q < n → P q) where
    mark_least : (m qs : List ℕ) → length m ≡ n → ((q : ℕ) → Marked m q → P q) → ((q : ℕ) → In q qs → q < n → P q) → (q : ℕ) → Marked (mark_all m qs) q → P q
    unfolding mark_all
    mark_least m [] l old more q e = old q e
    mark_least m (x ∷ qs) l old more q e = mark_least (slice_set m x 1) qs (length-set m x 1 ∙ l)
        (λ r d. elim (marked_set m x r d) [ inl h ↦ more r (Memᴰ.head h.0) (rw (h.0, ← l) h.1) | inr h ↦ old r h ])
        (λ r i lt. more r (Memᴰ.tail i) lt) q e

    if_least : (t : Bool) (m qs : List ℕ) → length m ≡ n → ((q : ℕ) → Marked m q → P q) → (t ≡ true → (q : ℕ) → In q qs → q < n → P q) → (q : ℕ) → Marked (mark_if t m qs) q → P q
    unfolding mark_if
    if_least true m qs l old more q e = mark_least m qs l old (more refl) q e
    if_least false m qs l old more q e = old q e

    sweep_least : (k : ℕ) (m : List ℕ) → Grew m m → length m ≡ n → ((q : ℕ) → Marked m q → P q) → (q : ℕ) → Marked (sweep next k m) q → P q
    unfolding sweep
    sweep_least zero m g l old q e = old q e
    sweep_least (suc k) m g l old q e =
        let s = sweep_least k m g l old in
        if_least (slice_index (sweep next k m) k == 1) (sweep next k m) (next k) (grew_long (sweep_grew g k) ∙ l) s
        (λ t r i lt. closed k r (s k (eqb-true _ _ t)) i lt) q e

    sweeps_least : (k : ℕ) (m : List ℕ) → Grew m m → length m ≡ n → ((q : ℕ) → Marked m q → P q) → (q : ℕ) → Marked (sweeps n next k m) q → P q
    unfolding sweeps
    sweeps_least zero m g l old q e = old q e
    sweeps_least (suc k) m g l old q e =
        sweeps_least k (sweep next n m) (grew_self (sweep_grew g n)) (grew_long (sweep_grew g n) ∙ l) (sweep_least n m g l old) q e

    pub reached_least : P 0 → (q : ℕ) → Marked (reached n next) q → P q
    unfolding reached
    reached_least z = sweeps_least n (only_first n) first (simp (length-set, length-replicate))
        (λ q e. elim (marked_set (replicate n 0) 0 q e) [ inl h ↦ rw h.0 z | inr h ↦ absurd (no_marks n q h) ])

  -- so the computed marks are those of the places that are reached
  pub reached_sound : (q : ℕ) → Marked (reached n next) q → Reach n next q
  reached_sound = reached_least (Reach n next) (λ p q r i lt. step r i lt) start

  reach_below : {q : ℕ} → 0 < n → Reach n next q → q < n
  reach_below h start = h
  reach_below h (step r i lt) = lt

  pub reached_all : {q : ℕ} → 0 < n → Reach n next q → Marked (reached n next) q
  reached_all h start = reached_zero h
  reached_all {q} h (step {p} r i lt) = reached_closed p q (reach_below h r) (reached_all h r) i lt
