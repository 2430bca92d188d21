-- Marking a list of places.
-- Assumes nothing.
use Rattle.std.specs.Prelude.{◌≡◌, ℕ, ◌<◌, Bool, true, false, cond, ◌||◌, List, [], ◌∷◌, ◌++◌, length, ◌==◌, slice_index, slice_set, refl}
use Rattle.std.proofs.Common.{ap, ◌∙◌, length-set, get_or-set_same, get_or-set_other, eqb-true}
use Rattle.std.proofs.lemmas.Bool.{eqb-false}
use Rattle.words.specs.Lists.{is_in}
use Rattle.flow.specs.Reach.{mark_all}

pub mark_append : (m ps qs : List ℕ) → mark_all m (ps ++ qs) ≡ mark_all (mark_all m ps) qs
unfolding mark_all
mark_append m [] qs = refl
mark_append m (p ∷ ps) qs = mark_append (slice_set m p 1) ps qs

pub mark_long : (m qs : List ℕ) → length (mark_all m qs) ≡ length m
unfolding mark_all
mark_long m [] = refl
mark_long m (q ∷ qs) = mark_long (slice_set m q 1) qs ∙ length-set m q 1

pub set_at_is : (m : List ℕ) (x q : ℕ) → q < length m → slice_index (slice_set m x 1) q ≡ cond (q == x) 1 (slice_index m q)
set_at_is m x q h = go (q == x) refl
  where
    go : (t : Bool) → (q == x) ≡ t → slice_index (slice_set m x 1) q ≡ cond (q == x) 1 (slice_index m q)
    go true e = rw (e, ← eqb-true q x e) (get_or-set_same m q 1 0 h)
    go false e = rw e (get_or-set_other m x q 1 0 (eqb-false q x e))

-- a place is marked that was, or that is among them
pub mark_at : (m qs : List ℕ) (q : ℕ) → q < length m → slice_index (mark_all m qs) q ≡ cond (is_in q qs) 1 (slice_index m q)
unfolding mark_all
mark_at m [] q h = refl
mark_at m (x ∷ qs) q h =
    mark_at (slice_set m x 1) qs q (rw (length-set m x 1) h)
    ∙ ap (cond (is_in q qs) 1) (set_at_is m x q h)
    ∙ either (is_in q qs) (q == x) (slice_index m q)
  where
    either : (s t : Bool) (v : ℕ) → cond s 1 (cond t 1 v) ≡ cond (cond t true s) 1 v
    either true true v = refl
    either true false v = refl
    either false true v = refl
    either false false v = refl

pub in_append : (q : ℕ) (ps qs : List ℕ) → is_in q (ps ++ qs) ≡ (is_in q ps || is_in q qs)
in_append q [] qs = refl
in_append q (p ∷ ps) qs = rw (in_append q ps qs) (go (q == p) (is_in q ps) (is_in q qs))
  where
    go : (t u v : Bool) → cond t true (u || v) ≡ (cond t true u || v)
    go true u v = refl
    go false u v = refl
