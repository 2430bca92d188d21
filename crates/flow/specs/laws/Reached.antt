-- The reached places of a function: place 0 is one, and so are the successors of each; there are no others.
-- Assumes nothing.
use Rattle.std.specs.Prelude.{◌≡◌, ℕ, suc, ◌<◌, Bool, true, cond, List, [], ◌∷◌, length, refl}
use mathlib.Core.List.Memᴰ
use Rattle.instruction.specs.Instruction.{class}
use Rattle.effects.specs.Shape.{Cell, cell_at}
use Rattle.flow.specs.Branch.{falls, branches, target}
use Rattle.flow.specs.Loop.{successors, reached_places}
use Rattle.flow.specs.Reach.{Reach}
use Rattle.flow.specs.laws.Closure.{reached_bits, reached_long, reached_zero, reached_closed, reached_least, reached_sound, reached_all}
use Rattle.flow.specs.laws.Flags.{Flags, grew_flags}
use Rattle.flow.specs.laws.Marks.{In, Marked}
use Rattle.flow.specs.laws.Successors.{following, loop_successors}

module _ (cells : List Cell) where
  pub places_long : length (reached_places cells) ≡ length cells
  unfolding reached_places
  places_long = reached_long (length cells) (following cells)

  pub places_flags : Flags (reached_places cells)
  unfolding reached_places
  places_flags = grew_flags (reached_bits (length cells) (following cells))

  pub places_zero : 0 < length cells → Marked (reached_places cells) 0
  unfolding reached_places
  places_zero = reached_zero (length cells) (following cells)

  pub places_closed : (p q : ℕ) → p < length cells → Marked (reached_places cells) p → In q (following cells p) → q < length cells → Marked (reached_places cells) q
  unfolding reached_places
  places_closed = reached_closed (length cells) (following cells)

  -- what holds of place 0 and goes from a place to its successors, holds of each
  pub places_least : (P : ℕ → Type 0) → ((p q : ℕ) → P p → In q (following cells p) → q < length cells → P q) → P 0 → (q : ℕ) → Marked (reached_places cells) q → P q
  unfolding reached_places
  places_least P = reached_least (length cells) (following cells) P

  -- so they are those that `Reach` says in words
  pub places_sound : (q : ℕ) → Marked (reached_places cells) q → Reach (length cells) (following cells) q
  unfolding reached_places
  places_sound = reached_sound (length cells) (following cells)

  pub places_all : (q : ℕ) → 0 < length cells → Reach (length cells) (following cells) q → Marked (reached_places cells) q
  unfolding reached_places
  places_all q h r = reached_all (length cells) (following cells) h r

  -- the two ways on from a place
  module _ (p : ℕ) (h : p < length cells) (m : Marked (reached_places cells) p) where
    pub places_next : falls (class (cell_at cells p).instruction) ≡ true → suc p < length cells → Marked (reached_places cells) (suc p)
    unfolding successors
    places_next e lt = places_closed p (suc p) h m (Memᴰ.append_left (loop_successors (length cells) (cell_at cells p)) (Memᴰ.append_left _ (one (falls (class (cell_at cells p).instruction)) e))) lt
      where
        one : (t : Bool) → t ≡ true → In (suc p) (cond t (suc p ∷ []) [])
        one t e = rw e (Memᴰ.head refl)

    pub places_target : branches (class (cell_at cells p).instruction) ≡ true → target p (cell_at cells p).instruction < length cells
        → Marked (reached_places cells) (target p (cell_at cells p).instruction)
    unfolding successors
    places_target e lt =
        let i = (cell_at cells p).instruction in
        places_closed p (target p i) h m (Memᴰ.append_left (loop_successors (length cells) (cell_at cells p)) (Memᴰ.append_right (cond (falls (class i)) (suc p ∷ []) []) (one (branches (class i)) (target p i) e))) lt
      where
        one : (t : Bool) (q : ℕ) → t ≡ true → In q (cond t (q ∷ []) [])
        one t q e = rw e (Memᴰ.head refl)
