-- A loop that clears the places which a test names, place by place, up or down.
-- Assumes nothing.
use Rattle.std.specs.Prelude.{◌≡◌, refl, Bool, true, false, cond, List, ℕ, ◌+◌, ◌≤◌, ◌<◌, length, get_or, set}
use Rattle.std.proofs.Common.{sym, ◌∙◌, zero-add, arith, length-set, get_or-set_same, get_or-set_other, ext_get_or}
use Rattle.std.proofs.Math.Decide.{dec_le}
use borrow.Rule.Slice.PartMut.{mid_of}
use Rattle.words.specs.Lists.{map_from}
use Rattle.words.specs.laws.Lists.{length_map_from, get_d_map_from}
use Rattle.words.specs.laws.Regions.{mid_long, get_mid}
use Rattle.effects.specs.Shape.{Cell, no_cell}
use Rattle.effects.specs.laws.Cells.{cell_of, cells_by, cells_long, cell_at_lem}
use Rattle.words.specs.laws.Only.{At, Only}

-- the places from a on and below b are done
pub record Cleared (test : ℕ → Bool) (xs w : List ℕ) (a b : ℕ) : Type 0 where
  pub long : length w ≡ length xs
  pub done : (q : ℕ) → a ≤ q → q < b → get_or w q 0 ≡ cond (test q) 0 (get_or xs q 0)
  pub rest : (q : ℕ) → (a ≤ q → q < b → ⊥) → get_or w q 0 ≡ get_or xs q 0

-- one place more
pub record Step (test : ℕ → Bool) (xs w w' : List ℕ) (p : ℕ) : Type 0 where
  pub long : length w' ≡ length w
  pub here : get_or w' p 0 ≡ cond (test p) 0 (get_or xs p 0)
  pub other : (q : ℕ) → (q ≡ p → ⊥) → get_or w' q 0 ≡ get_or w q 0

module _ {test : ℕ → Bool} {xs w : List ℕ} (p : ℕ) where
  pub step_on : p < length w → test p ≡ true → Step test xs w (set w p 0) p
  step_on h t = record { long = length-set w p 0; here = rw t (get_or-set_same w p 0 0 h); other = λ q n. get_or-set_other w p q 0 0 n }

  pub step_off : get_or w p 0 ≡ get_or xs p 0 → test p ≡ false → Step test xs w w p
  step_off e t = record { long = refl; here = rw t e; other = λ q n. refl }

module _ (test : ℕ → Bool) (xs : List ℕ) where
  pub cleared_none : (a : ℕ) → Cleared test xs xs a a
  cleared_none a = record { long = refl; done = λ q g h. absurd (omega arith); rest = λ q n. refl }

module _ {test : ℕ → Bool} {xs w w' : List ℕ} {a p : ℕ} where
  pub cleared_up : Cleared test xs w a p → a ≤ p → Step test xs w w' p → Cleared test xs w' a (p + 1)
  cleared_up c l s = record { long = s.long ∙ c.long; done = done; rest = λ q n. s.other q (λ e. n (omega arith) (omega arith)) ∙ c.rest q (λ g h. n g (omega arith)) }
    where
      done : (q : ℕ) → a ≤ q → q < p + 1 → get_or w' q 0 ≡ cond (test q) 0 (get_or xs q 0)
      done q g h = elim (dec_le p q) [
        | yes k ↦
            let e : q ≡ p = omega arith in
            rw e s.here
        | no k ↦ s.other q (λ e. omega arith) ∙ c.done q g (omega arith)
      ]

  pub cleared_down : Cleared test xs w (p + 1) a → p < a → Step test xs w w' p → Cleared test xs w' p a
  cleared_down c l s = record { long = s.long ∙ c.long; done = done; rest = λ q n. s.other q (λ e. n (omega arith) (omega arith)) ∙ c.rest q (λ g h. n (omega arith) h) }
    where
      done : (q : ℕ) → p ≤ q → q < a → get_or w' q 0 ≡ cond (test q) 0 (get_or xs q 0)
      done q g h = elim (dec_le q p) [
        | yes k ↦
            let e : q ≡ p = omega arith in
            rw e s.here
        | no k ↦ s.other q (λ e. omega arith) ∙ c.done q (omega arith) h
      ]

module _ (test : ℕ → Bool) (xs w : List ℕ) (n : ℕ) (c : Cleared test xs w 0 n) where
  pub cleared_only : Only (At 0 n) xs w
  cleared_only = record { long = c.long; same = λ q m. c.rest q (λ g h. m (g, omega arith)) }

-- all of them, by a test of cells
module _ (test : ℕ → Bool) (xs words metadata : List ℕ) (t : ℕ → Cell → Bool) (same : (p : ℕ) → p < length words → t p (cell_of metadata p (get_or words p 0)) ≡ test p) where
  abbrev clears : ℕ → Cell → ℕ
  clears p x = cond (t p x) 0 (get_or (mid_of 0 (length words) xs) p 0)

  clears_at : (q : ℕ) → q < length words → get_or (map_from clears 0 (cells_by words metadata)) q 0 ≡ cond (test q) 0 (get_or xs q 0)
  clears_at q h =
      get_d_map_from clears 0 (cells_by words metadata) q no_cell 0 (rw (cells_long words metadata) h)
      ∙ rw (zero-add, cell_at_lem words metadata q h, same q h, get_mid xs 0 (length words) q 0 h, zero-add) refl

  pub cleared_cells : (w : List ℕ) → length words ≤ length xs → Cleared test xs w 0 (length words) → mid_of 0 (length words) w ≡ map_from clears 0 (cells_by words metadata)
  cleared_cells w room c =
      let part : length (mid_of 0 (length words) w) ≡ length words = mid_long w 0 (length words) (omega (arith, c.long)) in
      ext_get_or 0 (mid_of 0 (length words) w) (map_from clears 0 (cells_by words metadata))
      (part ∙ sym (length_map_from clears 0 (cells_by words metadata) ∙ cells_long words metadata))
      (λ q h.
      let l : q < length words = rw part at h in
      get_mid w 0 (length words) q 0 l ∙ rw zero-add (c.done q (omega arith) l) ∙ sym (clears_at q l))
