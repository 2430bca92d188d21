-- The loop of `check_operands`: what is listed after p places. The words stand before the list.
-- Assumes nothing.
use Rattle.std.proofs.Common.{◌≡◌, ℕ, ◌+◌, ◌<◌, ◌≤◌, Bool, true, false, List, length, get_or, set, sym, refl, ap, ◌∙◌, add-zero, zero-add, add-one, arith, length-set, get_or-set_same}
use mir.Val.{bool_byte}
use borrow.Rule.Slice.PartMut.{mid_of}
use Rattle.words.specs.laws.Regions.{get_mid, mid_more, mid_set_after, Outside, outside_same, outside_set, outside_front}
use Rattle.instruction.specs.Instruction.{class, of_word}
use Rattle.flow.specs.laws.BranchLaws.{byte_below}
use Rattle.flow.specs.laws.Control.{is_control, Controls, controls_none, controls_listed, controls_passed}

pub record Controlling (xs : List ℕ) (n at : ℕ) (w : List ℕ) (count p : ℕ) : Type 0 where
  pub within : p ≤ n
  pub few : count ≤ p
  pub long : length w ≡ length xs
  pub same : Outside at n xs w
  pub controls : Controls (mid_of 0 n xs) (mid_of at count w) p

pub controlling_begin : (xs : List ℕ) (n at : ℕ) → Controlling xs n at xs 0 0
controlling_begin xs n at = record { within = omega arith; few = omega arith; long = refl; same = outside_same at n xs; controls = controls_none (mid_of 0 n xs) }

module _ {xs : List ℕ} {n at : ℕ} {w : List ℕ} {count p : ℕ} (l : Controlling xs n at w count p) (after : n ≤ at) (room : at + n ≤ length xs) (h : p < n) where
  outside : Outside at n xs (set w (at + count) p)
  outside = let few = l.few in outside_set at n l.same (at + count) p (omega arith) (omega arith)

  -- the words are still there
  pub controlling_word : get_or w p 0 ≡ get_or (mid_of 0 n xs) p 0
  controlling_word =
      ap (λ (i : ℕ). get_or w i 0) (sym (zero-add p))
      ∙ sym (get_mid w 0 n p 0 h)
      ∙ ap (λ (k : List ℕ). get_or k p 0) (outside_front at n l.same n after)

  -- the place that was stored is listed, or the next one will take its position
  more : (t : Bool) → is_control (class (of_word (get_or (mid_of 0 n xs) p 0))) ≡ t → Controls (mid_of 0 n xs) (mid_of at (count + bool_byte t) (set w (at + count) p)) (p + 1)
  more true e =
      let few = l.few in
      let long = l.long in
      let inside : at + count < length w = omega arith in
      let fits : at + count < length (set w (at + count) p) = rw (length-set w (at + count) p) inside in
      rw (mid_more (set w (at + count) p) at count 0 fits, mid_set_after w at count count p (omega arith), get_or-set_same w (at + count) p 0 inside, add-one p)
      (controls_listed (mid_of 0 n xs) (mid_of at count w) p l.controls)
  more false e = rw (add-zero count, mid_set_after w at count count p (omega arith), add-one p) (controls_passed (mid_of 0 n xs) (mid_of at count w) p l.controls e)

  pub controlling_turn : (v : ℕ) → v ≡ bool_byte (is_control (class (of_word (get_or w p 0))))
      → Controlling xs n at (set w (at + count) p) (count + v) (p + 1)
  controlling_turn v e =
      let bit = byte_below (is_control (class (of_word (get_or w p 0)))) in
      record {
        within = omega arith;
        few = omega (arith, l.few, e, bit);
        long = length-set w (at + count) p ∙ l.long;
        same = outside;
        controls = rw (e, controlling_word) (more (is_control (class (of_word (get_or (mid_of 0 n xs) p 0)))) refl);
      }

pub controlling_end : {xs : List ℕ} {n at : ℕ} {w : List ℕ} {count p : ℕ} → Controlling xs n at w count p → n ≤ p
    → Controls (mid_of 0 n xs) (mid_of at count w) n × (count ≤ n) × Outside at n xs w
controlling_end {n = n} {p = p} l h =
    let end : p ≡ n = omega (arith, l.within) in
    (rw end at l.controls, omega (arith, l.few), l.same)
