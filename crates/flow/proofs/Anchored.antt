-- The loop of `mark_anchors`: the marks of the reached places stand first in the buffer, the ends from `at` on.
-- Assumes nothing.
use Rattle.std.proofs.Common.{◌≡◌, ℕ, ◌+◌, ◌<◌, ◌≤◌, false, cond, ◌&&◌, eqb, List, [], ◌∷◌, length, get_or, replicate, sym, refl, ap, ◌∙◌, zero-add, arith}
use lib.ListN.{length-replicate}
use borrow.Rule.Slice.PartMut.{mid_of, put_mid}
use Rattle.words.specs.laws.Regions.{mid_long, get_mid, mid_put, put_long, Outside, outside_same, outside_part, outside_then, outside_front, outside_put}
use Rattle.instruction.specs.declared.Instruction.{Instruction}
use Rattle.instruction.specs.Instruction.{class, of_word}
use Rattle.unit.specs.Entry.{metadata_at}
use Rattle.effects.specs.laws.Cells.{cells_by}
use Rattle.flow.specs.laws.Control.{is_control}
use Rattle.flow.specs.Loop.{is_loop_hint, anchors}
use Rattle.flow.specs.laws.Hints.{Anchoring, anchoring_begin, anchoring_turn, anchoring_idle, anchoring_end}
use Rattle.flow.specs.Reach.{mark_all}

pub record Anchored (words metadata xs : List ℕ) (at : ℕ) (w : List ℕ) (p : ℕ) : Type 0 where
  pub long : length w ≡ length xs
  pub within : p ≤ length words
  pub outside : Outside at (length words) xs w
  pub anchoring : Anchoring words metadata (mid_of 0 (length words) xs) (mid_of at (length words) w) p

-- what is no control place anchors nothing
pub anchored_idle : (words metadata xs : List ℕ) (at : ℕ) (w : List ℕ) (p : ℕ) → p < length words → is_control (class (of_word (get_or words p 0))) ≡ false
    → Anchored words metadata xs at w p → Anchored words metadata xs at w (p + 1)
anchored_idle words metadata xs at w p h e a = record { long = a.long; within = omega arith; outside = a.outside; anchoring = anchoring_idle words metadata _ (mid_of at (length words) w) p h e a.anchoring }

module _ (words metadata xs : List ℕ) (at : ℕ) (apart : length words ≤ at) (room : at + length words ≤ length xs) where
  -- a part as long as there are words, as the code gives its length
  module _ (k : ℕ) (same : k ≡ length words) where
    module _ (zeros : List ℕ) (e : zeros ≡ replicate (length (mid_of at k xs)) 0) where
      zeros_long : length zeros ≡ k
      zeros_long = ap length e ∙ length-replicate (length (mid_of at k xs)) 0 ∙ mid_long xs at k (omega arith)

      pub zeroed_long : length (put_mid at k xs zeros) ≡ length xs
      zeroed_long = put_long xs at k zeros zeros_long (omega arith)

      pub zeroed_outside : Outside at (length words) xs (put_mid at k xs zeros)
      zeroed_outside = outside_part at (length words) (outside_same at (length words) xs) at k 0 zeros (omega arith) (omega arith) zeros_long (omega arith)

      pub anchored_begin : Anchored words metadata (put_mid at k xs zeros) at (put_mid at k xs zeros) 0
      anchored_begin =
          let back : mid_of at (length words) (put_mid at k xs zeros) ≡ zeros = ap (λ (j : ℕ). mid_of at j (put_mid at k xs zeros)) (sym same) ∙ mid_put xs at k zeros zeros_long (omega arith) in
          record {
            long = refl;
            within = omega arith;
            outside = outside_same at (length words) (put_mid at k xs zeros);
            anchoring = rw back (anchoring_begin words metadata _ zeros k (e ∙ ap (λ (j : ℕ). replicate j 0) (mid_long xs at k (omega arith))) same);
          }

    pub anchored_turn : (w ends : List ℕ) (p : ℕ) (i : Instruction) → Anchored words metadata xs at w p → p < length words → i ≡ of_word (get_or words p 0)
        → length ends ≡ length (mid_of at k w) → ends ≡ mark_all (mid_of at k w) (cond (eqb (get_or w p 0) 1 && is_loop_hint i) ((metadata_at metadata p).end ∷ []) [])
        → Anchored words metadata xs at (put_mid at k w ends) (p + 1)
    anchored_turn w ends p i a h is l e =
        let fits : at + k ≤ length w = omega (arith, a.long) in
        let long : length ends ≡ k = l ∙ mid_long w at k fits in
        let back : mid_of at (length words) (put_mid at k w ends) ≡ ends = ap (λ (j : ℕ). mid_of at j (put_mid at k w ends)) (sym same) ∙ mid_put w at k ends long fits in
        let mark : get_or (mid_of 0 (length words) xs) p 0 ≡ get_or w p 0
        = ap (λ (m : List ℕ). get_or m p 0) (sym (outside_front at (length words) a.outside (length words) apart)) ∙ get_mid w 0 (length words) p 0 h ∙ rw (zero-add p) in
        record {
          long = put_long w at k ends long fits ∙ a.long;
          within = omega arith;
          outside = outside_part at (length words) a.outside at k 0 ends (omega arith) (omega arith) long fits;
          anchoring = rw back (anchoring_turn words metadata _ (mid_of at (length words) w) ends p a.anchoring h (rw (mark, ← is, ← same) e));
        }

  pub anchored_end : (xs₀ w : List ℕ) (p : ℕ) → Outside at (length words) xs₀ xs → Anchored words metadata xs at w p → length words ≤ p
      → w ≡ put_mid at (length words) xs₀ (anchors (mid_of 0 (length words) xs₀) (cells_by words metadata))
  anchored_end xs₀ w p o a h =
      let end : p ≡ length words = omega (arith, a.within) in
      let all : mid_of at (length words) w ≡ anchors (mid_of 0 (length words) xs₀) (cells_by words metadata)
      = anchoring_end words metadata (mid_of 0 (length words) xs) (mid_of at (length words) w) p a.anchoring end
      ∙ ap (λ (m : List ℕ). anchors m (cells_by words metadata)) (outside_front at (length words) o (length words) apart) in
      outside_put at (length words) (outside_then at (length words) o a.outside) ∙ ap (put_mid at (length words) xs₀) all
