-- Reading within one part of a list that is joined of three.
-- Assumes nothing.
use Rattle.std.specs.Prelude.{◌≡◌, ℕ, ◌+◌, ◌<◌, ◌≤◌, List, ◌++◌, length, drop, slice_index_or}
use Rattle.std.proofs.Common.{◌∙◌, append_assoc, arith, length-drop, get_or-append-add}
use Rattle.std.proofs.Math.ListN.{get_or-append}
use Rattle.std.proofs.Math.Seq.{drop-append-add}
use Rattle.std.proofs.lemmas.List.{drop-append-le, take-append-le}
use borrow.Rule.Slice.PartMut.{mid_of}

module _ {X : Type 0} (a xs b : List X) where
  -- an element of the middle part
  pub get_inside : (i : ℕ) (d : X) → i < length xs → slice_index_or (a ++ xs ++ b) (length a + i) d ≡ slice_index_or xs i d
  get_inside i d h = rw append_assoc (get_or-append-add a (xs ++ b) i d ∙ get_or-append xs b d i h)

  -- a region of it
  pub mid_inside : (i k : ℕ) → i + k ≤ length xs → mid_of (length a + i) k (a ++ xs ++ b) ≡ mid_of i k xs
  mid_inside i k h =
      let start : i ≤ length xs = omega arith in
      let room : k ≤ length (drop i xs) = simp length-drop (omega arith) in
      rw (append_assoc a xs b, drop-append-add a (xs ++ b) i, drop-append-le i xs b start) (take-append-le k (drop i xs) b room)
