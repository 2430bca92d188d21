-- Lines over several passes: moved pass by pass, they are moved by the old places in the given unit; and where an entry goes.
-- Assumes nothing.
use Rattle.std.specs.Prelude.{◌≡◌, Bool, true, false, cond, ltb, length, get_or, take, drop}
use Rattle.std.proofs.Math.Path.{refl}
use Rattle.std.proofs.Common.{sym, ap, ◌∙◌, inl, inr, add-zero, zero-add, drop-cons, ltb-true, ltb-false, lt-ltb, eqb-true}
use mathlib.Core.List.{List, [], ◌∷◌, map}
use Prim.Native.Nat.{ℕ, zero, suc, ◌+◌, ◌≤◌, ◌<◌}
use native.Mathlib.Omega.{arith}
use Rattle.std.proofs.lemmas.List.{length-map}
use Rattle.std.proofs.Math.ListN.{get_or-map}
use Rattle.std.proofs.lemmas.Bool.{eqb-false}
use Rattle.words.specs.Lists.{sum}
use Rattle.effects.specs.Shape.{Cell}
use Rattle.flow.specs.laws.Flags.{Flags, flag}
use Rattle.flow.specs.laws.Control.{same_default}
use Rattle.unit.specs.declared.Line.{Line}
use Rattle.unit.specs.Result.{Retained}
use Rattle.lines.specs.Lines.{below, moved_lines, places_of}
use Rattle.lines.specs.laws.Below.{Rising, below_all, below_none, below_placed}
use Rattle.lines.specs.laws.Moved.{moved_twice, moved_same}
use Rattle.pc_map.specs.Boundary.{is_kept, boundary}
use Rattle.pc_map.specs.Relocate.{relocate, retain_from}
use Rattle.answer.specs.Clean.{placed_by}
use Rattle.run.proofs.laws.Fitting.{Again, retained_from_lem}
use Rattle.run.specs.laws.Reading.{no_retained, retained_at}

pub places_long : (kept : List Retained) → length (places_of kept) ≡ length kept
places_long kept = length-map kept (λ (x : Retained). x.place)

pub place_of : (kept : List Retained) (p : ℕ) → get_or (places_of kept) p 0 ≡ (retained_at kept p).place
place_of kept p = get_or-map (λ (x : Retained). x.place) kept p no_retained

-- the old places after a pass more
pub placed_places : (before kept : List Retained) → places_of (placed_by before kept) ≡ map (λ (p : ℕ). get_or (places_of before) p 0) (places_of kept)
unfolding placed_by
placed_places before [] = refl
placed_places before (r ∷ rs) = rw (placed_places before rs)

module _ {cases : ℕ} (before kept : List Retained) (again : Again cases (length before) kept) (rise : Rising (places_of before)) where
  -- each old place is one of the code before
  pub inside : (i : ℕ) → i < length (places_of kept) → get_or (places_of kept) i 0 < length (places_of before)
  inside i h =
      let l : i < length kept = rw (places_long kept) at h in
      rw (place_of kept i, places_long before) (again.places i l)

  -- where an instruction of the later code stood in the first
  pub placed_at : (i : ℕ) → i < length (places_of kept) → get_or (places_of (placed_by before kept)) i 0 ≡ get_or (places_of before) (get_or (places_of kept) i 0) 0
  placed_at i h =
      let f : ℕ → ℕ = λ p. get_or (places_of before) p 0 in
      let l : i < length (map f (places_of kept)) = rw (length-map (places_of kept) f) h in
      rw (placed_places before kept) (same_default (map f (places_of kept)) i 0 (f 0) l ∙ get_or-map f (places_of kept) i 0)

  pub placed_rising : Rising (places_of (placed_by before kept))
  placed_rising i j h l =
      let last : j < length (places_of kept) = rw (placed_places before kept, length-map (places_of kept) (λ (p : ℕ). get_or (places_of before) p 0)) at l in
      rw (placed_at i (omega arith), placed_at j last) (rise (get_or (places_of kept) i 0) (get_or (places_of kept) j 0) (again.rising i j h last) (inside j last))

  -- moved by what a pass retained, and then by what the next did
  pub lines_placed : (ls : List Line) → moved_lines (places_of kept) (moved_lines (places_of before) ls) ≡ moved_lines (places_of (placed_by before kept)) ls
  lines_placed ls =
      let m = length (places_of kept) in
      let n = length (places_of before) in
      let as_many : length (places_of (placed_by before kept)) ≡ m = rw (placed_places before kept) (length-map (places_of kept) (λ (p : ℕ). get_or (places_of before) p 0)) in
      moved_twice (below (places_of before)) (below (places_of kept)) n m here ls
      ∙ moved_same (λ (p : ℕ). below (places_of kept) (below (places_of before) p)) (below (places_of (placed_by before kept)))
      (λ p. rw (placed_places before kept) (sym (below_placed (places_of before) (places_of kept) rise inside p))) m ls
      ∙ rw as_many
    where
      here : (q : ℕ) → below (places_of kept) q < length (places_of kept) → q < length (places_of before)
      here q h = go (ltb q (length (places_of before))) refl
        where
          go : (t : Bool) → ltb q (length (places_of before)) ≡ t → q < length (places_of before)
          go true e = ltb-true q (length (places_of before)) e
          go false e =
              let past : length (places_of before) ≤ q = ltb-false q (length (places_of before)) e in
              let all : below (places_of kept) q ≡ length (places_of kept) = below_all (places_of kept) q (λ i l. let in-it = inside i l in omega arith) in
              absurd (omega arith)

-- ---- "the boundary of its place" is the one by which branches move

module _ (keep : List ℕ) (flags : Flags keep) where
  from_boundary : (xs : List Cell) (s q : ℕ) → s + length xs ≡ length keep → q ≤ length xs → below (places_of (retain_from keep s xs)) (s + q) ≡ sum (take q (drop s keep))
  unfolding retain_from below sum
  from_boundary xs s zero e h =
      rw (add-zero s) (below_none (places_of (retain_from keep s xs)) s (λ i l. retained_from_lem keep flags 0 xs s i l))
  from_boundary [] s (suc q) e h = absurd (omega arith)
  from_boundary (x ∷ xs) s (suc q) e h =
      let next : s + suc q ≡ suc s + q = omega arith in
      rw (drop-cons keep s 0 (omega arith), next) (go (is_kept keep s) refl (from_boundary xs (suc s) q (omega arith) (omega arith)))
    where
      rest : List Retained
      rest = retain_from keep (suc s) xs

      head : Retained
      head = record { instruction = (relocate keep s x).instruction; metadata = (relocate keep s x).metadata; place = s }

      go : (t : Bool) → is_kept keep s ≡ t → below (places_of rest) (suc s + q) ≡ sum (take q (drop (suc s) keep))
          → below (places_of (cond t (head ∷ rest) rest)) (suc s + q) ≡ get_or keep s 0 + sum (take q (drop (suc s) keep))
      go true f ih =
          let one : get_or keep s 0 ≡ 1 = eqb-true (get_or keep s 0) 1 f in
          rw (lt-ltb s (suc s + q) (omega arith), one) (omega (arith, ih))
      go false f ih =
          let none : get_or keep s 0 ≡ 0 = elim (flag keep flags s) [
            | inl z ↦ z
            | inr o ↦ absurd (eqb-false (get_or keep s 0) 1 f o)
          ] in
          rw none (omega (arith, ih))

  pub retained_boundary : (cells : List Cell) (p : ℕ) → length cells ≡ length keep → p ≤ length cells → below (places_of (retain_from keep 0 cells)) p ≡ boundary keep p
  retained_boundary cells p e h = ap (below (places_of (retain_from keep 0 cells))) (sym (zero-add p)) ∙ from_boundary cells 0 p (omega arith) h
