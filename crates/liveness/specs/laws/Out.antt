-- What is live at a block's end, of the blocks' rows in lent words.
-- Assumes nothing.
use Rattle.std.specs.Prelude.{◌≡◌, Bool, true, false, cond, ◌&&◌, ◌||◌, List, [], ◌∷◌, ◌++◌, ltb, length, get_or}
use Rattle.std.proofs.Math.Path.{refl}
use Rattle.std.proofs.Common.{sym, ◌∙◌, mod-eq_of_lt, add-one, arith, ltb-true}
use Rattle.std.proofs.Math.Bool.{or-false}
use Prim.Native.Nat.{ℕ, suc, ◌+◌, ◌*◌, ◌^◌, ◌≤◌, ◌<◌}
use Rattle.std.specs.Int.Bits.{bit_and, and_zero_r}
use Rattle.std.proofs.lemmas.Nat.{and_mask}
use mir.Val.{bool_byte}
use Rattle.words.specs.laws.Bits.{member}
use Rattle.words.specs.Lists.{tabulate}
use Rattle.words.specs.laws.Lists.{get_d_tabulate}
use Rattle.instruction.specs.declared.Instruction.{Instruction}
use Rattle.instruction.specs.Instruction.{class}
use Rattle.effects.specs.Shape.{Sections, Cell}
use Rattle.flow.specs.Branch.{falls, branches, target, branch_inside}
use Rattle.flow.specs.Block.{block_of, block_count}
use Rattle.flow.specs.laws.Blocks.{block_below}
use Rattle.flow.specs.laws.Marks.{Marked}
use Rattle.flow.specs.laws.Flags.{Flags}
use Rattle.use_def.specs.laws.Wordwise.{all_bits}
use Rattle.liveness.specs.Live.{Row, edges, joined, no_row}
use Rattle.liveness.specs.laws.Rows.{union_bit, no_bit}
use Rattle.liveness.specs.laws.Shown.{row_at, Holds, Shown, row_before}

-- a slot is live at the start of the block of place q
abbrev pub start_bit : ℕ → List ℕ → List ℕ → ℕ → ℕ → Bool
start_bit w live blocks q t = member (row_at w live (get_or blocks q 0)) t

-- a row that is left out may be any block's
start_if : (w : ℕ) (live blocks : List ℕ) (x : Bool) (q t : ℕ) → (x && start_bit w live blocks (cond x q 0) t) ≡ (x && start_bit w live blocks q t)
start_if w live blocks true q t = refl
start_if w live blocks false q t = refl

-- of the block's last place p
abbrev pub out_bit : ℕ → List ℕ → List ℕ → ℕ → ℕ → Instruction → ℕ → Bool
out_bit w live blocks n p i t = (falls (class i) && ltb (suc p) n && start_bit w live blocks (suc p) t) || (branches (class i) && start_bit w live blocks (target p i) t)

abbrev pub OutOf : ℕ → List ℕ → List ℕ → ℕ → ℕ → Instruction → List ℕ → Type 0
OutOf w live blocks n p i out = (t : ℕ) → member out t ≡ out_bit w live blocks n p i t

pub out_joined : (w : ℕ) (live blocks : List ℕ) (n p k : ℕ) (i : Instruction) (l m out : List ℕ) (x y : Bool) → x ≡ (falls (class i) && ltb (p + 1) n) → y ≡ branches (class i)
    → (y ≡ true → k ≡ target p i) → l ≡ row_at w live (get_or blocks (cond x (p + 1) 0) 0) → m ≡ row_at w live (get_or blocks (cond y k 0) 0)
    → ((t : ℕ) → member out t ≡ ((x && member l t) || (y && member m t))) → OutOf w live blocks n p i out
out_joined w live blocks n p k i l m out x y ex ey ek el em e t =
    e t ∙ rw (el, em, start_if w live blocks x (p + 1) t, start_if w live blocks y k t, ex, add-one p) (first (falls (class i)) (ltb (suc p) n) (start_bit w live blocks (suc p) t) (second y refl))
  where
    second : (b : Bool) → y ≡ b → (y && start_bit w live blocks k t) ≡ (branches (class i) && start_bit w live blocks (target p i) t)
    second true q = rw (← ey, q, ek q)
    second false q = rw (← ey, q)

    first : (a b c : Bool) {d e : Bool} → d ≡ e → (((a && b) && c) || d) ≡ ((a && b && c) || e)
    first true true c q = rw q
    first true false c q = q
    first false b c q = q

-- what masks make of a place
pub both_bits : (x y : Bool) → bit_and (bool_byte x) (bool_byte y) ≡ bool_byte (x && y)
both_bits true true = refl
both_bits true false = refl
both_bits false true = refl
both_bits false false = refl

pub place_if : (q : ℕ) (x : Bool) → q < 2 ^ 64 → bit_and q (all_bits x) ≡ cond x q 0
place_if q true h = and_mask q 64 ∙ mod-eq_of_lt h
place_if q false h = and_zero_r q

-- the place that a mask leaves is a place, in both ways
pub next_place : (x : Bool) (p n : ℕ) → p < n → cond (x && ltb (p + 1) n) (p + 1) 0 < n
next_place x p n h = go x (ltb (p + 1) n) refl
  where
    go : (x y : Bool) → ltb (p + 1) n ≡ y → cond (x && y) (p + 1) 0 < n
    go true true e = ltb-true (p + 1) n e
    go true false e = omega arith
    go false y e = omega arith

pub target_place : (y : Bool) (k n : ℕ) → 0 < n → (y ≡ true → k < n) → cond y k 0 < n
target_place true k n h f = f refl
target_place false k n h f = h

-- ---- the same of rows

module _ (S : Sections) (n : ℕ) (leaders keep : List ℕ) (long : length leaders ≡ n) (flags : Flags leaders) (one : Marked leaders 0) where
  module _ (w : ℕ) (rows : List Row) (live blocks : List ℕ) (count : length rows ≡ block_count leaders) (numbers : blocks ≡ tabulate n (block_of leaders)) (shown : Shown w (no_row S n leaders keep) rows live) where
    pub number_at : (q : ℕ) → q < n → get_or blocks q 0 ≡ block_of leaders q
    number_at q h = rw numbers (get_d_tabulate n (block_of leaders) q 0 h)

    start_bit_lem : (q t : ℕ) → q < n → start_bit w live blocks q t ≡ get_or (get_or rows (block_of leaders q) (no_row S n leaders keep)) t false
    start_bit_lem q t h = rw (number_at q h) (shown.held (block_of leaders q) (rw count (block_below leaders flags one q (rw long h))) t)

    pub out_holds : (p : ℕ) (x : Cell) (out : List ℕ) → branch_inside n p x.instruction ≡ true → OutOf w live blocks n p x.instruction out
        → Holds out (joined S n leaders keep rows (edges n p x))
    unfolding edges joined branch_inside
    out_holds p x out b o t = o t ∙ go (falls (class x.instruction)) (ltb (suc p) n) refl (branches (class x.instruction)) b
      where
        to : ℕ
        to = target p x.instruction

        go : (f l : Bool) → ltb (suc p) n ≡ l → (j : Bool) → cond j (ltb (target p x.instruction) n) true ≡ true
            → ((f && l && start_bit w live blocks (suc p) t) || (j && start_bit w live blocks (target p x.instruction) t))
            ≡ get_or (joined S n leaders keep rows (cond (f && l) (suc p ∷ []) [] ++ cond j (target p x.instruction ∷ []) [])) t false
        go true true q true e =
            rw (start_bit_lem (suc p) t (ltb-true (suc p) n q), start_bit_lem (target p x.instruction) t (ltb-true (target p x.instruction) n e))
            (sym (union_bit (get_or rows (block_of leaders (suc p)) (no_row S n leaders keep)) (joined S n leaders keep rows (target p x.instruction ∷ [])) t
            ∙ rw (union_bit (get_or rows (block_of leaders (target p x.instruction)) (no_row S n leaders keep)) (no_row S n leaders keep) t, no_bit S n leaders keep t, or-false)))
        go true true q false e =
            rw (start_bit_lem (suc p) t (ltb-true (suc p) n q)) (sym (union_bit (get_or rows (block_of leaders (suc p)) (no_row S n leaders keep)) (no_row S n leaders keep) t ∙ rw (no_bit S n leaders keep t)))
        go true false q true e =
            rw (start_bit_lem (target p x.instruction) t (ltb-true (target p x.instruction) n e))
            (sym (union_bit (get_or rows (block_of leaders (target p x.instruction)) (no_row S n leaders keep)) (no_row S n leaders keep) t ∙ rw (no_bit S n leaders keep t, or-false)))
        go true false q false e = sym (no_bit S n leaders keep t)
        go false l q true e =
            rw (start_bit_lem (target p x.instruction) t (ltb-true (target p x.instruction) n e))
            (sym (union_bit (get_or rows (block_of leaders (target p x.instruction)) (no_row S n leaders keep)) (no_row S n leaders keep) t ∙ rw (no_bit S n leaders keep t, or-false)))
        go false l q false e = sym (no_bit S n leaders keep t)

    -- a block's row lies within the words
    pub row_inside : (q : ℕ) → q < n → w * get_or blocks q 0 + w ≤ length live
    row_inside q h = rw (number_at q h, shown.long) (row_before w (block_of leaders q) (length rows) (rw count (block_below leaders flags one q (rw long h))))

-- a branch's target is a place
pub target_inside : (n p : ℕ) (i : Instruction) → branch_inside n p i ≡ true → branches (class i) ≡ true → target p i < n
unfolding branch_inside
target_inside n p i b e = ltb-true (target p i) n (rw e at b)
