-- Rounds until one changes nothing, in lent words.
-- Assumes nothing.
use Rattle.std.specs.Prelude.{None, Some, ◌≡◌, refl, Bool, true, false, cond, List, length}
use Rattle.std.proofs.Common.{sym, ◌∙◌}
use Rattle.std.proofs.Math.Path.{ap}
use Rattle.std.proofs.lemmas.Bool.{false≢true}
use Prim.Native.Nat.{ℕ, suc, ◌-◌, ◌<◌}
use native.Mathlib.Omega.{arith}
use Rattle.effects.specs.Shape.{Sections, Cell}
use Rattle.effects.specs.laws.Cells.{cells_by}
use Rattle.flow.specs.Block.{block_count}
use Rattle.liveness.specs.Live.{Row, no_row, round_from, solve_in, same_rows}
use Rattle.liveness.specs.laws.Rows.{Wide, round_wide}
use Rattle.liveness.specs.laws.Shown.{Shown}
use Rattle.liveness.specs.laws.Rounding.{Around, Rounded, rows_long}
use Rattle.liveness.specs.laws.SetMemory.{code_words, uses_of, preserved_of, live_of}
use Rattle.liveness.specs.declared.SetLayout.{SetLayout}

-- rows are found, and shown
pub record Found (S : Sections) (leaders keep : List ℕ) (cells : List Cell) (w limit : ℕ) (rows : List Row) (live : List ℕ) : Type 0 where
  pub found : List Row
  pub solved : solve_in S (length cells) leaders keep limit cells rows ≡ Some found
  pub wide : Wide S (length cells) leaders keep found
  pub each : length found ≡ block_count leaders
  pub shown : Shown w (no_row S (length cells) leaders keep) found live

pub record Solved (S : Sections) (leaders keep : List ℕ) (cells : List Cell) (w limit : ℕ) (rows : List Row) (live : List ℕ) (r : Bool) : Type 0 where
  pub yes : r ≡ true → Found S leaders keep cells w limit rows live
  pub no : r ≡ false → solve_in S (length cells) leaders keep limit cells rows ≡ None

-- k rounds are left
pub record Solving (S : Sections) (leaders keep : List ℕ) (cells : List Cell) (w count limit : ℕ) (rows : List Row) (blocks starts uses preserved live : List ℕ) (k : ℕ) : Type 0 where
  pub current : List Row
  pub around : Around S leaders keep cells w count current blocks starts uses preserved live
  pub left : solve_in S (length cells) leaders keep limit cells rows ≡ solve_in S (length cells) leaders keep k cells current

module _ (S : Sections) (leaders keep : List ℕ) (cells : List Cell) (w count limit : ℕ) (rows : List Row) (blocks starts uses preserved : List ℕ) where
  pub solving_begin : (live : List ℕ) → Around S leaders keep cells w count rows blocks starts uses preserved live → Solving S leaders keep cells w count limit rows blocks starts uses preserved live limit
  solving_begin live a = record { current = rows; around = a; left = refl }

  module _ (live live' : List ℕ) (k : ℕ) (some_left : 0 < k) (s : Solving S leaders keep cells w count limit rows blocks starts uses preserved live k) (changed : Bool)
      (r : Rounded S leaders keep cells w s.current live' changed) where
    abbrev next : List Row
    next = (round_from S (length cells) leaders keep 0 cells s.current).rows

    one_more : solve_in S (length cells) leaders keep limit cells rows ≡ cond (same_rows s.current next) (Some next) (solve_in S (length cells) leaders keep (k - 1) cells next)
    unfolding solve_in
    one_more = let e : k ≡ suc (k - 1) = omega arith in s.left ∙ ap (λ (j : ℕ). solve_in S (length cells) leaders keep j cells s.current) e

    next_wide : Wide S (length cells) leaders keep next
    next_wide = (round_wide S (length cells) leaders keep 0 cells s.current s.around.wide).0

    next_each : length next ≡ block_count leaders
    next_each = rows_long S (length cells) leaders keep 0 cells s.current ∙ s.around.each

    pub solving_turn : changed ≡ true → Solving S leaders keep cells w count limit rows blocks starts uses preserved live' (k - 1)
    solving_turn e =
        let a = s.around in
        let test : same_rows s.current next ≡ false = r.stays ∙ rw e in
        record {
          current = next;
          around = record {
            long = a.long;
            flags = a.flags;
            one = a.one;
            some = a.some;
            wide = next_wide;
            total = a.total;
            each = next_each;
            numbers = a.numbers;
            places = a.places;
            room = a.room;
            long_uses = a.long_uses;
            within = a.within;
            inside = a.inside;
            summed = a.summed;
            shown = r.shown;
          };
          left = one_more ∙ rw test;
        }

    pub solving_found : changed ≡ false → Solved S leaders keep cells w limit rows live' true
    solving_found e =
        let test : same_rows s.current next ≡ true = r.stays ∙ rw e in
        record { yes = λ q. record { found = next; solved = one_more ∙ rw test; wide = next_wide; each = next_each; shown = r.shown }; no = λ q. absurd (false≢true (sym q)) }

  pub solving_none : (live : List ℕ) (k : ℕ) → k ≡ 0 → Solving S leaders keep cells w count limit rows blocks starts uses preserved live k → Solved S leaders keep cells w limit rows live false
  unfolding solve_in
  solving_none live k e s = record { yes = λ q. absurd (false≢true q); no = λ q. s.left ∙ rw e }

-- what `solve` promises: rounds over the rows that the memory holds, of a function with any sections; code and block sets stay
abbrev pub Solves : SetLayout → List ℕ → List ℕ → List ℕ → ℕ → List ℕ → Bool → Type 0
Solves sets memory blocks starts limit memory' r =
    ((S : Sections) (leaders keep metadata : List ℕ) (rows : List Row)
    → Around S leaders keep (cells_by (code_words sets memory) metadata) sets.width sets.count rows blocks starts (uses_of sets memory) (preserved_of sets memory) (live_of sets memory)
    → Solved S leaders keep (cells_by (code_words sets memory) metadata) sets.width limit rows (live_of sets memory') r)
    × (code_words sets memory' ≡ code_words sets memory)
    × (uses_of sets memory' ≡ uses_of sets memory)
    × (preserved_of sets memory' ≡ preserved_of sets memory)
