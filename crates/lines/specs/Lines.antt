-- Definitions. Document 02, L3: the lines of a result, by its old places.
-- Assumes nothing.
use Rattle.std.specs.Prelude.{Bool, false, cond, ◌&&◌, ◌||◌, not, List, [], ◌∷◌, map, ℕ, suc, eqb, ltb, length}
use Rattle.unit.specs.declared.Line.{Line}
use Rattle.unit.specs.Result.{Retained}

-- the old places of a result
abbrev pub places_of : List Retained → List ℕ
places_of kept = map (λ (x : Retained). x.place) kept

-- "The boundary of old place p (0 to n) is the number of retained instructions before p"
unfoldable pub below : List ℕ → ℕ → ℕ
below [] p = 0
below (q ∷ qs) p = let rest = below qs p in cond (ltb q p) (suc rest) rest

-- does one of these entries land on q, where each goes from its place to another?
unfoldable pub lands : (ℕ → ℕ) → ℕ → List Line → Bool
lands to q [] = false
lands to q (e ∷ es) = eqb (to e.place) q || lands to q es

-- "where several land on one boundary the later supersedes the earlier, and an entry on n' is dropped"
unfoldable pub moved : (ℕ → ℕ) → ℕ → List Line → List Line
moved to n [] = []
moved to n (e ∷ es) =
    let q = to e.place in
    let rest = moved to n es in
    cond (ltb q n && not (lands to q es)) (record { place = q; line = e.line } ∷ rest) rest

-- "An entry moves to the boundary of its place"
abbrev pub moved_lines : List ℕ → List Line → List Line
moved_lines places lines = moved (below places) (length places) lines
