use mathlib.Core.Path.{◌≡◌}
use mathlib.Core.List.{List}
use Prim.Native.Nat.{ℕ, suc, ◌/◌, ◌+◌, ◌≤◌, ◌<◌}
use native.Mathlib.Numerals.{add-one}
use native.Mathlib.Omega.{arith}
use lib.Dec.{ltb}
use lib.ListN.{length}
use borrow.Author.Tests.{lt-ltb, le-ltb}
use Rattle.unit.specs.Size.{line_size}
use Rattle.unit.specs.Entry.{line_at, good_line}
use Rattle.unit.specs.declared.Line.{Line}
use Rattle.parse.proofs.good_line.Goals as goal

-- below the next one, and below n
next-line : (l : List ℕ) (k n : ℕ) (e f : Line) → k + 1 < length l / line_size → e ≡ line_at l k → f ≡ line_at l (k + 1) → ltb e.place f.place ≡ good_line n l k
unfolding good_line
next-line l k n e f h r s = rw (r, s, add-one k, lt-ltb (suc k) (length l / line_size) (omega arith))

last_line : (l : List ℕ) (k n : ℕ) (e : Line) → length l / line_size ≤ k + 1 → e ≡ line_at l k → ltb e.place n ≡ good_line n l k
unfolding good_line
last_line l k n e h r = rw (r, le-ltb (suc k) (length l / line_size) (omega arith))

pub returns-then-k-l : goal.returns-then-k-l
returns-then-k-l c =
    let a = c.args in
    let there = c.requires.1 in
    next-line a.section.now a.k a.n _ _ (omega arith) c.line-place.ensures c.line.ensures

pub returns-else-k-l : goal.returns-else-k-l
returns-else-k-l c =
    let a = c.args in
    let there = c.requires.1 in
    last_line a.section.now a.k a.n _ (omega arith) c.line-place.ensures
