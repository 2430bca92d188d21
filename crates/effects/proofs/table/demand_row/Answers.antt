use mathlib.Core.Path.{◌≡◌, refl, sym}
use mathlib.Core.Bool.{Bool, true, false, cond}
use mathlib.Core.List.{List, [], ◌∷◌}
use Prim.Native.Nat.{ℕ}
use lib.Dec.{eqb, ltb}
use lib.ListN.{get_or-eq_default}
use borrow.Author.Tests.{eqb-true, ltb-true, ltb-false}
use Rattle.words.specs.Lists.{is_in, every}
use Rattle.words.specs.laws.Lists.{every_at}
use Rattle.effects.specs.laws.Form.{demand_rows, demand_row_of}
use Rattle.words.specs.laws.Keys.{none_of}
use Rattle.effects.proofs.table.demand_row.Goals as goal

-- the opcodes with an arm, the last first
keys : List ℕ
keys =
    123 ∷ 114 ∷ 110 ∷ 109 ∷ 108 ∷ 105 ∷ 103 ∷ 98 ∷ 97 ∷ 95 ∷ 92 ∷ 91 ∷ 90 ∷ 87 ∷ 83 ∷ 82 ∷ 79 ∷ 78 ∷ 63 ∷ 62 ∷ 61 ∷ 60 ∷ 17 ∷ 16 ∷ 8 ∷ 7 ∷ 6 ∷ 5 ∷ []

others : every 136 (λ o. cond (is_in o keys) true (eqb (demand_row_of o) 0)) ≡ true → (o : ℕ) → is_in o keys ≡ false → demand_row_of o ≡ 0
others test o none = go (ltb o 136) refl
  where
    go : (t : Bool) → ltb o 136 ≡ t → demand_row_of o ≡ 0
    go true q = eqb-true (demand_row_of o) 0 (rw none at (every_at 136 (λ o. cond (is_in o keys) true (eqb (demand_row_of o) 0)) test o (ltb-true o 136 q)))
    go false q = get_or-eq_default demand_rows 0 (ltb-false o 136 q)

pub returns-in_default : goal.returns-in_default
unfolding keys every
returns-in_default c =
    let o = c.args.op in
    sym (others refl o (none_of keys o c.in_default.in_default-own.rest))
