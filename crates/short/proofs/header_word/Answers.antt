use mathlib.Core.Path.{◌≡◌, ap}
use mathlib.Core.List.{List, [], ◌∷◌}
use Prim.Native.Nat.{ℕ, ◌+◌, ◌*◌, ◌-◌}
use native.Mathlib.Omega.{arith}
use lib.ListN.{get_or}
use Rattle.unit.specs.Size.{header_size, instruction_size, metadata_size}
use Rattle.short.specs.Short.{header_words, unit_size}
use Rattle.short.proofs.header_word.Goals as goal

-- the words by the unit's end
by_end : (n end : ℕ) → end ≡ unit_size n
    → (n ∷ n ∷ 2 ∷ 2 ∷ 0 ∷ 0 ∷ 0 ∷ 0 ∷ 0 ∷ header_size ∷ (header_size + instruction_size * n) ∷ (end - 2) ∷ end ∷ end ∷ end ∷ end ∷ 0 ∷ end ∷ []) ≡ header_words n
unfolding header_words
by_end n end e =
    let types : end - 2 ≡ header_size + instruction_size * n + metadata_size * n = omega arith in
    rw (types, e)

pub returns : goal.returns
returns c = ap (λ (l : List ℕ). get_or l c.args.q 0) (by_end c.args.n _ c.unit_size-end.ensures)
