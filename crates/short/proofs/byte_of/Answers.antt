use mathlib.Core.Path.{◌∙◌, ap}
use mathlib.Core.List.{List}
use Prim.Native.Nat.{ℕ}
use lib.ListN.{get_or}
use Rattle.words.specs.laws.Le.{to_le_low}
use Rattle.short.specs.laws.Digits.{byte_in}
use Rattle.short.proofs.byte_of.Goals as goal

pub returns : goal.returns
returns c =
    let a = c.args in
    ap (λ (l : List ℕ). get_or l a.i 0) (c.to_le_bytes.ensures ∙ to_le_low 8 a.w) ∙ byte_in 8 a.w a.i c.requires
