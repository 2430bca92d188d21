-- Laws of System.
-- Assumes nothing.
use Rattle.std.specs.Prelude.{refl}
use Rattle.std.proofs.Common.{◌∙◌, le_refl, le_trans}
use Rattle.run.specs.System.{System, Same}

module _ {R W : Type 0} where
  pub same_refl : (S : System R W) (x : S.State) → Same S x S x
  same_refl S x = record {
    logs = λ k. (k, le_refl k, refl);
    ends = λ k w e. (k, le_refl k, e, refl);
    logs⁻ = λ j. (j, refl);
    ends⁻ = λ j w e. (j, e, refl);
  }

  pub same_trans : {S₁ S₂ S₃ : System R W} {x : S₁.State} {y : S₂.State} {z : S₃.State} → Same S₁ x S₂ y → Same S₂ y S₃ z → Same S₁ x S₃ z
  same_trans p q = record {
    logs = λ k. let a = p.logs k in let b = q.logs a.0 in (b.0, le_trans b.1 a.1, b.2 ∙ a.2);
    ends = λ k w e. let a = p.ends k w e in let b = q.ends a.0 w a.2 in (b.0, le_trans b.1 a.1, b.2, b.3 ∙ a.3);
    logs⁻ = λ j. let b = q.logs⁻ j in let a = p.logs⁻ b.0 in (a.0, a.1 ∙ b.1);
    ends⁻ = λ j w e. let b = q.ends⁻ j w e in let a = p.ends⁻ b.0 w b.1 in (a.0, a.1, a.2 ∙ b.2);
  }
