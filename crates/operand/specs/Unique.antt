-- There is one right operand: two right answers are the same.
-- Assumes nothing.
use Rattle.std.specs.Prelude.{◌≡◌, ℕ, Bool, true, false, ◌≢◌, nat_lt, refl, Result, Ok, Err, Option, Some, None}
use Rattle.std.proofs.Common.{ap, arith, ltb-true, ltb-false}
use Rattle.operand.specs.Operand.{Smallest, RightOperand}
use Rattle.operand.specs.declared.NotCovered.{NotCovered}

same_smallest : {f : ℕ → ℕ} {w r s : ℕ} → Smallest f w r → Smallest f w s → r ≡ s
same_smallest {f} {w} {r} {s} a b = go (nat_lt r s) refl (nat_lt s r) refl
  where
    go : (t : Bool) → nat_lt r s ≡ t → (u : Bool) → nat_lt s r ≡ u → r ≡ s
    go true e u d = absurd (b.least r (ltb-true r s e) a.gives)
    go false e true d = absurd (a.least s (ltb-true s r d) b.gives)
    go false e false d = omega (arith, ltb-false r s e, ltb-false s r d)

-- an opcode is covered or it is not
split : {t : Bool} → t ≡ true → t ≢ false
split p q = let z : ◌≡◌ {A = ℕ} 0 1 = cc in omega arith

pub unique : (o l w : ℕ) (a b : Result (Option ℕ) NotCovered) → RightOperand o l w a → RightOperand o l w b → a ≡ b
unfolding RightOperand
unique o l w (Ok (Some r)) (Ok (Some s)) p q = ap (λ (x : ℕ). Ok (Some x)) (same_smallest p.1 q.1)
unique o l w (Ok (Some r)) (Ok None) p q = absurd (q.1 r p.1.word p.1.gives)
unique o l w (Ok (Some r)) (Err d) p q = absurd (split p.0 q)
unique o l w (Ok None) (Ok (Some s)) p q = absurd (p.1 s q.1.word q.1.gives)
unique o l w (Ok None) (Ok None) p q = refl
unique o l w (Ok None) (Err d) p q = absurd (split p.0 q)
unique o l w (Err e) (Ok (Some s)) p q = absurd (split q.0 p)
unique o l w (Err e) (Ok None) p q = absurd (split q.0 p)
unique o l w (Err e) (Err d) p q = refl
