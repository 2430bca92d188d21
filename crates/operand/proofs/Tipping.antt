-- Comparisons give 1 or 0: what tips the test is a candidate for the opcode and, turned round, for its opposite.
-- Assumes nothing.
use Rattle.std.proofs.Common.{◌≡◌, ℕ, suc, Bool, true, false, not, eqb, leb, sym, refl, ap, ◌∙◌, arith, le-leb, leb-false, leb-true}
use borrow.Author.Tests.{lt-leb}
use Rattle.values.specs.Fold.{bool}
use Rattle.operand.specs.laws.Candidate.{Candidate, Tips}

outcome : {w : ℕ} (t : Bool) → bool t ≡ w → t ≡ eqb w 1
outcome true e = rw (← e)
outcome false e = rw (← e)

pub tipped : {f : ℕ → ℕ} {test : ℕ → Bool} {w c : ℕ} → ((r : ℕ) → f r ≡ bool (test r)) → Tips test (eqb w 1) c → Candidate f w c
tipped {f} {test} {w} {c} word tips r h e =
    let same : test r ≡ eqb w 1 = outcome (test r) (sym (word r) ∙ e) in
    let there = tips r h same in
    (there.0, word c ∙ ap bool (there.1 ∙ sym same) ∙ sym (word r) ∙ e)

round : (s t : Bool) → not s ≡ t → s ≡ not t
round true t e = rw (← e)
round false t e = rw (← e)

back : (s t : Bool) → s ≡ not t → not s ≡ t
back s true e = rw e
back s false e = rw e

pub turned : {f : ℕ → ℕ} {test : ℕ → Bool} {w c : ℕ} → ((r : ℕ) → f r ≡ bool (not (test r))) → Tips test (not (eqb w 1)) c → Candidate f w c
turned {f} {test} {w} {c} word tips =
    tipped word (λ r h e. let there = tips r h (round (test r) (eqb w 1) e) in (there.0, back (test c) (eqb w 1) there.1))

-- a is above b, or it is not
pub opposite : (a b : ℕ) → leb (suc a) b ≡ not (leb b a)
opposite a b = go (leb b a) refl
  where
    go : (t : Bool) → leb b a ≡ t → leb (suc a) b ≡ not t
    go true e = lt-leb (suc a) b (omega (arith, leb-true b a e))
    go false e = le-leb (suc a) b (omega (arith, leb-false b a e))

pub reverse : (a b : ℕ) → leb a b ≡ not (leb (suc b) a)
reverse a b = round (leb a b) (leb (suc b) a) (sym (opposite b a))
