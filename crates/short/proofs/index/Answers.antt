use mathlib.Core.Path.{◌≡◌, refl, sym, ◌∙◌}
use mathlib.Core.Bool.{Bool, true, false}
use Prim.Native.Nat.{ℕ, ◌≤◌, ◌<◌}
use native.Mathlib.Omega.{arith}
use lib.Dec.{ltb}
use borrow.Author.Tests.{ltb-true, ltb-false}
use borrow.Author.Count.{below_none, below_more}
use Rattle.instruction.specs.Instruction.{to_word}
use Rattle.short.specs.Short.{short_at}
use Rattle.short.specs.laws.Words.{distinct}
use Rattle.short.proofs.index.Goals as goal

pub loop-d-init : goal.loop-d-init
loop-d-init c = below_none _

pub returns-then-word-w : goal.returns-then-word-w
returns-then-word-w c =
    let low = c.loop-d-test.true in
    let few : c.loop-d.d < 24 = omega arith in
    (few, λ e h same. distinct c.loop-d.d e few h (sym c.word.ensures ∙ c.if-word-w.true ∙ same))

pub loop-d-preserved : goal.loop-d-preserved
loop-d-preserved c =
    below_more _ c.loop-d.d c.loop-d.invariant (λ same. c.if-word-w.false (c.word.ensures ∙ sym same))

-- past all others it can be the last alone
last : (w d : ℕ) → d ≤ 23 → 23 ≤ d → ((e : ℕ) → e < d → w ≡ to_word (short_at e) → ⊥) → (e : ℕ) → e < 24 → w ≡ to_word (short_at e) → d ≡ e
last w d low high none e h same = go (ltb e d) refl
  where
    go : (t : Bool) → ltb e d ≡ t → d ≡ e
    go true f = absurd (none e (ltb-true e d f) same)
    go false f = omega (arith, ltb-false e d f)

pub returns : goal.returns
returns c =
    let end : c.loop-d.d ≡ 23 = omega arith in
    (omega arith, last c.args.w 23 (omega arith) (omega arith) (rw end at c.loop-d.invariant))
