use mathlib.Core.Path.{◌≡◌, refl, ◌∙◌}
use mathlib.Core.Logic.{inl, inr}
use mathlib.Core.Bool.{Bool}
use mathlib.Core.List.{List}
use Prim.Native.Nat.{ℕ, ◌+◌, ◌-◌, ◌<◌}
use native.Mathlib.Omega.{arith}
use borrow.Author.Tests.{eq-eqb, ne_eqb}
use lib.Dec.{eqb}
use lib.ListN.{length, get_or}
use Rattle.std.specs.Prelude.{reverse}
use Rattle.std.proofs.lemmas.Iterator.Adapters.{YieldsList-from_rev_slice}
use Rattle.std.proofs.lemmas.Iterator.Consumers.{YieldsList-turn, YieldsList-end}
use Rattle.std.proofs.lemmas.List.{length_push, length-reverse, get_or-reverse}
use Rattle.std.proofs.Math.Nat.{sub-zero}
use Rattle.instruction.specs.Instruction.{of_word}
use Rattle.flow.specs.laws.Control.{Controls, same_default}
use Rattle.removal.specs.laws.Jumping.{Rounds, idle_in}
use Rattle.removal.specs.laws.Next.{kept_from}
use Rattle.removal.specs.laws.JumpRounds.{Walked, Drops, Takes, walk_begin, walk_found, walk_on, walk_end, idle_dropped}
use Rattle.removal.proofs.jump.drop_idle.Goals as goal
use Rattle.removal.proofs.jump.drop_idle.Goals.{then-idle, else-idle}

-- the element that comes after n from the back
from_back : (list : List ℕ) (n x : ℕ) → (n < length (reverse list)) × (x ≡ get_or (reverse list) n x) → (n < length list) × (x ≡ get_or list (length list - n - 1) 0)
from_back list n x t =
    let h : n < length list = rw length-reverse at t.0 in
    let at : length list - 1 - n ≡ length list - n - 1 = omega arith in
    (h, t.1 ∙ get_or-reverse list n x h ∙ same_default list (length list - 1 - n) x 0 (omega arith) ∙ rw at refl)

-- the place is done, whichever way it came here
done : {words list work₀ work work' : List ℕ} {idle dropped dropped' : Bool} {next next' next'' end k n : ℕ} (x : ℕ) (r : Rounds words (length work₀)) (c : Controls words list (length words))
    → Walked words list work₀ work dropped next end k → 0 < k → n + 1 ≡ k → x ≡ get_or list (k - 1) 0
    → ((keep : List ℕ) → ((q : ℕ) → q < end → get_or work q 0 ≡ get_or keep q 0) → next ≡ kept_from keep end → next' ≡ kept_from keep (x + 1))
    → idle ≡ idle_in (length words) work (eqb (get_or work x 0) 1) next' x (of_word (get_or words x 0))
    → Drops idle x work dropped work' dropped' → Takes (eqb (get_or work x 0) 1) x next' next'' → Walked words list work₀ work' dropped' next'' x n
done {k = k} {n = n} x r c w h less is =
    let e : n ≡ k - 1 = omega arith in
    rw (is, e) (λ f g d t. walk_on r c w h _ (walk_found r c w h f) _ _ _ _ g d t)

pub loop-place-init : goal.loop-place-init
loop-place-init c = (omega arith, rw sub-zero (walk_begin c.requires.0 c.requires.1))

pub loop-place-preserved-then-kept : goal.loop-place-preserved-then-kept
loop-place-preserved-then-kept c =
    let t = from_back _ _ _ (YieldsList-turn (YieldsList-from_rev_slice c.args.list.now cc) c.loop-place.yielded _ c.loop-place.yielded_by _ _ c.in-Some.place c.in-Some.is c.next.ensures.steps) in
    let long = length_push c.loop-place.yielded c.in-Some.place in (
      omega arith,
      done _ c.requires.0 c.requires.1 c.loop-place.invariant.1 (omega arith) (omega arith) t.1 c.lowest_kept-next.ensures c.is_idle-idle.ensures
          (elim c.if-idle.branch [ then-idle w ↦ inl (w.if-idle.true, w.work-is, w.dropped-is) | else-idle w ↦ inr (w.if-idle.false, w.work-is, w.dropped-is) ]) (inl (eq-eqb _ _ c.if-kept.true, refl)),
    )

pub loop-place-preserved : goal.loop-place-preserved
loop-place-preserved c =
    let t = from_back _ _ _ (YieldsList-turn (YieldsList-from_rev_slice c.args.list.now cc) c.loop-place.yielded _ c.loop-place.yielded_by _ _ c.in-Some.place c.in-Some.is c.next.ensures.steps) in
    let long = length_push c.loop-place.yielded c.in-Some.place in (
      omega arith,
      done _ c.requires.0 c.requires.1 c.loop-place.invariant.1 (omega arith) (omega arith) t.1 c.lowest_kept-next.ensures c.is_idle-idle.ensures
          (elim c.if-idle.branch [ then-idle w ↦ inl (w.if-idle.true, w.work-is, w.dropped-is) | else-idle w ↦ inr (w.if-idle.false, w.work-is, w.dropped-is) ]) (inr (ne_eqb _ _ c.if-kept.false, refl)),
    )

pub returns : goal.returns
returns c =
    let t = YieldsList-end (YieldsList-from_rev_slice c.args.list.now cc) c.loop-place.yielded _ c.loop-place.yielded_by _ _ c.in-None.is c.next.ensures.steps in
    let all : length c.loop-place.yielded ≡ length c.args.list.now = rw length-reverse at t.1 in
    (λ metadata. idle_dropped _ _ c.requires.0 c.requires.2 metadata _ (walk_end c.requires.0 c.requires.1 c.loop-place.invariant.1 (omega arith)), c.loop-place.invariant.1.same)
