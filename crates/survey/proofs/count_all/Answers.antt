use Rattle.std.proofs.Common.{◌≡◌, ℕ, zero, suc, ◌+◌, ◌≤◌, Bool, true, false, cond, eqb, refl, ◌∙◌, add-one, arith}
use Rattle.survey.specs.Survey.{kind_at, counted, same_kind}
use Rattle.survey.specs.declared.AnswerKind.{AnswerKind}
use Rattle.survey.specs.declared.AnswerKind.TheVariants.{Unchanged, Rewritten, Refused}
use Rattle.survey.proofs.count_all.Goals as goal

-- as many as there are numbers, at most
few : (kind : AnswerKind) (n : ℕ) → counted kind n ≤ n
unfolding counted
few kind zero = omega arith
few kind (suc n) = go (same_kind (kind_at n) kind) (few kind n)
  where
    go : (t : Bool) → counted kind n ≤ n → cond t (suc (counted kind n)) (counted kind n) ≤ suc n
    go true h = omega arith
    go false h = omega arith

-- a number more
one_more : (kind : AnswerKind) (n count : ℕ) (k : AnswerKind) → count ≡ counted kind n → k ≡ kind_at n → cond (same_kind k kind) (suc count) count ≡ counted kind (n + 1)
unfolding counted
one_more kind n count k e f = rw (add-one n, e, f)

pub loop-number-init : goal.loop-number-init
unfolding counted
loop-number-init c = (refl, refl, refl)

pub more-t-requires : goal.more-t-requires
more-t-requires c =
    let l = c.loop-number in
    let i = l.invariant in
    let below = c.loop-number-test.true in (
      omega (arith, i.0, few Unchanged l.number),
      omega (arith, i.1, few Rewritten l.number),
      omega (arith, i.2, few Refused l.number),
    )

pub loop-number-preserved : goal.loop-number-preserved
loop-number-preserved c =
    let l = c.loop-number in
    let is = c.kind_of.ensures in
    let e = c.more-t.ensures in (
      e.unchanged ∙ one_more Unchanged l.number l.t.unchanged _ l.invariant.0 is,
      e.rewritten ∙ one_more Rewritten l.number l.t.rewritten _ l.invariant.1 is,
      e.refused ∙ one_more Refused l.number l.t.refused _ l.invariant.2 is,
    )
