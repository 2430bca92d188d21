use Rattle.std.proofs.Common.{◌≡◌, ℕ, ◌<◌, ◌≤◌, Bool, true, cond, not, ◌||◌, ltb, [], ◌∷◌, sym, refl, inl, inr, arith, le-ltb, lt-ltb}
use types.Run.{OneOf}
use borrow.Author.Tests.{not-true}
use Rattle.words.specs.Lists.{is_in, every}
use Rattle.words.specs.laws.Lists.{every_at}
use Rattle.words.specs.laws.Keys.{none_of}
use Rattle.instruction.specs.Class.{single, class_of}
use Rattle.flow.specs.Block.{ends_block}
use Rattle.flow.proofs.branch.ends_block.Goals as goal

-- 57 to 59 end a block, and of the other opcodes three at most
abbrev told : ℕ → Bool
told o = cond (ltb o 57) (not (ends_block (class_of o))) (cond (ltb o 60) (ends_block (class_of o)) (is_in o (124 ∷ 111 ∷ 64 ∷ []) || not (ends_block (class_of o))))

each : (o : ℕ) → o < 256 → told o ≡ true
unfolding every ends_block class_of single
each o h = every_at 256 told refl o h

-- these do
listed : (o : ℕ) → OneOf (64 ∷ 111 ∷ 124 ∷ []) o → true ≡ ends_block (class_of o)
unfolding ends_block class_of single
listed o (inl e) = rw e
listed o (inr (inl e)) = rw e
listed o (inr (inr e)) = rw e

pub returns-in_default : goal.returns-in_default
returns-in_default c =
    let h : c.args.op < 57 = omega arith in
    sym (not-true _ (rw (lt-ltb _ _ h) at (each c.args.op (omega arith))))

pub returns-in_default-2 : goal.returns-in_default-2
returns-in_default-2 c =
    let o = c.args.op in
    let r = c.in_default.in_default-own.rest.1 in
    let others = none_of (124 ∷ 111 ∷ 64 ∷ []) o (((tt, λ e. r (inl e)), λ e. r (inr (inl e))), λ e. r (inr (inr e))) in
    let low : 57 ≤ o = omega arith in
    let high : 60 ≤ o = omega arith in
    sym (not-true _ (rw (le-ltb _ _ low, le-ltb _ _ high, others) at (each o (omega arith))))

pub returns-in-57 : goal.returns-in-57
returns-in-57 c = listed _ c.in-57.is

pub returns-in-57-2 : goal.returns-in-57-2
returns-in-57-2 c =
    let o = c.args.op in
    let past : 57 ≤ o = omega arith in
    let h : o < 60 = omega arith in
    sym (rw (le-ltb _ _ past, lt-ltb _ _ h) at (each o (omega arith)))
