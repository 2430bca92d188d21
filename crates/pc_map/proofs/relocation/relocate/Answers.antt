use borrow.Enum.Refused.{opened}
use Rattle.std.proofs.Common.{◌≡◌, true, [], ◌∷◌, sym, refl, ◌∙◌, arith}
use mathlib.Core.Bool.{false≢true}
use Rattle.instruction.specs.Class.{named_class}
use Rattle.flow.specs.Block.{ends_block}
use Rattle.flow.specs.Branch.{branches}
use Rattle.flow.proofs.Classes.{by_tags, by_test}
use Rattle.pc_map.specs.Relocate.{moved_jump, moved_for_loop, relocate_by}
use Rattle.pc_map.specs.laws.Relocated.{cell, moved_inside}
use Rattle.pc_map.proofs.Relocating.{relocated}
use Rattle.pc_map.proofs.relocation.relocate.Goals as goal

pub moved_jump-requires : goal.moved_jump-requires
unfolding named_class branches
moved_jump-requires c =
    let b : branches c.class-c.result ≡ true = by_test branches 7 (8 ∷ 9 ∷ []) refl c.class-c.result c.in-Jump.in-Jump-own.keys1 in
    (omega arith, omega arith, c.requires.2 (rw (← c.class-c.ensures) b))

pub moved_for_loop-requires : goal.moved_for_loop-requires
unfolding named_class branches
moved_for_loop-requires c =
    let b : branches c.class-c.result ≡ true = by_test branches 10 [] refl c.class-c.result c.in-ForLoop.in-ForLoop-own.keys2 in
    (omega arith, omega arith, c.requires.2 (rw (← c.class-c.ensures) b))

pub returns-then-not-ends_block : goal.returns-then-not-ends_block
returns-then-not-ends_block c =
    let a = c.args in
    λ keep m d. c.moved_hint.ensures keep m ∙ moved_inside keep a.p (cell a.i d) (sym c.ends_block.ensures ∙ c.if-not-ends_block.true)

pub returns-in-Jump : goal.returns-in-Jump
unfolding named_class relocate_by
returns-in-Jump c =
    let a = c.args in
    λ keep m d.
    let same : moved_jump keep a.p a.i ≡ (relocate_by keep c.class-c.result a.p (cell a.i d)).instruction =
    by_tags (λ x. moved_jump keep a.p a.i ≡ (relocate_by keep x a.p (cell a.i d)).instruction) 7 (8 ∷ 9 ∷ []) (refl, (refl, refl)) c.class-c.result c.in-Jump.in-Jump-own.keys1 in
    relocated keep a.p (cell a.i d) c.class-c.result _ c.class-c.ensures (c.moved_jump.ensures keep m ∙ same)

pub returns-in-ForLoop : goal.returns-in-ForLoop
unfolding named_class relocate_by
returns-in-ForLoop c =
    let a = c.args in
    λ keep m d.
    let same : moved_for_loop keep a.p a.i ≡ (relocate_by keep c.class-c.result a.p (cell a.i d)).instruction =
    by_tags (λ x. moved_for_loop keep a.p a.i ≡ (relocate_by keep x a.p (cell a.i d)).instruction) 10 [] refl c.class-c.result c.in-ForLoop.in-ForLoop-own.keys2 in
    relocated keep a.p (cell a.i d) c.class-c.result _ c.class-c.ensures (c.moved_for_loop.ensures keep m ∙ same)

-- of the classes left, a hint ends no block
pub returns-in_default : goal.returns-in_default
unfolding named_class relocate_by ends_block
returns-in_default c =
    let a = c.args in
    λ keep m d.
    let same : ends_block c.class-c.result ≡ true → a.i ≡ (relocate_by keep c.class-c.result a.p (cell a.i d)).instruction =
    by_tags (λ x. ends_block x ≡ true → a.i ≡ (relocate_by keep x a.p (cell a.i d)).instruction) 0 (1 ∷ 2 ∷ 3 ∷ 4 ∷ 5 ∷ 6 ∷ 11 ∷ 12 ∷ 13 ∷ 14 ∷ [])
    (λ e. absurd (false≢true e), (λ e. refl, (λ e. refl, (λ e. refl, (λ e. refl, (λ e. refl, (λ e. refl, (λ e. refl, (λ e. refl, (λ e. refl, λ e. refl)))))))))) c.class-c.result (opened c.in_default.in_default-own.keys3) in
    let ends : ends_block c.class-c.result ≡ true = rw c.class-c.ensures (sym c.ends_block.ensures ∙ c.if-not-ends_block.false) in
    relocated keep a.p (cell a.i d) c.class-c.result _ c.class-c.ensures (same ends)
