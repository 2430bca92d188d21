use Rattle.std.proofs.Common.{◌≡◌, ℕ, Bool, true, cond, ◌&&◌, eqb, List, [], ◌∷◌}
use Rattle.instruction.specs.declared.Instruction.{Instruction}
use Rattle.unit.specs.declared.Metadata.{Metadata}
use Rattle.flow.specs.Loop.{is_loop_hint}
use Rattle.flow.specs.Reach.{mark_all}
use Rattle.flow.proofs.hint.mark_end.Goals as goal

ended : (m m₁ : List ℕ) (i : Instruction) (d e : Metadata) (b h : Bool) → h ≡ is_loop_hint i → (b && h) ≡ true → d ≡ e → m₁ ≡ mark_all m (d.end ∷ []) → m₁ ≡ mark_all m (cond (b && is_loop_hint i) (e.end ∷ []) [])
ended m m₁ i d e b h hint t same marked = let u : (b && is_loop_hint i) ≡ true = cc in rw u (cc)

pub returns-then-reached-is_loop_hint : goal.returns-then-reached-is_loop_hint
returns-then-reached-is_loop_hint c =
    let m = c.before.before in
    let d = m.before.before.before in
    let l = d.before.before in
    let a = l.args in
    ended _ _ a.i _ _ (eqb a.reached 1) _ l.is_loop_hint.ensures d.if-reached-is_loop_hint.true d.metadata-d.ensures m.mark_if.ensures

pub returns-else-reached-is_loop_hint : goal.returns-else-reached-is_loop_hint
unfolding mark_all
returns-else-reached-is_loop_hint c = rw (← c.is_loop_hint.ensures, c.if-reached-is_loop_hint.false)
