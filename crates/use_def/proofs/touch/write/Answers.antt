use borrow.Enum.Refused.{opened}
use Rattle.std.proofs.Common.{◌≡◌, [], ◌∷◌, get_or, sym, refl, ◌∙◌}
use Rattle.instruction.specs.Class.{named_class}
use Rattle.effects.specs.laws.Form.{empty_range}
use Rattle.flow.proofs.Classes.{by_tags}
use Rattle.use_def.specs.laws.Sets.{range}
use Rattle.effects.specs.laws.ByClass.{writes_by_class}
use Rattle.use_def.proofs.touch.write.Goals as goal

pub returns-in-LoadInt : goal.returns-in-LoadInt
unfolding named_class writes_by_class
returns-in-LoadInt c =
    let i = c.args.i in
    c.slots.ensures ∙ sym (by_tags (λ x. get_or (writes_by_class x i) 0 empty_range ≡ range i.a 1) 1 (2 ∷ 3 ∷ 5 ∷ 6 ∷ 10 ∷ []) (refl, (refl, (refl, (refl, (refl, refl))))) c.args.c c.in-LoadInt.in-LoadInt-own.keys1)

pub returns-in-CopyN : goal.returns-in-CopyN
unfolding named_class writes_by_class
returns-in-CopyN c =
    let i = c.args.i in
    c.slots-in-CopyN.ensures ∙ sym (by_tags (λ x. get_or (writes_by_class x i) 0 empty_range ≡ range i.a i.c) 4 ([]) refl c.args.c c.in-CopyN.in-CopyN-own.keys2)

pub returns-in_default : goal.returns-in_default
unfolding named_class writes_by_class
returns-in_default c =
    let i = c.args.i in
    c.slots-in_default.ensures ∙ sym (by_tags (λ x. get_or (writes_by_class x i) 0 empty_range ≡ range 0 0) 0 (7 ∷ 8 ∷ 9 ∷ 11 ∷ 12 ∷ 13 ∷ 14 ∷ []) (refl, (refl, (refl, (refl, (refl, (refl, (refl, refl))))))) c.args.c (opened c.in_default.in_default-own.keys3))
