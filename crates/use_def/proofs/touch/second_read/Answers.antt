use borrow.Enum.Refused.{opened}
use Rattle.std.proofs.Common.{◌≡◌, [], ◌∷◌, get_or, sym, refl, ◌∙◌}
use Rattle.instruction.specs.Class.{named_class}
use Rattle.effects.specs.laws.Form.{empty_range}
use Rattle.flow.proofs.Classes.{by_tags}
use Rattle.use_def.specs.laws.Sets.{range}
use Rattle.effects.specs.laws.ByClass.{reads_by_class}
use Rattle.use_def.proofs.touch.second_read.Goals as goal

pub returns-in-Binary : goal.returns-in-Binary
unfolding named_class reads_by_class
returns-in-Binary c =
    let i = c.args.i in
    c.slots.ensures ∙ sym (by_tags (λ x. get_or (reads_by_class x i) 1 empty_range ≡ range i.c 1) 6 ([]) refl c.args.c c.in-Binary.in-Binary-own.keys1)

pub returns-in-ForLoop : goal.returns-in-ForLoop
unfolding named_class reads_by_class
returns-in-ForLoop c =
    let i = c.args.i in
    c.slots-in-ForLoop.ensures ∙ sym (by_tags (λ x. get_or (reads_by_class x i) 1 empty_range ≡ range i.b 1) 10 ([]) refl c.args.c c.in-ForLoop.in-ForLoop-own.keys2)

pub returns-in_default : goal.returns-in_default
unfolding named_class reads_by_class
returns-in_default c =
    let i = c.args.i in
    c.slots-in_default.ensures ∙ sym (by_tags (λ x. get_or (reads_by_class x i) 1 empty_range ≡ range 0 0) 0 (1 ∷ 2 ∷ 3 ∷ 4 ∷ 5 ∷ 7 ∷ 8 ∷ 9 ∷ 11 ∷ 12 ∷ 13 ∷ 14 ∷ []) (refl, (refl, (refl, (refl, (refl, (refl, (refl, (refl, (refl, (refl, (refl, (refl, refl)))))))))))) c.args.c (opened c.in_default.in_default-own.keys3))
