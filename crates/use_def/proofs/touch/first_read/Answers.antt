use Rattle.std.proofs.Common.{◌≡◌, [], ◌∷◌, get_or, sym, refl, ◌∙◌}
use Rattle.instruction.specs.Class.{named_class}
use Rattle.effects.specs.laws.Form.{empty_range}
use Rattle.flow.proofs.Classes.{by_tags}
use Rattle.use_def.specs.laws.Sets.{range}
use Rattle.effects.specs.laws.ByClass.{reads_by_class}
use Rattle.use_def.proofs.touch.first_read.Goals as goal

pub returns-in-Copy : goal.returns-in-Copy
unfolding named_class reads_by_class
returns-in-Copy c =
    let i = c.args.i in
    c.slots.ensures ∙ sym (by_tags (λ x. get_or (reads_by_class x i) 0 empty_range ≡ range i.b 1) 3 (5 ∷ 6 ∷ []) (refl, (refl, refl)) c.args.c c.in-Copy.in-Copy-own.keys1)

pub returns-in-CopyN : goal.returns-in-CopyN
unfolding named_class reads_by_class
returns-in-CopyN c =
    let i = c.args.i in
    c.slots-in-CopyN.ensures ∙ sym (by_tags (λ x. get_or (reads_by_class x i) 0 empty_range ≡ range i.b i.c) 4 ([]) refl c.args.c c.in-CopyN.in-CopyN-own.keys2)

pub returns-in-JumpIf : goal.returns-in-JumpIf
unfolding named_class reads_by_class
returns-in-JumpIf c =
    let i = c.args.i in
    c.slots-in-JumpIf.ensures ∙ sym (by_tags (λ x. get_or (reads_by_class x i) 0 empty_range ≡ range i.a 1) 8 (9 ∷ 10 ∷ []) (refl, (refl, refl)) c.args.c c.in-JumpIf.in-JumpIf-own.keys3)

pub returns-in-Return : goal.returns-in-Return
unfolding named_class reads_by_class
returns-in-Return c =
    let i = c.args.i in
    c.slots-in-Return.ensures ∙ sym (by_tags (λ x. get_or (reads_by_class x i) 0 empty_range ≡ range i.a i.b) 11 ([]) refl c.args.c c.in-Return.in-Return-own.keys4)

pub returns-in-Panic : goal.returns-in-Panic
unfolding named_class reads_by_class
returns-in-Panic c =
    let i = c.args.i in
    c.slots-in-Panic.ensures ∙ sym (by_tags (λ x. get_or (reads_by_class x i) 0 empty_range ≡ range i.a 2) 12 ([]) refl c.args.c c.in-Panic.in-Panic-own.keys5)

pub returns-in_default : goal.returns-in_default
unfolding named_class reads_by_class
returns-in_default c =
    let i = c.args.i in
    c.slots-in_default.ensures ∙ sym (by_tags (λ x. get_or (reads_by_class x i) 0 empty_range ≡ range 0 0) 0 (1 ∷ 2 ∷ 7 ∷ 13 ∷ 14 ∷ []) (refl, (refl, (refl, (refl, (refl, refl))))) c.args.c c.in_default.in_default-own.keys6)
