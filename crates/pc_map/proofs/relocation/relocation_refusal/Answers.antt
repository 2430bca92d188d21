use Rattle.std.proofs.Common.{◌≡◌, Bool, ◌&&◌, leb, length, get_or, sym, ap, ◌∙◌, ne_eqb}
use mathlib.Core.Bool.{and-false}
use Rattle.instruction.specs.Instruction.{of_word}
use Rattle.flow.specs.Loop.{is_loop_hint}
use Rattle.pc_map.proofs.relocation.relocation_refusal.Goals as goal
use Rattle.pc_map.proofs.relocation.relocation_refusal.Tie as tie
use Rattle.pc_map.proofs.relocation.relocation_refusal.Lts
use Rattle.pc_map.proofs.relocation.relocation_refusal.Reads

abbrev After-is_loop_hint : Type 0
After-is_loop_hint = Lts.After-is_loop_hint tie.the-claims Reads.Pre Reads.Post

-- is it a loop hint?
is-hint : (l : After-is_loop_hint) → let a = l.args in is_loop_hint (of_word (get_or a.words.now a.p 0)) ≡ l.is_loop_hint.result
is-hint l = ap is_loop_hint (sym l.from_word-i.ensures) ∙ sym l.is_loop_hint.ensures

pub returns-then-not-is_loop_hint : goal.returns-then-not-is_loop_hint
returns-then-not-is_loop_hint c = rw (is-hint c.before.before ∙ c.if-not-is_loop_hint.true, and-false)

pub returns-then-not-near-is_kept : goal.returns-then-not-near-is_kept
returns-then-not-near-is_kept c =
    let good : Bool = leb c.imm32_unsigned.result (length c.args.words.now) && c.is_kept.result in
    rw (c.if-keep-p-eq1.true, is-hint c.before.before.before.before.before.before.before.before.before ∙ c.if-not-is_loop_hint.false, ← c.from_word-i.ensures, ← c.imm32_unsigned.ensures, ← c.metadata-d.ensures, ← c.is_kept.ensures, c.if-not-near-is_kept.true)

pub returns-else-not-near-is_kept : goal.returns-else-not-near-is_kept
returns-else-not-near-is_kept c =
    let good : Bool = leb c.imm32_unsigned.result (length c.args.words.now) && c.is_kept.result in
    rw (c.if-keep-p-eq1.true, is-hint c.before.before.before.before.before.before.before.before.before ∙ c.if-not-is_loop_hint.false, ← c.from_word-i.ensures, ← c.imm32_unsigned.ensures, ← c.metadata-d.ensures, ← c.is_kept.ensures, c.if-not-near-is_kept.false)

pub returns-else-keep-p-eq1 : goal.returns-else-keep-p-eq1
returns-else-keep-p-eq1 c = rw (ne_eqb _ 1 c.if-keep-p-eq1.false)
