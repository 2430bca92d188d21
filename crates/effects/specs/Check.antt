-- Definitions. The operands of every instruction: refusals 5, 6 and 7 "by lowest p: Invalid; effect error; a slot at or past s".
-- Assumes nothing.
use Rattle.std.specs.Prelude.{Result, Ok, Bool, false, cond, List, [], ◌∷◌, ◌++◌, ℕ, suc, eqb, ltb}
use Rattle.instruction.specs.Opcode as op
use Rattle.unit.specs.declared.refusal.Refusal.{Refusal}
use Rattle.unit.specs.Refusal.{invalid_opcode, effect_error, slot_outside, Refused}
use Rattle.effects.specs.Shape.{Tables, Cell}
use Rattle.effects.specs.Effects.{all_reads, writes, demands_met, range_fits, range_within, all_of}

-- the answer of a check over the whole function: nothing, or the refusal
abbrev pub Check : Type 0
Check = Result (Unit {0}) Refusal

pattern abbrev pub Passed : Check
Passed = Ok tt

-- the lowest place whose test is no 0, with that number: every refusal "at the lowest place" is one of these
unfoldable pub lowest : (ℕ → Cell → ℕ) → ℕ → List Cell → Check
lowest test p [] = Passed
lowest test p (x ∷ xs) = let rest = lowest test (suc p) xs in cond (eqb (test p x) 0) rest (Refused (test p x) p)

-- an instruction's effects are no error
unfoldable pub effects_sound : Tables → Cell → Bool
effects_sound T x =
    let fit = all_of range_fits (all_reads T x ++ writes T x) in
    cond (demands_met T x) fit false

-- the refusal of one instruction's operands, or 0; s is the number of local slots
unfoldable pub operand_refusal : ℕ → Tables → Cell → ℕ
operand_refusal s T x =
    let within = cond (all_of (range_within s) (all_reads T x ++ writes T x)) 0 slot_outside in
    let sound = cond (effects_sound T x) within effect_error in
    cond (ltb op.max_valid x.instruction.op) invalid_opcode sound

unfoldable pub operand_check : ℕ → Tables → List Cell → Check
operand_check s T = lowest (λ p x. operand_refusal s T x) 0
