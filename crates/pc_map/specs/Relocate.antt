-- Definitions. Relocation: what is retained, with its branches moved.
-- Assumes nothing.
use Rattle.std.specs.Prelude.{ℕ, suc, ◌+◌, ◌-◌, ◌%◌, ◌^◌, cond, ◌&&◌, List, [], ◌∷◌, length, nat_le}
use Rattle.instruction.specs.declared.Instruction.{Instruction}
use Rattle.instruction.specs.declared.Class.{Class}
use Rattle.instruction.specs.declared.Class.TheVariants.{Hint, LoadInt, LoadConst, Copy, CopyN, Unary, Binary, Jump, JumpIf, JumpIfNot, ForLoop, Return, Panic, Outside, Invalid}
use Rattle.instruction.specs.Instruction.{with_imm32, class}
use Rattle.unit.specs.Refusal.{lost_loop}
use Rattle.unit.specs.Result.{Retained}
use Rattle.effects.specs.Check.{Check}
use Rattle.effects.specs.Shape.{Cell}
use Rattle.effects.specs.Check.{lowest}
use Rattle.flow.specs.Branch.{target}
use Rattle.flow.specs.Loop.{is_loop_hint, loop_exit, loop_end}
use Rattle.pc_map.specs.Boundary.{is_kept, boundary}

-- refusal 10: "lowest kept loop hint whose end was removed or whose exit exceeds n"
unfoldable pub relocation_check : List ℕ → List Cell → Check
relocation_check keep cells =
    lowest
    (λ p x. cond (is_kept keep p && is_loop_hint x.instruction) (cond (nat_le (loop_exit x) (length cells) && is_kept keep (loop_end x)) 0 lost_loop) 0)
    0
    cells

module _ (keep : List ℕ) where
  -- "Branches go to the boundary of their old target": a jump's distance in 32 bits, ForLoop's from the next place in 16
  unfoldable pub moved_jump : ℕ → Instruction → Instruction
  moved_jump p i = with_imm32 i ((boundary keep (target p i) + (2 ^ 32 - boundary keep p)) % 2 ^ 32)

  unfoldable pub moved_for_loop : ℕ → Instruction → Instruction
  moved_for_loop p i =
      record { op = i.op; flags = i.flags; a = i.a; b = i.b; c = (boundary keep (target p i) + (65536 - suc (boundary keep p)) % 65536) % 65536 }

  -- "loop exits likewise"; "a loop end must itself be retained"
  unfoldable pub moved_hint : Cell → Cell
  moved_hint x =
      cond (is_loop_hint x.instruction)
      (record {
        instruction = with_imm32 x.instruction (boundary keep (loop_exit x));
        metadata = record {
          kind = x.metadata.kind;
          ok = x.metadata.ok;
          array = x.metadata.array;
          first = x.metadata.first;
          second = x.metadata.second;
          end = boundary keep (loop_end x);
        };
      })
      x

  abbrev pub with_instruction : Cell → Instruction → Cell
  with_instruction x i = record { instruction = i; metadata = x.metadata }

  unfoldable pub relocate_by : Class → ℕ → Cell → Cell
  unfolding moved_jump moved_for_loop moved_hint
  relocate_by Hint p x = moved_hint x
  relocate_by LoadInt p x = x
  relocate_by LoadConst p x = x
  relocate_by Copy p x = x
  relocate_by CopyN p x = x
  relocate_by Unary p x = x
  relocate_by Binary p x = x
  relocate_by Jump p x = with_instruction x (moved_jump p x.instruction)
  relocate_by JumpIf p x = with_instruction x (moved_jump p x.instruction)
  relocate_by JumpIfNot p x = with_instruction x (moved_jump p x.instruction)
  relocate_by ForLoop p x = with_instruction x (moved_for_loop p x.instruction)
  relocate_by Return p x = x
  relocate_by Panic p x = x
  relocate_by Outside p x = x
  relocate_by Invalid p x = x

  abbrev pub relocate : ℕ → Cell → Cell
  relocate p x = relocate_by (class x.instruction) p x

  -- the kept cells from place p on, relocated, each with its old place
  unfoldable pub retain_from : ℕ → List Cell → List Retained
  unfolding relocate_by
  retain_from p [] = []
  retain_from p (x ∷ xs) =
      let rest = retain_from (suc p) xs in
      cond (is_kept keep p)
      (record { instruction = (relocate p x).instruction; metadata = (relocate p x).metadata; place = p } ∷ rest)
      rest
