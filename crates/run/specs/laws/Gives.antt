-- The slots that an instruction surely gives words, by its class.
-- Assumes nothing.
use Rattle.std.specs.Prelude.{◌≡◌, false, [], ◌∷◌, ℕ}
use Rattle.std.proofs.Math.Path.{refl}
use Rattle.std.proofs.Common.{◌∙◌, append-nil}
use Rattle.words.specs.Lists.{is_in, tabulate, tabulate_from}
use Rattle.instruction.specs.Opcode as op
use Rattle.instruction.specs.Class.{class_of, single}
use Rattle.instruction.specs.Instruction.{class}
use Rattle.instruction.specs.declared.Class.TheVariants.{Jump}
use Rattle.effects.specs.Shape.{Tables, Cell}
use Rattle.effects.specs.Effects.{sure_writes, range_has, any_of}
use Rattle.effects.specs.laws.ByClass.{is_outside, writes_by_class, by_class}
use Rattle.effects.proofs.laws.ByClass.{sure_by_class}
use Rattle.run.specs.Program.{given_ranges}

module _ (T : Tables) (x : Cell) (inside : is_outside (class x.instruction) ≡ false) where
  -- it has no array range
  pub given_sure : given_ranges T x ≡ sure_writes T x
  unfolding given_ranges tabulate tabulate_from is_outside class_of single
  given_sure = rw (by_class (λ o. is_in o (op.SlotSet ∷ op.SlotSetN ∷ [])) (λ k. false) refl x.instruction.op inside, append-nil)

  pub given_by_class : given_ranges T x ≡ writes_by_class (class x.instruction) x.instruction
  given_by_class = given_sure ∙ sure_by_class T x inside

-- a jump gives no slot a word
pub jump_gives : (T : Tables) (x : Cell) → class x.instruction ≡ Jump → (s : ℕ) → any_of (range_has s) (given_ranges T x) ≡ false
unfolding is_outside writes_by_class any_of
jump_gives T x k s = rw (given_by_class T x (rw k refl), k)
