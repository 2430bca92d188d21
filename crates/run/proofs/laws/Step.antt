-- Where a step may go, and what decides what it does.
-- Assumes nothing.
use Rattle.std.specs.Prelude.{◌≡◌, Bool, ℕ, ◌<◌, length, List, ◌∷◌}
use Rattle.std.proofs.Math.Path.{refl}
use Rattle.std.proofs.Math.Bool.{true, false}
use Rattle.std.proofs.Common.{lt-ltb}
use Rattle.instruction.specs.Instruction.{class}
use Rattle.instruction.specs.declared.Class.{Class}
use Rattle.instruction.specs.declared.Class.TheVariants.{Hint, LoadInt, LoadConst, Copy, CopyN, Unary, Binary, Jump, JumpIf, JumpIfNot, ForLoop, Return, Panic, Outside, Invalid}
use Rattle.effects.specs.Shape.{Cell, cell_at}
use Rattle.flow.specs.Branch.{falls, branches, target_by}
use Rattle.run.specs.Machine.{Words, Event, World, Reply, words, finish, Act, silent, ask, stop, fail, Node, at, goto, answered, perform, step}
use Rattle.run.specs.Program.{Function, node_by, act_by, class_in, program_of}
use Rattle.run.specs.laws.Invariant.{Holds, held, past, Invariant}
use Rattle.run.proofs.laws.Removal.{Goes, silently, asked}
use Rattle.run.proofs.laws.Justified.{do_at}
use Rattle.run.specs.laws.Runnable.{Runnable, runnable_class}
use Rattle.run.specs.laws.Step.{Succ, branch, next}

module _ (F : Function) (W : World) where
  pub goes_succ : (k : Class) (p : ℕ) (x : Cell) (σ : Words) (j : Bool) → Goes (act_by F.sections W x k σ) j → Succ k p x.instruction (goto (node_by F k W p x) p j)
  unfolding act_by node_by goto target_by falls branches
  goes_succ Hint p x σ j silently = next refl
  goes_succ LoadInt p x σ j silently = next refl
  goes_succ LoadConst p x σ j silently = next refl
  goes_succ Copy p x σ j silently = next refl
  goes_succ CopyN p x σ j silently = next refl
  goes_succ Unary p x σ j silently = next refl
  goes_succ Binary p x σ j silently = next refl
  goes_succ Jump p x σ j silently = branch refl
  goes_succ JumpIf p x σ true g = branch refl
  goes_succ JumpIf p x σ false g = next refl
  goes_succ JumpIfNot p x σ true g = branch refl
  goes_succ JumpIfNot p x σ false g = next refl
  goes_succ ForLoop p x σ true g = branch refl
  goes_succ ForLoop p x σ false g = next refl
  goes_succ Return p x σ j g = elim g [ ]
  goes_succ Panic p x σ j g = elim g [ ]
  goes_succ Outside p x σ true g = next refl
  goes_succ Outside p x σ false g = next refl
  goes_succ Invalid p x σ j g = elim g [ ]

  -- a step inside the code is what its cell does
  pub step_do : (p : ℕ) (σ : Words) (R : List Event) → p < length F.cells → step W (program_of F W) (at p σ R) ≡ do_at F W p σ R (cell_at F.cells p)
  unfolding step program_of do_at node_by
  step_do p σ R h = rw (lt-ltb p (length F.cells) h)

-- what holds wherever a step may go holds after it
module _ (I : ℕ → Words → Type 0) where
  holds_answered : (M : Node) (p : ℕ) (σ : Words) (R : List Event) (r : Reply) → ((j : Bool) (τ : Words) → I (goto M p j) τ) → Holds I (answered M p σ R r)
  unfolding answered
  holds_answered M p σ R (words w stored j) f = held (f j _)
  holds_answered M p σ R finish f = past

  holds_performed : (W : World) (M : Node) (p : ℕ) (σ : Words) (R : List Event) (A : Act) → ((j : Bool) → Goes A j → (τ : Words) → I (goto M p j) τ) → Holds I (perform W M p σ R A)
  unfolding perform
  holds_performed W M p σ R (silent w j) f = held (f j silently _)
  holds_performed W M p σ R (ask e) f = holds_answered M p σ (e ∷ R) (W.reply (e ∷ R)) (λ j. f j asked)
  holds_performed W M p σ R (stop e w) f = past
  holds_performed W M p σ R fail f = past

  pub holds_succ : (F : Function) (W : World) (p : ℕ) (σ : Words) (R : List Event) (x : Cell) → class_in F p x ≡ class x.instruction
      → ((q : ℕ) → Succ (class x.instruction) p x.instruction q → (τ : Words) → I q τ) → Holds I (do_at F W p σ R x)
  unfolding do_at
  holds_succ F W p σ R x m f = rw m (holds_performed W _ p σ R _ (λ j g. f _ (goes_succ F W (class x.instruction) p x σ j g)))

-- places that no step leaves, whatever the words
pub closed_invariant : (F : Function) (reach : ℕ → Type 0) → Runnable F → reach 0
    → ((p : ℕ) → p < length F.cells → reach p → (q : ℕ) → Succ (class (cell_at F.cells p).instruction) p (cell_at F.cells p).instruction q → reach q)
    → (W : World) → Invariant W (program_of F W) (λ p σ. reach p)
unfolding program_of
closed_invariant F reach A first onward W = record {
  first = λ σ. first;
  keeps = λ p σ R h r. rw (step_do F W p σ R h) (holds_succ _ F W p σ R (cell_at F.cells p) (runnable_class A p h) (λ q s τ. onward p h r q s));
}
