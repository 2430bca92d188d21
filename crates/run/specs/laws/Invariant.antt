-- Invariants of a run, on its place and its words.
-- Assumes nothing.
use Rattle.std.specs.Prelude.{List, ℕ, ◌<◌}
use Rattle.run.specs.Machine.{Words, Event, Way, World, Program, State, at, over, step}

-- a state satisfies an invariant; an ended one does
pub data Holds (I : ℕ → Words → Type 0) : State → Type 0 where
  held : {p : ℕ} {σ : Words} {R : List Event} → I p σ → Holds I (at p σ R)
  past : {w : Way} {R : List Event} → Holds I (over w R)

-- It holds at the start, and every step keeps it.
pub record Invariant (W : World) (P : Program) (I : ℕ → Words → Type 0) : Type 0 where
  pub first : (σ : Words) → I 0 σ
  pub keeps : (p : ℕ) (σ : Words) (R : List Event) → p < P.size → I p σ → Holds I (step W P (at p σ R))
