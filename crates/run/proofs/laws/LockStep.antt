-- Lock-step: two programs of one length whose steps agree wherever an invariant holds that the run keeps.
use Rattle.std.proofs.Math.Path.{◌≡◌, refl}
use Rattle.std.proofs.Common.{◌∙◌, inl, arith}
use Rattle.std.specs.Prelude.{None, Some, ◌⊎◌, List, [], ℕ, ◌<◌}
use Rattle.run.specs.System.{Same}
use Rattle.run.specs.laws.Simulation.{NotedSim, noted_simulated}
use Rattle.run.specs.laws.Machine.{lt_of_way}
use Rattle.run.specs.laws.Invariant.{Holds, held, past, Invariant}
use Rattle.run.specs.Visits.{visit, visiting, begin}
use Rattle.run.specs.Machine.{Words, Event, Way, World, Program, State, at, over, step, way_of, log_of, system}

pub data Twin (I : ℕ → Words → Type 0) : State → State → Type 0 where
  twin : {x : State} → Holds I x → Twin I x x

pub record Lock (W : World) (P P' : Program) (I : ℕ → Words → Type 0) : Type 0 where
  pub size= : P'.size ≡ P.size
  pub step= : (p : ℕ) (σ : Words) (R : List Event) → p < P.size → I p σ → step W P' (at p σ R) ≡ step W P (at p σ R)
  pub invariant : Invariant W P I

module _ {W : World} {P P' : Program} {I : ℕ → Words → Type 0} (L : Lock W P P' I) where
  open L use {size=, step=, invariant}

  way= : (x : State) → way_of P' x ≡ way_of P x
  unfolding way_of
  way= (at p σ R) = rw size=
  way= (over w R) = refl

  twin_log : (x y : State) → Twin I x y → log_of y ≡ log_of x
  twin_log x y (twin h) = refl

  twin_end : (x y : State) (w : Way) → Twin I x y → way_of P x ≡ Some w → way_of P' y ≡ Some w
  twin_end x y w (twin h) e = way= x ∙ e

  twin_step : (x : State) → Holds I x → way_of P x ≡ None → Twin I (step W P x) (step W P' x)
  unfolding way_of
  twin_step x (held {p = p} {σ = σ} {R = R} i) e = let l = lt_of_way P p σ R e in rw (step= p σ R l i) (twin (invariant.keeps p σ R l i))
  twin_step x past e = let z : ◌≡◌ {A = ℕ} 0 1 = cc in absurd (omega arith)

  module _ (f : ℕ → List ℕ) where
    twin_move : (x y : State) → Twin I x y → way_of P x ≡ None
        → ((way_of P' y ≡ None) × (visit f y ≡ visit f x) × Twin I (step W P x) (step W P' y)) ⊎ ((visit f x ≡ []) × Twin I (step W P x) y × (0 < 0))
    twin_move x y (twin h) e = inl (way= x ∙ e, refl, twin_step x h e)

    lock_sim : NotedSim (system W P) (system W P') (visit f) (visit f)
    lock_sim = record { rel = Twin I; size = λ x. 0; log= = twin_log; end= = twin_end; move = twin_move }

    pub lock_step : (σ : Words) → Same (visiting W P f) (begin σ) (visiting W P' f) (begin σ)
    unfolding lock_sim
    lock_step σ = noted_simulated lock_sim (at 0 σ []) (at 0 σ []) (twin (held (invariant.first σ)))
