-- Laws of Machine.
-- Assumes nothing.
use Rattle.std.proofs.Math.Path.{◌≡◌, refl}
use Rattle.std.specs.Prelude.{None, Some, Bool, List, ℕ, ◌≤◌, ◌<◌}
use Rattle.std.proofs.Math.Bool.{true, false}
use Rattle.std.proofs.Common.{arith}
use Rattle.std.proofs.Math.Dec.{ltb}
use borrow.Author.Tests.{ltb-true, ltb-false, lt-ltb, le-ltb, eq-eqb}
use Rattle.run.specs.laws.System.{same_refl}
use Rattle.run.specs.Machine.{Words, Event, Way, by_code, Program, at, way_of, SameRuns, World, start, system}

pub same_runs_refl : (F : World → Program) → SameRuns F F
same_runs_refl F = record { runs = λ W σ. same_refl (system W (F W)) (start σ) }

-- a run goes on at the places of the code alone, and place n ends it
module _ (P : Program) (p : ℕ) (σ : Words) (R : List Event) where
  pub lt_of_way : way_of P (at p σ R) ≡ None → p < P.size
  unfolding way_of
  lt_of_way e = go (ltb p P.size) refl
    where
      go : (t : Bool) → ltb p P.size ≡ t → p < P.size
      go true q = ltb-true p P.size q
      go false q = let z : ◌≡◌ {A = ℕ} 0 1 = cc in absurd (omega arith)

  pub way_of_lt : p < P.size → way_of P (at p σ R) ≡ None
  unfolding way_of
  way_of_lt h = rw (lt-ltb p P.size h)

  pub le_of_way : (w : Way) → way_of P (at p σ R) ≡ Some w → P.size ≤ p
  unfolding way_of
  le_of_way w e = go (ltb p P.size) refl
    where
      go : (t : Bool) → ltb p P.size ≡ t → P.size ≤ p
      go true q = let z : ◌≡◌ {A = ℕ} 0 1 = cc in absurd (omega arith)
      go false q = ltb-false p P.size q

  pub way_last : p ≡ P.size → way_of P (at p σ R) ≡ Some by_code
  unfolding way_of
  way_last e = rw (le-ltb p P.size (omega arith), eq-eqb p P.size e)
