-- How far a run goes, and how it stops there.
-- Assumes nothing.
use Rattle.std.specs.Prelude.{Ok, ◌≡◌, ℕ, zero, suc, ◌^◌, ◌<◌, ◌≤◌, Bool, true, false, cond, List, [], length, nat_lt}
use Rattle.std.proofs.Math.Path.{refl}
use Rattle.std.proofs.Common.{arith, lt-ltb, le-ltb}
use Rattle.effects.specs.Shape.{Sections, Cell}
use Rattle.run.specs.Program.{Function}
use Rattle.run.specs.laws.Runnable.{Runnable}
use Rattle.desk.specs.declared.Next.TheVariants.{Goes, Stops}
use Rattle.desk.specs.declared.Stop.TheVariants.{Ended}
use Rattle.desk.specs.Answer.{stepped_with, stepped, step_from}
use Rattle.desk.specs.Desk.{Stopped, stopped_with, Due, goes, stops, not_executed, halted, taken, due_at, run_from}
use Rattle.desk.specs.laws.Execution.{goes_to, frame_after}
use Rattle.desk.proofs.laws.Stands.{mute, goes_there}
use Rattle.desk.specs.laws.Advance.{Advance, advanced, onward, stands, stop_at, stop_by}

module _ (S : Sections) (cells : List Cell) where
  -- the run goes on as far as that, and stops so
  pub run_advances : (k p : ℕ) (f : List ℕ) → run_from S cells k p f
      ≡ stopped_with (stop_at S cells (advanced S cells k p f).left (advanced S cells k p f).place (advanced S cells k p f).frame) (advanced S cells k p f).frame
  unfolding run_from advanced stop_at stop_by onward halted taken
  run_advances zero p f = go (nat_lt p (length cells)) (due_at S cells p f)
    where
      go : (t : Bool) (d : Due) → cond t (halted p f d) (stopped_with Ended f) ≡ stopped_with (cond t (stop_by p 0 d) Ended) f
      go true (goes q g) = refl
      go true (stops s) = refl
      go true not_executed = refl
      go false d = refl
  run_advances (suc k) p f = go (run_advances k) (nat_lt p (length cells)) refl (due_at S cells p f) refl
    where
      ended : Advance → Stopped
      ended a = stopped_with (stop_at S cells a.left a.place a.frame) a.frame

      go : ((q : ℕ) (g : List ℕ) → run_from S cells k q g ≡ ended (advanced S cells k q g)) → (t : Bool) → nat_lt p (length cells) ≡ t → (d : Due) → due_at S cells p f ≡ d
          → cond t (taken p f (run_from S cells k) d) (stopped_with Ended f) ≡ ended (cond t (onward p (suc k) f (advanced S cells k) d) (stands p (suc k) f))
      go ih true e (goes q g) h = ih q g
      go ih true e (stops s) h = rw (e, h)
      go ih true e not_executed h = rw (e, h)
      go ih false e d h = rw e

  -- one step: either all of it was done, or none
  pub step_advances : (p : ℕ) (f : List ℕ) → ((advanced S cells 1 p f).left ≡ 0 → step_from S cells p f ≡ stepped_with (Ok (Goes (advanced S cells 1 p f).place)) (advanced S cells 1 p f).frame)
      × (0 < (advanced S cells 1 p f).left → step_from S cells p f ≡ stepped_with (Ok (Stops (stop_at S cells 1 (advanced S cells 1 p f).place (advanced S cells 1 p f).frame))) (advanced S cells 1 p f).frame)
  unfolding step_from advanced stop_at stop_by onward stepped
  step_advances p f = go (nat_lt p (length cells)) refl (due_at S cells p f) refl
    where
      go : (t : Bool) → nat_lt p (length cells) ≡ t → (d : Due) → due_at S cells p f ≡ d
          → let a = cond t (onward p 1 f (advanced S cells 0) d) (stands p 1 f) in
          (a.left ≡ 0 → cond t (stepped p f d) (stepped_with (Ok (Stops Ended)) f) ≡ stepped_with (Ok (Goes a.place)) a.frame)
          × (0 < a.left → cond t (stepped p f d) (stepped_with (Ok (Stops Ended)) f) ≡ stepped_with (Ok (Stops (stop_at S cells 1 a.place a.frame))) a.frame)
      go true e (goes q g) h = (λ l. refl, λ l. absurd (omega arith))
      go true e (stops s) h = (λ l. absurd (omega arith), λ l. rw (e, h))
      go true e not_executed h = (λ l. absurd (omega arith), λ l. rw (e, h))
      go false e d h = (λ l. absurd (omega arith), λ l. rw e)

  -- ---- as code goes on

  pub at_once : (k p : ℕ) (f : List ℕ) → length cells ≤ p → advanced S cells k p f ≡ stands p k f
  unfolding advanced
  at_once zero p f h = refl
  at_once (suc k) p f h = rw (le-ltb p (length cells) h)

-- of code that can be run
module _ (F : Function) (A : Runnable F) where
  abbrev S : Sections
  S = F.sections

  abbrev cells : List Cell
  cells = F.cells

  abbrev due : ℕ → List ℕ → Due
  due = due_at S cells

  -- it goes on, with a frame of as many words
  pub goes_on_lem : (k p : ℕ) (f : List ℕ) (q : ℕ) (g : List ℕ) → p < length cells → length f ≡ S.locals → q ≡ goes_to (due p f) → g ≡ frame_after f (due p f) → q < 2 ^ 32
      → (advanced S cells (suc k) p f ≡ advanced S cells k q g) × (length g ≡ S.locals)
  unfolding advanced onward goes_to frame_after
  goes_on_lem k p f q g i long e h l = rw (lt-ltb p (length cells) i) (go (due p f) refl)
    where
      go : (d : Due) → due p f ≡ d → (onward p (suc k) f (advanced S cells k) d ≡ advanced S cells k q g) × (length g ≡ S.locals)
      go (goes r j) d =
          let s = goes_there F A mute p f [] r j i long d in
          let place : q ≡ r = rw d at e in
          let frame : g ≡ j = rw d at h in
          rw (place, frame) (refl, s.1)
      go (stops s) d = (let place : q ≡ 2 ^ 32 = rw d at e in absurd (omega arith))
      go not_executed d = (let place : q ≡ 2 ^ 32 = rw d at e in absurd (omega arith))

  -- or it stays as it is
  pub stays_there : (k p : ℕ) (f : List ℕ) (q : ℕ) (g : List ℕ) → length cells < 2 ^ 32 → p < length cells → length f ≡ S.locals → q ≡ goes_to (due p f) → g ≡ frame_after f (due p f) → 2 ^ 32 ≤ q
      → (advanced S cells (suc k) p f ≡ stands p (suc k) f) × (g ≡ f)
  unfolding advanced onward goes_to frame_after
  stays_there k p f q g few i long e h l = rw (lt-ltb p (length cells) i) (go (due p f) refl)
    where
      go : (d : Due) → due p f ≡ d → (onward p (suc k) f (advanced S cells k) d ≡ stands p (suc k) f) × (g ≡ f)
      go (goes r j) d =
          let s = goes_there F A mute p f [] r j i long d in
          let place : q ≡ r = rw d at e in
          absurd (omega (arith, s.2))
      go (stops s) d = (refl, rw d at h)
      go not_executed d = (refl, rw d at h)
