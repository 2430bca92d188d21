-- How far a charged run goes, and for how much: the run that is not charged goes as far.
-- Assumes nothing.
use Rattle.std.specs.Prelude.{Ok, ◌≡◌, ℕ, zero, suc, ◌+◌, ◌^◌, ◌<◌, ◌≤◌, Bool, true, false, cond, List, [], length, nat_lt}
use Rattle.std.proofs.Math.Path.{refl}
use Rattle.std.proofs.Common.{arith, lt-ltb, le-ltb}
use Rattle.effects.specs.Shape.{Sections, Cell}
use Rattle.run.specs.Program.{Function}
use Rattle.run.specs.laws.Runnable.{Runnable}
use Rattle.desk.specs.declared.Next.TheVariants.{Goes, Stops}
use Rattle.desk.specs.declared.Stop.TheVariants.{Ended}
use Rattle.desk.specs.Answer.{stepped_with, stepped, step_from}
use Rattle.desk.specs.Charge.{price_at}
use Rattle.desk.specs.Desk.{Stopped, stopped_with, Due, goes, stops, not_executed, halted, taken, due_at, run_from}
use Rattle.desk.specs.laws.Advance.{stop_by, stop_at}
use Rattle.desk.specs.laws.Advance as free
use Rattle.desk.specs.laws.Execution.{goes_to, frame_after}
use Rattle.desk.proofs.laws.Stands.{mute, goes_there}
use Rattle.desk.specs.laws.Priced.{Advance, Placed, advanced, onward, stands}

module _ (S : Sections) (cells : List Cell) (tariff : List ℕ) where
  abbrev ended : Advance → Stopped
  ended a = stopped_with (stop_at S cells a.left a.place a.frame) a.frame

  -- the run goes on as far as that, and stops so
  pub run_advances : (k p v : ℕ) (f : List ℕ) → let a = advanced S cells tariff k p v f in run_from S cells k p f ≡ stopped_with (stop_at S cells a.left a.place a.frame) a.frame
  unfolding run_from advanced stop_at stop_by onward halted taken
  run_advances zero p v f = go (nat_lt p (length cells)) (due_at S cells p f)
    where
      go : (t : Bool) (d : Due) → cond t (halted p f d) (stopped_with Ended f) ≡ stopped_with (cond t (stop_by p 0 d) Ended) f
      go true (goes q g) = refl
      go true (stops s) = refl
      go true not_executed = refl
      go false d = refl
  run_advances (suc k) p v f = go (run_advances k) (nat_lt p (length cells)) refl (due_at S cells p f) refl
    where
      go : ((q w : ℕ) (g : List ℕ) → run_from S cells k q g ≡ ended (advanced S cells tariff k q w g)) → (t : Bool) → nat_lt p (length cells) ≡ t → (d : Due) → due_at S cells p f ≡ d
          → cond t (taken p f (run_from S cells k) d) (stopped_with Ended f)
          ≡ ended (cond t (onward (stands p (suc k) v f) (λ q g. advanced S cells tariff k q (v + price_at tariff cells p) g) d) (stands p (suc k) v f))
      go ih true e (goes q g) h = ih q (v + price_at tariff cells p) g
      go ih true e (stops s) h = rw (e, h)
      go ih true e not_executed h = rw (e, h)
      go ih false e d h = rw e

  -- one step: either all of it was done, or none
  pub step_advances : (p v : ℕ) (f : List ℕ) → let a = advanced S cells tariff 1 p v f in
      (a.left ≡ 0 → step_from S cells p f ≡ stepped_with (Ok (Goes a.place)) a.frame)
      × (0 < a.left → step_from S cells p f ≡ stepped_with (Ok (Stops (stop_at S cells 1 a.place a.frame))) a.frame)
  unfolding step_from advanced stop_at stop_by onward stepped
  step_advances p v f = go (nat_lt p (length cells)) refl (due_at S cells p f) refl
    where
      go : (t : Bool) → nat_lt p (length cells) ≡ t → (d : Due) → due_at S cells p f ≡ d
          → let a = cond t (onward (stands p 1 v f) (λ q g. advanced S cells tariff 0 q (v + price_at tariff cells p) g) d) (stands p 1 v f) in
          (a.left ≡ 0 → cond t (stepped p f d) (stepped_with (Ok (Stops Ended)) f) ≡ stepped_with (Ok (Goes a.place)) a.frame)
          × (0 < a.left → cond t (stepped p f d) (stepped_with (Ok (Stops Ended)) f) ≡ stepped_with (Ok (Stops (stop_at S cells 1 a.place a.frame))) a.frame)
      go true e (goes q g) h = (λ l. refl, λ l. absurd (omega arith))
      go true e (stops s) h = (λ l. absurd (omega arith), λ l. rw (e, h))
      go true e not_executed h = (λ l. absurd (omega arith), λ l. rw (e, h))
      go false e d h = (λ l. absurd (omega arith), λ l. rw e)

  -- ---- the run that is not charged

  -- it goes as far, with the same frame
  pub unpriced : (k p v : ℕ) (f : List ℕ) → let a = advanced S cells tariff k p v f in free.advanced S cells k p f ≡ free.stands a.place a.left a.frame
  unfolding advanced onward free.advanced free.onward
  unpriced zero p v f = refl
  unpriced (suc k) p v f = go (unpriced k) (nat_lt p (length cells)) (due_at S cells p f)
    where
      bare : Advance → free.Advance
      bare a = free.stands a.place a.left a.frame

      go : ((q w : ℕ) (g : List ℕ) → free.advanced S cells k q g ≡ bare (advanced S cells tariff k q w g)) → (t : Bool) (d : Due)
          → cond t (free.onward p (suc k) f (free.advanced S cells k) d) (free.stands p (suc k) f)
          ≡ bare (cond t (onward (stands p (suc k) v f) (λ q g. advanced S cells tariff k q (v + price_at tariff cells p) g) d) (stands p (suc k) v f))
      go ih true (goes q g) = ih q (v + price_at tariff cells p) g
      go ih true (stops s) = refl
      go ih true not_executed = refl
      go ih false d = refl

  pub placed_unpriced : (k p : ℕ) (f : List ℕ) {q l w : ℕ} {g : List ℕ} → Placed (advanced S cells tariff k p 0 f) q l w g → free.Placed (free.advanced S cells k p f) q l g
  placed_unpriced k p f a = rw (unpriced k p 0 f) (record { place = a.place; left = a.left; frame = a.frame })

  -- ---- as code goes on

  pub at_once : (k p v : ℕ) (f : List ℕ) → length cells ≤ p → advanced S cells tariff k p v f ≡ stands p k v f
  unfolding advanced
  at_once zero p v f h = refl
  at_once (suc k) p v f h = rw (le-ltb p (length cells) h)

-- of code that can be run
module _ (F : Function) (A : Runnable F) (tariff : List ℕ) where
  abbrev S : Sections
  S = F.sections

  abbrev cells : List Cell
  cells = F.cells

  abbrev due : ℕ → List ℕ → Due
  due = due_at S cells

  abbrev going : ℕ → ℕ → ℕ → List ℕ → Advance
  going = advanced S cells tariff

  abbrev later : ℕ → ℕ → ℕ → ℕ → List ℕ → Advance
  later k p v q g = going k q (v + price_at tariff cells p) g

  -- it goes on, with a frame of as many words
  pub goes_on_lem : (k p v : ℕ) (f : List ℕ) (q : ℕ) (g : List ℕ) → p < length cells → length f ≡ S.locals → q ≡ goes_to (due p f) → g ≡ frame_after f (due p f) → q < 2 ^ 32
      → (advanced S cells tariff (suc k) p v f ≡ advanced S cells tariff k q (v + price_at tariff cells p) g) × (length g ≡ S.locals)
  unfolding advanced onward goes_to frame_after
  goes_on_lem k p v f q g i long e h l = rw (lt-ltb p (length cells) i) (go (due p f) refl)
    where
      go : (d : Due) → due p f ≡ d → (onward (stands p (suc k) v f) (later k p v) d ≡ later k p v q g) × (length g ≡ S.locals)
      go (goes r j) d =
          let s = goes_there F A mute p f [] r j i long d in
          let place : q ≡ r = rw d at e in
          let frame : g ≡ j = rw d at h in
          rw (place, frame) (refl, s.1)
      go (stops s) d = (let place : q ≡ 2 ^ 32 = rw d at e in absurd (omega arith))
      go not_executed d = (let place : q ≡ 2 ^ 32 = rw d at e in absurd (omega arith))

  -- or it stays as it is
  pub stays_there : (k p v : ℕ) (f : List ℕ) (q : ℕ) (g : List ℕ) → length cells < 2 ^ 32 → p < length cells → length f ≡ S.locals → q ≡ goes_to (due p f) → g ≡ frame_after f (due p f) → 2 ^ 32 ≤ q
      → (advanced S cells tariff (suc k) p v f ≡ stands p (suc k) v f) × (g ≡ f)
  unfolding advanced onward goes_to frame_after
  stays_there k p v f q g few i long e h l = rw (lt-ltb p (length cells) i) (go (due p f) refl)
    where
      go : (d : Due) → due p f ≡ d → (onward (stands p (suc k) v f) (later k p v) d ≡ stands p (suc k) v f) × (g ≡ f)
      go (goes r j) d =
          let s = goes_there F A mute p f [] r j i long d in
          let place : q ≡ r = rw d at e in
          absurd (omega (arith, s.2))
      go (stops s) d = (refl, rw d at h)
      go not_executed d = (refl, rw d at h)
