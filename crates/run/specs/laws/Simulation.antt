-- Simulation: either both systems step, or the given one steps alone and a size falls. Then the two have the same runs.
-- Assumes nothing.
use Rattle.std.proofs.Math.Path.{◌≡◌, refl, sym, ap}
use Rattle.std.proofs.Common.{◌∙◌, le_refl, not-suc-le-zero, arith}
use Rattle.std.specs.Prelude.{Option, None, Some, ◌⊎◌, List, []}
use Rattle.std.proofs.Math.Logic.{inl, inr}
use Prim.Native.Nat.{ℕ, zero, suc, ◌+◌, ◌≤◌, ◌<◌, zero-le, suc-le-suc}
use Rattle.std.proofs.Math.Nat.{le_step, zero-add, suc-add}
use Rattle.run.specs.System.{System, after, Same}
use Rattle.run.specs.Visits.{Noted, noted, note_step, noting}

module _ {R W : Type 0} where
  -- What a simulation is. `move`: either both step, or the given one steps alone and its size goes down. What is asked of such steps besides
  -- is `Both` and `Alone`.
  pub record Sim (S S' : System R W) (Both : S.State → S'.State → Type 0) (Alone : S.State → Type 0) : Type 1 where
    pub rel : S.State → S'.State → Type 0
    pub size : S.State → ℕ
    pub log= : (x : S.State) (y : S'.State) → rel x y → S'.log y ≡ S.log x
    pub end= : (x : S.State) (y : S'.State) (w : W) → rel x y → S.way x ≡ Some w → S'.way y ≡ Some w
    pub move : (x : S.State) (y : S'.State) → rel x y → S.way x ≡ None
        → ((S'.way y ≡ None) × Both x y × rel (S.next x) (S'.next y)) ⊎ (Alone x × rel (S.next x) y × (size (S.next x) < size x))

  -- an ended state is the same for ever
  pub after_stays : (T : System R W) (k : ℕ) (x : T.State) (w : W) → T.way x ≡ Some w → after T k x ≡ x
  unfolding after
  after_stays T zero x w e = refl
  after_stays T (suc k) x w e = ap (after T k) (T.stays x w e) ∙ after_stays T k x w e

  module _ {S S' : System R W} {Both : S.State → S'.State → Type 0} {Alone : S.State → Type 0} (M : Sim S S' Both Alone) where
    open M use {rel, size, log=, end=, move}

    -- forward: k steps of the given run are at most k of the returned one
    abbrev Ahead : ℕ → S.State → S'.State → Type 0
    Ahead k x y = (j : ℕ) × (j ≤ k) × rel (after S k x) (after S' j y)

    ahead_both : (k : ℕ) (x : S.State) (y : S'.State) → Ahead k (S.next x) (S'.next y) → Ahead (suc k) x y
    unfolding after
    ahead_both k x y (a) = (suc a.0, suc-le-suc a.1, a.2)

    ahead_alone : (k : ℕ) (x : S.State) (y : S'.State) → Ahead k (S.next x) y → Ahead (suc k) x y
    unfolding after
    ahead_alone k x y a = (a.0, le_step a.1, a.2)

    forward : (k : ℕ) (x : S.State) (y : S'.State) → rel x y → Ahead k x y
    unfolding after
    forward zero x y r = (zero, zero-le, r)
    forward (suc k) x y r = go (forward k) (S.way x) refl
      where
        go : ((x₁ : S.State) (y₁ : S'.State) → rel x₁ y₁ → Ahead k x₁ y₁) → (o : Option W) → S.way x ≡ o → Ahead (suc k) x y
        go ih None e = elim (move x y r e) [ inl m ↦ ahead_both k x y (ih _ _ m.2) | inr m ↦ ahead_alone k x y (ih _ _ m.1) ]
        go ih (Some w) e = ahead_alone k x y (ih (S.next x) y (rw (S.stays x w e) r))

    -- where the returned run has ended, the given one gets to its end by steps that it takes alone
    abbrev Settled : S.State → S'.State → W → Type 0
    Settled x y w = (k : ℕ) × (S.way (after S k x) ≡ Some w) × rel (after S k x) y

    settled_alone : (x : S.State) (y : S'.State) (w : W) → Settled (S.next x) y w → Settled x y w
    unfolding after
    settled_alone x y w a = (suc a.0, a.1, a.2)

    settle : (fuel : ℕ) (x : S.State) (y : S'.State) (w : W) → size x < fuel → rel x y → S'.way y ≡ Some w → Settled x y w
    unfolding after
    settle zero x y w b r e = absurd (not-suc-le-zero b)
    settle (suc f) x y w b r e = go (settle f) (S.way x) refl
      where
        go : ((x₁ : S.State) (y₁ : S'.State) (w₁ : W) → size x₁ < f → rel x₁ y₁ → S'.way y₁ ≡ Some w₁ → Settled x₁ y₁ w₁)
            → (o : Option W) → S.way x ≡ o → Settled x y w
        go ih None p =
            elim (move x y r p) [
              | inl m ↦ let q : S'.way y ≡ None = m.0 in let z : ◌≡◌ {A = ℕ} 0 1 = cc in absurd (omega arith)
              | inr m ↦ settled_alone x y w (ih (S.next x) y w (let h = m.2 in omega arith) m.1 e)
            ]
        go ih (Some v) p = let q : S'.way y ≡ Some v = end= x y v r p in (zero, cc, r)

    -- one step of the returned run, by as many of the given one as it takes
    abbrev Caught : S.State → S'.State → Type 0
    Caught x y = (k : ℕ) × rel (after S k x) (S'.next y)

    caught_alone : (x : S.State) (y : S'.State) → Caught (S.next x) y → Caught x y
    unfolding after
    caught_alone x y a = (suc a.0, a.1)

    catch : (fuel : ℕ) (x : S.State) (y : S'.State) → size x < fuel → rel x y → Caught x y
    unfolding after
    catch zero x y b r = absurd (not-suc-le-zero b)
    catch (suc f) x y b r = go (catch f) (S.way x) refl
      where
        go : ((x₁ : S.State) (y₁ : S'.State) → size x₁ < f → rel x₁ y₁ → Caught x₁ y₁) → (o : Option W) → S.way x ≡ o → Caught x y
        go ih None p =
            elim (move x y r p) [
              | inl m ↦ (1, m.2)
              | inr m ↦ caught_alone x y (ih (S.next x) y (let h = m.2 in omega arith) m.1)
            ]
        go ih (Some v) p = (zero, rw (S'.stays y v (end= x y v r p)) r)

    after_add : (T : System R W) (k m : ℕ) (x : T.State) → after T (k + m) x ≡ after T m (after T k x)
    unfolding after
    after_add T zero m x = rw zero-add
    after_add T (suc k) m x = rw suc-add (after_add T k m (T.next x))

    backward : (j : ℕ) (x : S.State) (y : S'.State) → rel x y → (k : ℕ) × rel (after S k x) (after S' j y)
    unfolding after
    backward zero x y r = (zero, r)
    backward (suc j) x y r =
        let c = catch (suc (size x)) x y (le_refl (suc (size x))) r in
        let d = backward j (after S c.0 x) (S'.next y) c.1 in
        (c.0 + d.0, rw (after_add S c.0 d.0 x) d.1)

    -- related states have the same runs
    simulated : (x : S.State) (y : S'.State) → rel x y → Same S x S' y
    unfolding after
    simulated x y r = record {
      logs = λ k. let a = forward k x y r in (a.0, a.1, log= _ _ a.2);
      ends = λ k w e. let a = forward k x y r in (a.0, a.1, end= _ _ w a.2 e, log= _ _ a.2);
      logs⁻ = λ j. let b = backward j x y r in (b.0, sym (log= _ _ b.1));
      ends⁻ = λ j w e.
          let b = backward j x y r in
          let c = settle (suc (size (after S b.0 x))) _ _ w (le_refl _) b.1 e in
          (b.0 + c.0, rw (after_add S b.0 c.0 x) c.1, rw (after_add S b.0 c.0 x) (sym (log= _ _ c.2)));
    }

module _ {R W : Type 0} where
  -- The same with notes: both note the same, or the given one notes nothing.
  abbrev pub NotedSim : (S S' : System R W) → (S.State → List ℕ) → (S'.State → List ℕ) → Type 1
  NotedSim S S' note note' = Sim S S' (λ x y. note' y ≡ note x) (λ x. note x ≡ [])

  module _ {S S' : System R W} {note : S.State → List ℕ} {note' : S'.State → List ℕ} (M : NotedSim S S' note note') where
    abbrev Noting : Noted S.State → Noted S'.State → Type 0
    Noting x y = M.rel x.content y.content × (y.notes ≡ x.notes)

    noting_log : (x : Noted S.State) (y : Noted S'.State) → Noting x y → (noting S' note').log y ≡ (noting S note).log x
    noting_log x y r = rw (M.log= x.content y.content r.0, r.1)

    noting_move : (x : Noted S.State) (y : Noted S'.State) → Noting x y → S.way x.content ≡ None
        → ((S'.way y.content ≡ None) × Unit {0} × Noting (note_step S note x) (note_step S' note' y))
        ⊎ (Unit {0} × Noting (note_step S note x) y × (M.size (S.next x.content) < M.size x.content))
    unfolding noted
    noting_move x y r e =
        elim (M.move x.content y.content r.0 e) [
          | inl m ↦ inl (m.0, tt, (m.2, rw (m.0, e, m.1, r.1)))
          | inr m ↦ inr (tt, (m.1, rw (e, m.0) r.1), m.2)
        ]

    noting_sim : Sim (noting S note) (noting S' note') (λ x y. Unit {0}) (λ x. Unit {0})
    noting_sim = record {
      rel = Noting;
      size = λ x. M.size x.content;
      log= = noting_log;
      end= = λ x y w r e. M.end= x.content y.content w r.0 e;
      move = noting_move;
    }

    -- related states have the same runs with the same notes
    pub noted_simulated : (x : S.State) (y : S'.State) → M.rel x y → Same (noting S note) (record { content = x; notes = [] }) (noting S' note') (record { content = y; notes = [] })
    unfolding noting_sim
    noted_simulated x y r = simulated noting_sim _ _ (r, refl)
