-- What the run by places says of the places that a run visits.
-- Assumes nothing.
use Rattle.std.specs.Prelude.{◌≡◌, ◌⊎◌, Bool, cond, List, [], ◌∷◌, eqb, length, get_or}
use Rattle.std.proofs.Math.Path.{refl}
use Rattle.std.proofs.Common.{sym, ap, subst, ◌∙◌, eq-eqb, eqb-true, lt-ltb, ltb-true}
use Rattle.std.proofs.Math.Logic.{inl, inr}
use Rattle.std.proofs.Math.Bool.{true, false}
use Rattle.std.proofs.lemmas.Bool.{false≢true}
use Prim.Native.Nat.{ℕ, zero, suc, ◌<◌}
use Rattle.std.proofs.Math.Dec.{ltb}
use Rattle.std.proofs.lemmas.List.{length-map}
use Rattle.words.specs.Lists.{is_in}
use Rattle.instruction.specs.declared.Instruction.{Instruction}
use Rattle.effects.specs.Shape.{cell_at}
use Rattle.flow.specs.laws.Marking.{in_append}
use Rattle.unit.specs.Result.{Retained}
use Rattle.lines.specs.Lines.{places_of}
use Rattle.answer.specs.Clean.{retained_cell, cells_after}
use Rattle.run.specs.System.{after, Same}
use Rattle.run.specs.Machine.{Words, Event, World, Program, State, at, over, step, way_of, start}
use Rattle.run.specs.Program.{Function, program_of}
use Rattle.run.specs.Returned.{result_function}
use Rattle.run.specs.Visits.{Noted, noted, visit, visiting, begin, StandsFor, SamePlaces}
use Rattle.run.proofs.laws.Visits.{same_noted, old_places_lem}

-- the run from a state visits place p: it steps from there, now or later
pub data Visited (W : World) (P : Program) : State → ℕ → Type 0 where
  now : {p : ℕ} {σ : Words} {R : List Event} → p < P.size → Visited W P (at p σ R) p
  later : {x : State} {p : ℕ} → Visited W P (step W P x) p → Visited W P x p

pub visited_inside : {W : World} {P : Program} {x : State} {p : ℕ} → Visited W P x p → p < P.size
visited_inside (now h) = h
visited_inside (later v) = visited_inside v

module _ (W : World) (P : Program) (f : ℕ → List ℕ) (m : ℕ) where
  abbrev note_after : ℕ → State → List ℕ → Bool
  note_after k x l = is_in m (after (visiting W P f) k (record { content = x; notes = l })).notes

  -- what is noted of a place that is visited is among the notes
  visited_noted : {x : State} {p : ℕ} → Visited W P x p → (l : List ℕ) → is_in m (f p) ≡ true → (k : ℕ) × (note_after k x l ≡ true)
  unfolding after noted visit way_of
  visited_noted (now {p = p} h) l e = (1, rw (lt-ltb p P.size h, in_append m (f p) l, e))
  visited_noted (later {x = x} v) l e = let r = visited_noted v (noted (way_of P x) (visit f x) l) e in (suc r.0, r.1)

  -- and a note was there before, or is of a place that is visited
  noted_visited : (k : ℕ) (x : State) (l : List ℕ) → note_after k x l ≡ true → (is_in m l ≡ true) ⊎ ((p : ℕ) × Visited W P x p × (is_in m (f p) ≡ true))
  unfolding after noted visit way_of
  noted_visited zero x l e = inl e
  noted_visited (suc k) x l e = elim (noted_visited k (step W P x) (noted (way_of P x) (visit f x) l) e) [
    | inl i ↦ first x i
    | inr (p, v, i) ↦ inr (p, later v, i)
  ]
    where
      first : (x : State) → is_in m (noted (way_of P x) (visit f x) l) ≡ true → (is_in m l ≡ true) ⊎ ((p : ℕ) × Visited W P x p × (is_in m (f p) ≡ true))
      first (at p σ R) i = go (ltb p P.size) refl (is_in m (f p)) refl
        where
          go : (t : Bool) → ltb p P.size ≡ t → (s : Bool) → is_in m (f p) ≡ s → (is_in m l ≡ true) ⊎ ((p' : ℕ) × Visited W P (at p σ R) p' × (is_in m (f p') ≡ true))
          go true e true j = inr (p, now (ltb-true p P.size e), j)
          go true e false j = inl (rw (e, in_append m (f p) l, j) at i)
          go false e s j = inl (rw e at i)
      first (over w R) i = inl i

module _ {F : Function} {kept : List Retained} (same : SamePlaces F kept) (W : World) (σ : Words) where
  abbrev returned : Program
  returned = program_of (result_function F.sections kept) W

  abbrev old : ℕ → ℕ
  old q = get_or (places_of kept) q 0

  -- The old places of those that the returned run visits are the places that the given run visits, struck of those not retained, in the same order.
  pub same_old_places : Same (visiting W (program_of F W) (λ p. cond (is_in p (places_of kept)) (p ∷ []) [])) (begin σ) (visiting W returned (λ q. old q ∷ [])) (begin σ)
  same_old_places = same_noted W (program_of F W) _ _ (old_places_lem (places_of kept)) _ _ _ (same.visits.visits W σ (λ q. old q ∷ []))

  -- The given run visits the old place of each place that the returned run visits.
  pub visited_old : {q : ℕ} → Visited W returned (start σ) q → Visited W (program_of F W) (start σ) (old q)
  visited_old {q} v =
      let r = visited_noted W returned (λ q. old q ∷ []) (old q) v [] (rw (eq-eqb (old q) (old q) refl)) in
      let g = same_old_places.logs⁻ r.0 in
      let e = ap (λ (l : Noted (List Event)). is_in (old q) l.notes) g.1 ∙ r.1 in
      elim (noted_visited W (program_of F W) (λ p. cond (is_in p (places_of kept)) (p ∷ []) []) (old q) g.0 (start σ) [] e) [
        | inl i ↦ absurd (false≢true i)
        | inr (p, w, i) ↦ subst (Visited W (program_of F W) (start σ)) (sym (struck (is_in p (places_of kept)) (old q) p i)) w
      ]
    where
      struck : (t : Bool) (m p : ℕ) → is_in m (cond t (p ∷ []) []) ≡ true → m ≡ p
      struck true m p i = go (eqb m p) refl i
        where
          go : (s : Bool) → eqb m p ≡ s → cond s true false ≡ true → m ≡ p
          go true e i = eqb-true m p e
          go false e i = absurd (false≢true i)
      struck false m p i = absurd (false≢true i)

  -- What holds of each retained place whose old place the given run visits holds of each place that the returned run visits.
  pub visited_kept : (T : ℕ → Type 0) → ((q : ℕ) → q < length kept → Visited W (program_of F W) (start σ) (old q) → T q)
      → (q : ℕ) → Visited W returned (start σ) q → T q
  unfolding program_of result_function
  visited_kept T given q v = given q (rw (length-map kept retained_cell) at (visited_inside v)) (visited_old v)

  -- What passes from an instruction to one that stands for it, and holds of each instruction that the given run visits, holds of each that the
  -- returned run visits.
  pub visited_hold : (T : Instruction → Type 0) → ((i j : Instruction) → StandsFor i j → T i → T j)
      → ((p : ℕ) → Visited W (program_of F W) (start σ) p → T (cell_at F.cells p).instruction)
      → (q : ℕ) → Visited W returned (start σ) q → T (cell_at (cells_after kept) q).instruction
  visited_hold T passes given = visited_kept (λ q. T (cell_at (cells_after kept) q).instruction) (λ q h v. passes _ _ (same.stands q h) (given (old q) v))
