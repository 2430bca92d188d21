-- Removal over lists of cells: conditions on kept places and live slots, apart from how a pass finds them, under which the kept
-- cells, relocated, run as all of them do.
-- Assumes nothing.
use Rattle.std.specs.Prelude.{◌≡◌, ◌⊎◌, Bool, List, [], ℕ, ◌<◌}
use Rattle.std.proofs.Math.Path.{refl, sym}
use Rattle.std.proofs.Common.{ap, ◌∙◌, arith}
use Rattle.std.proofs.Math.Logic.{inl, inr}
use Rattle.std.proofs.Math.Bool.{true, false}
use Rattle.std.proofs.lemmas.Bool.{false≢true}
use Rattle.std.proofs.Math.ListN.{length}
use Rattle.std.proofs.lemmas.List.{length-map}
use Rattle.instruction.specs.declared.Class.{Class}
use Rattle.instruction.specs.declared.Class.TheVariants.{Hint, LoadInt, LoadConst, Copy, CopyN, Unary, Binary, Jump, JumpIf, JumpIfNot, ForLoop, Return, Panic, Outside, Invalid}
use Rattle.instruction.specs.Class.{class_of}
use Rattle.instruction.specs.Instruction.{class}
use Rattle.effects.specs.Shape.{Tables, Cell, cell_at}
use Rattle.flow.specs.Branch.{falls, branches, target}
use Rattle.pc_map.specs.Boundary.{is_kept, boundary}
use Rattle.pc_map.specs.laws.Boundaries.{boundary_zero, boundary_kept, boundary_dropped, boundary_mono}
use Rattle.pc_map.specs.Relocate.{relocate, retain_from}
use Rattle.answer.specs.Clean.{retained_cell}
use Rattle.run.specs.Machine.{Words, World, silent, goto}
use Rattle.run.specs.laws.Invariant.{Invariant}
use Rattle.run.specs.Visits.{noted_at, SameVisits}
use Rattle.run.proofs.laws.Visits.{noted_kept, noted_dropped}
use Rattle.lines.specs.Lines.{places_of}
use Rattle.run.proofs.laws.Removal.{Kept, Gone, Removal, removal}
use Rattle.run.specs.Program.{Function, class_in, node_by, act_by, perhaps_slots, program_of}
use Rattle.run.specs.Returned.{result_function}
use Rattle.run.specs.laws.Gives.{jump_gives}
use Rattle.run.proofs.laws.Step.{goes_succ}
use Rattle.run.proofs.laws.Frame.{frame}
use Rattle.run.specs.laws.RetainedCells.{kept_at, kept_long, kept_inside, kept_of}
use Rattle.run.specs.laws.Runnable.{Runnable, runnable_class}
use Rattle.run.proofs.laws.RelocatedRun.{relocated_op, relocated_refusal, relocated_writes, relocated_act}
use Rattle.run.specs.laws.Removed.{Dropped, Removable, passes, store, skip}

pub passing_falls : (k : Class) → passes k ≡ true → falls k ≡ true
unfolding passes falls
passing_falls Hint e = refl
passing_falls LoadInt e = refl
passing_falls LoadConst e = refl
passing_falls Copy e = refl
passing_falls CopyN e = refl
passing_falls Unary e = refl
passing_falls Binary e = refl
passing_falls Jump e = e
passing_falls JumpIf e = refl
passing_falls JumpIfNot e = refl
passing_falls ForLoop e = refl
passing_falls Return e = e
passing_falls Panic e = e
passing_falls Outside e = refl
passing_falls Invalid e = e

-- What follows of what must hold.
module _ (F : Function) (keep : List ℕ) (reach : ℕ → Type 0) (live : ℕ → ℕ → Type 0) where
  abbrev cell : ℕ → Cell
  cell p = cell_at F.cells p

  abbrev class_at : ℕ → Class
  class_at p = class (cell p).instruction

  abbrev T : Tables
  T = F.sections.tables

  module _ (A : Removable F keep reach live) where
    abbrev F' : Function
    F' = result_function F.sections (retain_from keep 0 F.cells)

    moved_cell : (p : ℕ) → p < length F.cells → is_kept keep p ≡ true → cell_at F'.cells (boundary keep p) ≡ relocate keep p (cell p)
    unfolding result_function
    moved_cell p h e = kept_at keep A.flags F.cells A.long p h e

    inside : (p : ℕ) → p < length F.cells → is_kept keep p ≡ true → boundary keep p < length F'.cells
    unfolding result_function
    inside p h e = kept_inside keep A.flags F.cells A.long p h e

    same_class : (p : ℕ) → class (relocate keep p (cell p)).instruction ≡ class_at p
    same_class p = ap class_of (relocated_op keep p (cell p) (class_at p))

    -- What is retained can be run.
    pub removed_runnable : Runnable F'
    unfolding result_function
    removed_runnable = record {
      described = rw (length-map (retain_from keep 0 F.cells) retained_cell) (omega arith);
      operands = λ q h.
          let (p, l, k, e) = kept_of keep A.flags F.cells A.long q h in
          rw (← e, moved_cell p l k) (relocated_refusal keep p (cell p) T F.sections.locals (class_at p) refl ∙ A.runs.operands p l);
      targets = λ q h b.
          let (p, l, k, e) = kept_of keep A.flags F.cells A.long q h in
          let branching : branches (class_at p) ≡ true = rw (← e, moved_cell p l k, same_class p) at b in
          let up = boundary_mono keep (target p (cell p).instruction) (length F.cells) (A.runs.targets p l branching) in
          rw (← e, moved_cell p l k, same_class p, A.moved p l k, kept_long keep A.flags F.cells A.long) up;
    }

    -- both cells have a meaning, and one class
    class_given : (p : ℕ) → p < length F.cells → class_in F p (cell p) ≡ class_at p
    class_given = runnable_class A.runs

    class_moved : (p : ℕ) → p < length F.cells → is_kept keep p ≡ true → class_in F' (boundary keep p) (relocate keep p (cell p)) ≡ class_at p
    class_moved p h e =
        let here : class_in F' (boundary keep p) (relocate keep p (cell p)) ≡ class (relocate keep p (cell p)).instruction =
        rw (moved_cell p h e) at (runnable_class removed_runnable (boundary keep p) (inside p h e)) in
        here ∙ same_class p

    module _ (W : World) where
      goto_moved : (p : ℕ) → p < length F.cells → is_kept keep p ≡ true → (j : Bool)
          → goto ((program_of F' W).node (boundary keep p)) (boundary keep p) j ≡ boundary keep (goto ((program_of F W).node p) p j)
      unfolding program_of node_by goto
      goto_moved p h e true = rw (moved_cell p h e, class_moved p h e, class_given p h) (A.moved p h e)
      goto_moved p h e false = sym (boundary_kept keep p (rw (← A.long) h) e)

      kept_place : (p : ℕ) (σ : Words) → p < length F.cells → reach p → is_kept keep p ≡ true → Kept live (boundary keep) (program_of F W) (program_of F' W) p σ
      unfolding program_of node_by perhaps_slots result_function
      kept_place p σ h r e = record {
        inside = inside p h e;
        acts = λ σ' ag.
            rw (moved_cell p h e, class_moved p h e, class_given p h, relocated_act keep p (cell p) F.sections W σ' (class_at p) refl)
            (frame F.sections W (cell p) σ σ' (class_at p) refl (λ s i. ag s (A.reads p h r e s i)));
        gives= = λ s. rw (moved_cell p h e, (relocated_writes keep p (cell p) T (class_at p) refl).given);
        perhaps= = rw (moved_cell p h e, (relocated_writes keep p (cell p) T (class_at p) refl).perhaps);
        goto= = goto_moved p h e;
        live+ = λ j g. A.flows p h r e _ (rw (class_given p h) (goes_succ F W (class_at p) p (cell p) σ j (rw (class_given p h) at g)));
      }

      -- the acts of what may be removed
      passing : (k : Class) (x : Cell) (σ : Words) → passes k ≡ true → (w : Words) × (act_by F.sections W x k σ ≡ silent w false)
      unfolding passes act_by
      passing Hint x σ e = (_, refl)
      passing LoadInt x σ e = (_, refl)
      passing LoadConst x σ e = (_, refl)
      passing Copy x σ e = (_, refl)
      passing CopyN x σ e = (_, refl)
      passing Unary x σ e = (_, refl)
      passing Binary x σ e = (_, refl)
      passing Jump x σ e = absurd (false≢true e)
      passing JumpIf x σ e = absurd (false≢true e)
      passing JumpIfNot x σ e = absurd (false≢true e)
      passing ForLoop x σ e = absurd (false≢true e)
      passing Return x σ e = absurd (false≢true e)
      passing Panic x σ e = absurd (false≢true e)
      passing Outside x σ e = absurd (false≢true e)
      passing Invalid x σ e = absurd (false≢true e)

      jumping : (x : Cell) (σ : Words) (k : Class) → k ≡ Jump → (w : Words) × (act_by F.sections W x k σ ≡ silent w true)
      unfolding act_by
      jumping x σ k e = rw e (_, refl)

      gone_place : (p : ℕ) (σ : Words) → p < length F.cells → is_kept keep p ≡ false → Dropped F keep reach live p → Gone live (boundary keep) (program_of F W) p σ
      unfolding program_of node_by goto branches
      gone_place p σ h e (store k l+ dead) = record {
        jumps = false;
        still = rw (class_given p h) (passing (class_at p) (cell p) σ k);
        onward = omega arith;
        stays = boundary_dropped keep A.flags p (rw (← A.long) h) e;
        live+ = l+;
        unread = dead;
      }
      gone_place p σ h e (skip k fwd b l+) = record {
        jumps = true;
        still = rw (class_given p h) (jumping (cell p) σ (class_at p) k);
        onward = rw (class_given p h, k) fwd;
        stays = rw (class_given p h, k) b;
        live+ = rw (class_given p h, k) l+;
        unread = λ s m. jump_gives T (cell p) k s;
      }

      module _ {I : ℕ → Words → Type 0} (invariant : Invariant W (program_of F W) I) (reached : (p : ℕ) (σ : Words) → I p σ → reach p) (f : ℕ → List ℕ) where
        abbrev noted : ℕ → List ℕ
        noted = noted_at (places_of (retain_from keep 0 F.cells)) f

        sound : Removal live (boundary keep) I W (program_of F W) (program_of F' W) noted f
        unfolding program_of result_function
        sound = record {
          invariant = invariant;
          within = λ p σ i. A.within p (reached p σ i);
          first = boundary_zero keep;
          last = sym (kept_long keep A.flags F.cells A.long);
          place = λ p σ h i. which p σ h (reached p σ i) (is_kept keep p) refl;
        }
          where
            which : (p : ℕ) (σ : Words) → p < length F.cells → reach p → (t : Bool) → is_kept keep p ≡ t
                → ((f (boundary keep p) ≡ noted p) × Kept live (boundary keep) (program_of F W) (program_of F' W) p σ)
                ⊎ ((noted p ≡ []) × Gone live (boundary keep) (program_of F W) p σ)
            which p σ h r true e = inl (noted_kept keep A.flags f F.cells A.long p h e, kept_place p σ h r e)
            which p σ h r false e = inr (noted_dropped keep A.flags f F.cells A.long p h e, gone_place p σ h e (A.drops p h r e))

    -- What is retained runs as the function did, by the same places, where an invariant keeps the run at reached places.
    pub removed : {I : World → ℕ → Words → Type 0} → ((W : World) → Invariant W (program_of F W) (I W)) → ((W : World) (p : ℕ) (σ : Words) → I W p σ → reach p)
        → SameVisits (program_of F) (program_of F') (noted_at (places_of (retain_from keep 0 F.cells)))
    removed {I} invariant reached = record { visits = λ W σ f. removal (I W) live (boundary keep) W _ _ _ _ (sound W (invariant W) (reached W) f) σ }
