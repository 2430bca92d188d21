-- Definitions. The run by places: what a run visits, beside its record. Document 02's desk run (L6) and charge (L12) speak of it.
-- Assumes nothing.
use Rattle.std.specs.Prelude.{Option, None, Some, ◌≡◌, Bool, true, cond, List, [], ◌∷◌, ◌++◌, ℕ, suc, ◌<◌, eqb, length, get_or}
use Rattle.words.specs.Lists.{is_in}
use Rattle.instruction.specs.Opcode as op
use Rattle.instruction.specs.declared.Class.{Class}
use Rattle.instruction.specs.declared.Class.TheVariants.{LoadConst, Unary, Binary, JumpIf, JumpIfNot}
use Rattle.instruction.specs.declared.Instruction.{Instruction}
use Rattle.instruction.specs.Class.{number_of}
use Rattle.instruction.specs.Instruction.{class}
use Rattle.unit.specs.Result.{Retained, read_result}
use Rattle.lines.specs.Lines.{places_of}
use Rattle.effects.specs.Shape.{cell_at}
use Rattle.answer.specs.Pass.{Outcome, unchanged, refused, rewritten}
use Rattle.answer.specs.Clean.{cells_after}
use Rattle.run.specs.System.{System, Same}
use Rattle.run.specs.Machine.{Words, Event, Way, World, Program, State, at, over, system, start}
use Rattle.run.specs.Program.{Function, program_of}
use Rattle.run.specs.Returned.{given_function, result_function}

-- a state or a record, and the notes made so far, newest first
pub record Noted (A : Type 0) : Type 0 where
  pub content : A
  pub notes : List ℕ

-- the notes after a step; a run that is over makes none
unfoldable pub noted : {W : Type 0} → Option W → List ℕ → List ℕ → List ℕ
noted None n l = n ++ l
noted (Some w) n l = l

module _ {R W : Type 0} where
  abbrev pub note_step : (S : System R W) → (S.State → List ℕ) → Noted S.State → Noted S.State
  note_step S note x = record { content = S.next x.content; notes = noted (S.way x.content) (note x.content) x.notes }

  pub note_stays : (S : System R W) (note : S.State → List ℕ) (x : Noted S.State) (w : W) → S.way x.content ≡ Some w → note_step S note x ≡ x
  unfolding noted
  note_stays S note x w e = rw (e, S.stays x.content w e)

  -- the same system, which notes something of each state that it steps from
  abbrev pub noting : (S : System R W) → (S.State → List ℕ) → System (Noted R) W
  noting S note =
      record {
        State = Noted S.State;
        next = note_step S note;
        log = λ x. record { content = S.log x.content; notes = x.notes };
        way = λ x. S.way x.content;
        stays = note_stays S note;
      }

-- what is noted of the place before which a run stands
unfoldable pub visit : (ℕ → List ℕ) → State → List ℕ
visit f (at p σ R) = f p
visit f (over w R) = []

-- the run that notes f of each place that it visits
abbrev pub visiting : World → Program → (ℕ → List ℕ) → System (Noted (List Event)) Way
visiting W P f = noting (system W P) (visit f)

abbrev pub begin : Words → Noted State
begin σ = record { content = start σ; notes = [] }

-- What is noted of a place of the given code: what is noted of the returned instruction whose old place it is. Nothing is noted of a
-- place that is not retained.
unfoldable pub noted_at : List ℕ → (ℕ → List ℕ) → ℕ → List ℕ
noted_at [] f p = []
noted_at (q ∷ qs) f p = cond (eqb q p) (f 0) (noted_at qs (λ k. f (suc k)) p)

-- Two programs visit the same places, in the same order: whatever f is noted of the second one's places, the first has the same notes, with
-- the same record and the same end, where g f is noted of its own; the second has them after at most as many steps.
pub record SameVisits (F F' : World → Program) (g : (ℕ → List ℕ) → ℕ → List ℕ) : Type 0 where
  pub visits : (W : World) (σ : Words) (f : ℕ → List ℕ) → Same (visiting W (F W) (g f)) (begin σ) (visiting W (F' W) f) (begin σ)

-- the unary and binary opcodes, and the conditional jumps
abbrev pub is_operator : Class → Bool
is_operator k = is_in (number_of k) (number_of Unary ∷ number_of Binary ∷ [])

abbrev pub is_conditional : Class → Bool
is_conditional k = is_in (number_of k) (number_of JumpIf ∷ number_of JumpIfNot ∷ [])

-- What a retained instruction may be, of its origin: one of the same opcode, where a LoadConst names the same constant; LoadInt or Copy for a
-- unary or binary one; or Jump for a conditional jump.
pub data StandsFor (i j : Instruction) : Type 0 where
  same_opcode : j.op ≡ i.op → (class i ≡ LoadConst → j.b ≡ i.b) → StandsFor i j
  load_int : is_operator (class i) ≡ true → j.op ≡ op.LoadInt → StandsFor i j
  copy : is_operator (class i) ≡ true → j.op ≡ op.Copy → StandsFor i j
  jump : is_conditional (class i) ≡ true → j.op ≡ op.Jump → StandsFor i j

-- The run by places: the places that the run of what is retained visits, as old places, are those that the run of F visits, struck of those
-- not retained, in the same order; and each retained instruction stands for its origin.
pub record SamePlaces (F : Function) (kept : List Retained) : Type 0 where
  pub visits : SameVisits (program_of F) (program_of (result_function F.sections kept)) (noted_at (places_of kept))
  pub stands : (q : ℕ) → q < length kept → StandsFor (cell_at F.cells (get_or (places_of kept) q 0)).instruction (cell_at (cells_after kept) q).instruction

-- That, of a unit, an answer and the output after it. Unchanged returns the function given, and of a refusal nothing is claimed.
unfoldable pub PreservesPlaces : List ℕ → Outcome → List ℕ → Type 0
PreservesPlaces u unchanged out = Unit {0}
PreservesPlaces u (refused k p) out = Unit {0}
PreservesPlaces u (rewritten kept) out = SamePlaces (given_function u) (read_result out)
