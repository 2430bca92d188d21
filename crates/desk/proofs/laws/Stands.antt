-- The desk run is document 01's run, in every world: after as many steps, that run stands where the desk run stopped.
-- Assumes nothing.
use Rattle.std.specs.Prelude.{Option, Some, None, ◌≡◌, ℕ, zero, suc, ◌<◌, ◌≤◌, Bool, true, false, cond, not, List, [], ◌∷◌, ◌++◌, map, length, ◌==◌, nat_lt, slice_index}
use Rattle.std.proofs.Math.Path.{refl, ap}
use Rattle.std.proofs.Common.{sym, ◌∙◌, suc-le-suc}
use mathlib.Core.List.{append-nil, append_assoc}
use native.Mathlib.Omega.{arith}
use borrow.Author.Tests.{ltb-true, ltb-false, lt-ltb}
use Rattle.words.specs.Lists.{is_in}
use Rattle.instruction.specs.declared.Class.{Class}
use Rattle.instruction.specs.declared.Class.TheVariants.{Hint, LoadInt, LoadConst, Copy, CopyN, Unary, Binary, Jump, JumpIf, JumpIfNot, ForLoop, Return, Panic, Outside, Invalid}
use Rattle.instruction.specs.Instruction.{class}
use Rattle.unit.specs.declared.Constant.{Constant}
use Rattle.unit.specs.declared.Constant.TheVariants.{Nil, Bool as BoolConstant, Int, Float, String}
use Rattle.effects.specs.Shape.{Sections, Cell, cell_at}
use Rattle.effects.specs.laws.ByClass.{is_outside, reads_by_class}
use Rattle.effects.proofs.laws.ByClass.{reads_by_class_lem}
use Rattle.flow.specs.Branch.{branches, target_by}
use Rattle.values.specs.Fold.{folding_unary, folding_binary}
use Rattle.run.specs.System.{System, after}
use Rattle.run.specs.Machine.{Words, Event, Way, by_return, by_panic, World, Program, State, at, over, step, way_of, finish}
use Rattle.run.specs.Program.{Function, program_of, event, slots_of}
use Rattle.run.specs.Visits.{Noted, noted, visit, visiting}
use Rattle.run.proofs.laws.RelocatedRun.{pick}
use Rattle.run.specs.laws.Runnable.{Runnable}
use Rattle.run.proofs.laws.Step.{step_do}
use Rattle.desk.specs.declared.Stop.{Stop}
use Rattle.desk.specs.declared.Stop.TheVariants.{Returned, Panicked, Ended, Other, Limit}
use Rattle.desk.specs.Desk.{Stopped, stopped_with, Due, goes, stops, not_executed, loads, due_by, halted, taken, due_at, run_from}
use Rattle.desk.specs.Desk as desk
use Rattle.desk.specs.laws.Step.{words_in}
use Rattle.desk.proofs.laws.Step.{Follows, follows}
use Rattle.desk.specs.laws.Stands.{IsEnd, is_executed, read_words}

-- a world that answers nothing: the desk asks it nothing
abbrev pub mute : World
mute = record { reply = λ R. finish; free = λ o f x y. 0; lost = λ k. 0 }

-- Where document 01's run stands when a desk run has stopped with a frame, R being the record before it: behind the step of Return or Panic,
-- which it took with the frame's words; or before a place, with these words.
module _ (F : Function) (W : World) (R : List Event) where
  unfoldable pub Stands : Stop → List ℕ → State → Type 0
  Stands (Returned a b) f x = (q : ℕ) × (e : Event) × (x ≡ step W (program_of F W) (at q (words_in f) R)) × (x ≡ over by_return (e ∷ R)) × (e.b ≡ b) × (e.words ≡ read_words a b f)
  Stands (Panicked a b) f x = (q : ℕ) × (e : Event) × (x ≡ step W (program_of F W) (at q (words_in f) R)) × (x ≡ over by_panic (e ∷ R)) × (b ≡ 2) × (e.words ≡ read_words a b f)
  Stands Ended f x = x ≡ at (length F.cells) (words_in f) R
  Stands (Other q) f x = (q < length F.cells) × (x ≡ at q (words_in f) R) × (is_executed (due_at F.sections F.cells q f) ≡ false)
  Stands Limit f x = (q : ℕ) × (q < length F.cells) × (x ≡ at q (words_in f) R) × (is_executed (due_at F.sections F.cells q f) ≡ true)

module _ (F : Function) (A : Runnable F) (W : World) where
  abbrev P : Program
  P = program_of F W

  abbrev S : Sections
  S = F.sections

  abbrev cells : List Cell
  cells = F.cells

  abbrev n : ℕ
  n = length cells

  abbrev x : ℕ → Cell
  x p = cell_at cells p

  stepped : (p : ℕ) (f : List ℕ) (R : List Event) → p < n → length f ≡ S.locals → Follows F W p f R (x p) (due_at S cells p f)
  stepped p f R h l = let d = A.described in follows F W p f R (x p) (omega arith, A.operands p h) l (class (x p).instruction) refl

  -- ---- a step goes to a place or to the end

  unfoldable Inside : Due → Type 0
  Inside (goes q g) = q ≤ n
  Inside (stops s) = Unit {0}
  Inside not_executed = Unit {0}

  inside_loads : (p : ℕ) (f : List ℕ) (a : ℕ) (c : Option Constant) → p < n → Inside (loads p f a c)
  unfolding Inside loads
  inside_loads p f a (Some Nil) h = h
  inside_loads p f a (Some (BoolConstant v)) h = h
  inside_loads p f a (Some (Int v)) h = h
  inside_loads p f a (Some (Float v)) h = h
  inside_loads p f a (Some String) h = tt
  inside_loads p f a None h = tt

  inside_branch : (p : ℕ) → p < n → (k : Class) → class (x p).instruction ≡ k → branches k ≡ true → target_by k p (x p).instruction ≤ n
  inside_branch p h k e b = let f : branches (class (x p).instruction) ≡ true = rw e b in rw e at (A.targets p h f)

  inside : (k : Class) (p : ℕ) (f : List ℕ) → p < n → class (x p).instruction ≡ k → Inside (due_by S.constants k p (x p).instruction f)
  unfolding Inside due_by branches
  inside Hint p f h e = h
  inside LoadInt p f h e = h
  inside LoadConst p f h e = inside_loads p f _ _ h
  inside Copy p f h e = h
  inside CopyN p f h e = h
  inside Unary p f h e = pick Inside (is_in (x p).instruction.op folding_unary) h tt
  inside Binary p f h e = pick Inside (is_in (x p).instruction.op folding_binary) h tt
  inside Jump p f h e = inside_branch p h Jump e refl
  inside JumpIf p f h e = pick (λ (q : ℕ). q ≤ n) (not (slice_index f (x p).instruction.a == 0)) (inside_branch p h JumpIf e refl) h
  inside JumpIfNot p f h e = pick (λ (q : ℕ). q ≤ n) (slice_index f (x p).instruction.a == 0) (inside_branch p h JumpIfNot e refl) h
  inside ForLoop p f h e = tt
  inside Return p f h e = tt
  inside Panic p f h e = tt
  inside Outside p f h e = tt
  inside Invalid p f h e = tt

  goes_inside : (p : ℕ) (f : List ℕ) (q : ℕ) (g : List ℕ) → p < n → due_at S cells p f ≡ goes q g → q ≤ n
  unfolding Inside
  goes_inside p f q g h d = rw d at (inside (class (x p).instruction) p f h refl)

  -- ---- what stops a run is Return or Panic, with the words that they read

  unfoldable Stopping : ℕ → List ℕ → List Event → Due → Type 0
  Stopping p f R (goes q g) = Unit {0}
  Stopping p f R (stops s) = Stands F W R s f (step W P (at p (words_in f) R)) × IsEnd s
  Stopping p f R not_executed = Unit {0}

  stopping_loads : (p : ℕ) (f : List ℕ) (R : List Event) (q : ℕ) (a : ℕ) (c : Option Constant) → Stopping p f R (loads q f a c)
  unfolding Stopping loads
  stopping_loads p f R q a (Some Nil) = tt
  stopping_loads p f R q a (Some (BoolConstant v)) = tt
  stopping_loads p f R q a (Some (Int v)) = tt
  stopping_loads p f R q a (Some (Float v)) = tt
  stopping_loads p f R q a (Some String) = tt
  stopping_loads p f R q a None = tt

  reads_words : (p : ℕ) (σ : Words) (k : Class) (a c : ℕ) → class (x p).instruction ≡ k → is_outside k ≡ false → (event S W (x p) a c σ).words ≡ map σ (slots_of (reads_by_class k (x p).instruction))
  unfolding event
  reads_words p σ k a c e o = rw (reads_by_class_lem S.tables (x p) (rw e o), e)

  stopping : (k : Class) (p : ℕ) (f : List ℕ) (R : List Event) → p < n → length f ≡ S.locals → class (x p).instruction ≡ k → Stopping p f R (due_by S.constants k p (x p).instruction f)
  unfolding Stopping due_by Stands IsEnd Follows event slots_of reads_by_class is_outside
  stopping Hint p f R h l e = tt
  stopping LoadInt p f R h l e = tt
  stopping LoadConst p f R h l e = stopping_loads p f R p _ _
  stopping Copy p f R h l e = tt
  stopping CopyN p f R h l e = tt
  stopping Unary p f R h l e = pick (Stopping p f R) (is_in (x p).instruction.op folding_unary) tt tt
  stopping Binary p f R h l e = pick (Stopping p f R) (is_in (x p).instruction.op folding_binary) tt tt
  stopping Jump p f R h l e = tt
  stopping JumpIf p f R h l e = tt
  stopping JumpIfNot p f R h l e = tt
  stopping ForLoop p f R h l e = tt
  stopping Return p f R h l e =
      let d = A.described in
      let s = follows F W p f R (x p) (omega arith, A.operands p h) l Return e in
      ((p, _, refl, step_do F W p (words_in f) R h ∙ s, refl, rw append-nil at (reads_words p (words_in f) Return 0 (x p).instruction.c e refl)), tt)
  stopping Panic p f R h l e =
      let d = A.described in
      let s = follows F W p f R (x p) (omega arith, A.operands p h) l Panic e in
      ((p, _, refl, step_do F W p (words_in f) R h ∙ s, refl, rw append-nil at (reads_words p (words_in f) Panic (x p).instruction.a (x p).instruction.c e refl)), tt)
  stopping Outside p f R h l e = tt
  stopping Invalid p f R h l e = tt

  pub stops_there : (p : ℕ) (f : List ℕ) (R : List Event) (s : Stop) → p < n → length f ≡ S.locals → due_at S cells p f ≡ stops s → Stands F W R s f (step W P (at p (words_in f) R)) × IsEnd s
  unfolding Stopping
  stops_there p f R s h l d = rw d at (stopping (class (x p).instruction) p f R h l refl)

  pub goes_there : (p : ℕ) (f : List ℕ) (R : List Event) (q : ℕ) (g : List ℕ) → p < n → length f ≡ S.locals → due_at S cells p f ≡ goes q g
      → (step W P (at p (words_in f) R) ≡ at q (words_in g) R) × (length g ≡ S.locals) × (q ≤ n)
  unfolding Follows
  goes_there p f R q g i long d =
      let s : Follows F W p f R (x p) (goes q g) = rw d at (stepped p f R i long) in
      (step_do F W p (words_in f) R i ∙ s.0, s.1 ∙ long, goes_inside p f q g i d)

  -- ---- whole runs, with what is noted of the places that they step from, newest first

  module _ (h : ℕ → List ℕ) where
    abbrev pub noted_by : ℕ → Due → (ℕ → List ℕ → List ℕ) → List ℕ
    noted_by p d later = desk.noted_by S cells h p later d

    abbrev pub notes_from : ℕ → ℕ → List ℕ → List ℕ
    notes_from k p f = desk.notes_from S cells h k p f

    abbrev pub noting : System (Noted (List Event)) Way
    noting = visiting W P h

    abbrev pub stand : ℕ → List ℕ → List Event → List ℕ → Noted State
    stand p f R l = record { content = at p (words_in f) R; notes = l }

    -- a step inside, with its note
    note_at : (p : ℕ) (f : List ℕ) (R : List Event) (l : List ℕ) → p < n → noting.next (stand p f R l) ≡ record { content = step W P (at p (words_in f) R); notes = h p ++ l }
    unfolding noted visit way_of program_of
    note_at p f R l i = rw (lt-ltb p n i)

    one_step : (j : ℕ) (y z : Noted State) → noting.next y ≡ z → after noting (suc j) y ≡ after noting j z
    unfolding after
    one_step j y z e = ap (after noting j) e

    first_step : (y z : Noted State) → noting.next y ≡ z → after noting 1 y ≡ z
    unfolding after
    first_step y z e = e

    -- the run comes there in j steps, as many as the limit where that stopped it
    pub record Arrives (k p : ℕ) (f : List ℕ) (R : List Event) (l : List ℕ) (r : Stopped) (ns : List ℕ) : Type 0 where
      pub steps : ℕ
      pub within : steps ≤ k
      pub all : r.stop ≡ Limit → steps ≡ k
      pub stands : Stands F W R r.stop r.frame (after noting steps (stand p f R l)).content
      pub notes : (after noting steps (stand p f R l)).notes ≡ ns ++ l

    abbrev pub ArrivesAll : ℕ → Type 0
    ArrivesAll k = (p : ℕ) (f : List ℕ) (R : List Event) (l : List ℕ) → p ≤ n → length f ≡ S.locals → Arrives k p f R l (run_from S cells k p f) (notes_from k p f)

    -- a run that does not step
    at_end : (k p : ℕ) (f : List ℕ) (R : List Event) (l : List ℕ) → p ≤ n → nat_lt p n ≡ false → Arrives k p f R l (stopped_with Ended f) []
    unfolding after Stands
    at_end k p f R l le e =
        let ge = ltb-false p n e in
        let same : p ≡ n = omega arith in
        record { steps = 0; within = omega arith; all = λ q. (let z : ◌≡◌ {A = ℕ} 0 1 = cc in absurd (omega arith)); stands = rw same; notes = refl }

    at_other : (k p : ℕ) (f : List ℕ) (R : List Event) (l : List ℕ) → p < n → due_at S cells p f ≡ not_executed → Arrives k p f R l (stopped_with (Other p) f) []
    unfolding after Stands is_executed
    at_other k p f R l i d = record { steps = 0; within = omega arith; all = λ q. (let z : ◌≡◌ {A = ℕ} 0 1 = cc in absurd (omega arith)); stands = (i, refl, rw d refl); notes = refl }

    at_limit : (p : ℕ) (f : List ℕ) (R : List Event) (l : List ℕ) → p < n → is_executed (due_at S cells p f) ≡ true → Arrives 0 p f R l (stopped_with Limit f) []
    unfolding after Stands
    at_limit p f R l i d = record { steps = 0; within = omega arith; all = λ q. refl; stands = (p, i, refl, d); notes = refl }

    -- whatever the limit, and so step by step
    pub arrives : (k : ℕ) → ArrivesAll k
    unfolding run_from desk.notes_from halted taken desk.noted_by is_executed IsEnd
    arrives zero p f R l le long = go (nat_lt p n) refl
      where
        by : p < n → (d : Due) → due_at S cells p f ≡ d → Arrives 0 p f R l (halted p f d) []
        by i (goes q g) d = at_limit p f R l i (rw d refl)
        by i (stops s) d = at_limit p f R l i (rw d refl)
        by i not_executed d = at_other 0 p f R l i d

        go : (t : Bool) → nat_lt p n ≡ t → Arrives 0 p f R l (cond t (halted p f (due_at S cells p f)) (stopped_with Ended f)) []
        go true q = by (ltb-true p n q) (due_at S cells p f) refl
        go false q = at_end 0 p f R l le q
    arrives (suc k) p f R l le long = go (arrives k) (nat_lt p n) refl
      where
        by : ArrivesAll k → p < n → (d : Due) → due_at S cells p f ≡ d → Arrives (suc k) p f R l (taken p f (run_from S cells k) d) (noted_by p d (notes_from k))
        by ih i (goes q g) d =
            let s = goes_there p f R q g i long d in
            let r = ih q g R (h p ++ l) s.2 s.1 in
            let a = one_step r.steps _ _ (note_at p f R l i ∙ ap (λ (y : State). record { content = y; notes = h p ++ l }) s.0) in
            record {
              steps = suc r.steps;
              within = suc-le-suc r.within;
              all = λ e. ap suc (r.all e);
              stands = rw a r.stands;
              notes = rw a (r.notes ∙ sym (append_assoc (notes_from k q g) (h p) l));
            }
        by ih i (stops s) d =
            let there = stops_there p f R s i long d in
            let a = first_step _ _ (note_at p f R l i) in
            record { steps = 1; within = omega arith; all = λ e. absurd (rw e at there.1); stands = rw a there.0; notes = rw a }
        by ih i not_executed d = at_other (suc k) p f R l i d

        go : ArrivesAll k → (t : Bool) → nat_lt p n ≡ t → Arrives (suc k) p f R l (cond t (taken p f (run_from S cells k) (due_at S cells p f)) (stopped_with Ended f)) (cond t (noted_by p (due_at S cells p f) (notes_from k)) [])
        go ih true q = by ih (ltb-true p n q) (due_at S cells p f) refl
        go ih false q = at_end (suc k) p f R l le q
