-- Document 02, L6, its claim: "Whenever a given function returns, panics or runs out at its end in k steps, the rewritten one, from the same frame,
-- ends likewise, with the same words read, in at most k."
-- Assumes nothing.
use Rattle.std.specs.Prelude.{Option, Some, None, ◌≡◌, ℕ, zero, suc, ◌<◌, ◌≤◌, Bool, true, false, cond, ◌&&◌, ◌⊎◌, List, [], ◌∷◌, length, ◌==◌, ◌≢◌, nat_lt}
use Rattle.std.proofs.Math.Path.{refl}
use Rattle.std.proofs.Common.{sym, ap, ◌∙◌, inl, inr, true≢false, append-nil, arith}
use Rattle.std.proofs.Math.Decide.{dec_le}
use borrow.Author.Tests.{ltb-true, lt-ltb, le-ltb, eq-eqb}
use Rattle.words.specs.Bytes.{Bytes}
use Rattle.words.specs.Lists.{is_in}
use Rattle.instruction.specs.declared.Instruction.{Instruction}
use Rattle.instruction.specs.declared.Class.{Class}
use Rattle.instruction.specs.declared.Class.TheVariants.{Hint, LoadInt, LoadConst, Copy, CopyN, Unary, Binary, Jump, JumpIf, JumpIfNot, ForLoop, Return, Panic, Outside, Invalid}
use Rattle.instruction.specs.Class.{class_of, single}
use Rattle.instruction.specs.Instruction.{class}
use Rattle.unit.specs.Layout.{header_of}
use Rattle.unit.specs.Result.{Retained}
use Rattle.unit.specs.declared.Constant.{Constant}
use Rattle.unit.specs.declared.Constant.TheVariants.{Nil, Bool as BoolConstant, Int, Float, String}
use Rattle.effects.specs.Shape.{Sections, Cell, cell_at}
use Rattle.effects.specs.laws.Sound.{passed_at}
use Rattle.values.specs.Fold.{folding_unary, folding_binary}
use Rattle.lines.specs.Lines.{places_of}
use Rattle.answer.specs.Answer.{Lent, cells_of, sections_of, room_for, answer_with, pass_answer}
use Rattle.answer.specs.Clean.{cells_after, cleaned_first, spare_for, clean_answer}
use Rattle.answer.specs.Pass.{Outcome, unchanged, refused, rewritten}
use Rattle.run.specs.System.{System, after}
use Rattle.run.specs.Machine.{Words, Event, Way, by_return, by_panic, by_reply, by_code, World, Program, State, at, step, step_stays, way_of, log_of}
use Rattle.run.specs.Program.{Function, program_of}
use Rattle.run.proofs.Given.{cells_long, answer_optimized, worked_well}
use Rattle.run.proofs.Given.{answer_returnable, clean_kept}
use Rattle.run.specs.Returned.{given_function, result_function}
use Rattle.run.specs.Visits.{Noted, visiting, noted_at, StandsFor, same_opcode, load_int, copy, jump, SamePlaces}
use Rattle.run.proofs.laws.Checked.{target_inside}
use Rattle.run.proofs.laws.Passed.{optimized_kept}
use Rattle.run.specs.laws.Runnable.{Runnable}
use Rattle.run.specs.laws.Simulation.{after_stays}
use Rattle.run.proofs.laws.Visited.{Visited, now, later}
use Rattle.run.proofs.laws.Visited.{visited_hold}
use Rattle.desk.specs.declared.Stop.{Stop}
use Rattle.desk.specs.declared.Stop.TheVariants.{Returned, Panicked, Ended, Other, Limit}
use Rattle.desk.specs.Desk.{Stopped, stopped_with, Due, goes, stops, not_executed, loads, due_by, halted, taken, due_at, run_from, notes_from}
use Rattle.desk.specs.laws.Step.{words_in}
use Rattle.desk.specs.laws.Stands.{is_executed, IsEnd}
use Rattle.desk.proofs.laws.Stands.{mute, Stands, stops_there, goes_there, stand, Arrives, arrives}
use Rattle.desk.specs.Likewise.{Likewise, RunsLikewise}

-- ---- whether an instruction is executed hangs on its opcode alone, and on its constant

same_loads : (p q a b : ℕ) (f g : List ℕ) (c : Option Constant) → is_executed (loads p f a c) ≡ is_executed (loads q g b c)
unfolding loads is_executed
same_loads p q a b f g (Some Nil) = refl
same_loads p q a b f g (Some (BoolConstant v)) = refl
same_loads p q a b f g (Some (Int v)) = refl
same_loads p q a b f g (Some (Float v)) = refl
same_loads p q a b f g (Some String) = refl
same_loads p q a b f g None = refl

same_cond : (t : Bool) (p q : ℕ) (f g : List ℕ) → is_executed (cond t (goes p f) not_executed) ≡ is_executed (cond t (goes q g) not_executed)
unfolding is_executed
same_cond true p q f g = refl
same_cond false p q f g = refl

same_executed : (S : Sections) (k : Class) (p q : ℕ) (i j : Instruction) (f g : List ℕ) → i.op ≡ j.op → (k ≡ LoadConst → i.b ≡ j.b)
    → is_executed (due_by S.constants k p i f) ≡ is_executed (due_by S.constants k q j g)
unfolding due_by is_executed
same_executed S Hint p q i j f g o c = refl
same_executed S LoadInt p q i j f g o c = refl
same_executed S LoadConst p q i j f g o c = rw (c refl) (same_loads p q _ _ f g _)
same_executed S Copy p q i j f g o c = refl
same_executed S CopyN p q i j f g o c = refl
same_executed S Unary p q i j f g o c = rw o (same_cond (is_in j.op folding_unary) _ _ _ _)
same_executed S Binary p q i j f g o c = rw o (same_cond (is_in j.op folding_binary) _ _ _ _)
same_executed S Jump p q i j f g o c = refl
same_executed S JumpIf p q i j f g o c = refl
same_executed S JumpIfNot p q i j f g o c = refl
same_executed S ForLoop p q i j f g o c = refl
same_executed S Return p q i j f g o c = refl
same_executed S Panic p q i j f g o c = refl
same_executed S Outside p q i j f g o c = refl
same_executed S Invalid p q i j f g o c = refl

abbrev Executed : Sections → Instruction → Type 0
Executed S i = is_executed (due_by S.constants (class i) 0 i []) ≡ true

executed_at : (S : Sections) (p : ℕ) (i : Instruction) (f : List ℕ) (t : Bool) → is_executed (due_by S.constants (class i) p i f) ≡ t → is_executed (due_by S.constants (class i) 0 i []) ≡ t
executed_at S p i f t e = same_executed S (class i) 0 p i i [] f refl (λ c. refl) ∙ e

-- what stands for an executed instruction is executed
stands_executed : (S : Sections) (i j : Instruction) → StandsFor i j → Executed S i → Executed S j
unfolding class_of single due_by is_executed
stands_executed S i j (same_opcode e c) d = let same : class j ≡ class i = ap class_of e in rw same (same_executed S (class i) 0 0 j i [] [] e c ∙ d)
stands_executed S i j (load_int h e) d = rw e refl
stands_executed S i j (copy h e) d = rw e refl
stands_executed S i j (jump h e) d = rw e refl

-- ---- what a run visits that ends

-- a run that is over visits nothing
visited_over : {W : World} {P : Program} {x : State} {q : ℕ} → Visited W P x q → (w : Way) → way_of P x ≢ Some w
unfolding way_of
visited_over {P = P} (now {p = p} h) w e = let n : ◌≡◌ {A = Option Way} None (Some w) = rw (lt-ltb p P.size h) at e in let z : ◌≡◌ {A = ℕ} 0 1 = cc in omega arith
visited_over {W = W} {P = P} (later {x = x} v) w e = visited_over v w (rw (step_stays W P x w e) e)

-- the place before which it stands, or one that it visits after a step
visited_split : {W : World} {P : Program} {x : State} {q : ℕ} → Visited W P x q → (p : ℕ) (σ : Words) (R : List Event) → x ≡ at p σ R → (q ≡ p) ⊎ Visited W P (step W P (at p σ R)) q
visited_split (now h) p σ R e = inl cc
visited_split (later v) p σ R e = inr (rw e at v)

module _ (F : Function) (A : Runnable F) (W : World) where
  abbrev S : Sections
  S = F.sections

  abbrev cells : List Cell
  cells = F.cells

  abbrev P : Program
  P = program_of F W

  abbrev Visits : ℕ → Type 0
  Visits k = (p : ℕ) (f : List ℕ) (R : List Event) → p ≤ length cells → length f ≡ S.locals → IsEnd (run_from S cells k p f).stop
      → (q : ℕ) → Visited W P (at p (words_in f) R) q → Executed S (cell_at cells q).instruction

  -- the code's end
  none_visited : (p q : ℕ) (σ : Words) (R : List Event) → nat_lt p (length cells) ≡ false → Visited W P (at p σ R) q → ⊥
  unfolding way_of program_of
  none_visited p q σ R e v = visited_over v (cond (p == length cells) by_code by_reply) (rw e refl)

  halted_none : (p : ℕ) (f : List ℕ) (d : Due) → IsEnd (halted p f d).stop → ⊥
  unfolding halted IsEnd
  halted_none p f (goes q g) e = e
  halted_none p f (stops s) e = e
  halted_none p f not_executed e = e

  stands_over : (R : List Event) (s : Stop) (f : List ℕ) (x : State) → IsEnd s → Stands F W R s f x → (w : Way) × (way_of P x ≡ Some w)
  unfolding IsEnd Stands way_of program_of
  stands_over R (Returned a b) f x t u = (by_return, rw u.3)
  stands_over R (Panicked a b) f x t u = (by_panic, rw u.3)
  stands_over R Ended f x t u = (by_code, rw (u, le-ltb (length cells) (length cells) (omega arith), eq-eqb (length cells) (length cells) refl))
  stands_over R (Other q) f x t u = absurd t
  stands_over R Limit f x t u = absurd t

  -- every instruction that it visits is executed
  visits_executed : (k : ℕ) → Visits k
  unfolding run_from taken is_executed IsEnd
  visits_executed zero p f R le long t q v = go (nat_lt p (length cells)) refl t
    where
      go : (b : Bool) → nat_lt p (length cells) ≡ b → IsEnd (cond b (halted p f (due_at S cells p f)) (stopped_with Ended f)).stop → Executed S (cell_at cells q).instruction
      go true e t = absurd (halted_none p f (due_at S cells p f) t)
      go false e t = absurd (none_visited p q (words_in f) R e v)
  visits_executed (suc k) p f R le long t q v = go (visits_executed k) (nat_lt p (length cells)) refl t
    where
      here : (d : Due) → due_at S cells p f ≡ d → is_executed d ≡ true → q ≡ p → Executed S (cell_at cells q).instruction
      here d e x same = rw same (executed_at S p (cell_at cells p).instruction f true (rw e x))

      by : Visits k → p < length cells → (d : Due) → due_at S cells p f ≡ d → IsEnd (taken p f (run_from S cells k) d).stop → Executed S (cell_at cells q).instruction
      by ih i (goes r g) d t = elim (visited_split v p (words_in f) R refl) [
        | inl same ↦ here (goes r g) d refl same
        | inr w ↦ let s = goes_there F A W p f R r g i long d in ih r g R s.2 s.1 t q (rw s.0 at w)
      ]
      by ih i (stops s) d t = elim (visited_split v p (words_in f) R refl) [
        | inl same ↦ here (stops s) d refl same
        | inr w ↦ let u = stops_there F A W p f R s i long d in let o = stands_over R s f (step W P (at p (words_in f) R)) u.1 u.0 in absurd (visited_over w o.0 o.1)
      ]
      by ih i not_executed d t = absurd t

      go : Visits k → (b : Bool) → nat_lt p (length cells) ≡ b → IsEnd (cond b (taken p f (run_from S cells k) (due_at S cells p f)) (stopped_with Ended f)).stop → Executed S (cell_at cells q).instruction
      go ih true e t = by ih (ltb-true p (length cells) e) (due_at S cells p f) refl t
      go ih false e t = absurd (none_visited p q (words_in f) R e v)

-- ---- two runs that are over

-- the way in which a run ends that stops so
unfoldable way_for : Stop → Way
way_for (Returned a b) = by_return
way_for (Panicked a b) = by_panic
way_for Ended = by_code
way_for (Other q) = by_reply
way_for Limit = by_reply

stands_way : (F : Function) (W : World) (R : List Event) (s : Stop) (f : List ℕ) (x : State) → IsEnd s → Stands F W R s f x → way_of (program_of F W) x ≡ Some (way_for s)
unfolding IsEnd Stands way_of program_of way_for
stands_way F W R (Returned a b) f x t u = rw u.3
stands_way F W R (Panicked a b) f x t u = rw u.3
stands_way F W R Ended f x t u = rw (u, le-ltb (length F.cells) (length F.cells) (omega arith), eq-eqb (length F.cells) (length F.cells) refl)
stands_way F W R (Other q) f x t u = absurd t
stands_way F W R Limit f x t u = absurd t

head_same : (d e : Event) → ◌≡◌ {A = List Event} (d ∷ []) (e ∷ []) → d ≡ e
head_same d e p = cc

-- in the same way and with the same record they end likewise
like : (F G : Function) (W : World) (s u : Stop) (f g : List ℕ) (x y : State) → Stands F W [] s f x → Stands G W [] u g y → IsEnd u → way_for u ≡ way_for s → log_of y ≡ log_of x → Likewise s f (stopped_with u g)
unfolding Stands Likewise IsEnd log_of way_for
like F G W (Returned a b) (Returned c d) f g x y (p, e, o, xe, be, we) (q, e', o', ye, be', we') t w l =
    let same : e' ≡ e = head_same e' e (sym (ap log_of ye) ∙ l ∙ ap log_of xe) in
    let count : d ≡ b = sym be' ∙ ap (λ (e : Event). e.b) same ∙ be in
    (c, rw count, rw (← count) (sym we') ∙ ap (λ (e : Event). e.words) same ∙ we)
like F G W (Returned a b) (Panicked c d) f g x y p q t w l = let z : ◌≡◌ {A = ℕ} 0 1 = cc in absurd (omega arith)
like F G W (Returned a b) Ended f g x y p q t w l = let z : ◌≡◌ {A = ℕ} 0 1 = cc in absurd (omega arith)
like F G W (Returned a b) (Other c) f g x y p q t w l = absurd t
like F G W (Returned a b) Limit f g x y p q t w l = absurd t
like F G W (Panicked a b) (Returned c d) f g x y p q t w l = let z : ◌≡◌ {A = ℕ} 0 1 = cc in absurd (omega arith)
like F G W (Panicked a b) (Panicked c d) f g x y (p, e, o, xe, be, we) (q, e', o', ye, be', we') t w l =
    let same : e' ≡ e = head_same e' e (sym (ap log_of ye) ∙ l ∙ ap log_of xe) in
    let count : d ≡ b = be' ∙ sym be in
    (c, rw count, rw (← count) (sym we') ∙ ap (λ (e : Event). e.words) same ∙ we)
like F G W (Panicked a b) Ended f g x y p q t w l = let z : ◌≡◌ {A = ℕ} 0 1 = cc in absurd (omega arith)
like F G W (Panicked a b) (Other c) f g x y p q t w l = absurd t
like F G W (Panicked a b) Limit f g x y p q t w l = absurd t
like F G W Ended (Returned c d) f g x y p q t w l = let z : ◌≡◌ {A = ℕ} 0 1 = cc in absurd (omega arith)
like F G W Ended (Panicked c d) f g x y p q t w l = let z : ◌≡◌ {A = ℕ} 0 1 = cc in absurd (omega arith)
like F G W Ended Ended f g x y p q t w l = refl
like F G W Ended (Other c) f g x y p q t w l = absurd t
like F G W Ended Limit f g x y p q t w l = absurd t
like F G W (Other c) u f g x y p q t w l = tt
like F G W Limit u f g x y p q t w l = tt

-- a system that has ended stays as it is
after_later : {R W : Type 0} (S : System R W) (j k : ℕ) (x : S.State) (w : W) → j ≤ k → S.way (after S j x) ≡ Some w → after S k x ≡ after S j x
unfolding after
after_later S zero k x w h e = after_stays S k x w e
after_later S (suc j) zero x w h e = absurd (omega arith)
after_later S (suc j) (suc k) x w h e = after_later S j k (S.next x) w (omega arith) e

-- so it ends in one state
one_end : {R W : Type 0} (S : System R W) (j k : ℕ) (x : S.State) (v w : W) → S.way (after S j x) ≡ Some v → S.way (after S k x) ≡ Some w → after S j x ≡ after S k x
one_end S j k x v w e f = elim (dec_le j k) [ yes h ↦ sym (after_later S j k x v h e) | no h ↦ after_later S k j x w (omega arith) f ]

-- a place that the run comes to is visited
after_visited : (W : World) (P : Program) (h : ℕ → List ℕ) (j : ℕ) (y : Noted State) (q : ℕ) (σ : Words) (R : List Event) → q < P.size → (after (visiting W P h) j y).content ≡ at q σ R
    → Visited W P y.content q
unfolding after
after_visited W P h zero y q σ R i e = rw e (now i)
after_visited W P h (suc j) y q σ R i e = later (after_visited W P h j _ q σ R i e)

-- ---- the claim, of functions

module _ (F : Function) (kept : List Retained) (A : Runnable F) (A' : Runnable (result_function F.sections kept)) (same : SamePlaces F kept) where
  abbrev F' : Function
  F' = result_function F.sections kept

  abbrev quiet : ℕ → List ℕ
  quiet q = []

  abbrev given : ℕ → List ℕ → Stopped
  given k f = run_from F.sections F.cells k 0 f

  abbrev returned : ℕ → List ℕ → Stopped
  returned k f = run_from F.sections (cells_after kept) k 0 f

  -- where the given run ends, whatever is noted of the returned places
  module _ (k : ℕ) (f : List ℕ) (long : length f ≡ F.sections.locals) (t : IsEnd (run_from F.sections F.cells k 0 f).stop) (note : ℕ → List ℕ) where
    abbrev notes : ℕ → List ℕ
    notes = noted_at (places_of kept) note

    a : Arrives F A mute notes k 0 f [] [] (run_from F.sections F.cells k 0 f) (notes_from F.sections F.cells notes k 0 f)
    a = arrives F A mute notes k 0 f [] [] (omega arith) long

    c : Arrives F' A' mute note k 0 f [] [] (run_from F.sections (cells_after kept) k 0 f) (notes_from F.sections (cells_after kept) note k 0 f)
    unfolding result_function
    c = arrives F' A' mute note k 0 f [] [] (omega arith) long

    way : way_of (program_of F mute) (after (visiting mute (program_of F mute) notes) a.steps (stand F A mute notes 0 f [] [])).content ≡ Some (way_for (given k f).stop)
    way = stands_way F mute [] (given k f).stop (given k f).frame _ t a.stands

    -- the returned run ends too, in as many steps at most
    abbrev run' : System (Noted (List Event)) Way
    run' = visiting mute (program_of F' mute) note

    abbrev start' : Noted State
    start' = stand F' A' mute note 0 f [] []

    b : (j : ℕ) × (j ≤ a.steps) × (way_of (program_of F' mute) (after run' j start').content ≡ Some (way_for (given k f).stop))
        × (run'.log (after run' j start') ≡ (visiting mute (program_of F mute) notes).log (after (visiting mute (program_of F mute) notes) a.steps (stand F A mute notes 0 f [] [])))
    b = (same.visits.visits mute (words_in f) note).ends a.steps (way_for (given k f).stop) way

    -- at the desk as well: it meets no other instruction, and not the limit
    pub ends : (s : Stop) → (run_from F.sections (cells_after kept) k 0 f).stop ≡ s → IsEnd s
    unfolding IsEnd Stands way_of program_of result_function
    ends (Returned x y) e = tt
    ends (Panicked x y) e = tt
    ends Ended e = tt
    ends (Other q) e =
        let u : Stands F' mute [] (Other q) (returned k f).frame (after run' c.steps start').content = rw e at c.stands in
        let v = after_visited mute (program_of F' mute) note c.steps start' q _ _ u.0 u.1 in
        let yes = visited_hold same mute (words_in f) (Executed F.sections) (stands_executed F.sections) (λ p w. visits_executed F A mute k 0 f [] (omega arith) long t p w) q v in
        let no = executed_at F.sections q (cell_at (cells_after kept) q).instruction (returned k f).frame false u.2 in
        absurd (true≢false (sym yes ∙ no))
    ends Limit e =
        let u : Stands F' mute [] Limit (returned k f).frame (after run' c.steps start').content = rw e at c.stands in
        let all : c.steps ≡ k = c.all e in
        let over = after_later run' b.0 c.steps start' _ (omega (arith, b.1, a.within, all)) b.2 in
        let ended : way_of (program_of F' mute) (after run' c.steps start').content ≡ Some (way_for (given k f).stop) = rw over b.2 in
        let going : way_of (program_of F' mute) (after run' c.steps start').content ≡ None = rw (u.2, lt-ltb u.0 (length (cells_after kept)) u.1) in
        let z : ◌≡◌ {A = ℕ} 0 1 = cc in
        absurd (omega arith)

    t' : IsEnd (returned k f).stop
    t' = ends (returned k f).stop refl

    way' : way_of (program_of F' mute) (after run' c.steps start').content ≡ Some (way_for (returned k f).stop)
    way' = stands_way F' mute [] (returned k f).stop (returned k f).frame _ t' c.stands

    -- where the visits end and where the desk run stops is one state
    one : after run' b.0 start' ≡ after run' c.steps start'
    one = one_end run' b.0 c.steps start' _ _ b.2 way'

    ended_likewise : Likewise (given k f).stop (given k f).frame (returned k f)
    ended_likewise =
        let ways : way_for (returned k f).stop ≡ way_for (given k f).stop = (let x : Some (way_for (returned k f).stop) ≡ Some (way_for (given k f).stop) = sym way' ∙ (rw one at b.2) in cc) in
        like F F' mute _ _ _ _ _ _ a.stands c.stands t' ways (ap (λ (y : Noted State). log_of y.content) (sym one) ∙ ap (λ (r : Noted (List Event)). r.content) b.3)

    -- the given run has the same notes, where each is made of the place that the returned instruction had
    pub same_notes : notes_from F.sections (cells_after kept) note k 0 f ≡ notes_from F.sections F.cells (noted_at (places_of kept) note) k 0 f
    same_notes =
        sym (append-nil (notes_from F.sections (cells_after kept) note k 0 f)) ∙ sym c.notes ∙ ap (λ (y : Noted State). y.notes) (sym one)
        ∙ ap (λ (r : Noted (List Event)). r.notes) b.3 ∙ a.notes ∙ append-nil (notes_from F.sections F.cells (noted_at (places_of kept) note) k 0 f)

  -- within any limit, and so in at most as many steps
  pub runs_likewise : (k : ℕ) (f : List ℕ) → length f ≡ F.sections.locals
      → Likewise (run_from F.sections F.cells k 0 f).stop (run_from F.sections F.cells k 0 f).frame (run_from F.sections (cells_after kept) k 0 f)
  unfolding Likewise IsEnd
  runs_likewise k f long = go (given k f).stop refl
    where
      go : (s : Stop) → (given k f).stop ≡ s → Likewise s (given k f).frame (returned k f)
      go (Returned x y) e = rw e at (ended_likewise k f long (rw e tt) quiet)
      go (Panicked x y) e = rw e at (ended_likewise k f long (rw e tt) quiet)
      go Ended e = rw e at (ended_likewise k f long (rw e tt) quiet)
      go (Other q) e = tt
      go Limit e = tt

-- ---- the claim, of units that one pass or the cleaning rewrites

module _ (u : List ℕ) (b : Bytes u) (room : Bool) where
  -- the function given can be run: its operands are sound, and its branches stay inside
  given_runnable : (kept : List Retained) → answer_with room u ≡ rewritten kept → Runnable (given_function u)
  unfolding given_function
  given_runnable kept e =
      let o = answer_optimized u room kept e in
      let w = o.0 in
      let passed = optimized_kept (given_function u) (worked_well b w) w.worked kept o.1 in
      record {
        described = rw (cells_long u, w.described) (omega arith);
        operands = passed_at (sections_of u).locals (sections_of u).tables (cells_of u) passed.0;
        targets = λ p h t. (let i = target_inside (cells_of u) (length (cells_of u)) passed.1 p h t in omega arith);
      }

-- what one pass or the cleaning makes of a unit: both functions can be run, and visit the same places
pub record Rewriting (u : List ℕ) (kept : List Retained) : Type 0 where
  pub given : Runnable (given_function u)
  pub result : Runnable (result_function (sections_of u) kept)
  pub places : SamePlaces (given_function u) kept

pub pass_rewriting : (u : List ℕ) (l : Lent) (kept : List Retained) → Bytes u → pass_answer u l ≡ rewritten kept → Rewriting u kept
unfolding pass_answer given_function
pass_rewriting u l kept b e =
    let room = room_for (header_of u).counts l in
    let r = answer_returnable u b room kept e in
    record { given = given_runnable u b room kept e; result = r.good.runs; places = r.good.places }

pub clean_rewriting : (u : List ℕ) (l : Lent) (first second : ℕ) (kept : List Retained) → Bytes u → (clean_answer u l first second).outcome ≡ rewritten kept → Rewriting u kept
unfolding clean_answer cleaned_first given_function
clean_rewriting u l first second kept b e =
    let r = (clean_kept u b l first second kept e).1 in
    record { given = go (answer_with room u) refl e; result = r.good.runs; places = r.good.places }
  where
    room : Bool
    room = room_for (header_of u).counts l && spare_for (header_of u).counts first second

    go : (o : Outcome) → answer_with room u ≡ o → (cleaned_first (sections_of u) o).outcome ≡ rewritten kept → Runnable (given_function u)
    go unchanged f e = let z : ◌≡◌ {A = ℕ} 0 1 = cc in absurd (omega arith)
    go (refused k p) f e = let z : ◌≡◌ {A = ℕ} 0 1 = cc in absurd (omega arith)
    go (rewritten one) f e = given_runnable u b room one f

pub rewriting_likewise : (u : List ℕ) (kept : List Retained) → Rewriting u kept → RunsLikewise u kept
unfolding given_function
rewriting_likewise u kept r = runs_likewise (given_function u) kept r.given r.result r.places

pub pass_likewise : (u : List ℕ) (l : Lent) (kept : List Retained) → Bytes u → pass_answer u l ≡ rewritten kept → RunsLikewise u kept
pass_likewise u l kept b e = rewriting_likewise u kept (pass_rewriting u l kept b e)

pub clean_likewise : (u : List ℕ) (l : Lent) (first second : ℕ) (kept : List Retained) → Bytes u → (clean_answer u l first second).outcome ≡ rewritten kept → RunsLikewise u kept
clean_likewise u l first second kept b e = rewriting_likewise u kept (clean_rewriting u l first second kept b e)
