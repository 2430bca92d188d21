-- Equal runs can be false: pairs of small functions of which they are refuted. One table, and one theorem for it.
-- Assumes nothing.
use Rattle.std.specs.Prelude.{Option, None, Some, ◌≡◌, refl, Bool, true, false, ◌&&◌, ◌||◌, not, List, [], ◌∷◌, map, ℕ, zero, suc, ◌≤◌, eqb, length, replicate}
use Rattle.std.proofs.Common.{sym, ap, ◌∙◌, true≢false, arith, eq-eqb, eqb-true}
use Rattle.std.proofs.lemmas.Bool.{false≢true, eqb-false, not-true}
use Rattle.std.proofs.Math.Bool.{or-true}
use Rattle.words.specs.laws.Truth.{left_true, right_true}
use Rattle.instruction.specs.Opcode as op
use Rattle.instruction.specs.Instruction.{plain, with_imm32}
use Rattle.unit.specs.Entry.{type_value, kind_select_exec_layout, kind_map_iter_next}
use Rattle.unit.specs.Result.{Retained}
use Rattle.effects.specs.Shape.{Cell, tables_of}
use Rattle.run.specs.System.{System, after}
use Rattle.run.specs.Machine.{Words, Event, Way, by_return, by_panic, by_reply, by_code, words, World, State, step, way_of, log_of, system, start, SameRuns}
use Rattle.run.specs.Program.{Function, program_of}
use Rattle.run.specs.Visits.{Noted, noted, visit, visiting, begin, noted_at, SameVisits, StandsFor, same_opcode, load_int as standsLoadInt, copy, jump, SamePlaces}
use Rattle.examples.specs.Computed.{runs}
use Rattle.examples.specs.Unit.{cell, load_int, three, return}

-- ---- what is seen of a run, in numbers

unfoldable pub same_numbers : List ℕ → List ℕ → Bool
same_numbers [] [] = true
same_numbers [] (y ∷ ys) = false
same_numbers (x ∷ xs) [] = false
same_numbers (x ∷ xs) (y ∷ ys) = eqb x y && same_numbers xs ys

unfoldable pub same_lists : List (List ℕ) → List (List ℕ) → Bool
same_lists [] [] = true
same_lists [] (y ∷ ys) = false
same_lists (x ∷ xs) [] = false
same_lists (x ∷ xs) (y ∷ ys) = same_numbers x y && same_lists xs ys

unfoldable pub event_numbers : Event → List ℕ
event_numbers e =
    let d = e.metadata in
    e.op ∷ e.flags ∷ e.a ∷ e.b ∷ e.c ∷ d.kind ∷ d.ok ∷ d.array ∷ d.first ∷ d.second ∷ d.end ∷ e.words

-- 0 as long as the run has not ended
unfoldable pub way_number : Option Way → ℕ
way_number None = 0
way_number (Some by_return) = 1
way_number (Some by_panic) = 2
way_number (Some by_reply) = 3
way_number (Some by_code) = 4

unfoldable pub seen : Option Way → List Event → List (List ℕ)
seen w R = (way_number w ∷ []) ∷ map event_numbers R

same_numbers_lem : (l : List ℕ) → same_numbers l l ≡ true
unfolding same_numbers
same_numbers_lem [] = refl
same_numbers_lem (x ∷ l) = rw (eq-eqb x x refl, same_numbers_lem l)

same_lists_lem : (l : List (List ℕ)) → same_lists l l ≡ true
unfolding same_lists
same_lists_lem [] = refl
same_lists_lem (x ∷ l) = rw (same_numbers_lem x, same_lists_lem l)

-- ---- one run beside another

-- the world and the words in which the pairs differ: all words 0, and no perhaps written range is stored
abbrev pub world : World
world = record { reply = λ R. words (λ t. 0) (λ i. false) false; free = λ o f x y. 0; lost = λ b. 0 }

abbrev pub zeros : Words
zeros t = 0

-- the run of a function after k steps
unfoldable pub after_steps : Function → ℕ → State
after_steps F k = after (system world (program_of F world)) k (start zeros)

unfoldable pub seen_after : Function → ℕ → List (List ℕ)
seen_after F k = let x = after_steps F k in seen (way_of (program_of F world) x) (log_of x)

-- is it seen of the returned run after at most k steps?
unfoldable pub is_seen : List (List ℕ) → Function → ℕ → Bool
is_seen l G zero = same_lists (seen_after G zero) l
is_seen l G (suc k) = same_lists (seen_after G (suc k)) l || is_seen l G k

is_seen_lem : (l : List (List ℕ)) (G : Function) (k j : ℕ) → j ≤ k → seen_after G j ≡ l → is_seen l G k ≡ true
unfolding is_seen
is_seen_lem l G zero j h e = let z : j ≡ 0 = omega arith in rw (← z, e) (same_lists_lem l)
is_seen_lem l G (suc k) j h e = go (eqb j (suc k)) refl (is_seen_lem l G k j)
  where
    go : (t : Bool) → eqb j (suc k) ≡ t → (j ≤ k → seen_after G j ≡ l → is_seen l G k ≡ true) → (same_lists (seen_after G (suc k)) l || is_seen l G k) ≡ true
    go true q ih = let z : j ≡ suc k = eqb-true j (suc k) q in rw (← z, e, same_lists_lem l)
    go false q ih = let z = eqb-false j (suc k) q in rw (ih (omega arith) e) (or-true (same_lists (seen_after G (suc k)) l))

unfoldable pub has_ended : Function → ℕ → Bool
has_ended F k = not (eqb (way_number (way_of (program_of F world) (after_steps F k))) 0)

-- the given run has ended after k steps, and the returned one does not end so within k
unfoldable pub differs : Function → Function → ℕ → Bool
differs F G k = has_ended F k && not (is_seen (seen_after F k) G k)

-- then their runs are not the same
refuted : (F G : Function) (k : ℕ) → differs F G k ≡ true → SameRuns (program_of F) (program_of G) → ⊥
unfolding differs has_ended seen_after after_steps way_number
refuted F G k d s = go (way_of (program_of F world) (after_steps F k)) refl
  where
    unseen : is_seen (seen_after F k) G k ≡ false
    unseen = not-true (is_seen (seen_after F k) G k) (right_true (has_ended F k) (not (is_seen (seen_after F k) G k)) d)

    go : (w : Option Way) → way_of (program_of F world) (after_steps F k) ≡ w → ⊥
    go None e = let z : false ≡ true = rw e at (left_true (has_ended F k) (not (is_seen (seen_after F k) G k)) d) in true≢false (sym z)
    go (Some w) e =
        let r = (s.runs world zeros).ends k w e in
        let same : seen_after G r.0 ≡ seen_after F k = rw (r.2, r.3, e) in
        true≢false (sym (is_seen_lem (seen_after F k) G k r.0 r.1 same) ∙ unseen)

-- ---- the pairs

-- the bytes of a receive case: from the queue in slot 1 into slot 0
abbrev receive : List ℕ
receive = 1 ∷ 0 ∷ 1 ∷ 0 ∷ 0 ∷ 0 ∷ 1 ∷ 0 ∷ []

-- a function of ten slots of type Value, with that case
abbrev pub function_of : List Cell → Function
function_of cells =
    record {
      cells = cells;
      described = length cells;
      sections = record { locals = 10; types = replicate 10 type_value; constants = []; tables = tables_of [] [] receive };
    }

pub record Pair : Type 0 where
  pub given : List Cell
  pub returned : List Cell
  -- the given run has ended then
  pub steps : ℕ

abbrev pair : List Cell → List Cell → ℕ → Pair
pair F G k = record { given = F; returned = G; steps = k }

abbrev hint : Cell
hint = cell (plain op.Hint 0 0 0)

-- an instruction that is outside: it records its number, b among it
abbrev global : ℕ → Cell
global b = three op.GlobalGet 0 b 0

abbrev jump_to_itself : Cell
jump_to_itself = cell (with_imm32 (plain op.Jump 0 0 0) 0)

-- another word returned
abbrev another_word : Pair
another_word = pair (load_int 0 1 ∷ return 0 1 ∷ []) (load_int 0 2 ∷ return 0 1 ∷ []) 2

-- two outside instructions exchanged
abbrev exchanged : Pair
exchanged = pair (global 7 ∷ global 8 ∷ return 0 0 ∷ []) (global 8 ∷ global 7 ∷ return 0 0 ∷ []) 3

-- an outside instruction more, and one less
abbrev one_more : Pair
one_more = pair (hint ∷ return 0 0 ∷ []) (global 7 ∷ return 0 0 ∷ []) 2

abbrev one_less : Pair
one_less = pair (global 7 ∷ return 0 0 ∷ []) (hint ∷ return 0 0 ∷ []) 2

-- a step more than given
abbrev slower : Pair
slower = pair (return 0 0 ∷ []) (hint ∷ return 0 0 ∷ []) 1

-- Return against Panic, and against the end of the code
abbrev panicking : Pair
panicking = pair (return 0 2 ∷ []) (three op.Panic 0 0 0 ∷ []) 1

abbrev running_out : Pair
running_out = pair (hint ∷ return 0 0 ∷ []) (hint ∷ []) 2

-- a step without a meaning ends the run as a reply does: an opcode that is Invalid, a slot at or past s
abbrev invalid : Pair
invalid = pair (three 200 0 0 0 ∷ []) (hint ∷ []) 1

abbrev slot_outside : Pair
slot_outside = pair (load_int 10 1 ∷ []) (load_int 1 1 ∷ []) 1

-- an end against a silent endless loop
abbrev looping : Pair
looping = pair (return 0 0 ∷ []) (jump_to_itself ∷ []) 1

-- document 02, L5: a store dropped before an instruction that perhaps writes its slot, as document 01 alone would have it
abbrev select : Cell
select = record { instruction = plain op.SelectExec 1 0 0; metadata = record { kind = kind_select_exec_layout; ok = 0; array = 0; first = 0; second = 1; end = 0 } }

abbrev selected : Pair
selected = pair (load_int 0 1 ∷ select ∷ return 0 1 ∷ []) (select ∷ return 0 1 ∷ []) 3

abbrev map_next : Cell
map_next = record { instruction = plain op.MapIterNext 0 2 9; metadata = record { kind = kind_map_iter_next; ok = 0; array = 0; first = 1; second = 1; end = 0 } }

abbrev iterated : Pair
iterated = pair (load_int 0 1 ∷ map_next ∷ return 0 1 ∷ []) (map_next ∷ return 0 1 ∷ []) 3

abbrev pub pairs : List Pair
pairs = another_word ∷ exchanged ∷ one_more ∷ one_less ∷ slower ∷ panicking ∷ running_out ∷ invalid ∷ slot_outside ∷ looping ∷ selected ∷ iterated ∷ []

unfoldable pub all_differ : List Pair → Bool
all_differ [] = true
all_differ (p ∷ ps) = differs (function_of p.given) (function_of p.returned) p.steps && all_differ ps

unfoldable pub AllRefuted : List Pair → Type 0
AllRefuted [] = Unit {0}
AllRefuted (p ∷ ps) = (SameRuns (program_of (function_of p.given)) (program_of (function_of p.returned)) → ⊥) × AllRefuted ps

all_refuted : (l : List Pair) → all_differ l ≡ true → AllRefuted l
unfolding all_differ AllRefuted
all_refuted [] e = tt
all_refuted (p ∷ l) e =
    let here = differs (function_of p.given) (function_of p.returned) p.steps in
    (refuted (function_of p.given) (function_of p.returned) p.steps (left_true here (all_differ l) e), all_refuted l (right_true here (all_differ l) e))

pairs_differ : all_differ pairs ≡ true
unfolding all_differ differs has_ended is_seen seen_after after_steps seen way_number event_numbers same_lists same_numbers runs
pairs_differ = refl

-- none of the pairs has the same runs
pub different_runs : AllRefuted pairs
different_runs = all_refuted pairs pairs_differ

-- ---- a silent endless loop against an end: no number of steps tells, since the given run never ends

abbrev endless : Function
endless = function_of (jump_to_itself ∷ [])

abbrev returning : Function
returning = function_of (return 0 0 ∷ [])

-- a run that stands still
stands : {R W : Type 0} (S : System R W) (x : S.State) → S.next x ≡ x → (k : ℕ) → after S k x ≡ x
unfolding after
stands S x e zero = refl
stands S x e (suc k) = rw e (stands S x e k)

loops : step world (program_of endless world) (start zeros) ≡ start zeros
unfolding runs
loops = refl

goes_on_lem : way_of (program_of endless world) (start zeros) ≡ None
unfolding runs
goes_on_lem = refl

returns : way_of (program_of returning world) (after (system world (program_of returning world)) 1 (start zeros)) ≡ Some by_return
unfolding runs
returns = refl

pub endless_differs : SameRuns (program_of endless) (program_of returning) → ⊥
endless_differs s =
    let r = (s.runs world zeros).ends⁻ 1 by_return returns in
    let still : way_of (program_of endless world) (start zeros) ≡ Some by_return = rw (stands (system world (program_of endless world)) (start zeros) loops r.0) at r.1 in
    let z : ◌≡◌ {A = ℕ} 0 1 = cc (goes_on_lem) in
    omega arith

-- ---- the run by places can be false too: a Return that is said to come from the hint before it

abbrev hinted : Function
hinted = function_of (hint ∷ return 0 0 ∷ [])

-- After a step the given run has noted the hint's place, with nothing recorded. The returned run has noted nothing before it records.
pub other_place_differs : SameVisits (program_of hinted) (program_of returning) (noted_at (0 ∷ [])) → ⊥
unfolding runs noted visit noted_at
other_place_differs s = let r = (s.visits world zeros (λ q. q ∷ [])).logs 1 in go r.0 r.1 r.2
  where
    go : (j : ℕ) → j ≤ 1 → (visiting world (program_of returning world) (λ q. q ∷ [])).log (after (visiting world (program_of returning world) (λ q. q ∷ [])) j (begin zeros))
        ≡ (visiting world (program_of hinted world) (noted_at (0 ∷ []) (λ q. q ∷ []))).log (after (visiting world (program_of hinted world) (noted_at (0 ∷ []) (λ q. q ∷ []))) 1 (begin zeros))
        → ⊥
    go zero h e = let n : ◌≡◌ {A = ℕ} 0 1 = ap (λ (x : Noted (List Event)). length x.notes) e in omega arith
    go (suc zero) h e = let n : ◌≡◌ {A = ℕ} 1 0 = ap (λ (x : Noted (List Event)). length x.content) e in omega arith
    go (suc (suc j)) h e = omega arith

-- ---- and so can that each retained instruction stands for its origin: a LoadConst that names another constant. No step reads its slot, so
-- that places, records and ends alone are the same.

abbrev load_const : ℕ → Cell
load_const b = three op.LoadConst 0 b 0

-- constant 0 is the integer 5
abbrev constants : List ℕ
constants = 2 ∷ 0 ∷ 0 ∷ 0 ∷ 0 ∷ 0 ∷ 0 ∷ 0 ∷ 5 ∷ 0 ∷ 0 ∷ 0 ∷ 0 ∷ 0 ∷ 0 ∷ 0 ∷ []

abbrev loading : Function
loading =
    record {
      cells = load_const 0 ∷ return 1 1 ∷ [];
      described = 2;
      sections = record { locals = 10; types = replicate 10 type_value; constants = constants; tables = tables_of [] [] [] };
    }

abbrev retained : Cell → ℕ → Retained
retained x p = record { instruction = x.instruction; metadata = x.metadata; place = p }

-- constant 7 is missing
abbrev loading_another : List Retained
loading_another = retained (load_const 7) 0 ∷ retained (return 1 1) 1 ∷ []

pub other_constant_differs : SamePlaces loading loading_another → ⊥
unfolding runs
other_constant_differs s = go (s.stands 0 (omega arith))
  where
    go : StandsFor (load_const 0).instruction (load_const 7).instruction → ⊥
    go (same_opcode e c) = let z : ◌≡◌ {A = ℕ} 7 0 = c refl in omega arith
    go (standsLoadInt h e) = false≢true h
    go (copy h e) = false≢true h
    go (jump h e) = false≢true h
