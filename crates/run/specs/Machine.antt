-- Definitions. The machine of document 01's "How a function runs", over nodes: a node is what one instruction at its place does. Nothing here
-- knows of opcodes. Assumes nothing.
use Rattle.std.specs.Prelude.{Option, None, Some, ◌≡◌, refl, Bool, true, false, cond, ◌&&◌, ◌||◌, List, [], ◌∷◌, ℕ, suc, ltb, eqb}
use Rattle.std.proofs.Common.{arith}
use Rattle.unit.specs.declared.Metadata.{Metadata}
use Rattle.run.specs.System.{System, Same}

-- the words of the slots, by the slot's number; those of 64 bits are among them
abbrev pub Words : Type 0
Words = ℕ → ℕ

-- What an outside step records: "opcode, flags, a, b, c (not Return's a nor ForLoop's c), metadata without end_pc, and words
-- read". What is not recorded is 0.
pub record Event : Type 0 where
  pub op : ℕ
  pub flags : ℕ
  pub a : ℕ
  pub b : ℕ
  pub c : ℕ
  pub metadata : Metadata
  pub words : List ℕ

-- "in the same way (Return, Panic, a reply, end of the code)"
pub data Way : Type 0 where
  by_return by_panic by_reply by_code : Way

-- "it gives one word for each slot declared written, .. ForLoop's way, or an end". "the outside reply says for each perhaps written range
-- whether it was stored" (document 02, L5): by the range's number.
pub data Reply : Type 0 where
  words : Words → (ℕ → Bool) → Bool → Reply
  finish : Reply

-- "Both use .. the same replies and free words, which may be any that fit the above": the reply to a record (newest event first),
-- the word of an operation by opcode, flags and operand words, and the word of a constant that has none, by its number
pub record World : Type 0 where
  pub reply : List Event → Reply
  pub free : ℕ → ℕ → ℕ → ℕ → ℕ
  pub lost : ℕ → ℕ

-- What an instruction does: silently give words and branch or not; ask outside; end; or have no meaning.
pub data Act : Type 0 where
  silent : Words → Bool → Act
  ask : Event → Act
  stop : Event → Way → Act
  fail : Act

-- what it does, the slots that it surely gives a word, those of each range that it perhaps writes, and where it branches to
pub record Node : Type 0 where
  pub act : Words → Act
  pub gives : ℕ → Bool
  pub perhaps : List (ℕ → Bool)
  pub target : ℕ

pub record Program : Type 0 where
  pub size : ℕ
  pub node : ℕ → Node

-- a run stands before a place with words and a record, or is over
pub data State : Type 0 where
  at : ℕ → Words → List Event → State
  over : Way → List Event → State

-- "A step alters only the slots that it gives a word"
unfoldable pub put : (ℕ → Bool) → Words → Words → Words
put g w σ s = cond (g s) (w s) (σ s)

-- "goes to the next place or a branch's target"
unfoldable pub goto : Node → ℕ → Bool → ℕ
goto N p branch = cond branch N.target (suc p)

-- a slot is one of a perhaps written range that was stored
unfoldable pub is_stored : List (ℕ → Bool) → (ℕ → Bool) → ℕ → Bool
is_stored [] stored s = false
is_stored (g ∷ gs) stored s = stored 0 && g s || is_stored gs (λ i. stored (suc i)) s

-- the slots that a reply gives a word; those of a range that was not stored keep theirs
unfoldable pub replied : Node → (ℕ → Bool) → ℕ → Bool
replied N stored s = N.gives s || is_stored N.perhaps stored s

-- A reply says whether the step branches, "ForLoop's way". Every other outside instruction has the next place for its target
-- (`target_by` of flow/specs/Branch), so that the way plays no part in it.
unfoldable pub answered : Node → ℕ → Words → List Event → Reply → State
answered N p σ R (words w stored branch) = at (goto N p branch) (put (replied N stored) w σ) R
answered N p σ R finish = over by_reply R

unfoldable pub perform : World → Node → ℕ → Words → List Event → Act → State
perform W N p σ R (silent w branch) = at (goto N p branch) (put N.gives w σ) R
perform W N p σ R (ask e) = answered N p σ (e ∷ R) (W.reply (e ∷ R))
perform W N p σ R (stop e w) = over w (e ∷ R)
-- "a step without a meaning above .. ends the run as a reply does"
perform W N p σ R fail = over by_reply R

unfoldable pub step : World → Program → State → State
step W P (at p σ R) = cond (ltb p P.size) (perform W (P.node p) p σ R ((P.node p).act σ)) (at p σ R)
step W P (over w R) = over w R

-- "place n ends the run"; a place outside 0 to n ends it as a reply does
unfoldable pub way_of : Program → State → Option Way
way_of P (at p σ R) = cond (ltb p P.size) None (Some (cond (eqb p P.size) by_code by_reply))
way_of P (over w R) = Some w

unfoldable pub log_of : State → List Event
log_of (at p σ R) = R
log_of (over w R) = R

stays_at : (t : Bool) (x y : State) (v w : Way) → cond t None (Some v) ≡ Some w → cond t x y ≡ y
stays_at true x y v w e = let z : ◌≡◌ {A = ℕ} 0 1 = cc in absurd (omega arith)
stays_at false x y v w e = refl

pub step_stays : (W : World) (P : Program) (x : State) (w : Way) → way_of P x ≡ Some w → step W P x ≡ x
unfolding step way_of
step_stays W P (at p σ R) w e = stays_at (ltb p P.size) _ _ _ w e
step_stays W P (over v R) w e = refl

abbrev pub system : World → Program → System (List Event) Way
system W P = record { State = State; next = step W P; log = log_of; way = way_of P; stays = step_stays W P }

-- "A run starts at place 0 with s given words and an empty record"
abbrev pub start : Words → State
start σ = at 0 σ []

-- Whole runs are the same, in every world and from all words.
pub record SameRuns (F F' : World → Program) : Type 0 where
  pub runs : (W : World) (σ : Words) → Same (system W (F W)) (start σ) (system W (F' W)) (start σ)
