use mathlib.Core.Path.{◌≡◌, refl, sym, ap, ◌∙◌}
use mathlib.Core.List.{List}
use Prim.Native.Nat.{ℕ, ◌+◌, ◌-◌}
use native.Mathlib.Omega.{arith}
use lib.ListN.{length}
use borrow.Rule.Slice.PartMut.{mid_of}
use Rattle.std.proofs.lemmas.Result.{err_from_is_err_and}
use Rattle.words.specs.laws.Regions.{mid_long}
use Rattle.effects.specs.Check.{Passed, operand_check}
use Rattle.effects.specs.Shape.{Sections, Cell}
use Rattle.flow.specs.laws.Listing.{check_of}
use Rattle.answer.specs.Answer.{sections_of}
use Rattle.answer.specs.Pass.{after_operands, optimized}
use Rattle.optimize.specs.laws.Given.{Given, WorkRoom, Checked, cells_in, from_branches, from_loops, optimized_operands, operands_branches, branches_loops}
use Rattle.optimize.specs.laws.Steps.{controls_at, Loaded, ListedControls, Renumbered, Marks, list_lent, list_still}
use Rattle.optimize.specs.laws.Decided.{Finished, decides_refused, conclude_decides}
use Rattle.optimize.specs.laws.Chain.{checked_refused, checked_passed, same_room, loaded_numberable, loaded_branches, loaded_renumbered, numbered_listed, reached_marks_lem, reached_answer, marks_retainable, kept_finished, kept_answer}
use Rattle.optimize.proofs.function.decide.Goals as goal
use Rattle.optimize.proofs.function.decide.Goals.{After-work64_room, In_ok-count, In_ok-check_branches, After-number, After-reach, After-retain}

-- ---- the list of the control places
pub work64_room-requires : goal.work64_room-requires
unfolding sections_of
work64_room-requires c =
    rw (c.types.ensures, c.requires.given.given.typed) (omega (arith, c.requires.given.given.few), c.requires.given.given.slots)

pub load-requires-clause-list : goal.load-requires-clause-list
unfolding sections_of
load-requires-clause-list c = rw (c.work64_room.ensures, c.types.ensures, c.requires.given.given.typed)

-- ---- past refusals 5, 6 and 7: the code is loaded, and its control places are listed
record Coded (S : Sections) (code metadata : List ℕ) (n at count room32 : ℕ) (words : List ℕ) : Type 0 where
  given : Given n code metadata S
  loaded : Loaded n S.locals at count code words
  operands : operand_check S.locals S.tables (cells_in n code metadata) ≡ Passed
  room : WorkRoom n S.locals room32 (length words)

coded : (m : In_ok-count) → Coded (sections_of m.args.unit.now) m.args.code.now m.args.metadata.now m.args.n (m.work64_room.result - m.args.n) m.in_ok-count.count (length m.args.work32.now) m.load.new.work64
unfolding check_of
coded m = record {
  given = m.requires.given.given;
  loaded = m.load.ensures.loaded _ m.in_ok-count.was;
  operands = sym m.load.ensures.answer ∙ ap check_of m.in_ok-count.was;
  room = same_room _ _ _ _ _ _ m.requires.given.room refl m.load.auto.work64;
}

pub check_branches-requires : goal.check_branches-requires
check_branches-requires c =
    let n = c.args.n in
    let at = c.work64_room.result - n in
    let m = coded (goal.at.check_branches-requires c).In_ok-count in
    let l = m.loaded.listed in
    let size : length (mid_of 0 (n - 0) c.load.new.work64) ≡ n - 0 = mid_long c.load.new.work64 0 (n - 0) (omega (arith, l.values, l.within)) in
    (rw size (omega (arith, m.given.few)), list_lent l (n - 0) (at + c.in_ok-count.count - at) (omega arith) (omega arith))

-- ---- past refusal 8
checked : (b : In_ok-check_branches) → Coded (sections_of b.args.unit.now) b.args.code.now b.args.metadata.now b.args.n (b.work64_room.result - b.args.n) b.in_ok-count.count (length b.args.work32.now) b.load.new.work64
    → Checked (sections_of b.args.unit.now) (cells_in b.args.n b.args.code.now b.args.metadata.now)
checked b m =
    let a = b.args in
    record {
      operands = m.operands;
      branches = loaded_branches a.n a.code.now a.metadata.now (sections_of a.unit.now) m.given (a.n - 0) b.load.new.work64 (omega arith) m.loaded.words ∙ sym (b.check_branches.ensures a.metadata.now) ∙ b.in_ok-check_branches.was;
    }

pub number-requires-clause-numberable : goal.number-requires-clause-numberable
number-requires-clause-numberable c =
    let a = c.args in
    let m = coded (goal.at.number-requires-clause-numberable c).In_ok-count in
    loaded_numberable a.n a.code.now a.metadata.now (sections_of a.unit.now) m.given _ _ m.room m.operands m.loaded.words

pub number-requires-clause-listed : goal.number-requires-clause-listed
number-requires-clause-listed c = (coded (goal.at.number-requires-clause-listed c).In_ok-count).loaded.listed

-- ---- the code is numbered
record Numbered (S : Sections) (code metadata : List ℕ) (n at count : ℕ) (work32 work64 : List ℕ) : Type 0 where
  given : Given n code metadata S
  checked : Checked S (cells_in n code metadata)
  room : WorkRoom n S.locals (length work32) (length work64)
  renumbered : Renumbered S (cells_in n code metadata) n work32 work64
  listed : ListedControls n S.locals at count work64

numbered : (r : After-number) → Coded (sections_of r.args.unit.now) r.args.code.now r.args.metadata.now r.args.n (r.work64_room.result - r.args.n) r.in_ok-count.count (length r.args.work32.now) r.load.new.work64
    → Checked (sections_of r.args.unit.now) (cells_in r.args.n r.args.code.now r.args.metadata.now)
    → Numbered (sections_of r.args.unit.now) r.args.code.now r.args.metadata.now r.args.n (r.work64_room.result - r.args.n) r.in_ok-count.count r.number.new.work32 r.number.new.work64
numbered r m k =
    let a = r.args in
    let S = sections_of a.unit.now in
    let d = loaded_renumbered a.n a.code.now a.metadata.now S m.given r.load.new.work64 _ _ m.loaded.words (r.number.ensures.numbered a.metadata.now) in
    record {
      given = m.given;
      checked = k;
      room = same_room _ _ _ _ _ _ m.room r.number.auto.work32 r.number.auto.work64;
      renumbered = d;
      listed = numbered_listed a.n a.code.now a.metadata.now S m.given k _ _ d m.loaded.words r.number.auto.work64 r.number.ensures.behind m.loaded.listed;
    }

pub reach-requires : goal.reach-requires
reach-requires c =
    let n = c.args.n in
    let at = c.work64_room.result - n in
    let way = goal.at.reach-requires c in
    let m = coded way.In_ok-count in
    let d = numbered way.After-number m (checked way.In_ok-check_branches m) in
    let l = d.listed in
    let size : length (mid_of 0 (n - 0) c.number.new.work64) ≡ n - 0 = mid_long c.number.new.work64 0 (n - 0) (omega (arith, l.values, l.within)) in
    let whole : n - 0 ≡ n = omega arith in
    (d.given.some, size ∙ whole, d.given.few, d.given.metadata_long, d.room.room32, list_lent l (n - 0) (at + c.in_ok-count.count - at) (omega arith) (omega arith))

-- ---- past refusal 9: the reached places are marked
record Marked (S : Sections) (code metadata : List ℕ) (n : ℕ) (work32 work64 : List ℕ) : Type 0 where
  room : WorkRoom n S.locals (length work32) (length work64)
  marks : Marks S (cells_in n code metadata) n work32 work64

marked : (h : After-reach) → Numbered (sections_of h.args.unit.now) h.args.code.now h.args.metadata.now h.args.n (h.work64_room.result - h.args.n) h.in_ok-count.count h.number.new.work32 h.number.new.work64
    → Marked (sections_of h.args.unit.now) h.args.code.now h.args.metadata.now h.args.n h.reach.new.work32 h.number.new.work64
marked h d =
    let a = h.args in
    record {
      room = same_room _ _ _ _ _ _ d.room h.reach.auto.work32 refl;
      marks = reached_marks_lem a.n a.code.now a.metadata.now (sections_of a.unit.now) d.given d.checked h.number.new.work32 h.number.new.work64 d.renumbered (a.n - 0) _ _ (omega arith) h.reach.ensures.reached;
    }

pub retain-requires-clause-given : goal.retain-requires-clause-given
retain-requires-clause-given c =
    let a = c.args in
    let way = goal.at.retain-requires-clause-given c in
    let m = coded way.In_ok-count in
    let d = numbered way.After-number m (checked way.In_ok-check_branches m) in
    let k = marked way.After-reach d in
    marks_retainable a.n a.code.now a.metadata.now (sections_of a.unit.now) d.given d.checked c.reach.new.work32 c.number.new.work64 k.room k.marks (c.work64_room.result - a.n) d.listed.sets

pub retain-requires-clause-listed : goal.retain-requires-clause-listed
retain-requires-clause-listed c =
    let way = goal.at.retain-requires-clause-listed c in
    let m = coded way.In_ok-count in
    (numbered way.After-number m (checked way.In_ok-check_branches m)).listed.controls

-- ---- the retained places are known
finished : (t : After-retain) → Numbered (sections_of t.args.unit.now) t.args.code.now t.args.metadata.now t.args.n (t.work64_room.result - t.args.n) t.in_ok-count.count t.number.new.work32 t.number.new.work64
    → Marked (sections_of t.args.unit.now) t.args.code.now t.args.metadata.now t.args.n t.reach.new.work32 t.number.new.work64
    → Finished t.args.n t.args.metadata.now t.retain.new.work32 t.retain.new.work64
finished t d k =
    let a = t.args in
    kept_finished a.n a.code.now a.metadata.now (sections_of a.unit.now) d.given d.checked t.reach.new.work32 t.number.new.work64 k.room k.marks t.retain.auto.work32 t.retain.auto.work64 t.retain.ensures.retained

pub conclude-requires-clause-finished : goal.conclude-requires-clause-finished
conclude-requires-clause-finished c =
    let way = goal.at.conclude-requires-clause-finished c in
    let m = coded way.In_ok-count in
    let d = numbered way.After-number m (checked way.In_ok-check_branches m) in
    finished way.After-retain d (marked way.After-reach d)

pub conclude-requires-clause-listed : goal.conclude-requires-clause-listed
conclude-requires-clause-listed c =
    let way = goal.at.conclude-requires-clause-listed c in
    let m = coded way.In_ok-count in
    let d = numbered way.After-number m (checked way.In_ok-check_branches m) in
    (list_still d.listed c.retain.auto.work64 c.retain.ensures.behind c.retain.ensures.retained.code).controls

-- ---- the answers
pub returns-in_err-count : goal.returns-in_err-count
unfolding check_of
returns-in_err-count c =
    let p = err_from_is_err_and c.from_residual.result c.from_residual.ensures.1 in
    let all = decides_refused _ _ _ _ _ _ _ (optimized_operands _ _ ∙ checked_refused _ _ _ _ (sym c.load.ensures.answer ∙ ap check_of c.in_err-count.was)) in
    record { answer = rw (p.1, p.2) all.0; holds = all.1 }

-- the rows that are past
past_operands : {S : Sections} {code metadata : List ℕ} {n at count room32 : ℕ} {words : List ℕ} → Coded S code metadata n at count room32 words → optimized S (cells_in n code metadata) ≡ after_operands S (cells_in n code metadata)
past_operands m = optimized_operands _ _ ∙ checked_passed _ _ m.operands

past_branches : {S : Sections} {cells : List Cell} → optimized S cells ≡ after_operands S cells → Checked S cells → optimized S cells ≡ from_branches S cells
past_branches past k = past ∙ operands_branches _ _ ∙ checked_passed _ _ k.branches

pub returns-in_err-check_branches : goal.returns-in_err-check_branches
returns-in_err-check_branches c =
    let a = c.args in
    let m = coded (goal.at.returns-in_err-check_branches c).In_ok-count in
    let p = err_from_is_err_and c.from_residual-in_err-check_branches.result c.from_residual-in_err-check_branches.ensures.1 in
    let same = loaded_branches a.n a.code.now a.metadata.now (sections_of a.unit.now) m.given (a.n - 0) c.load.new.work64 (omega arith) m.loaded.words in
    let all = decides_refused _ _ _ _ _ _ _ (past_operands m ∙ operands_branches _ _ ∙ checked_refused _ _ _ _ (same ∙ sym (c.check_branches.ensures a.metadata.now) ∙ c.in_err-check_branches.was)) in
    record { answer = rw (p.1, p.2) all.0; holds = all.1 }

pub returns-in_err-reach : goal.returns-in_err-reach
returns-in_err-reach c =
    let a = c.args in
    let way = goal.at.returns-in_err-reach c in
    let m = coded way.In_ok-count in
    let k = checked way.In_ok-check_branches m in
    let d = numbered way.After-number m k in
    let p = err_from_is_err_and c.from_residual-in_err-reach.result c.from_residual-in_err-reach.ensures.1 in
    let same = reached_answer a.n a.code.now a.metadata.now (sections_of a.unit.now) d.given k c.number.new.work32 c.number.new.work64 d.renumbered (a.n - 0) _ _ (omega arith) c.reach.ensures.reached in
    let all = decides_refused _ _ _ _ _ _ _ (past_branches (past_operands m) k ∙ branches_loops _ _ ∙ checked_refused _ _ _ _ (same ∙ c.in_err-reach.was)) in
    record { answer = rw (p.1, p.2) all.0; holds = all.1 }

pub returns : goal.returns
returns c =
    let a = c.args in
    let S = sections_of a.unit.now in
    let way = goal.at.returns c in
    let m = coded way.In_ok-count in
    let k = checked way.In_ok-check_branches m in
    let d = numbered way.After-number m k in
    let h = marked way.After-reach d in
    let same = reached_answer a.n a.code.now a.metadata.now S d.given k c.number.new.work32 c.number.new.work64 d.renumbered (a.n - 0) _ _ (omega arith) c.reach.ensures.reached in
    let loops : optimized S (cells_in a.n a.code.now a.metadata.now) ≡ from_loops S (cells_in a.n a.code.now a.metadata.now) = past_branches (past_operands m) k ∙ branches_loops _ _ ∙ checked_passed _ _ (same ∙ c.in_ok-reach.was) in
    let all = conclude_decides (finished way.After-retain d h) a.code.now _ _
    (loops ∙ kept_answer a.n a.code.now a.metadata.now S d.given k c.reach.new.work32 c.number.new.work64 h.room h.marks c.retain.auto.work32 c.retain.auto.work64 c.retain.ensures.retained) c.conclude.ensures.answer in
    record { answer = all.0; holds = all.1 }
