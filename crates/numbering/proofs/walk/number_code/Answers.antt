use mathlib.Core.Path.{◌≡◌, refl, sym, ap, ◌∙◌}
use mathlib.Core.List.{List}
use Prim.Native.Nat.{ℕ, ◌-◌, ◌≤◌, ◌<◌}
use native.Mathlib.Nat.{zero-add}
use native.Mathlib.Omega.{arith}
use lib.ListN.{length, get_or}
use borrow.Rule.Slice.PartMut.{mid_of, put_mid}
use Rattle.words.specs.laws.Regions.{mid_long, get_mid}
use Rattle.numbering.proofs.Loop.{numbering_start, numbering_turn, whole_long, code_before, progress_end, turn_room, no_code}
use Rattle.numbering.proofs.walk.number_code.Goals as goal
use Rattle.numbering.proofs.walk.number_code.Tie as tie
use Rattle.numbering.proofs.walk.number_code.Lts
use Rattle.numbering.proofs.walk.number_code.Reads

abbrev At-loop-p : Type 0
At-loop-p = Lts.At-loop tie.the-claims Reads.Pre Reads.Post goal.the-invariant-loop-p goal.the-decreases-loop-p

abbrev Start : Type 0
Start = Lts.Start tie.the-claims Reads.Pre Reads.Post goal.the-invariant-loop-p goal.the-decreases-loop-p

abbrev Head : Type 0
Head = At-loop-p

abbrev start : Head → Start
start h = h.before.before.before.before.before.before.before.before.before.before

abbrev size : Head → ℕ
size h = length (start h).args.leaders.now

abbrev given : Head → List ℕ
given h = (start h).args.memory.now

-- the first table
abbrev table : Head → List ℕ
table h = h.begin.new.t

-- the memory is as long as it was
long : (h : Head) → length h.loop-p.memory ≡ length (given h)
long h = h.loop-p.invariant.long ∙ whole_long (size h) (given h) (table h) (omega (arith, (start h).requires.long)) h.begin.auto.t

room : (h : Head) → size h ≤ length h.loop-p.memory
room h = omega (arith, long h, (start h).requires.long)

-- the walk starts from the code that was given
same_code_lem : (h : Head) → mid_of 0 (size h) (put_mid (size h) (length (given h) - size h) (given h) (table h)) ≡ mid_of 0 (size h) (given h)
same_code_lem h = code_before (size h) (given h) (table h) (omega (arith, (start h).requires.long)) h.begin.auto.t

-- the word that a turn reads is the one given
word : (h : Head) → h.loop-p.p < size h → get_or h.loop-p.memory h.loop-p.p 0 ≡ get_or (mid_of 0 (size h) (given h)) h.loop-p.p 0
word h l =
    let p = h.loop-p.p in
    (rw (zero-add p) at (sym (get_mid h.loop-p.memory 0 (size h) p 0 l)))
    ∙ h.loop-p.invariant.progress.later p (omega arith)
    ∙ ap (λ (c : List ℕ). get_or c p 0) (same_code_lem h)

pub returns-then-n-eq0 : goal.returns-then-n-eq0
returns-then-n-eq0 c = no_code (mid_of 0 (length c.args.leaders.now) c.args.memory.now) _ _ _ (mid_long c.args.memory.now 0 (length c.args.leaders.now) (omega (arith, c.requires.long)) ∙ c.if-n-eq0.true)

pub loop-p-init : goal.loop-p-init
loop-p-init c =
    let b = c.begin in
    numbering_start c.args.memory.now _ (omega (arith, c.requires.long)) b.auto.t b.ensures

pub turn-requires : goal.turn-requires
turn-requires c =
    let g = c.loop-p.invariant.progress in
    let l = c.loop-p-test.true in
    let s = start c.before.before.before.before.before in
    (turn_room g l s.requires.few, omega (arith, g.epochs_few, s.requires.few), rw (word c.before.before.before.before.before l) (s.requires.named c.loop-p.p l), l)

pub loop-p-preserved : goal.loop-p-preserved
loop-p-preserved c =
    numbering_turn c.loop-p.invariant c.loop-p-test.true (room c.before.before.before.before.before.before.before.before) refl c.turn.auto.t c.turn.ensures

pub returns : goal.returns
returns c =
    rw (← same_code_lem c.before.before) (progress_end c.loop-p.invariant.progress c.loop-p-test.false)
