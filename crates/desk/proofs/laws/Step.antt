-- One step at the desk is one step of document 01's run, in every world.
-- Assumes nothing.
use Rattle.std.specs.Prelude.{Option, Some, None, ◌≡◌, ℕ, suc, ◌+◌, ◌-◌, ◌<◌, ◌≤◌, Bool, true, false, cond, ◌&&◌, List, [], ◌∷◌, length, ◌==◌, nat_le, nat_lt, slice_index, slice_set}
use Rattle.std.proofs.Math.Path.{refl}
use Rattle.std.proofs.Common.{sym, ap, ◌∙◌, arith, get_or-set_same, get_or-set_other, eqb-true, lt-ltb, le-ltb, le-leb}
use Rattle.std.proofs.Math.Bool.{or-false}
use Rattle.std.proofs.Math.Decide.{dec_le}
use Rattle.std.proofs.Math.ListN.{length-set}
use Rattle.std.proofs.lemmas.Bool.{eqb-false, lt-leb}
use borrow.Rule.Slice.PartMut.{mid_of, put_mid}
use Rattle.words.specs.Lists.{is_in}
use Rattle.words.specs.laws.Regions.{mid_long, get_mid, put_long, get_before, get_after, mid_put}
use Rattle.words.specs.laws.Truth.{left_true}
use Rattle.instruction.specs.declared.Instruction.{Instruction}
use Rattle.instruction.specs.declared.Class.{Class}
use Rattle.instruction.specs.declared.Class.TheVariants.{Hint, LoadInt, LoadConst, Copy, CopyN, Unary, Binary, Jump, JumpIf, JumpIfNot, ForLoop, Return, Panic, Outside, Invalid}
use Rattle.instruction.specs.Class.{number_of}
use Rattle.instruction.specs.Instruction.{imm32, class}
use Rattle.unit.specs.declared.Constant.{Constant}
use Rattle.unit.specs.declared.Constant.TheVariants.{Nil, Bool as BoolConstant, Int, Float, String}
use Rattle.unit.specs.Entry.{constant_at}
use Rattle.effects.specs.declared.Range.{Range}
use Rattle.effects.specs.Shape.{Sections, Cell}
use Rattle.effects.specs.Effects.{all_reads, writes, range_has, range_within, all_of, any_of}
use Rattle.effects.specs.laws.ByClass.{is_outside, reads_by_class, writes_by_class}
use Rattle.effects.proofs.laws.ByClass.{reads_by_class_lem, writes_by_class_lem}
use Rattle.effects.specs.laws.Single.{is_single}
use Rattle.effects.specs.laws.Sound.{sound, within_slot}
use Rattle.flow.specs.Branch.{target_by}
use Rattle.values.specs.Fold.{folding_unary, folding_binary}
use Rattle.run.specs.Machine.{Words, Event, by_return, by_panic, World, at, over, put, goto, perform}
use Rattle.run.specs.Program.{Function, node_by, act_by, event, constant_word, unary_word, binary_word, given_ranges}
use Rattle.run.specs.laws.Gives.{given_by_class}
use Rattle.run.proofs.laws.Justified.{hint, jump, jump_if, jump_if_not}
use Rattle.run.proofs.laws.Justified.{one_slot, one_slot_lem}
use Rattle.run.proofs.laws.Justified.{do_at, Meant, meant, gave, jumps, do_single, do_quiet, Quiet, single_slot}
use Rattle.desk.specs.declared.Stop.TheVariants.{Returned, Panicked, Ended, Other, Limit}
use Rattle.desk.specs.Desk.{Due, goes, stops, not_executed, loads, due_by}
use Rattle.desk.specs.laws.Copying.{none_copied}
use Rattle.desk.specs.laws.Step.{words_in}

set_words : (f : List ℕ) (a v : ℕ) → a < length f → put (one_slot a) (λ t. v) (words_in f) ≡ words_in (slice_set f a v)
unfolding put
set_words f a v h i t = each t i
  where
    each : (t : ℕ) → cond (one_slot a t) v (slice_index f t) ≡ slice_index (slice_set f a v) t
    each t = rw (one_slot_lem a t) (go (a == t) refl)
      where
        go : (b : Bool) → (a == t) ≡ b → cond (a == t) v (slice_index f t) ≡ slice_index (slice_set f a v) t
        go true e = let same : a ≡ t = eqb-true a t e in rw (e, ← same) (sym (get_or-set_same f a v 0 h))
        go false e = rw e (sym (get_or-set_other f a t v 0 (λ q. eqb-false a t e (sym q))))

-- CopyN reads all before writing
module _ (f : List ℕ) (a b c : ℕ) (r : 0 < c → b + c ≤ length f) (w : 0 < c → a + c ≤ length f) where
  copy_none : c ≡ 0 → put_mid a c f (mid_of b c f) ≡ f
  copy_none e = sym (none_copied f a b c e)

  pub copy_long : length (put_mid a c f (mid_of b c f)) ≡ length f
  copy_long = elim (dec_le c 0) [
    | yes h ↦ rw (copy_none (omega arith))
    | no h ↦ put_long f a c (mid_of b c f) (mid_long f b c (r (omega arith))) (w (omega arith))
  ]

  pub copy_words : put (λ t. any_of (range_has t) (record { start = a; count = c } ∷ [])) (λ t. slice_index f (b + (t - a))) (words_in f) ≡ words_in (put_mid a c f (mid_of b c f))
  unfolding put any_of range_has
  copy_words j t = each t j
    where
      each : (t : ℕ) → cond (any_of (range_has t) (record { start = a; count = c } ∷ [])) (slice_index f (b + (t - a))) (slice_index f t) ≡ slice_index (put_mid a c f (mid_of b c f)) t
      each t = rw or-false (go (dec_le a t) (dec_le (a + c) t))
        where
          ys : List ℕ
          ys = mid_of b c f

          before : (t : ℕ) → t < a → slice_index f t ≡ slice_index (put_mid a c f ys) t
          before t h = elim (dec_le c 0) [
            | yes z ↦ rw (copy_none (omega arith))
            | no z ↦ sym (get_before f a c ys (mid_long f b c (r (omega arith))) (w (omega arith)) t 0 h)
          ]

          after : (t : ℕ) → a + c ≤ t → slice_index f t ≡ slice_index (put_mid a c f ys) t
          after t h = elim (dec_le c 0) [
            | yes z ↦ rw (copy_none (omega arith))
            | no z ↦
                let e : a + c + (t - (a + c)) ≡ t = omega arith in
                sym (rw e at (get_after f a c ys (mid_long f b c (r (omega arith))) (w (omega arith)) (t - (a + c)) 0))
          ]

          go : Dec (a ≤ t) → Dec (a + c ≤ t) → cond (nat_le a t && nat_lt t (a + c)) (slice_index f (b + (t - a))) (slice_index f t) ≡ slice_index (put_mid a c f ys) t
          go (yes h) (no g) =
              let l : 0 < c = omega arith in
              let e : a + (t - a) ≡ t = omega arith in
              rw (le-leb a t h, lt-ltb t (a + c) (omega arith))
              (sym (get_mid f b c (t - a) 0 (omega arith))
              ∙ ap (λ (l : List ℕ). slice_index l (t - a)) (sym (mid_put f a c ys (mid_long f b c (r l)) (w l)))
              ∙ get_mid (put_mid a c f ys) a c (t - a) 0 (omega arith)
              ∙ rw e)
          go (yes h) (yes g) = rw (le-leb a t h, le-ltb t (a + c) g) (after t g)
          go (no h) g = rw (lt-leb a t (omega arith)) (before t (omega arith))

module _ (F : Function) (W : World) (p : ℕ) (f : List ℕ) (R : List Event) (x : Cell) where
  abbrev S : Sections
  S = F.sections

  abbrev i : Instruction
  i = x.instruction

  abbrev σ : Words
  σ = words_in f

  -- what the machine does where a step of the desk is due
  unfoldable pub Follows : Due → Type 0
  Follows (goes q g) = (do_at F W p σ R x ≡ at q (words_in g) R) × (length g ≡ length f)
  Follows (stops (Returned a b)) = do_at F W p σ R x ≡ over by_return (event S W x 0 i.c σ ∷ R)
  Follows (stops (Panicked a b)) = do_at F W p σ R x ≡ over by_panic (event S W x i.a i.c σ ∷ R)
  Follows (stops Ended) = Unit {0}
  Follows (stops (Other q)) = Unit {0}
  Follows (stops Limit) = Unit {0}
  Follows not_executed = Unit {0}

  module _ (m : Meant F W p σ R x) (long : length f ≡ S.locals) where
    -- a single store
    single : (k : Class) (w : ℕ) → class i ≡ k → is_single k ≡ true → gave F W p σ R k x ≡ w → Follows (goes (suc p) (slice_set f i.a w))
    unfolding Follows
    single k w e s g =
        let h : i.a < length f = rw long (single_slot F W p σ R k x e s m) in
        (do_single F W p σ R k x e s m ∙ rw g (ap (λ (τ : Words). at (suc p) τ R) (set_words f i.a w h)), length-set f i.a w)

    -- a hint or a jump
    quiet : (k : Class) (q : ℕ) → class i ≡ k → Quiet F W p σ R k → cond (jumps F W p σ R k x) (target_by k p i) (suc p) ≡ q → Follows (goes q f)
    unfolding Follows put any_of
    quiet k q e u g = (do_quiet F W p σ R k x e u m ∙ rw g, refl)

    loaded : (c : Option Constant) → class i ≡ LoadConst → constant_at S.constants i.b ≡ c → Follows (loads p f i.a c)
    unfolding loads constant_word gave number_of Follows
    loaded (Some Nil) e c = single LoadConst 0 e refl (rw c)
    loaded (Some (BoolConstant v)) e c = single LoadConst v e refl (rw c)
    loaded (Some (Int v)) e c = single LoadConst v e refl (rw c)
    loaded (Some (Float v)) e c = single LoadConst v e refl (rw c)
    loaded (Some String) e c = tt
    loaded None e c = tt

    -- CopyN
    inside : (r : Range) (rs : List Range) → all_of (range_within S.locals) (r ∷ rs) ≡ true → range_within S.locals r ≡ true
    unfolding all_of
    inside r rs e = left_true (range_within S.locals r) (all_of (range_within S.locals) rs) e

    copied : class i ≡ CopyN → Follows (goes (suc p) (put_mid i.a i.c f (mid_of i.b i.c f)))
    unfolding Follows is_outside reads_by_class writes_by_class do_at node_by perform act_by goto put
    copied e =
        let T = S.tables in
        let u = sound S.locals T x m.1 in
        let o : is_outside (class i) ≡ false = rw e refl in
        let reads : all_reads T x ≡ record { start = i.b; count = i.c } ∷ [] = reads_by_class_lem T x o ∙ rw e in
        let writ : writes T x ≡ record { start = i.a; count = i.c } ∷ [] = writes_by_class_lem T x o ∙ rw e in
        let given : given_ranges T x ≡ record { start = i.a; count = i.c } ∷ [] = given_by_class T x o ∙ rw e in
        let r : range_within S.locals (record { start = i.b; count = i.c }) ≡ true = inside _ [] (rw reads at u.reads_within) in
        let w : range_within S.locals (record { start = i.a; count = i.c }) ≡ true = inside _ [] (rw writ at u.writes_within) in
        (rw (meant F W p σ R x m, e, given) (ap (λ (τ : Words). at (suc p) τ R) (copy_words f i.a i.b i.c (room i.b i.c r) (room i.a i.c w))), copy_long f i.a i.b i.c (room i.b i.c r) (room i.a i.c w))
      where
        room : (a c : ℕ) → range_within S.locals (record { start = a; count = c }) ≡ true → 0 < c → a + c ≤ length f
        room a c e h = let l = within_slot S.locals (a + c - 1) (record { start = a; count = c }) e (omega arith) (omega arith) in omega (arith, long)

    folded : (t : Bool) (k : Class) (w : ℕ) → class i ≡ k → is_single k ≡ true → (t ≡ true → gave F W p σ R k x ≡ w) → Follows (cond t (goes (suc p) (slice_set f i.a w)) not_executed)
    unfolding Follows
    folded true k w e s g = single k w e s (g refl)
    folded false k w e s g = tt

    panics : class i ≡ Panic → do_at F W p σ R x ≡ over by_panic (event S W x i.a i.c σ ∷ R)
    unfolding do_at act_by perform
    panics e = rw (meant F W p σ R x m, e)

    returns : class i ≡ Return → do_at F W p σ R x ≡ over by_return (event S W x 0 i.c σ ∷ R)
    unfolding do_at act_by perform
    returns e = rw (meant F W p σ R x m, e)

    pub follows : (k : Class) → class i ≡ k → Follows (due_by S.constants k p i f)
    unfolding due_by gave number_of jumps unary_word binary_word Follows
    follows Hint e = quiet Hint (suc p) e hint refl
    follows LoadInt e = single LoadInt (imm32 i) e refl refl
    follows LoadConst e = loaded (constant_at S.constants i.b) e refl
    follows Copy e = single Copy (slice_index f i.b) e refl refl
    follows CopyN e = copied e
    follows Unary e = folded (is_in i.op folding_unary) Unary _ e refl (λ t. rw t)
    follows Binary e = folded (is_in i.op folding_binary) Binary _ e refl (λ t. rw t)
    follows Jump e = quiet Jump (target_by Jump p i) e jump refl
    follows JumpIf e = quiet JumpIf _ e jump_if refl
    follows JumpIfNot e = quiet JumpIfNot _ e jump_if_not refl
    follows ForLoop e = tt
    follows Return e = returns e
    follows Panic e = panics e
    follows Outside e = tt
    follows Invalid e = tt
