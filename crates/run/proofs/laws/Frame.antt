-- What a step reads decides what it does, and it alters no slot that it gives no word.
-- Assumes nothing.
use Rattle.std.specs.Prelude.{◌≡◌, ◌⊎◌, Bool, false, ◌&&◌, ◌||◌, eqb, leb, ltb, get_or}
use Rattle.std.proofs.Math.Path.{refl}
use Rattle.std.proofs.Common.{ap₂, inl, inr, true≢false, arith, eqb-true, leb-true, ltb-true, le-leb, lt-ltb}
use Rattle.std.proofs.Math.Bool.{true, or-false, or-true}
use Rattle.std.proofs.lemmas.Bool.{false≢true}
use mathlib.Core.List.{List, [], ◌∷◌, ◌++◌, map, append-nil}
use Prim.Native.Nat.{ℕ, zero, suc, ◌+◌, ◌-◌, ◌≤◌, ◌<◌}
use Rattle.std.proofs.Math.Decide.{ℕ_discrete}
use Rattle.instruction.specs.declared.Class.{Class}
use Rattle.instruction.specs.declared.Class.TheVariants.{Hint, LoadInt, LoadConst, Copy, CopyN, Unary, Binary, Jump, JumpIf, JumpIfNot, ForLoop, Return, Panic, Outside, Invalid}
use Rattle.instruction.specs.Instruction.{class}
use Rattle.effects.specs.declared.Range.{Range}
use Rattle.effects.specs.Shape.{Tables, Sections, Cell}
use Rattle.effects.specs.Effects.{all_reads, range_has, range_within, all_of, any_of}
use Rattle.effects.specs.laws.ByClass.{is_outside, reads_by_class, writes_by_class}
use Rattle.effects.proofs.laws.ByClass.{reads_by_class_lem}
use Rattle.run.specs.Machine.{Words, World, Node, put, is_stored, replied}
use Rattle.run.proofs.laws.Removal.{Agree, SameAct, silent=, ask=, stop=, fail=}
use Rattle.run.specs.Program.{act_by, event, given_ranges, slots_of, slots_from}
use Rattle.run.specs.laws.Gives.{given_by_class}
use Rattle.words.specs.laws.Truth.{left_true, right_true}
use Rattle.run.specs.laws.Frame.{In, here, there}

-- "A step alters only the slots that it gives a word"
pub put_other : (g : ℕ → Bool) (w σ : Words) (s : ℕ) → g s ≡ false → put g w σ s ≡ σ s
unfolding put
put_other g w σ s e = rw e

-- a slot that is in no perhaps written range that was stored
pub not_stored : (gs : List (ℕ → Bool)) (stored : ℕ → Bool) (s : ℕ) → ((i : ℕ) → get_or gs i (λ t. false) s ≡ true → stored i ≡ false) → is_stored gs stored s ≡ false
unfolding is_stored
not_stored [] stored s h = refl
not_stored (g ∷ gs) stored s h = go (stored 0) (g s) (h 0) (not_stored gs (λ i. stored (suc i)) s (λ i. h (suc i)))
  where
    go : (a b : Bool) → (b ≡ true → a ≡ false) → is_stored gs (λ i. stored (suc i)) s ≡ false → (a && b || is_stored gs (λ i. stored (suc i)) s) ≡ false
    go true true f e = absurd (true≢false (f refl))
    go true false f e = e
    go false b f e = e

-- a slot of one that was
pub is_stored_lem : (gs : List (ℕ → Bool)) (stored : ℕ → Bool) (s i : ℕ) → get_or gs i (λ t. false) s ≡ true → stored i ≡ true → is_stored gs stored s ≡ true
unfolding is_stored
is_stored_lem [] stored s i h e = absurd (false≢true h)
is_stored_lem (g ∷ gs) stored s zero h e = rw (h, e)
is_stored_lem (g ∷ gs) stored s (suc i) h e = rw (is_stored_lem gs (λ i. stored (suc i)) s i h e) (or-true (stored 0 && g s))

-- "the outside reply says for each perhaps written range whether it was stored": a slot that is neither surely given a word nor in a range
-- that was stored keeps its word; a slot of a range that was stored gets the reply's
module _ (N : Node) (stored : ℕ → Bool) (w σ : Words) (s : ℕ) where
  pub keeps_word : N.gives s ≡ false → ((i : ℕ) → get_or N.perhaps i (λ t. false) s ≡ true → stored i ≡ false) → put (replied N stored) w σ s ≡ σ s
  unfolding put replied
  keeps_word g h = rw (g, not_stored N.perhaps stored s h)

  pub gets_word : (i : ℕ) → get_or N.perhaps i (λ t. false) s ≡ true → stored i ≡ true → put (replied N stored) w σ s ≡ w s
  unfolding put replied
  gets_word i h e = rw (is_stored_lem N.perhaps stored s i h e, or-true)

pub map_agree : (l : List ℕ) (σ σ' : Words) → Agree (λ s. In s l) σ σ' → map σ' l ≡ map σ l
map_agree [] σ σ' ag = refl
map_agree (x ∷ l) σ σ' ag = ap₂ (λ (v : ℕ) (vs : List ℕ). v ∷ vs) (ag x here) (map_agree l σ σ' (λ s i. ag s (there i)))

pub slots_in : (a n s : ℕ) → a ≤ s → s < a + n → In s (slots_from a n)
unfolding slots_from
slots_in a zero s h k = absurd (omega arith)
slots_in a (suc n) s h k = elim (ℕ_discrete s a) [ yes e ↦ rw e here | no d ↦ there (slots_in (suc a) n s (omega arith) (omega arith)) ]

-- the slots of one range
has_range : (a n t : ℕ) → any_of (range_has t) (record { start = a; count = n } ∷ []) ≡ true → (a ≤ t) × (t < a + n)
unfolding any_of range_has
has_range a n t e =
    let h : (leb a t && ltb t (a + n)) ≡ true = rw or-false at e in
    (leb-true a t (left_true (leb a t) (ltb t (a + n)) h), ltb-true t (a + n) (right_true (leb a t) (ltb t (a + n)) h))

module _ (S : Sections) (W : World) (x : Cell) (σ σ' : Words) where
  abbrev T : Tables
  T = S.tables

  -- the slots that a class names are among those read
  reads_in : (k : Class) → class x.instruction ≡ k → is_outside k ≡ false → (s : ℕ) → In s (slots_of (reads_by_class k x.instruction)) → In s (slots_of (all_reads T x))
  reads_in k e f s i = rw (reads_by_class_lem T x (rw e f), e) i

  pub frame : (k : Class) → class x.instruction ≡ k → Agree (λ s. In s (slots_of (all_reads T x))) σ σ'
      → SameAct (λ t. any_of (range_has t) (given_ranges T x)) (act_by S W x k σ) (act_by S W x k σ')
  unfolding act_by event reads_by_class writes_by_class is_outside slots_of slots_from
  frame Hint e ag = silent= (λ s t. refl)
  frame LoadInt e ag = silent= (λ s t. refl)
  frame LoadConst e ag = silent= (λ s t. refl)
  frame Copy e ag =
      let b : σ' x.instruction.b ≡ σ x.instruction.b = ag x.instruction.b (reads_in Copy e refl _ here) in
      silent= (λ s t. b)
  frame CopyN e ag =
      silent= λ s t.
      let given : any_of (range_has s) (record { start = x.instruction.a; count = x.instruction.c } ∷ []) ≡ true = rw (given_by_class T x (rw e refl), e) at t in
      let r = has_range x.instruction.a x.instruction.c s given in
      let at : ℕ = x.instruction.b + (s - x.instruction.a) in
      let i : In at (slots_from x.instruction.b x.instruction.c) = slots_in x.instruction.b x.instruction.c at (omega arith) (omega arith) in
      ag at (reads_in CopyN e refl at (rw append-nil i))
  frame Unary e ag =
      let b : σ' x.instruction.b ≡ σ x.instruction.b = ag x.instruction.b (reads_in Unary e refl _ here) in
      rw b (silent= (λ s t. refl))
  frame Binary e ag =
      let b : σ' x.instruction.b ≡ σ x.instruction.b = ag x.instruction.b (reads_in Binary e refl _ here) in
      let c : σ' x.instruction.c ≡ σ x.instruction.c = ag x.instruction.c (reads_in Binary e refl _ (there here)) in
      rw (b, c) (silent= (λ s t. refl))
  frame Jump e ag = silent= (λ s t. refl)
  frame JumpIf e ag =
      let a : σ' x.instruction.a ≡ σ x.instruction.a = ag x.instruction.a (reads_in JumpIf e refl _ here) in
      rw a (silent= (λ s t. refl))
  frame JumpIfNot e ag =
      let a : σ' x.instruction.a ≡ σ x.instruction.a = ag x.instruction.a (reads_in JumpIfNot e refl _ here) in
      rw a (silent= (λ s t. refl))
  frame ForLoop e ag = rw (map_agree (slots_of (all_reads T x)) σ σ' ag) ask=
  frame Return e ag = rw (map_agree (slots_of (all_reads T x)) σ σ' ag) stop=
  frame Panic e ag = rw (map_agree (slots_of (all_reads T x)) σ σ' ag) stop=
  frame Outside e ag = rw (map_agree (slots_of (all_reads T x)) σ σ' ag) ask=
  frame Invalid e ag = fail=

-- ---- slots of ranges, by test

split_in : (s : ℕ) (l m : List ℕ) → In s (l ++ m) → In s l ⊎ In s m
split_in s [] m i = inr i
split_in s (x ∷ l) m here = inl here
split_in s (x ∷ l) m (there i) = elim (split_in s l m i) [ inl j ↦ inl (there j) | inr j ↦ inr j ]

in_slots : (a n s : ℕ) → In s (slots_from a n) → (a ≤ s) × (s < a + n)
unfolding slots_from
in_slots a zero s i = absurd (none_in i)
  where
    none_in : {s : ℕ} → In s [] → ⊥
    none_in = elim [ ]
in_slots a (suc n) s i = go s n a (i) (in_slots (suc a) n s)
  where
    go : (s n a : ℕ) → In s (a ∷ slots_from (suc a) n) → (In s (slots_from (suc a) n) → (suc a ≤ s) × (s < suc a + n)) → (a ≤ s) × (s < a + suc n)
    go s n a here f = (omega arith, omega arith)
    go s n a (there i) f = let r = f i in (omega arith, omega arith)

pub slots_any : (rs : List Range) (s : ℕ) → In s (slots_of rs) → any_of (range_has s) rs ≡ true
unfolding slots_of any_of range_has
slots_any [] s i = absurd (none_in i)
  where
    none_in : {s : ℕ} → In s [] → ⊥
    none_in = elim [ ]
slots_any (r ∷ rs) s i = go (split_in s (slots_from r.start r.count) (slots_of rs) i) (slots_any rs s)
  where
    go : In s (slots_from r.start r.count) ⊎ In s (slots_of rs) → (In s (slots_of rs) → any_of (range_has s) rs ≡ true)
        → ((leb r.start s && ltb s (r.start + r.count)) || any_of (range_has s) rs) ≡ true
    go (inl j) f = let h = in_slots r.start r.count s j in rw (le-leb r.start s h.0, lt-ltb s (r.start + r.count) h.1)
    go (inr j) f = rw (f j) (or-true (leb r.start s && ltb s (r.start + r.count)))

pub slots_within : (w : ℕ) (rs : List Range) (s : ℕ) → all_of (range_within w) rs ≡ true → In s (slots_of rs) → s < w
unfolding slots_of all_of range_within
slots_within w [] s e i = absurd (none_in i)
  where
    none_in : {s : ℕ} → In s [] → ⊥
    none_in = elim [ ]
slots_within w (r ∷ rs) s e i =
    go (split_in s (slots_from r.start r.count) (slots_of rs) i) (slots_within w rs s (right_true (eqb r.count 0 || leb (r.start + r.count) w) (all_of (range_within w) rs) e))
    (left_true (eqb r.count 0 || leb (r.start + r.count) w) (all_of (range_within w) rs) e)
  where
    go : In s (slots_from r.start r.count) ⊎ In s (slots_of rs) → (In s (slots_of rs) → s < w) → (eqb r.count 0 || leb (r.start + r.count) w) ≡ true → s < w
    go (inl j) f b = within (eqb r.count 0) refl b (in_slots r.start r.count s j)
      where
        within : (t : Bool) → eqb r.count 0 ≡ t → (t || leb (r.start + r.count) w) ≡ true → (r.start ≤ s) × (s < r.start + r.count) → s < w
        within true z b h = let c : r.count ≡ 0 = eqb-true r.count 0 z in absurd (omega arith)
        within false z b h = let k = leb-true (r.start + r.count) w b in omega arith
    go (inr j) f b = f j

pub any_left : (f : Range → Bool) (xs ys : List Range) → any_of f xs ≡ true → any_of f (xs ++ ys) ≡ true
unfolding any_of
any_left f [] ys e = absurd (false≢true e)
any_left f (x ∷ xs) ys e = go (f x) e (any_left f xs ys)
  where
    go : (t : Bool) → (t || any_of f xs) ≡ true → (any_of f xs ≡ true → any_of f (xs ++ ys) ≡ true) → (t || any_of f (xs ++ ys)) ≡ true
    go true e ih = refl
    go false e ih = ih e
