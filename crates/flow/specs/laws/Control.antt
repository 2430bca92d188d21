-- Control places: those whose instruction is a hint or ends a block. Only there do the checks of branches and hints, the leaders,
-- the loop ends and the removal of jumps find anything, so these go over a list of the control places alone.
-- Assumes nothing.
use Rattle.std.specs.Prelude.{◌≡◌, ℕ, zero, suc, ◌+◌, ◌-◌, ◌<◌, ◌≤◌, Bool, true, false, List, [], ◌∷◌, ◌++◌, length, get_or, ◌==◌, nat_eq, slice_index, slice_index_or}
use Rattle.std.proofs.Math.Path.{refl}
use Rattle.std.proofs.Common.{sym, ◌∙◌, add-zero, add-one, arith, length-append, eqb-true}
use Rattle.std.proofs.Math.Decide.{dec_le}
use Rattle.std.proofs.Math.ListN.{get_or-append, get_or-eq_default}
use Rattle.std.proofs.Math.Seq.{get_or-append_seam}
use Rattle.words.specs.Lists.{is_in}
use Rattle.instruction.specs.Opcode as op
use Rattle.instruction.specs.declared.Instruction.{Instruction}
use Rattle.instruction.specs.declared.Class.{Class}
use Rattle.instruction.specs.declared.Class.TheVariants.{Hint, LoadInt, LoadConst, Copy, CopyN, Unary, Binary, Jump, JumpIf, JumpIfNot, ForLoop, Return, Panic, Outside, Invalid}
use Rattle.instruction.specs.Class.{single, class_of, number_of}
use Rattle.instruction.specs.Instruction.{class, of_word}
use Rattle.flow.specs.Block.{ends_block}
use Rattle.flow.specs.Loop.{is_loop_hint, is_plain_hint}

-- Hint, Jump, JumpIf, JumpIfNot, ForLoop, Return, Panic
abbrev pub is_control : Class → Bool
is_control k = is_in (number_of k) (0 ∷ 7 ∷ 8 ∷ 9 ∷ 10 ∷ 11 ∷ 12 ∷ [])

-- ---- what is no control place does nothing there

pub ends_none : (x : Class) → is_control x ≡ false → ends_block x ≡ false
unfolding number_of ends_block
ends_none Hint e = refl
ends_none LoadInt e = refl
ends_none LoadConst e = refl
ends_none Copy e = refl
ends_none CopyN e = refl
ends_none Unary e = refl
ends_none Binary e = refl
ends_none Jump e = e
ends_none JumpIf e = e
ends_none JumpIfNot e = e
ends_none ForLoop e = e
ends_none Return e = e
ends_none Panic e = e
ends_none Outside e = refl
ends_none Invalid e = refl

-- it is no opcode of a control class
other_opcode : (i : Instruction) (o : ℕ) → is_control (class i) ≡ false → is_control (class_of o) ≡ true → (i.op == o) ≡ false
other_opcode i o e f = go (i.op == o) refl
  where
    go : (t : Bool) → (i.op == o) ≡ t → (i.op == o) ≡ false
    go true g =
        let same : i.op ≡ o = eqb-true i.op o g in
        let yes : is_control (class i) ≡ true = rw same f in
        let z : ◌≡◌ {A = ℕ} 0 1 = cc in
        absurd (omega arith)
    go false g = g

module _ (i : Instruction) (e : is_control (class i) ≡ false) where
  pub no_jump : nat_eq i.op op.Jump ≡ false
  unfolding class_of single number_of
  no_jump = other_opcode i op.Jump e refl

  no_hint : nat_eq i.op op.Hint ≡ false
  unfolding class_of single number_of
  no_hint = other_opcode i op.Hint e refl

  pub no_loop_hint : is_loop_hint i ≡ false
  no_loop_hint = rw no_hint

  pub no_plain_hint : is_plain_hint i ≡ false
  no_plain_hint = rw no_hint

-- ---- lists of places

-- no control place from a on and below b
abbrev pub Uncontrolled : List ℕ → ℕ → ℕ → Type 0
Uncontrolled words a b = (p : ℕ) → a ≤ p → p < b → is_control (class (of_word (slice_index words p))) ≡ false

-- all control places below n are in the list, which rises; past its end it reads as n
pub record Controls (words list : List ℕ) (n : ℕ) : Type 0 where
  pub inside : (k : ℕ) → k < length list → slice_index_or list k n < n
  pub rising : (k : ℕ) → k < length list → slice_index_or list k n < slice_index_or list (suc k) n
  pub first : Uncontrolled words 0 (slice_index_or list 0 n)
  pub between : (k : ℕ) → k < length list → Uncontrolled words (suc (slice_index_or list k n)) (slice_index_or list (suc k) n)

-- what an element is does not hang on what stands past the end
pub same_default : (l : List ℕ) (k c d : ℕ) → k < length l → slice_index_or l k c ≡ slice_index_or l k d
same_default [] k c d h = absurd (omega arith)
same_default (x ∷ l) zero c d h = refl
same_default (x ∷ l) (suc k) c d h = same_default l k c d (omega arith)

-- ---- a loop over the list: what holds at p and is kept by places that are no control places

module _ {words list : List ℕ} {n : ℕ} (c : Controls words list n) where
  -- the element that code reads
  control_place : (k : ℕ) → k < length list → slice_index list k ≡ slice_index_or list k n
  control_place k h = same_default list k 0 n h

  pub at_control : (P : ℕ → Type 0) (k : ℕ) → k < length list → P (slice_index_or list k n) → P (slice_index list k)
  at_control P k h x = rw (control_place k h) x

  pub control_inside : (k : ℕ) → k < length list → slice_index list k < n
  control_inside k h = rw (control_place k h) (c.inside k h)

  most : (k : ℕ) → slice_index_or list k n ≤ n
  most k = elim (dec_le (length list) k) [
    | yes h ↦ omega (arith, get_or-eq_default list n {n = k} h)
    | no h ↦ omega (arith, c.inside k (omega arith))
  ]

  module _ (P : ℕ → Type 0) (step : (p : ℕ) → p < n → is_control (class (of_word (slice_index words p))) ≡ false → P p → P (p + 1)) where
    skip : (a d : ℕ) → a + d ≤ n → Uncontrolled words a (a + d) → P a → P (a + d)
    skip a zero h u x = rw (add-zero a) x
    skip a (suc d) h u x =
        let before : P (a + d) = skip a d (omega arith) (λ p l g. u p l (omega arith)) x in
        let e : a + d + 1 ≡ a + suc d = omega arith in
        rw (← e) (step (a + d) (omega arith) (u (a + d) (omega arith) (omega arith)) before)

    skipped : (a b : ℕ) → a ≤ b → b ≤ n → Uncontrolled words a b → P a → P b
    skipped a b l h u x =
        let e : a + (b - a) ≡ b = omega arith in
        rw e at (skip a (b - a) (omega arith) (rw e u) x)

    pub skip_first : P 0 → P (slice_index_or list 0 n)
    skip_first x = skipped 0 (slice_index_or list 0 n) (omega arith) (most 0) c.first x

    pub skip_next : (k : ℕ) → k < length list → P (slice_index list k + 1) → P (slice_index_or list (k + 1) n)
    skip_next k h x =
        let r = c.rising k h in
        rw (add-one k) (skipped (suc (slice_index_or list k n)) (slice_index_or list (suc k) n) (omega arith) (most (suc k)) (c.between k h) (rw (control_place k h, add-one) at x))

    pub skip_last : (k : ℕ) → length list ≤ k → P (slice_index_or list k n) → P n
    skip_last k h x = rw (get_or-eq_default list n {n = k} h) at x

-- other code, with no control place where there was none
pub controls_kept : {words words' list : List ℕ} {n : ℕ} → Controls words list n
    → ((p : ℕ) → p < n → is_control (class (of_word (slice_index words p))) ≡ false → is_control (class (of_word (slice_index words' p))) ≡ false) → Controls words' list n
controls_kept c f =
    record {
      inside = c.inside;
      rising = c.rising;
      first = λ p a b. f p (omega (arith, most c 0)) (c.first p a b);
      between = λ k h p a b. f p (omega (arith, most c (suc k))) (c.between k h p a b);
    }

-- ---- making the list, place by place

pub controls_none : (words : List ℕ) → Controls words [] 0
controls_none words = record { inside = λ k h. absurd (omega arith); rising = λ k h. absurd (omega arith); first = λ p a b. absurd (omega arith); between = λ k h. absurd (omega arith) }

module _ (words list : List ℕ) (n : ℕ) (c : Controls words list n) where
  -- a place that is listed
  listed : (k : ℕ) → k ≤ length list → slice_index_or (list ++ (n ∷ [])) k (suc n) ≡ slice_index_or list k n
  listed k h = elim (dec_le (length list) k) [
    | yes g ↦
        let e : k ≡ length list = omega arith in
        rw e (get_or-append_seam list n [] (suc n) ∙ sym (get_or-eq_default list n {n = length list} (omega arith)))
    | no g ↦ get_or-append list (n ∷ []) (suc n) k (omega arith) ∙ same_default list k (suc n) n (omega arith)
  ]

  after : get_or (list ++ (n ∷ [])) (suc (length list)) (suc n) ≡ suc n
  after = get_or-eq_default (list ++ (n ∷ [])) (suc n) {n = suc (length list)} (rw (length-append list (n ∷ [])) (omega arith))

  long : length (list ++ (n ∷ [])) ≡ suc (length list)
  long = length-append list (n ∷ []) ∙ add-one (length list)

  pub controls_listed : Controls words (list ++ (n ∷ [])) (suc n)
  controls_listed = record {
    inside = λ k h. let l : k < suc (length list) = rw long at h in rw (listed k (omega arith)) (omega (arith, most c k));
    rising = λ k h. let l : k < suc (length list) = rw long at h in rises k l;
    first = rw (listed 0 (omega arith)) c.first;
    between = λ k h. let l : k < suc (length list) = rw long at h in gap k l;
  }
    where
      rises : (k : ℕ) → k < suc (length list) → slice_index_or (list ++ (n ∷ [])) k (suc n) < slice_index_or (list ++ (n ∷ [])) (suc k) (suc n)
      rises k l = elim (dec_le (length list) k) [
        | yes g ↦
            let e : k ≡ length list = omega arith in
            rw (e, after, listed (length list) (omega arith), get_or-eq_default list n {n = length list} (omega arith)) (omega arith)
        | no g ↦ rw (listed k (omega arith), listed (suc k) (omega arith)) (c.rising k (omega arith))
      ]

      gap : (k : ℕ) → k < suc (length list) → Uncontrolled words (suc (slice_index_or (list ++ (n ∷ [])) k (suc n))) (slice_index_or (list ++ (n ∷ [])) (suc k) (suc n))
      gap k l = elim (dec_le (length list) k) [
        | yes g ↦
            let e : k ≡ length list = omega arith in
            rw (e, after, listed (length list) (omega arith), get_or-eq_default list n {n = length list} (omega arith)) (λ p a b. absurd (omega arith))
        | no g ↦ rw (listed k (omega arith), listed (suc k) (omega arith)) (c.between k (omega arith))
      ]

  -- a place that is none
  module _ (none : is_control (class (of_word (slice_index words n))) ≡ false) where
    further : (a k : ℕ) → Uncontrolled words a (slice_index_or list k n) → Uncontrolled words a (slice_index_or list k (suc n))
    further a k u p l h = elim (dec_le (length list) k) [
      | yes g ↦
          let past : p < suc n = rw (get_or-eq_default list (suc n) {n = k} g) at h in
          elim (dec_le n p) [
            | yes q ↦
                let e : p ≡ n = omega arith in
                rw e none
            | no q ↦ u p l (rw (get_or-eq_default list n {n = k} g) (omega arith))
          ]
      | no g ↦ u p l (rw (same_default list k n (suc n) (omega arith)) h)
    ]

    later : (k : ℕ) → slice_index_or list k n ≤ slice_index_or list k (suc n)
    later k = elim (dec_le (length list) k) [
      | yes g ↦ rw (get_or-eq_default list n {n = k} g, get_or-eq_default list (suc n) {n = k} g) (omega arith)
      | no g ↦ omega (arith, same_default list k n (suc n) (omega arith))
    ]

    pub controls_passed : Controls words list (suc n)
    controls_passed = record {
      inside = λ k h. omega (arith, c.inside k h, same_default list k n (suc n) h);
      rising = λ k h. omega (arith, c.rising k h, later (suc k), same_default list k n (suc n) h);
      first = further 0 0 c.first;
      between = λ k h. rw (same_default list k (suc n) n h) (further (suc (slice_index_or list k n)) (suc k) (c.between k h));
    }
