-- Justified rewriting: which instruction may stand for another, by a table of values, and that it then does the same. It is stated
-- apart from how a pass finds such instructions.
-- Assumes nothing.
use Rattle.std.proofs.Math.Path.{◌≡◌, refl, sym, ap}
use Rattle.std.proofs.Common.{ap₂, ◌∙◌, inl, inr, arith}
use Rattle.std.specs.Prelude.{Option, Some, None, Bool, cond, not, ◌&&◌, ℕ, suc, ◌+◌, ◌*◌, ◌-◌, ◌/◌, ◌%◌, ◌^◌, ◌<◌, ◌≤◌, eqb, leb, ltb}
use Rattle.std.proofs.Math.Bool.{true, false, or-false}
use Rattle.std.proofs.lemmas.Bool.{false≢true}
use mathlib.Core.List.{List, [], ◌∷◌, map}
use borrow.Author.Tests.{eqb-true, eqb-false, eq-eqb, le-leb, lt-ltb, ltb-true, leb-true}
use Rattle.words.specs.Word.{sign_extend}
use Rattle.words.specs.laws.Word.{sign_plus, sign_minus}
use Rattle.instruction.specs.Opcode as op
use Rattle.instruction.specs.declared.Instruction.{Instruction}
use Rattle.instruction.specs.declared.Class.{Class}
use Rattle.instruction.specs.declared.Class.TheVariants.{Hint, LoadInt, LoadConst, Copy, CopyN, Unary, Binary, Jump, JumpIf, JumpIfNot, ForLoop, Return, Panic, Outside, Invalid}
use Rattle.instruction.specs.Class.{class_of, single, number_of}
use Rattle.instruction.specs.Instruction.{imm32, plain, with_imm32, class}
use Rattle.unit.specs.declared.Constant.{Constant}
use Rattle.unit.specs.declared.Constant.TheVariants.{Nil, Bool as BoolConstant, Int, Float as FloatConstant, String}
use Rattle.unit.specs.Entry.{constant_at}
use Rattle.effects.specs.Shape.{Tables, Sections, Cell}
use Rattle.effects.specs.Effects.{all_reads, range_has, any_of}
use Rattle.effects.specs.Check.{operand_refusal}
use Rattle.effects.specs.laws.ByClass.{is_outside, reads_by_class, writes_by_class}
use Rattle.effects.proofs.laws.ByClass.{reads_by_class_lem}
use Rattle.flow.specs.Branch.{target_by}
use Rattle.values.specs.declared.Atom.{Atom}
use Rattle.values.specs.declared.Atom.TheVariants.{Integer, Float}
use Rattle.values.specs.Fold.{fits_imm32}
use Rattle.values.specs.Values.{Values, value_of}
use Rattle.values.specs.Number.{set_a, constant_atom}
use Rattle.values.specs.laws.Named.{Named}
use Rattle.effects.specs.laws.Single.{is_single}
use Rattle.run.specs.Machine.{Words, Event, World, State, at, put, goto, perform, stop, by_return}
use Rattle.run.specs.Program.{Function, has_meaning, class_in, node_by, act_by, given_ranges, perhaps_slots, event, constant_word, unary_word, binary_word, slots_of, slots_from}
use Rattle.run.specs.laws.Gives.{given_by_class}
use Rattle.run.specs.laws.Slots.{named_of, named_refusal, one_by_one}
use Rattle.run.proofs.laws.Valuation.{Valuation, word_of, expression_word, word_of_expression, Valid}
use Rattle.run.specs.laws.Justified.{Justified, Stores, binary_expression, constant, copied, copies, equals_one, equals_two, folds_one, folds_two, loaded, loads, operand, operands, passed_if, passed_if_not, returned, stays, taken_if, taken_if_not, tested, unary_expression}

is_return : Class → Bool
is_return Hint = false
is_return LoadInt = false
is_return LoadConst = false
is_return Copy = false
is_return CopyN = false
is_return Unary = false
is_return Binary = false
is_return Jump = false
is_return JumpIf = false
is_return JumpIfNot = false
is_return ForLoop = false
is_return Return = true
is_return Panic = false
is_return Outside = false
is_return Invalid = false

abbrev pub rewrite : Cell → Instruction → Cell
rewrite x i = record { instruction = i; metadata = x.metadata }

-- one slot
abbrev pub one_slot : ℕ → ℕ → Bool
one_slot a t = any_of (range_has t) (record { start = a; count = 1 } ∷ [])

pub one_slot_lem : (a t : ℕ) → one_slot a t ≡ eqb a t
unfolding any_of range_has
one_slot_lem a t = rw or-false (go (eqb a t) refl)
  where
    none_other : (u v : Bool) → leb a t ≡ u → ltb t (a + 1) ≡ v → (a ≡ t → ⊥) → (u && v) ≡ false
    none_other true true d e n = let l = leb-true a t d in let m = ltb-true t (a + 1) e in absurd (n (omega arith))
    none_other true false d e n = refl
    none_other false v d e n = refl

    go : (u : Bool) → eqb a t ≡ u → (leb a t && ltb t (a + 1)) ≡ u
    go true e =
        let q : a ≡ t = eqb-true a t e in
        rw (le-leb a t (omega arith), lt-ltb t (a + 1) (omega arith))
    go false e = none_other (leb a t) (ltb t (a + 1)) refl refl (eqb-false a t e)

-- the word of the immediate that is made of a word that fits
imm_plus : (v : ℕ) → v < 2 ^ 31 → sign_extend 32 (v % 2 ^ 32 % 65536 + 65536 * (v % 2 ^ 32 / 65536 % 65536)) ≡ v
imm_plus v h =
    let e : v % 2 ^ 32 % 65536 + 65536 * (v % 2 ^ 32 / 65536 % 65536) ≡ v = omega arith in
    rw e (sign_plus 32 v h)

imm_minus : (v : ℕ) → 2 ^ 64 - 2 ^ 31 ≤ v → v < 2 ^ 64 → sign_extend 32 (v % 2 ^ 32 % 65536 + 65536 * (v % 2 ^ 32 / 65536 % 65536)) ≡ v
imm_minus v h k =
    let e : v % 2 ^ 32 % 65536 + 65536 * (v % 2 ^ 32 / 65536 % 65536) ≡ v % 2 ^ 32 = omega arith in
    let m : 2 ^ 31 ≤ v % 2 ^ 32 = omega arith in
    rw e (sign_minus 32 (v % 2 ^ 32) m ∙ omega arith)

pub imm_fits : (a v : ℕ) → fits_imm32 v ≡ true → v < 2 ^ 64 → imm32 (with_imm32 (plain op.LoadInt a 0 0) (v % 2 ^ 32)) ≡ v
unfolding fits_imm32
imm_fits a v f h = go (ltb v (2 ^ 31)) refl f
  where
    go : (u : Bool) → ltb v (2 ^ 31) ≡ u → cond u true (leb (2 ^ 64 - 2 ^ 31) v) ≡ true → imm32 (with_imm32 (plain op.LoadInt a 0 0) (v % 2 ^ 32)) ≡ v
    go true e q = imm_plus v (ltb-true v (2 ^ 31) e)
    go false e q = imm_minus v (leb-true (2 ^ 64 - 2 ^ 31) v q) h

module _ (F : Function) (W : World) (p : ℕ) (σ : Words) (R : List Event) where
  abbrev S : Sections
  S = F.sections

  abbrev T : Tables
  T = F.sections.tables

  -- what the step of a cell at place p does
  unfoldable pub do_at : Cell → State
  do_at x = perform W (node_by F (class_in F p x) W p x) p σ R (act_by S W x (class_in F p x) σ)

  -- slot a is given the word w, and the run goes on
  abbrev pub Sets : ℕ → ℕ → State
  Sets a w = at (suc p) (put (one_slot a) (λ t. w) σ) R

  abbrev pub Meant : Cell → Type 0
  Meant x = (p < F.described) × (operand_refusal S.locals T x ≡ 0)

  pub meant : (x : Cell) → Meant x → class_in F p x ≡ class x.instruction
  unfolding class_in has_meaning
  meant x m = rw (lt-ltb p F.described m.0, eq-eqb (operand_refusal S.locals T x) 0 m.1)

  -- the word that an instruction of a single class gives
  unfoldable pub gave : Class → Cell → ℕ
  gave Hint x = 0
  gave LoadInt x = imm32 x.instruction
  gave LoadConst x = constant_word W x.instruction.b (constant_at S.constants x.instruction.b)
  gave Copy x = σ x.instruction.b
  gave CopyN x = 0
  gave Unary x = unary_word W x.instruction.op x.instruction.flags (σ x.instruction.b)
  gave Binary x = binary_word W x.instruction.op x.instruction.flags (σ x.instruction.b) (σ x.instruction.c)
  gave Jump x = 0
  gave JumpIf x = 0
  gave JumpIfNot x = 0
  gave ForLoop x = 0
  gave Return x = 0
  gave Panic x = 0
  gave Outside x = 0
  gave Invalid x = 0

  given_one : (k : Class) (x : Cell) → class x.instruction ≡ k → is_single k ≡ true → given_ranges T x ≡ record { start = x.instruction.a; count = 1 } ∷ []
  unfolding number_of writes_by_class is_outside
  given_one Hint x e s = absurd (false≢true s)
  given_one LoadInt x e s = given_by_class T x (rw e refl) ∙ rw e
  given_one LoadConst x e s = given_by_class T x (rw e refl) ∙ rw e
  given_one Copy x e s = given_by_class T x (rw e refl) ∙ rw e
  given_one CopyN x e s = absurd (false≢true s)
  given_one Unary x e s = given_by_class T x (rw e refl) ∙ rw e
  given_one Binary x e s = given_by_class T x (rw e refl) ∙ rw e
  given_one Jump x e s = absurd (false≢true s)
  given_one JumpIf x e s = absurd (false≢true s)
  given_one JumpIfNot x e s = absurd (false≢true s)
  given_one ForLoop x e s = absurd (false≢true s)
  given_one Return x e s = absurd (false≢true s)
  given_one Panic x e s = absurd (false≢true s)
  given_one Outside x e s = absurd (false≢true s)
  given_one Invalid x e s = absurd (false≢true s)

  pub do_single : (k : Class) (x : Cell) → class x.instruction ≡ k → is_single k ≡ true → Meant x → do_at x ≡ Sets x.instruction.a (gave k x)
  unfolding do_at node_by number_of perform act_by goto gave
  do_single k x e s m = rw (meant x m, e, given_one k x e s) (go k s)
    where
      go : (k : Class) → is_single k ≡ true
          → perform W (record { act = act_by S W x k; gives = λ t. any_of (range_has t) (record { start = x.instruction.a; count = 1 } ∷ []); perhaps = perhaps_slots T x; target = target_by k p x.instruction }) p σ R (act_by S W x k σ)
          ≡ Sets x.instruction.a (gave k x)
      go Hint s = absurd (false≢true s)
      go LoadInt s = refl
      go LoadConst s = refl
      go Copy s = refl
      go CopyN s = absurd (false≢true s)
      go Unary s = refl
      go Binary s = refl
      go Jump s = absurd (false≢true s)
      go JumpIf s = absurd (false≢true s)
      go JumpIfNot s = absurd (false≢true s)
      go ForLoop s = absurd (false≢true s)
      go Return s = absurd (false≢true s)
      go Panic s = absurd (false≢true s)
      go Outside s = absurd (false≢true s)
      go Invalid s = absurd (false≢true s)

  -- the classes that give no word and stay silent: do they branch?
  unfoldable pub jumps : Class → Cell → Bool
  jumps Hint x = false
  jumps LoadInt x = false
  jumps LoadConst x = false
  jumps Copy x = false
  jumps CopyN x = false
  jumps Unary x = false
  jumps Binary x = false
  jumps Jump x = true
  jumps JumpIf x = not (eqb (σ x.instruction.a) 0)
  jumps JumpIfNot x = eqb (σ x.instruction.a) 0
  jumps ForLoop x = false
  jumps Return x = false
  jumps Panic x = false
  jumps Outside x = false
  jumps Invalid x = false

  -- the run goes on, at the target or at the next place
  abbrev Moves : Bool → ℕ → State
  Moves j target = at (cond j target (suc p)) (put (λ t. any_of (range_has t) []) (λ t. 0) σ) R

  pub data Quiet : Class → Type 0 where
    hint : Quiet Hint
    jump : Quiet Jump
    jump_if : Quiet JumpIf
    jump_if_not : Quiet JumpIfNot

  given_none : (k : Class) (x : Cell) → class x.instruction ≡ k → Quiet k → given_ranges T x ≡ []
  unfolding writes_by_class is_outside
  given_none k x e hint = given_by_class T x (rw e refl) ∙ rw e
  given_none k x e jump = given_by_class T x (rw e refl) ∙ rw e
  given_none k x e jump_if = given_by_class T x (rw e refl) ∙ rw e
  given_none k x e jump_if_not = given_by_class T x (rw e refl) ∙ rw e

  pub do_quiet : (k : Class) (x : Cell) → class x.instruction ≡ k → Quiet k → Meant x → do_at x ≡ Moves (jumps k x) (target_by k p x.instruction)
  unfolding do_at node_by perform act_by goto jumps
  do_quiet k x e q m = rw (meant x m, e, given_none k x e q) (go k q)
    where
      go : (k : Class) → Quiet k
          → perform W (record { act = act_by S W x k; gives = λ t. any_of (range_has t) []; perhaps = perhaps_slots T x; target = target_by k p x.instruction }) p σ R (act_by S W x k σ)
          ≡ Moves (jumps k x) (target_by k p x.instruction)
      go k hint = refl
      go k jump = refl
      go k jump_if = refl
      go k jump_if_not = refl

  -- a Return of one slot records its word
  words_one : (x : Cell) → class x.instruction ≡ Return → x.instruction.b ≡ 1 → map σ (slots_of (all_reads T x)) ≡ σ x.instruction.a ∷ []
  unfolding is_outside reads_by_class slots_of slots_from
  words_one x e b = rw (reads_by_class_lem T x (rw e refl), e, b)

  do_return : (x : Cell) → class x.instruction ≡ Return → Meant x → do_at x ≡ perform W (node_by F Return W p x) p σ R (stop (event S W x 0 x.instruction.c σ) by_return)
  unfolding do_at act_by
  do_return x e m = rw (meant x m, e)

  -- the slots of an instruction that has a meaning
  pub named : (k : Class) (x : Cell) → class x.instruction ≡ k → Meant x → Named k S.locals x.instruction
  named k x e m = named_of S.locals T x k e m.1

  -- a single instruction's destination is one of the function's slots
  pub single_slot : (k : Class) (x : Cell) → class x.instruction ≡ k → is_single k ≡ true → Meant x → x.instruction.a < S.locals
  unfolding number_of Named
  single_slot Hint x e s m = absurd (false≢true s)
  single_slot LoadInt x e s m = named LoadInt x e m
  single_slot LoadConst x e s m = named LoadConst x e m
  single_slot Copy x e s m = (named Copy x e m).1
  single_slot CopyN x e s m = absurd (false≢true s)
  single_slot Unary x e s m = (named Unary x e m).1
  single_slot Binary x e s m = (named Binary x e m).2
  single_slot Jump x e s m = absurd (false≢true s)
  single_slot JumpIf x e s m = absurd (false≢true s)
  single_slot JumpIfNot x e s m = absurd (false≢true s)
  single_slot ForLoop x e s m = absurd (false≢true s)
  single_slot Return x e s m = absurd (false≢true s)
  single_slot Panic x e s m = absurd (false≢true s)
  single_slot Outside x e s m = absurd (false≢true s)
  single_slot Invalid x e s m = absurd (false≢true s)

  -- ---- a justified instruction has a meaning, whatever the slots hold

  module _ (small : S.locals ≤ 65535) (x : Cell) (m : Meant x) where
    meaning : (k : Class) (j : Instruction) → class j ≡ k → one_by_one k ≡ true → (k ≡ Return → j.b ≡ 1) → Named k S.locals j → Meant (rewrite x j)
    meaning k j e o r n = (m.0, named_refusal S.locals T (rewrite x j) k e o small r n)

    no_return : {b : ℕ} (k : Class) → is_return k ≡ false → k ≡ Return → b ≡ 1
    unfolding is_return
    no_return k s e = let z : true ≡ false = rw e at s in absurd (false≢true (sym z))

    pub justified_meant : (t : Values) (j : Instruction) → Justified S t x.instruction j → Meant (rewrite x j)
    unfolding one_by_one Named is_return class_of single
    justified_meant t j stays = m
    justified_meant t j (operand (inl e) v l) = meaning Copy j e refl (no_return Copy refl) (l, (named Copy x e m).1)
    justified_meant t j (operand (inr e) v l) = meaning Unary j e refl (no_return Unary refl) (l, (named Unary x e m).1)
    justified_meant t j (operands e v w l k) = meaning Binary j e refl (no_return Binary refl) (l, k, (named Binary x e m).2)
    justified_meant t j (tested (inl e) v l) = meaning JumpIf j e refl (no_return JumpIf refl) l
    justified_meant t j (tested (inr e) v l) = meaning JumpIfNot j e refl (no_return JumpIfNot refl) l
    justified_meant t j (returned e b v l) = meaning Return j e refl (λ z. b) (λ z. l)
    justified_meant t j (loaded s st f h) = meaning LoadInt j refl refl (no_return LoadInt refl) (single_slot (class x.instruction) x refl s m)
    justified_meant t j (copied s st q l) = meaning Copy j refl refl (no_return Copy refl) (l, single_slot (class x.instruction) x refl s m)
    justified_meant t j (taken_if e v z) = meaning Jump j refl refl (no_return Jump refl) tt
    justified_meant t j (taken_if_not e v z) = meaning Jump j refl refl (no_return Jump refl) tt
    justified_meant t j (passed_if e v z) = meaning Hint j refl refl (no_return Hint refl) tt
    justified_meant t j (passed_if_not e v z) = meaning Hint j refl refl (no_return Hint refl) tt

  -- ---- and does the same, where the table is true

  module _ (ρ : Valuation) (t : Values) (H : Valid W ρ t σ) where
    -- slots of one value have one word
    same_word : {r s : ℕ} → value_of t r ≡ value_of t s → σ r ≡ σ s
    same_word {r} {s} e = sym (H.slot= r) ∙ ap (word_of ρ) e ∙ H.slot= s

    holds_word : {r : ℕ} {v : Atom} → value_of t r ≡ v → σ r ≡ word_of ρ v
    holds_word {r} e = sym (H.slot= r) ∙ ap (word_of ρ) e

    constant_word_lem : (b : ℕ) (c : Option Constant) (v : Atom) → constant_atom c ≡ Some v → constant_word W b c ≡ word_of ρ v
    unfolding constant_atom constant_word word_of
    constant_word_lem b (Some Nil) v e = let z : Integer 0 ≡ v = cc in ap (word_of ρ) z
    constant_word_lem b (Some (BoolConstant x)) v e = let z : Integer x ≡ v = cc in ap (word_of ρ) z
    constant_word_lem b (Some (Int x)) v e = let z : Integer x ≡ v = cc in ap (word_of ρ) z
    constant_word_lem b (Some (FloatConstant x)) v e = let z : Float x ≡ v = cc in ap (word_of ρ) z
    constant_word_lem b (Some String) v e = let z : ◌≡◌ {A = ℕ} 0 1 = cc in absurd (omega arith)
    constant_word_lem b None v e = let z : ◌≡◌ {A = ℕ} 0 1 = cc in absurd (omega arith)

    -- a unary or binary instruction gives the word of its expression
    pub word_one : (x : Cell) → class x.instruction ≡ Unary
        → gave (class x.instruction) x ≡ word_of_expression W ρ (unary_expression x.instruction (value_of t x.instruction.b))
    unfolding gave expression_word
    word_one x e = rw (e, H.slot= x.instruction.b)

    pub word_two : (x : Cell) → class x.instruction ≡ Binary
        → gave (class x.instruction) x ≡ word_of_expression W ρ (binary_expression x.instruction (value_of t x.instruction.b) (value_of t x.instruction.c))
    unfolding gave expression_word
    word_two x e = rw (e, H.slot= x.instruction.b, H.slot= x.instruction.c)

    -- the word that an instruction gives is the word of the value that it stores
    pub stores_word : (x : Cell) (v : Atom) → Stores S t x.instruction v → gave (class x.instruction) x ≡ word_of ρ v
    unfolding gave word_of unary_word binary_word
    stores_word x v (loads e) = rw e
    stores_word x v (constant e q) = rw e (constant_word_lem _ _ v q)
    stores_word x v (copies e) = rw e (sym (H.slot= x.instruction.b))
    stores_word x v (folds_one e f q) = rw (e, f, holds_word q)
    stores_word x v (folds_two e f q r) = rw (e, f, holds_word q, holds_word r)
    stores_word x v (equals_one e q) = word_one x e ∙ sym (H.expression= _ v q)
    stores_word x v (equals_two e q) = word_two x e ∙ sym (H.expression= _ v q)

    module _ (x : Cell) (m : Meant x) where
      abbrev i : Instruction
      i = x.instruction

      -- both give slot a one word
      both_single : (k l : Class) (y : Cell) → class i ≡ k → is_single k ≡ true → class y.instruction ≡ l → is_single l ≡ true → y.instruction.a ≡ i.a → Meant y
          → gave l y ≡ gave k x → do_at y ≡ do_at x
      both_single k l y e s f u a n g = do_single l y f u n ∙ ap₂ Sets a g ∙ sym (do_single k x e s m)

      -- both move alike
      both_quiet : (k l : Class) (y : Cell) → class i ≡ k → Quiet k → class y.instruction ≡ l → Quiet l → Meant y → jumps l y ≡ jumps k x
          → Moves (jumps k x) (target_by l p y.instruction) ≡ Moves (jumps k x) (target_by k p i) → do_at y ≡ do_at x
      both_quiet k l y e q f u n j g = do_quiet l y f u n ∙ ap (λ (b : Bool). Moves b (target_by l p y.instruction)) j ∙ g ∙ sym (do_quiet k x e q m)

      -- both return one word
      both_return : (y : Cell) (r : ℕ) → y ≡ rewrite x (set_a i r) → class i ≡ Return → i.b ≡ 1 → σ r ≡ σ i.a → Meant y → do_at y ≡ do_at x
      unfolding perform event
      both_return y r y= e b v n =
          let f : class y.instruction ≡ Return = rw y= e in
          let c : y.instruction.b ≡ 1 = rw y= b in
          let a : σ y.instruction.a ≡ σ i.a = rw y= v in
          let w : map σ (slots_of (all_reads T y)) ≡ map σ (slots_of (all_reads T x)) = words_one y f c ∙ ap (λ (u : ℕ). u ∷ []) a ∙ sym (words_one x e b) in
          do_return y f n ∙ rw (w, y=) (sym (do_return x e m))

      -- the word of a tested slot that holds a known integer
      known : (v : ℕ) → value_of t i.a ≡ Integer v → σ i.a ≡ v
      unfolding word_of
      known v e = holds_word e

      taken : (k : Class) → class i ≡ k → Quiet k → jumps k x ≡ true → target_by Jump p (plain op.Jump 0 i.b i.c) ≡ target_by k p i
          → Meant (rewrite x (plain op.Jump 0 i.b i.c)) → do_at (rewrite x (plain op.Jump 0 i.b i.c)) ≡ do_at x
      unfolding jumps class_of single
      taken k e q j g n = both_quiet k Jump (rewrite x (plain op.Jump 0 i.b i.c)) e q refl jump n (sym j) (ap (Moves (jumps k x)) g)

      passed : (k : Class) → class i ≡ k → Quiet k → jumps k x ≡ false → Meant (rewrite x (plain op.Hint 0 0 0)) → do_at (rewrite x (plain op.Hint 0 0 0)) ≡ do_at x
      unfolding jumps class_of single
      passed k e q j n = both_quiet k Hint (rewrite x (plain op.Hint 0 0 0)) e q refl hint n (sym j) (rw j)

      -- An instruction that is justified does the same.
      pub justified_same : (j : Instruction) → Justified S t i j → Meant (rewrite x j) → do_at (rewrite x j) ≡ do_at x
      unfolding number_of gave jumps target_by class_of single word_of
      justified_same j stays n = refl
      justified_same j (operand (inl e) v l) n = both_single Copy Copy (rewrite x j) e refl e refl refl n (same_word v)
      justified_same j (operand (inr e) v l) n = both_single Unary Unary (rewrite x j) e refl e refl refl n (rw (same_word v))
      justified_same j (operands e v w l k) n = both_single Binary Binary (rewrite x j) e refl e refl refl n (rw (same_word v, same_word w))
      justified_same j (tested (inl e) v l) n = both_quiet JumpIf JumpIf (rewrite x j) e jump_if e jump_if n (rw (same_word v)) refl
      justified_same j (tested (inr e) v l) n = both_quiet JumpIfNot JumpIfNot (rewrite x j) e jump_if_not e jump_if_not n (rw (same_word v)) refl
      justified_same j (returned {r = r} e b v l) n = both_return (rewrite x j) r refl e b (same_word v) n
      justified_same j (loaded {v = v} s st f h) n =
          both_single (class i) LoadInt (rewrite x j) refl s refl refl refl n (imm_fits i.a v f h ∙ sym (stores_word x (Integer v) st))
      justified_same j (copied {v = v} s st q l) n = both_single (class i) Copy (rewrite x j) refl s refl refl refl n (holds_word q ∙ sym (stores_word x v st))
      justified_same j (taken_if e v z) n = taken JumpIf e jump_if (rw (known _ v, z)) refl n
      justified_same j (taken_if_not e v z) n = taken JumpIfNot e jump_if_not (rw (known _ v, z)) refl n
      justified_same j (passed_if e v z) n = passed JumpIf e jump_if (rw (known _ v, z)) n
      justified_same j (passed_if_not e v z) n = passed JumpIfNot e jump_if_not (rw (known _ v, z)) n
