-- The run of a unit's function, by the bytes of its sections.
-- Assumes nothing.
use Rattle.std.specs.Prelude.{Option, Some, None, ◌≡◌, ℕ, zero, suc, ◌+◌, ◌-◌, ◌*◌, ◌/◌, ◌^◌, ◌<◌, ◌≤◌, Bool, true, false, cond, ◌&&◌, List, [], ◌∷◌, length, ◌≢◌, nat_lt, slice_index}
use Rattle.std.proofs.Math.Path.{refl, sym, ap}
use Rattle.std.proofs.Common.{◌∙◌, true≢false, arith, ltb-true, ltb-false, lt-ltb, le-ltb}
use Rattle.words.specs.Bytes.{Bytes}
use Rattle.instruction.specs.Class.{named_class, number_of}
use Rattle.instruction.specs.laws.Class.{named_number}
use Rattle.instruction.specs.Instruction.{class, instruction_at}
use Rattle.instruction.specs.declared.Class.{Class}
use Rattle.instruction.specs.declared.Class.TheVariants.{Hint, LoadInt, LoadConst, Copy, CopyN, Unary, Binary, Jump, JumpIf, JumpIfNot, ForLoop, Return, Panic, Outside, Invalid}
use Rattle.instruction.specs.declared.Instruction.{Instruction}
use Rattle.unit.specs.Layout.{is_unit, code_of, constants_of}
use Rattle.unit.proofs.laws.UnitLaws.{unit_laid}
use Rattle.unit.specs.declared.Constant.{Constant}
use Rattle.unit.specs.declared.Constant.TheVariants.{Nil, Bool as BoolConstant, Int, Float, String}
use Rattle.unit.specs.Entry.{constant_at}
use Rattle.effects.specs.Check.{operand_refusal}
use Rattle.effects.specs.Shape.{Cell, cell_at}
use Rattle.answer.specs.Answer.{cells_of, sections_of}
use Rattle.run.proofs.Given.{cell_at_lem, cells_long}
use Rattle.run.specs.Returned.{given_function}
use Rattle.run.specs.laws.Runnable.{Runnable}
use Rattle.run.specs.laws.Slots.{named_of}
use Rattle.effects.specs.Effects.{all_reads, writes, range_within, all_of}
use Rattle.effects.specs.declared.Range.{Range}
use Rattle.effects.specs.laws.ByClass.{is_outside, reads_by_class, writes_by_class}
use Rattle.effects.proofs.laws.ByClass.{reads_by_class_lem, writes_by_class_lem}
use Rattle.effects.specs.laws.Sound.{sound, within_slot}
use Rattle.words.specs.Lists.{is_in}
use Rattle.words.specs.laws.Truth.{left_true, right_true}
use Rattle.values.specs.Fold.{folding_unary, folding_binary}
use Rattle.desk.specs.declared.Stop.{Stop}
use Rattle.desk.specs.declared.Stop.TheVariants.{Returned, Panicked, Ended, Other, Limit}
use Rattle.desk.specs.Desk.{Due, goes, stops, not_executed, loads, due_by, due_at}
use Rattle.desk.specs.laws.Advance.{Advance, stands, advanced, stop_by, stop_at}
use Rattle.desk.proofs.laws.Advance.{at_once, goes_on_lem, stays_there}
use Rattle.desk.specs.laws.Priced as priced
use Rattle.desk.proofs.laws.Priced as priced_laws
use Rattle.desk.proofs.laws.Checking.{places, places_few, read_cell}
use Rattle.desk.specs.laws.Execution.{goes_to, frame_after, due_in, Executable}
use Rattle.desk.specs.laws.Stands.{is_executed}

-- ---- the places of a unit's code

module _ (u : List ℕ) (laid : is_unit u ≡ true) where
  pub place_inside : (code : List ℕ) (p : ℕ) → code ≡ code_of u → p < length (cells_of u) → 8 * p + 8 ≤ length code
  place_inside code p e h = let l = (unit_laid u laid).lengths.code in rw e (omega (arith, l, cells_long u))

  pub due_in_lem : (code constants : List ℕ) (p : ℕ) (f : List ℕ) → code ≡ code_of u → constants ≡ constants_of u → p < length (cells_of u)
      → due_at (sections_of u) (cells_of u) p f ≡ due_in code constants p f
  unfolding sections_of
  due_in_lem code constants p f c k h = rw (c, k, cell_at_lem u p (omega (arith, cells_long u))) refl

-- ---- how it stops, by the class

-- what no step stops at
unfoldable pub Going : Due → Type 0
Going (goes q g) = Unit {0}
Going (stops s) = ⊥
Going not_executed = Unit {0}

going_loads : (p a : ℕ) (f : List ℕ) (c : Option Constant) → Going (loads p f a c)
unfolding Going loads
going_loads p a f (Some Nil) = tt
going_loads p a f (Some (BoolConstant v)) = tt
going_loads p a f (Some (Int v)) = tt
going_loads p a f (Some (Float v)) = tt
going_loads p a f (Some String) = tt
going_loads p a f None = tt

going_cond : (t : Bool) (q : ℕ) (g : List ℕ) → Going (cond t (goes q g) not_executed)
unfolding Going
going_cond true q g = tt
going_cond false q g = tt

-- all classes but Return and Panic
pub going : (constants : List ℕ) (k : Class) (p : ℕ) (i : Instruction) (f : List ℕ) → (number_of k ≢ 11) → (number_of k ≢ 12) → Going (due_by constants k p i f)
unfolding due_by Going number_of
going constants Hint p i f r n = tt
going constants LoadInt p i f r n = tt
going constants LoadConst p i f r n = going_loads p i.a f (constant_at constants i.b)
going constants Copy p i f r n = tt
going constants CopyN p i f r n = tt
going constants Unary p i f r n = going_cond (is_in i.op folding_unary) _ _
going constants Binary p i f r n = going_cond (is_in i.op folding_binary) _ _
going constants Jump p i f r n = tt
going constants JumpIf p i f r n = tt
going constants JumpIfNot p i f r n = tt
going constants ForLoop p i f r n = tt
going constants Return p i f r n = absurd (r refl)
going constants Panic p i f r n = absurd (n refl)
going constants Outside p i f r n = tt
going constants Invalid p i f r n = tt

stop_going : (p l : ℕ) (d : Due) → Going d → is_executed d ≡ true → stop_by p l d ≡ Limit
unfolding Going is_executed stop_by
stop_going p l (goes q g) t e = refl
stop_going p l (stops s) t e = absurd t
stop_going p l not_executed t e = absurd (true≢false (sym e))

stop_none : (p l : ℕ) (d : Due) → is_executed d ≡ false → stop_by p l d ≡ Other p
unfolding is_executed stop_by
stop_none p l (goes q g) e = absurd (true≢false e)
stop_none p l (stops s) e = absurd (true≢false e)
stop_none p l not_executed e = refl

stop_limit : (p : ℕ) (d : Due) → is_executed d ≡ true → stop_by p 0 d ≡ Limit
unfolding is_executed stop_by
stop_limit p (goes q g) e = refl
stop_limit p (stops s) e = refl
stop_limit p not_executed e = absurd (true≢false (sym e))

stop_stops : (p l : ℕ) (s : Stop) → 0 < l → stop_by p l (stops s) ≡ s
unfolding stop_by
stop_stops p zero s h = absurd (omega arith)
stop_stops p (suc l) s h = refl

pub at_end : (u : List ℕ) (l p : ℕ) (f : List ℕ) → length (cells_of u) ≤ p → Ended ≡ stop_at (sections_of u) (cells_of u) l p f
unfolding stop_at
at_end u l p f h = rw (le-ltb p (length (cells_of u)) h)

-- a place that has an instruction
pub record At (u code constants : List ℕ) (p : ℕ) : Type 0 where
  pub laid : is_unit u ≡ true
  pub code_found : code ≡ code_of u
  pub constants_found : constants ≡ constants_of u
  pub inside : p < length (cells_of u)

module _ {u code constants : List ℕ} {p : ℕ} (a : At u code constants p) (l : ℕ) (f : List ℕ) where
  abbrev i : Instruction
  i = instruction_at code p

  due_here : stop_at (sections_of u) (cells_of u) l p f ≡ stop_by p l (due_in code constants p f)
  unfolding stop_at
  due_here = rw (lt-ltb p (length (cells_of u)) a.inside, due_in_lem u a.laid code constants p f a.code_found a.constants_found a.inside)

  pub at_other : is_executed (due_in code constants p f) ≡ false → Other p ≡ stop_at (sections_of u) (cells_of u) l p f
  at_other e = sym (due_here ∙ stop_none p l _ e)

  pub at_limit : is_executed (due_in code constants p f) ≡ true → l ≡ 0 → Limit ≡ stop_at (sections_of u) (cells_of u) l p f
  at_limit e z = sym (due_here ∙ rw z (stop_limit p _ e))

  module _ {j : Instruction} (same : j ≡ instruction_at code p) where
    number_of_lem : {n : ℕ} → number_of (class j) ≡ n → number_of (class (instruction_at code p)) ≡ n
    number_of_lem e = rw same at e

    pub at_return : 0 < l → number_of (class j) ≡ 11 → Returned j.a j.b ≡ stop_at (sections_of u) (cells_of u) l p f
    unfolding due_by named_class
    at_return z n = let is : class i ≡ Return = sym (named_number (class i)) ∙ ap named_class (number_of_lem n) in rw same (sym (due_here ∙ rw is (stop_stops p l _ z)))

    pub at_panic : 0 < l → number_of (class j) ≡ 12 → Panicked j.a 2 ≡ stop_at (sections_of u) (cells_of u) l p f
    unfolding due_by named_class
    at_panic z n = let is : class i ≡ Panic = sym (named_number (class i)) ∙ ap named_class (number_of_lem n) in rw same (sym (due_here ∙ rw is (stop_stops p l _ z)))

    pub at_going : is_executed (due_in code constants p f) ≡ true → (number_of (class j) ≢ 11) → (number_of (class j) ≢ 12) → Limit ≡ stop_at (sections_of u) (cells_of u) l p f
    at_going e r n = sym (due_here ∙ stop_going p l _ (going constants (class i) p i f (rw same at r) (rw same at n)) e)

-- ---- what its instructions ask of a frame

module _ (u : List ℕ) (b : Bytes u) (laid : is_unit u ≡ true) (A : Runnable (given_function u)) (code : List ℕ) (c : code ≡ code_of u) (p : ℕ) (h : p < length (cells_of u)) where
  abbrev x : Cell
  x = cell_at (cells_of u) p

  first_within : (s : ℕ) (r : Range) (rs : List Range) → all_of (range_within s) (r ∷ rs) ≡ true → range_within s r ≡ true
  unfolding all_of
  first_within s r rs e = left_true (range_within s r) (all_of (range_within s) rs) e

  room : (s a k : ℕ) → range_within s (record { start = a; count = k }) ≡ true → 0 < k → a + k ≤ s
  room s a k e z = let l = within_slot s (a + k - 1) (record { start = a; count = k }) e (omega arith) (omega arith) in omega arith

  unrefused : operand_refusal (sections_of u).locals (sections_of u).tables x ≡ 0
  unfolding given_function
  unrefused = A.operands p h

  reads : class x.instruction ≡ CopyN → range_within (sections_of u).locals (record { start = x.instruction.b; count = x.instruction.c }) ≡ true
  unfolding is_outside reads_by_class
  reads e =
      let o : is_outside (class x.instruction) ≡ false = rw e refl in
      let r : all_reads (sections_of u).tables x ≡ record { start = x.instruction.b; count = x.instruction.c } ∷ [] = reads_by_class_lem (sections_of u).tables x o ∙ rw e in
      first_within _ _ [] (rw r at (sound (sections_of u).locals (sections_of u).tables x unrefused).reads_within)

  writ : class x.instruction ≡ CopyN → range_within (sections_of u).locals (record { start = x.instruction.a; count = x.instruction.c }) ≡ true
  unfolding is_outside writes_by_class
  writ e =
      let o : is_outside (class x.instruction) ≡ false = rw e refl in
      let r : writes (sections_of u).tables x ≡ record { start = x.instruction.a; count = x.instruction.c } ∷ [] = writes_by_class_lem (sections_of u).tables x o ∙ rw e in
      first_within _ _ [] (rw r at (sound (sections_of u).locals (sections_of u).tables x unrefused).writes_within)

  pub executable : (s : ℕ) → s ≡ (sections_of u).locals → Executable s p (instruction_at code p)
  executable s e =
      let same : x.instruction ≡ instruction_at code p = sym (read_cell u p c h) in
      let few = places_few u b in
      rw (← same, e)
      record {
        place = omega arith;
        named = named_of (sections_of u).locals (sections_of u).tables x (class x.instruction) refl unrefused;
        read = λ k z. room _ _ _ (reads k) z;
        written = λ k z. room _ _ _ (writ k) z;
      }

-- ---- the turns of the loop

module _ (u : List ℕ) (laid : is_unit u ≡ true) (code : List ℕ) (c : code ≡ code_of u) (left p : ℕ) where
  abbrev goes_on : Bool
  goes_on = nat_lt 0 left && nat_lt p (length code / 8)

  -- a step is left, and there is an instruction
  pub turn_inside : goes_on ≡ true → (0 < left) × (p < length (cells_of u))
  turn_inside t =
      let n = places u laid c in
      let some = ltb-true 0 left (left_true (nat_lt 0 left) (nat_lt p (length code / 8)) t) in
      let inside = ltb-true p (length code / 8) (right_true (nat_lt 0 left) (nat_lt p (length code / 8)) t) in
      (some, omega arith)

  -- or the run goes no further
  pub turn_over : (f : List ℕ) → goes_on ≡ false → advanced (sections_of u) (cells_of u) left p f ≡ stands p left f
  unfolding advanced
  turn_over f t = go left (nat_lt p (length code / 8)) refl t
    where
      go : (left : ℕ) (b : Bool) → nat_lt p (length code / 8) ≡ b → (nat_lt 0 left && b) ≡ false → advanced (sections_of u) (cells_of u) left p f ≡ stands p left f
      go zero b e t = refl
      go (suc k) true e t = absurd (true≢false (rw (lt-ltb 0 (suc k) (omega arith)) at t))
      go (suc k) false e t = at_once (sections_of u) (cells_of u) (suc k) p f (rw (← places u laid c) (ltb-false p (length code / 8) e))

  pub priced_turn_over : (tariff : List ℕ) (v : ℕ) (f : List ℕ) → goes_on ≡ false → priced.advanced (sections_of u) (cells_of u) tariff left p v f ≡ priced.stands p left v f
  unfolding priced.advanced
  priced_turn_over tariff v f t = go left (nat_lt p (length code / 8)) refl t
    where
      go : (left : ℕ) (b : Bool) → nat_lt p (length code / 8) ≡ b → (nat_lt 0 left && b) ≡ false → priced.advanced (sections_of u) (cells_of u) tariff left p v f ≡ priced.stands p left v f
      go zero b e t = refl
      go (suc k) true e t = absurd (true≢false (rw (lt-ltb 0 (suc k) (omega arith)) at t))
      go (suc k) false e t = priced_laws.at_once (sections_of u) (cells_of u) tariff (suc k) p v f (rw (← places u laid c) (ltb-false p (length code / 8) e))

-- a turn: a step is left, and the instruction at p is one of the function's
pub record Turn (u code constants : List ℕ) (left p : ℕ) (f : List ℕ) : Type 0 where
  pub bytes : Bytes u
  pub laid : is_unit u ≡ true
  pub runnable : Runnable (given_function u)
  pub code_found : code ≡ code_of u
  pub constants_found : constants ≡ constants_of u
  pub some : 0 < left
  pub inside : p < length (cells_of u)
  pub frame : length f ≡ (sections_of u).locals

module _ {u code constants : List ℕ} {left p : ℕ} {f : List ℕ} (t : Turn u code constants left p f) where
  pub turn_executable : (8 * p + 8 ≤ length code) × Executable (length f) p (instruction_at code p)
  turn_executable =
      (place_inside u t.laid code p t.code_found t.inside, executable u t.bytes t.laid t.runnable code t.code_found p t.inside (length f) t.frame)

  abbrev here : Advance
  here = advanced (sections_of u) (cells_of u) left p f

  due : due_at (sections_of u) (cells_of u) p f ≡ due_in code constants p f
  due = due_in_lem u t.laid code constants p f t.code_found t.constants_found t.inside

  again : suc (left - 1) ≡ left
  again = let h = t.some in omega arith

  module _ {q : ℕ} {g : List ℕ} (done : (q ≡ goes_to (due_in code constants p f)) × (g ≡ frame_after f (due_in code constants p f))) where
    pub turn_goes : q < 2 ^ 32 → (advanced (sections_of u) (cells_of u) left p f ≡ advanced (sections_of u) (cells_of u) (left - 1) q g) × (length g ≡ (sections_of u).locals)
    unfolding given_function
    turn_goes l = rw again at (goes_on_lem (given_function u) t.runnable (left - 1) p f q g t.inside t.frame (rw due done.0) (rw due done.1) l)

    pub turn_stays : 2 ^ 32 ≤ q → (advanced (sections_of u) (cells_of u) left p f ≡ stands p left f) × (g ≡ f)
    unfolding given_function
    turn_stays l =
        rw again at (stays_there (given_function u) t.runnable (left - 1) p f q g (places_few u t.bytes) t.inside t.frame (rw due done.0) (rw due done.1) l)

    -- and of a charged run, where v was spent before
    module _ (tariff : List ℕ) (v : ℕ) where
      pub priced_turn_goes : {price : ℕ} → price ≡ slice_index tariff (instruction_at code p).op → q < 2 ^ 32
          → (priced.advanced (sections_of u) (cells_of u) tariff left p v f ≡ priced.advanced (sections_of u) (cells_of u) tariff (left - 1) q (v + price) g)
          × (length g ≡ (sections_of u).locals)
      unfolding given_function
      priced_turn_goes e l =
          let goes = priced_laws.goes_on_lem (given_function u) t.runnable tariff (left - 1) p v f q g t.inside t.frame (rw due done.0) (rw due done.1) l in
          rw (e, read_cell u p t.code_found t.inside) (rw again at goes)

      pub priced_turn_stays : 2 ^ 32 ≤ q → (priced.advanced (sections_of u) (cells_of u) tariff left p v f ≡ priced.stands p left v f) × (g ≡ f)
      unfolding given_function
      priced_turn_stays l =
          let stays = priced_laws.stays_there (given_function u) t.runnable tariff (left - 1) p v f q g (places_few u t.bytes) t.inside t.frame (rw due done.0) (rw due done.1) l in
          rw again at stays
