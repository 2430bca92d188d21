-- Value numbering makes justified instructions only, and its table stays true.
-- Assumes nothing.
use Rattle.std.proofs.Math.Path.{◌≡◌, refl}
use Rattle.std.proofs.Common.{sym, inl, inr}
use Rattle.std.specs.Prelude.{Option, None, Some, ◌⊎◌, Bool, ◌&&◌, List, length, get_or}
use Rattle.std.proofs.Math.Bool.{true, false, cond, not}
use Prim.Native.Nat.{ℕ, suc, ◌+◌, ◌*◌, ◌%◌, ◌^◌, ◌<◌, ◌≤◌}
use native.Mathlib.Omega.{arith}
use Rattle.std.proofs.Math.Dec.{eqb}
use borrow.Author.Tests.{eqb-true}
use Rattle.words.specs.Lists.{is_in}
use Rattle.instruction.specs.Opcode as op
use Rattle.instruction.specs.declared.Instruction.{Instruction}
use Rattle.instruction.specs.declared.Class.{Class}
use Rattle.instruction.specs.declared.Class.TheVariants.{Hint, LoadInt, LoadConst, Copy, CopyN, Unary, Binary, Jump, JumpIf, JumpIfNot, ForLoop, Return, Panic, Outside, Invalid}
use Rattle.instruction.specs.Instruction.{imm32, plain, with_imm32, class}
use Rattle.instruction.specs.laws.Instruction.{Fields}
use Rattle.unit.specs.Entry.{constant_at}
use Rattle.effects.specs.Shape.{Sections, Cell}
use Rattle.flow.specs.Branch.{branches, falls}
use Rattle.values.specs.declared.Atom.{Atom}
use Rattle.values.specs.declared.Atom.TheVariants.{Integer, Float, Definition}
use Rattle.values.specs.Fold.{fold_word, folding_unary, folding_binary, fits_imm32}
use Rattle.values.specs.Values.{Values, Expression, empty, at_start, value_of, expression_in, lowest_slot, or_itself, representative, store}
use Rattle.values.proofs.laws.Lowest.{lowest_found}
use Rattle.values.specs.Number.{Numbered, set_a, set_b, set_bc, constant_atom, fold_unary, fold_binary, held_or_stays, folded, is_scalar, stored, copy_or_stay, copied as copiedOf, by_expression, by_value, by_value_with, number_unary, number_unary_with, number_binary, number_binary_with, number_copy, number_constant, number_read, decided, number_jump, number_by, number_by_with, cleared}
use Rattle.values.specs.laws.Named.{Named}
use Rattle.instruction.specs.Class.{number_of}
use Rattle.effects.specs.laws.Single.{is_single}
use Rattle.run.specs.Machine.{Words, Event, World, put}
use Rattle.run.specs.Program.{Function}
use Rattle.run.specs.laws.Small.{sign_small, fold_small}
use Rattle.run.proofs.laws.Valuation.{Valuation, word_of, word_of_expression, Below, integer, float, initially, before, BelowBoth, Static, static_empty, static_suc, static_store, static_learn, Valid, valid_store, valid_learn, define, word_new}
use Rattle.run.specs.laws.Justified.{unary_expression, binary_expression, Stores, loads, constant, copies, folds_one, folds_two, equals_one, equals_two, Justified, stays, operand, operands, tested, returned, loaded, copied, taken_if, taken_if_not, passed_if, passed_if_not}
use Rattle.run.proofs.laws.Justified.{one_slot, one_slot_lem, do_at, Sets, Meant, gave, do_single, stores_word, word_one, word_two, named, single_slot}

-- ---- the slot that stands for another

-- it holds the same value
pub stands : (types : List ℕ) (t : Values) (s : ℕ) → value_of t (representative types t s) ≡ value_of t s
unfolding representative
stands types t s = go (lowest_slot types t (value_of t s) (get_or types s 0)) refl
  where
    go : (o : Option ℕ) → lowest_slot types t (value_of t s) (get_or types s 0) ≡ o → value_of t (or_itself s o) ≡ value_of t s
    go None e = unfold or_itself in refl
    go (Some r) e = unfold or_itself in (lowest_found t (value_of t s) (get_or types s 0) types r e).0

-- and is a slot of the function
stands_inside : (types : List ℕ) (t : Values) (s : ℕ) {width : ℕ} → length types ≤ width → s < width → representative types t s < width
unfolding representative
stands_inside types t s {width} typed l = go (lowest_slot types t (value_of t s) (get_or types s 0)) refl
  where
    go : (o : Option ℕ) → lowest_slot types t (value_of t s) (get_or types s 0) ≡ o → or_itself s o < width
    go None e = unfold or_itself in l
    go (Some r) e = unfold or_itself in (omega (arith, (lowest_found t (value_of t s) (get_or types s 0) types r e).1))

store_valid : {W : World} {ρ : Valuation} {t : Values} {σ : Words} (a : ℕ) (v : Atom) (w : ℕ) → Valid W ρ t σ → word_of ρ v ≡ w
    → Valid W ρ (store t a v) (put (one_slot a) (λ s. w) σ)
store_valid a v w h e = valid_store (one_slot a) a v w (one_slot_lem a) h e

-- ---- one instruction

module _ (F : Function) (W : World) (p : ℕ) (σ : Words) (R : List Event) where
  abbrev S : Sections
  S = F.sections

  -- What is known after a place of the table for the next.
  pub data After (x : Cell) (t : Values) : Type 0 where
    blank : t ≡ empty → After x t
    leads : branches (class x.instruction) ≡ true → After x t
    ends : falls (class x.instruction) ≡ false → After x t
    sets : (w : ℕ) → do_at F W p σ R x ≡ Sets F W p σ R x.instruction.a w → (ρ : Valuation)
        → Valid W ρ t (put (one_slot x.instruction.a) (λ s. w) σ) → After x t

  module _ (x : Cell) (m : Meant F W p σ R x) (early : p < at_start) (typed : length F.sections.types ≤ F.sections.locals) (t : Values) (Q : Static t p) where
    abbrev i : Instruction
    i = x.instruction

    -- The instruction is justified; the table after it is sound by itself, and true where the table before it was.
    pub record Sound (r : Numbered) : Type 0 where
      pub justified : Justified S t i r.instruction
      pub static : Static r.table (suc p)
      pub after : (ρ : Valuation) → Valid W ρ t σ → After x r.table

    clear_sound : Sound (cleared S i)
    clear_sound = record { justified = stays; static = static_empty (suc p); after = λ ρ H. blank refl }

    by_scalar : (r : Numbered) → Sound r → Sound (cond (is_scalar S i.a) r (cleared S i))
    by_scalar r h = go (is_scalar S i.a)
      where
        go : (b : Bool) → Sound (cond b r (cleared S i))
        go true = h
        go false = clear_sound

    slot_a : is_single (class i) ≡ true → i.a < S.locals
    slot_a s = single_slot F W p σ R (class i) x refl s m

    inside : (s : ℕ) → s < S.locals → representative S.types t s < S.locals
    inside s l = stands_inside S.types t s typed l

    -- a store of a value that the table tells
    told_static : (v : Atom) → Below p v → Static (store t i.a v) (suc p)
    told_static v b = static_suc (static_store i.a v Q b)

    told : (v : Atom) → is_single (class i) ≡ true → Stores S t i v → (ρ : Valuation) → Valid W ρ t σ → After x (store t i.a v)
    told v s st ρ H =
        sets (gave F W p σ R (class i) x) (do_single F W p σ R (class i) x refl s m) ρ
        (store_valid i.a v _ H (sym (stores_word F W p σ R ρ t H x v st)))

    -- folded, equal to an earlier expression, or fresh
    module _ (j : Instruction) (e : Expression) (a= : j.a ≡ i.a) (s : is_single (class i) ≡ true) (replaced : Justified S t i j)
        (word : (ρ : Valuation) → Valid W ρ t σ → gave F W p σ R (class i) x ≡ word_of_expression W ρ e) (below : BelowBoth p e)
        (equals : (v : Atom) → expression_in t.expressions e ≡ Some v → Stores S t i v) where
      copy_sound : (v : Atom) → Stores S t i v → (o : Option ℕ) → lowest_slot S.types t v (get_or S.types j.a 0) ≡ o → Justified S t i (copy_or_stay S j o)
      unfolding copy_or_stay
      copy_sound v st None q = replaced
      copy_sound v st (Some r) q =
          let c = lowest_found t v (get_or S.types j.a 0) S.types r q in
          rw a= (copied s st c.0 (omega (arith, c.1)))

      copy_a : (o : Option ℕ) → (copy_or_stay S j o).a ≡ i.a
      unfolding copy_or_stay
      copy_a None = a=
      copy_a (Some r) = a=

      folded_sound : (v : ℕ) → Stores S t i (Integer v) → v < 2 ^ 64 → Justified S t i (folded S (held_or_stays S) j t v)
      unfolding folded copiedOf
      folded_sound v st l = go (fits_imm32 v) refl
        where
          go : (b : Bool) → fits_imm32 v ≡ b → Justified S t i (cond b (with_imm32 (plain op.LoadInt j.a 0 0) (v % 2 ^ 32)) (copy_or_stay S j (lowest_slot S.types t (Integer v) (get_or S.types j.a 0))))
          go true f = rw a= (loaded s st f l)
          go false f = copy_sound (Integer v) st _ refl

      folded_a : (v : ℕ) → (folded S (held_or_stays S) j t v).a ≡ i.a
      unfolding folded copiedOf
      folded_a v = go (fits_imm32 v)
        where
          go : (b : Bool) → (cond b (with_imm32 (plain op.LoadInt j.a 0 0) (v % 2 ^ 32)) (copy_or_stay S j (lowest_slot S.types t (Integer v) (get_or S.types j.a 0)))).a ≡ i.a
          go true = a=
          go false = copy_a _

      expression_sound : (o : Option Atom) → expression_in t.expressions e ≡ o → Sound (by_expression S p j t e o)
      unfolding by_expression stored copiedOf
      expression_sound (Some v) q =
          let st : Stores S t i v = equals v q in
          let a : (copy_or_stay S j (lowest_slot S.types t v (get_or S.types j.a 0))).a ≡ i.a = copy_a (lowest_slot S.types t v (get_or S.types j.a 0)) in
          record {
            justified = copy_sound v st _ refl;
            static = rw a (told_static v (Q.expression< e v q).0);
            after = λ ρ H. rw a (told v s st ρ H);
          }
      expression_sound None q =
          let w : ℕ = gave F W p σ R (class i) x in
          let n : p < suc p = omega arith in
          record {
            justified = replaced;
            static = rw a= (static_store i.a (Definition p i.a) (static_learn e i.a Q below) (before n));
            after = λ ρ H.
                rw a=
                (sets w (do_single F W p σ R (class i) x refl s m) (define ρ p w)
                (store_valid i.a (Definition p i.a) w (valid_learn e i.a w early Q H below (sym (word ρ H))) (word_new ρ p i.a w early)));
          }

      value_sound : (o : Option ℕ) → ((v : ℕ) → o ≡ Some v → Stores S t i (Integer v) × (v < 2 ^ 64)) → Sound (by_value S p j t e o)
      unfolding by_value_with stored
      value_sound (Some v) folds =
          let f = folds v refl in
          record {
            justified = folded_sound v f.0 f.1;
            static = rw (folded_a v) (told_static (Integer v) (integer f.1));
            after = λ ρ H. rw (folded_a v) (told (Integer v) s f.0 ρ H);
          }
      value_sound None folds = expression_sound (expression_in t.expressions e) refl

    -- ---- class by class

    int_inside : (v : ℕ) (u : Atom) → u ≡ Integer v → Below p u → v < 2 ^ 64
    int_inside v u q (integer {v = y} l) = let z : y ≡ v = cc in rw z at l
    int_inside v u q float = let z : ◌≡◌ {A = ℕ} 0 1 = cc in absurd (omega arith)
    int_inside v u q initially = let z : ◌≡◌ {A = ℕ} 0 1 = cc in absurd (omega arith)
    int_inside v u q (before l) = let z : ◌≡◌ {A = ℕ} 0 1 = cc in absurd (omega arith)

    -- what a fold tells
    fold_one_lem : (e : Expression) (u : Atom) (v : ℕ) → fold_unary e u ≡ Some v
        → (y : ℕ) × (u ≡ Integer y) × (is_in e.opcode folding_unary ≡ true) × (fold_word e.opcode e.flags y 0 ≡ v)
    unfolding fold_unary
    fold_one_lem e (Integer y) v q = go (is_in e.opcode folding_unary) refl q
      where
        go : (b : Bool) → is_in e.opcode folding_unary ≡ b → cond b (Some (fold_word e.opcode e.flags y 0)) None ≡ Some v
            → (z : ℕ) × (Integer y ≡ Integer z) × (is_in e.opcode folding_unary ≡ true) × (fold_word e.opcode e.flags z 0 ≡ v)
        go true b q = (y, refl, b, cc)
        go false b q = let z : ◌≡◌ {A = ℕ} 0 1 = cc in absurd (omega arith)
    fold_one_lem e (Float y) v q = let z : ◌≡◌ {A = ℕ} 0 1 = cc in absurd (omega arith)
    fold_one_lem e (Definition q' s) v q = let z : ◌≡◌ {A = ℕ} 0 1 = cc in absurd (omega arith)

    fold_two_lem : (e : Expression) (u w : Atom) (v : ℕ) → fold_binary e u w ≡ Some v
        → (y z : ℕ) × (u ≡ Integer y) × (w ≡ Integer z) × (is_in e.opcode folding_binary ≡ true) × (fold_word e.opcode e.flags y z ≡ v)
    unfolding fold_binary
    fold_two_lem e (Integer y) (Integer z) v q = go (is_in e.opcode folding_binary) refl q
      where
        go : (b : Bool) → is_in e.opcode folding_binary ≡ b → cond b (Some (fold_word e.opcode e.flags y z)) None ≡ Some v
            → (a c : ℕ) × (Integer y ≡ Integer a) × (Integer z ≡ Integer c) × (is_in e.opcode folding_binary ≡ true) × (fold_word e.opcode e.flags a c ≡ v)
        go true b q = (y, z, refl, refl, b, cc)
        go false b q = let z : ◌≡◌ {A = ℕ} 0 1 = cc in absurd (omega arith)
    fold_two_lem e (Integer y) (Float z) v q = let z : ◌≡◌ {A = ℕ} 0 1 = cc in absurd (omega arith)
    fold_two_lem e (Integer y) (Definition q' s) v q = let z : ◌≡◌ {A = ℕ} 0 1 = cc in absurd (omega arith)
    fold_two_lem e (Float y) w v q = let z : ◌≡◌ {A = ℕ} 0 1 = cc in absurd (omega arith)
    fold_two_lem e (Definition q' s) w v q = let z : ◌≡◌ {A = ℕ} 0 1 = cc in absurd (omega arith)

    unary_sound : class i ≡ Unary → Sound (number_unary S p i t)
    unfolding number_unary_with number_of Named
    unary_sound c =
        let b : i.b < S.locals = (named F W p σ R Unary x c m).0 in
        let e : Expression = unary_expression i (value_of t i.b) in
        let z : 0 < 2 ^ 64 = omega arith in
        value_sound (set_b i (representative S.types t i.b)) e refl (rw c refl) (operand (inr c) (stands S.types t i.b) (inside i.b b))
        (λ ρ H. word_one F W p σ R ρ t H x c)
        (record { left = Q.slot< i.b; right = integer z })
        (λ v q. equals_one c q)
        (fold_unary e (value_of t i.b))
        (λ v q.
        let f = fold_one_lem e (value_of t i.b) v q in
        let y : f.0 < 2 ^ 64 = int_inside f.0 (value_of t i.b) f.1 (Q.slot< i.b) in
        (rw (← f.3) (folds_one c f.2 f.1), rw (← f.3) (fold_small i.op i.flags f.0 0 y)))

    binary_sound : class i ≡ Binary → Sound (number_binary S p i t)
    unfolding number_binary_with number_of Named
    binary_sound c =
        let n = named F W p σ R Binary x c m in
        let e : Expression = binary_expression i (value_of t i.b) (value_of t i.c) in
        value_sound (set_bc i (representative S.types t i.b) (representative S.types t i.c)) e refl (rw c refl)
        (operands c (stands S.types t i.b) (stands S.types t i.c) (inside i.b n.0) (inside i.c n.1))
        (λ ρ H. word_two F W p σ R ρ t H x c)
        (record { left = Q.slot< i.b; right = Q.slot< i.c })
        (λ v q. equals_two c q)
        (fold_binary e (value_of t i.b) (value_of t i.c))
        (λ v q.
        let f = fold_two_lem e (value_of t i.b) (value_of t i.c) v q in
        let y : f.0 < 2 ^ 64 = int_inside f.0 (value_of t i.b) f.2 (Q.slot< i.b) in
        (rw (← f.5) (folds_two c f.4 f.2 f.3), rw (← f.5) (fold_small i.op i.flags f.0 f.1 y)))

    copies_sound : class i ≡ Copy → Sound (number_copy S i t)
    unfolding number_copy stored number_of Named
    copies_sound c =
        let b : i.b < S.locals = (named F W p σ R Copy x c m).0 in
        record {
          justified = operand (inl c) (stands S.types t i.b) (inside i.b b);
          static = told_static (value_of t i.b) (Q.slot< i.b);
          after = λ ρ H. told (value_of t i.b) (rw c refl) (copies c) ρ H;
        }

    load_int_sound : class i ≡ LoadInt → Fields i → Sound (stored S i t (Integer (imm32 i)))
    unfolding stored number_of
    load_int_sound c f =
        let k : i.b + 65536 * i.c < 2 ^ 32 = omega arith in
        record {
          justified = stays;
          static = told_static (Integer (imm32 i)) (integer (sign_small 32 _ (omega arith) k));
          after = λ ρ H. told (Integer (imm32 i)) (rw c refl) (loads c) ρ H;
        }

    constant_sound : class i ≡ LoadConst → ((v : Atom) → constant_atom (constant_at S.constants i.b) ≡ Some v → Below p v)
        → Sound (number_constant S i t (constant_atom (constant_at S.constants i.b)))
    unfolding number_of
    constant_sound c small = go (constant_atom (constant_at S.constants i.b)) refl
      where
        go : (o : Option Atom) → constant_atom (constant_at S.constants i.b) ≡ o → Sound (number_constant S i t o)
        go (Some v) q =
            unfold number_constant stored in
            record { justified = stays; static = told_static v (small v q); after = λ ρ H. told v (rw c refl) (constant c q) ρ H }
        go None q = unfold number_constant in clear_sound

    -- an operand that is read, of an instruction after which a block ends
    read_sound : Justified S t i (set_a i (representative S.types t i.a)) → After x t → Sound (number_read S i t)
    unfolding number_read
    read_sound j f = record { justified = j; static = static_suc Q; after = λ ρ H. f }

    jump_sound : (takes : ℕ → Bool) → (class i ≡ JumpIf) ⊎ (class i ≡ JumpIfNot) → i.a < S.locals → branches (class i) ≡ true
        → ((v : ℕ) → value_of t i.a ≡ Integer v → Justified S t i (decided S i (takes v)))
        → (u : Atom) → value_of t i.a ≡ u → Sound (number_jump S takes i t u)
    unfolding number_jump
    jump_sound takes c l b known (Integer v) q = record { justified = known v q; static = static_suc Q; after = λ ρ H. leads b }
    jump_sound takes c l b known (Float v) q = go (is_scalar S i.a)
      where
        go : (u : Bool) → Sound (cond u (number_read S i t) (record { instruction = i; table = t }))
        go true = read_sound (tested c (stands S.types t i.a) (inside i.a l)) (leads b)
        go false = record { justified = stays; static = static_suc Q; after = λ ρ H. leads b }
    jump_sound takes c l b known (Definition q' s) q = go (is_scalar S i.a)
      where
        go : (u : Bool) → Sound (cond u (number_read S i t) (record { instruction = i; table = t }))
        go true = read_sound (tested c (stands S.types t i.a) (inside i.a l)) (leads b)
        go false = record { justified = stays; static = static_suc Q; after = λ ρ H. leads b }

    return_sound : class i ≡ Return → falls (class i) ≡ false → Sound (cond (eqb i.b 1 && is_scalar S i.a) (number_read S i t) (cleared S i))
    unfolding Named
    return_sound c f = go (eqb i.b 1) refl (is_scalar S i.a)
      where
        go : (a : Bool) → eqb i.b 1 ≡ a → (b : Bool) → Sound (cond (a && b) (number_read S i t) (cleared S i))
        go true e true =
            let one : i.b ≡ 1 = eqb-true i.b 1 e in
            let l : i.a < S.locals = named F W p σ R Return x c m one in
            read_sound (returned c one (stands S.types t i.a) (inside i.a l)) (ends f)
        go true e false = clear_sound
        go false e b = clear_sound

    decided_if : class i ≡ JumpIf → (v : ℕ) → value_of t i.a ≡ Integer v → Justified S t i (decided S i (not (eqb v 0)))
    unfolding decided
    decided_if c v q = go (eqb v 0) refl
      where
        go : (b : Bool) → eqb v 0 ≡ b → Justified S t i (cond (not b) (plain op.Jump 0 i.b i.c) (plain op.Hint 0 0 0))
        go true e = passed_if c q e
        go false e = taken_if c q e

    decided_if_not : class i ≡ JumpIfNot → (v : ℕ) → value_of t i.a ≡ Integer v → Justified S t i (decided S i (eqb v 0))
    unfolding decided
    decided_if_not c v q = go (eqb v 0) refl
      where
        go : (b : Bool) → eqb v 0 ≡ b → Justified S t i (cond b (plain op.Jump 0 i.b i.c) (plain op.Hint 0 0 0))
        go true e = taken_if_not c q e
        go false e = passed_if_not c q e

    -- Numbering an instruction makes a justified one, and the table stays true.
    pub number_sound : (k : Class) → class i ≡ k → Fields i → ((v : Atom) → constant_atom (constant_at S.constants i.b) ≡ Some v → Below p v)
        → Sound (number_by S k p i t)
    unfolding number_by_with branches falls Named
    number_sound Hint c f small = clear_sound
    number_sound LoadInt c f small = by_scalar _ (load_int_sound c f)
    number_sound LoadConst c f small = by_scalar _ (constant_sound c small)
    number_sound Copy c f small = by_scalar _ (copies_sound c)
    number_sound CopyN c f small = clear_sound
    number_sound Unary c f small = by_scalar _ (unary_sound c)
    number_sound Binary c f small = by_scalar _ (binary_sound c)
    number_sound Jump c f small = clear_sound
    number_sound JumpIf c f small = jump_sound (λ v. not (eqb v 0)) (inl c) (named F W p σ R JumpIf x c m) (rw c refl) (decided_if c) (value_of t i.a) refl
    number_sound JumpIfNot c f small = jump_sound (λ v. eqb v 0) (inr c) (named F W p σ R JumpIfNot x c m) (rw c refl) (decided_if_not c) (value_of t i.a) refl
    number_sound ForLoop c f small = clear_sound
    number_sound Return c f small = return_sound c (rw c refl)
    number_sound Panic c f small = clear_sound
    number_sound Outside c f small = clear_sound
    number_sound Invalid c f small = clear_sound
