-- An instruction's refusal by the tests of its ranges.
-- Assumes nothing.
use Rattle.std.proofs.Math.Path.{◌≡◌, sym, ap}
use Rattle.std.specs.Prelude.{refl, Bool, ◌&&◌, ◌||◌, List, [], ◌∷◌, ◌++◌, ℕ, zero, suc, ◌+◌, ◌/◌, ◌≤◌, ◌<◌, eqb, ltb, length, get_or}
use Rattle.std.proofs.Common.{◌∙◌, add-one}
use Rattle.std.proofs.Math.Bool.{true, false, cond, and-false}
use native.Mathlib.Omega.{arith}
use Rattle.std.proofs.Math.Dec.{leb}
use borrow.Author.Tests.{leb-true, lt-ltb, le-ltb, le-leb, lt-leb, eq-eqb, ne_eqb}
use Rattle.words.specs.Lists.{every}
use Rattle.words.specs.laws.Lists.{every_at, every_all}
use Rattle.words.specs.laws.Truth.{left_true, right_true, same_bool}
use Rattle.instruction.specs.Opcode as op
use Rattle.unit.specs.Size.{case_size}
use Rattle.unit.specs.Entry.{good_metadata, kind_select_exec_layout, kind_loop_end}
use Rattle.unit.specs.Refusal.{invalid_opcode, effect_error, slot_outside}
use Rattle.effects.specs.declared.Range.{Range}
use Rattle.effects.specs.Shape.{Tables, Cell, kind, is_kind, met}
use Rattle.effects.specs.Table.{read_shape, array_shape, write_shape, shape_in}
use Rattle.effects.specs.Effects.{all_reads, sure_writes, perhaps_writes, writes, demands_met, range_fits, range_within, all_of}
use Rattle.effects.specs.Check.{effects_sound, operand_refusal}
use Rattle.effects.specs.laws.Form.{empty_range}
use Rattle.effects.specs.laws.Ranges.{CasesInside}

-- as many slots as 16 bits number
abbrev pub slots : ℕ
slots = 65536

-- no effect error, and no slot at or past the limit
unfoldable pub range_holds : ℕ → Range → Bool
range_holds limit r = range_fits r && range_within limit r

-- ---- all ranges of a list

pub all_append : (f : Range → Bool) (xs ys : List Range) → all_of f (xs ++ ys) ≡ (all_of f xs && all_of f ys)
unfolding all_of
all_append f [] ys = refl
all_append f (x ∷ xs) ys = go (f x) (all_append f xs ys)
  where
    go : (t : Bool) → all_of f (xs ++ ys) ≡ (all_of f xs && all_of f ys) → (t && all_of f (xs ++ ys)) ≡ (t && all_of f xs && all_of f ys)
    go true e = e
    go false e = refl

pub all_same : (f g : Range → Bool) → ((r : Range) → f r ≡ g r) → (l : List Range) → all_of f l ≡ all_of g l
unfolding all_of
all_same f g e [] = refl
all_same f g e (r ∷ rs) = rw (e r, all_same f g e rs)

pub all_both : (f g : Range → Bool) (l : List Range) → all_of (λ r. f r && g r) l ≡ (all_of f l && all_of g l)
unfolding all_of
all_both f g [] = refl
all_both f g (r ∷ rs) = go (f r) (g r) (all_of f rs) (all_of g rs) (all_both f g rs)
  where
    go : (a b c d : Bool) → all_of (λ r. f r && g r) rs ≡ (c && d) → (a && b && all_of (λ r. f r && g r) rs) ≡ (a && c && (b && d))
    go true true c d e = e
    go true false true d e = refl
    go true false false d e = refl
    go false b c d e = refl

pub all_at : (f : Range → Bool) (l : List Range) → all_of f l ≡ true → (k : ℕ) → k < length l → f (get_or l k empty_range) ≡ true
unfolding all_of
all_at f [] e k h = absurd (omega arith)
all_at f (r ∷ rs) e zero h = left_true (f r) (all_of f rs) e
all_at f (r ∷ rs) e (suc k) h = all_at f rs (right_true (f r) (all_of f rs) e) k (omega arith)

pub all_of_lem : (f : Range → Bool) (l : List Range) → ((k : ℕ) → k < length l → f (get_or l k empty_range) ≡ true) → all_of f l ≡ true
unfolding all_of
all_of_lem f [] h = refl
all_of_lem f (r ∷ rs) h = rw (h 0 (omega arith)) (all_of_lem f rs (λ k g. h (suc k) (omega arith)))

-- one by one, by their numbers below n
pub every_range : (f : Range → Bool) (l : List Range) (n : ℕ) → n ≡ length l → every n (λ k. f (get_or l k empty_range)) ≡ all_of f l
every_range f l n e =
    rw e
    (same_bool (every (length l) (λ k. f (get_or l k empty_range))) (all_of f l) (λ h. all_of_lem f l (every_at (length l) (λ k. f (get_or l k empty_range)) h))
    (λ h. every_all (length l) (λ k. f (get_or l k empty_range)) (all_at f l h)))

-- ---- one range

module _ (limit : ℕ) (r : Range) where
  pub holds_late : 65535 < r.start → range_holds limit r ≡ false
  unfolding range_holds range_fits
  holds_late h = rw (lt-leb r.start 65535 h)

  module _ (h : r.start ≤ 65535) where
    pub holds_empty : r.count ≡ 0 → range_holds limit r ≡ true
    unfolding range_holds range_fits range_within
    holds_empty e = rw (le-leb r.start 65535 h, eq-eqb r.count 0 e)

    module _ (some : r.count ≡ 0 → ⊥) where
      pub holds_long : 65535 < r.count → range_holds limit r ≡ false
      unfolding range_holds range_fits
      holds_long l = rw (le-leb r.start 65535 h, ne_eqb r.count 0 some, lt-leb r.count 65535 l)

      pub holds_sum : r.count ≤ 65535 → limit ≤ slots → range_holds limit r ≡ leb (r.start + r.count) limit
      unfolding range_holds range_fits range_within
      holds_sum l few = rw (le-leb r.start 65535 h, ne_eqb r.count 0 some, le-leb r.count 65535 l) (go (leb (r.start + r.count) limit) refl)
        where
          go : (t : Bool) → leb (r.start + r.count) limit ≡ t → (leb (r.start + r.count) slots && t) ≡ t
          go true e =
              let inside : r.start + r.count ≤ limit = leb-true (r.start + r.count) limit e in
              let all : r.start + r.count ≤ slots = omega arith in
              rw (le-leb (r.start + r.count) slots all)
          go false e = and-false (leb (r.start + r.count) slots)

-- where the limit is all slots, a range that is no error holds
-- one slot
pub holds_one : (limit t : ℕ) → t < slots → limit ≤ slots → range_holds limit (record { start = t; count = 1 }) ≡ ltb t limit
holds_one limit t h few =
    let start : t ≤ 65535 = omega arith in
    let some : ◌≡◌ {A = ℕ} 1 0 → ⊥ = λ e. omega arith in
    holds_sum limit (record { start = t; count = 1 }) start some (omega arith) few ∙ rw add-one

pub holds_all : (r : Range) → range_holds slots r ≡ range_fits r
unfolding range_holds range_fits range_within
holds_all r = go (leb r.start 65535) (eqb r.count 0) (leb r.count 65535) (leb (r.start + r.count) slots)
  where
    go : (a b c d : Bool) → (a && (b || c && d) && (b || d)) ≡ (a && (b || c && d))
    go false b c d = refl
    go true true c d = refl
    go true false false d = refl
    go true false true true = refl
    go true false true false = refl

-- ---- one instruction

module _ (T : Tables) (x : Cell) where
  -- all ranges
  abbrev ranges : List Range
  ranges = all_reads T x ++ writes T x

  -- those that are read, surely written and perhaps written
  pub all_ranges : (f : Range → Bool) → all_of f (all_reads T x ++ writes T x) ≡ (all_of f (all_reads T x) && (all_of f (sure_writes T x) && all_of f (perhaps_writes T x)))
  unfolding writes
  all_ranges f = rw (all_append f (all_reads T x) (sure_writes T x ++ perhaps_writes T x), all_append f (sure_writes T x) (perhaps_writes T x))

  all_fit : all_of (range_holds slots) ranges ≡ all_of range_fits ranges
  all_fit = all_same (range_holds slots) range_fits holds_all ranges

  pub unsound_demand : demands_met T x ≡ false → effects_sound T x ≡ false
  unfolding effects_sound
  unsound_demand e = rw e

  pub sound_ranges : demands_met T x ≡ true → effects_sound T x ≡ all_of (range_holds slots) (all_reads T x ++ writes T x)
  unfolding effects_sound
  sound_ranges e = rw (e, all_fit)

  -- good metadata that SelectExec's demands are met by
  pub cases_inside : good_metadata (length T.cases / case_size) x.metadata ≡ true → demands_met T x ≡ true → CasesInside T.cases x
  unfolding good_metadata demands_met met is_kind read_shape shape_in
  cases_inside good demand e =
      let wanted : (read_shape x.instruction.op).demand ≡ kind kind_select_exec_layout = ap (λ (o : ℕ). (read_shape o).demand) e in
      let read : met T x (read_shape x.instruction.op).demand ≡ true =
      left_true (met T x (read_shape x.instruction.op).demand) (met T x (array_shape x.instruction.op).demand)
      (left_true _ (met T x (write_shape x.instruction.op).demand) demand) in
      let known : met T x (kind kind_select_exec_layout) ≡ true = ap (met T x) (sym wanted) ∙ read in
      leb-true (x.metadata.first + x.metadata.second) (length T.cases / case_size) (inner (leb x.metadata.kind kind_loop_end) (leb x.metadata.ok 1) (eqb x.metadata.kind kind_select_exec_layout) (leb (x.metadata.first + x.metadata.second) (length T.cases / case_size)) good known)
    where
      inner : (a b c d : Bool) → cond a (cond b (cond c d true) false) false ≡ true → c ≡ true → d ≡ true
      inner true true true d e f = e
      inner true true false d e f = let z : ◌≡◌ {A = ℕ} 0 1 = cc in absurd (omega arith)
      inner true false c d e f = let z : ◌≡◌ {A = ℕ} 0 1 = cc in absurd (omega arith)
      inner false b c d e f = let z : ◌≡◌ {A = ℕ} 0 1 = cc in absurd (omega arith)

  module _ (s : ℕ) where
    holding : all_of (range_holds s) ranges ≡ (all_of range_fits ranges && all_of (range_within s) ranges)
    unfolding range_holds
    holding = all_both range_fits (range_within s) ranges

    pub refused_invalid : op.max_valid < x.instruction.op → operand_refusal s T x ≡ invalid_opcode
    unfolding operand_refusal
    refused_invalid h = rw (lt-ltb op.max_valid x.instruction.op h)

    module _ (h : x.instruction.op ≤ op.max_valid) where
      pub refused_demand : demands_met T x ≡ false → operand_refusal s T x ≡ effect_error
      unfolding operand_refusal
      refused_demand e = rw (le-ltb op.max_valid x.instruction.op h, unsound_demand e)

      module _ (e : demands_met T x ≡ true) where
        pub refused_fit : all_of (range_holds slots) (all_reads T x ++ writes T x) ≡ false → operand_refusal s T x ≡ effect_error
        unfolding operand_refusal
        refused_fit q = rw (le-ltb op.max_valid x.instruction.op h, sound_ranges e, q)

        pub not_refused : all_of (range_holds s) (all_reads T x ++ writes T x) ≡ true → operand_refusal s T x ≡ 0
        unfolding operand_refusal effects_sound
        not_refused q =
            let both : (all_of range_fits ranges && all_of (range_within s) ranges) ≡ true = sym holding ∙ q in
            let fit : all_of range_fits ranges ≡ true = left_true (all_of range_fits ranges) (all_of (range_within s) ranges) both in
            let within : all_of (range_within s) ranges ≡ true = right_true (all_of range_fits ranges) (all_of (range_within s) ranges) both in
            rw (le-ltb op.max_valid x.instruction.op h, e, fit, within)

        pub refused_within : all_of (range_holds s) (all_reads T x ++ writes T x) ≡ false → all_of (range_holds slots) (all_reads T x ++ writes T x) ≡ true → operand_refusal s T x ≡ slot_outside
        unfolding operand_refusal effects_sound
        refused_within q f =
            let fit : all_of range_fits ranges ≡ true = sym all_fit ∙ f in
            let within : all_of (range_within s) ranges ≡ false = sym (rw fit at holding) ∙ q in
            rw (le-ltb op.max_valid x.instruction.op h, e, fit, within)
