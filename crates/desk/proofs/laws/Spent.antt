-- What a run spends, and that it is never too much.
-- Assumes nothing.
use Rattle.std.specs.Prelude.{Option, Some, None, ◌≡◌, ℕ, zero, suc, ◌+◌, ◌*◌, ◌<◌, ◌≤◌, Bool, true, false, cond, List, [], length, nat_lt, slice_index}
use Rattle.std.proofs.Math.Path.{refl}
use Rattle.std.proofs.Common.{Ok, ap, add-zero, lt-ltb}
use native.Mathlib.Omega.{arith}
use Rattle.words.specs.Lists.{is_in, sum}
use Rattle.words.specs.laws.Lists.{sum_append}
use Rattle.instruction.specs.declared.Class.{Class}
use Rattle.instruction.specs.declared.Class.TheVariants.{Hint, LoadInt, LoadConst, Copy, CopyN, Unary, Binary, Jump, JumpIf, JumpIfNot, ForLoop, Return, Panic, Outside, Invalid}
use Rattle.instruction.specs.declared.Instruction.{Instruction}
use Rattle.instruction.specs.Instruction.{class}
use Rattle.unit.specs.declared.Constant.{Constant}
use Rattle.unit.specs.declared.Constant.TheVariants.{Nil, Bool as BoolConstant, Int, Float, String}
use Rattle.effects.specs.Shape.{Sections, Cell, cell_at}
use Rattle.values.specs.Fold.{folding_unary, folding_binary}
use Rattle.run.proofs.laws.RelocatedRun.{pick}
use Rattle.desk.specs.declared.Stop.{Stop}
use Rattle.desk.specs.declared.Stop.TheVariants.{Ended}
use Rattle.desk.specs.Charge.{price_at, priced, spent_from}
use Rattle.desk.specs.Desk.{Due, goes, stops, not_executed, loads, due_by, due_at, noted_by, notes_from}
use Rattle.desk.specs.laws.Advance.{stop_by, stop_at}
use Rattle.desk.specs.laws.Priced.{Advance, stands, onward, advanced}
use Rattle.desk.specs.laws.Spent.{stop_price}

-- ---- what stops a run is one of the two

unfoldable Costs : ℕ → Due → Type 0
Costs v (goes q g) = Unit {0}
Costs v (stops s) = stop_price v (Ok s) ≡ v
Costs v not_executed = Unit {0}

costs_loads : (v p : ℕ) (f : List ℕ) (a : ℕ) (c : Option Constant) → Costs v (loads p f a c)
unfolding Costs loads
costs_loads v p f a (Some Nil) = tt
costs_loads v p f a (Some (BoolConstant w)) = tt
costs_loads v p f a (Some (Int w)) = tt
costs_loads v p f a (Some (Float w)) = tt
costs_loads v p f a (Some String) = tt
costs_loads v p f a None = tt

costs : (v : ℕ) (constants : List ℕ) (k : Class) (p : ℕ) (i : Instruction) (f : List ℕ) → Costs v (due_by constants k p i f)
unfolding Costs due_by stop_price
costs v constants Hint p i f = tt
costs v constants LoadInt p i f = tt
costs v constants LoadConst p i f = costs_loads v p f _ _
costs v constants Copy p i f = tt
costs v constants CopyN p i f = tt
costs v constants Unary p i f = pick (Costs v) (is_in i.op folding_unary) tt tt
costs v constants Binary p i f = pick (Costs v) (is_in i.op folding_binary) tt tt
costs v constants Jump p i f = tt
costs v constants JumpIf p i f = tt
costs v constants JumpIfNot p i f = tt
costs v constants ForLoop p i f = tt
costs v constants Return p i f = refl
costs v constants Panic p i f = refl
costs v constants Outside p i f = tt
costs v constants Invalid p i f = tt

module _ (S : Sections) (cells : List Cell) (tariff : List ℕ) where
  stop_costs : (v p : ℕ) (f : List ℕ) (s : Stop) → due_at S cells p f ≡ stops s → stop_price v (Ok s) ≡ v
  unfolding Costs
  stop_costs v p f s d = rw d at (costs v S.constants (class (cell_at cells p).instruction) p (cell_at cells p).instruction f)

  abbrev price : ℕ → ℕ
  price = price_at tariff cells

  abbrev all : Advance → ℕ
  all a = a.spent + stop_price (price a.place) (Ok (stop_at S cells a.left a.place a.frame))

  -- what was spent on the way, and on the step by which the run stops, is all
  pub spent_advances : (k p v : ℕ) (f : List ℕ) → let a = advanced S cells tariff k p v f in
      v + spent_from S cells tariff k p f ≡ a.spent + stop_price (price_at tariff cells a.place) (Ok (stop_at S cells a.left a.place a.frame))
  unfolding spent_from notes_from noted_by sum advanced onward stop_at stop_by stop_price
  spent_advances zero p v f = go (nat_lt p (length cells)) (due_at S cells p f)
    where
      go : (t : Bool) (d : Due) → v + 0 ≡ v + stop_price (price p) (Ok (cond t (stop_by p 0 d) Ended))
      go true (goes q g) = refl
      go true (stops s) = refl
      go true not_executed = refl
      go false d = refl
  spent_advances (suc k) p v f = go (spent_advances k) (nat_lt p (length cells)) refl (due_at S cells p f) refl
    where
      go : ((q w : ℕ) (g : List ℕ) → w + sum (notes_from S cells (priced tariff cells) k q g) ≡ all (advanced S cells tariff k q w g)) → (t : Bool) → nat_lt p (length cells) ≡ t → (d : Due) → due_at S cells p f ≡ d
          → v + sum (cond t (noted_by S cells (priced tariff cells) p (notes_from S cells (priced tariff cells) k) d) [])
          ≡ all (cond t (onward (stands p (suc k) v f) (λ q g. advanced S cells tariff k q (v + price p) g) d) (stands p (suc k) v f))
      go ih true e (goes q g) h = rw (sum_append (notes_from S cells (priced tariff cells) k q g) (priced tariff cells p)) (omega (arith, ih q (v + price p) g))
      go ih true e (stops s) h = rw (e, h, stop_costs (price p) p f s h) (ap (λ (w : ℕ). v + w) (add-zero (price p)))
      go ih true e not_executed h = rw (e, h)
      go ih false e d h = rw e

  -- no step costs more than the highest price
  pub spent_most : (most : ℕ) → ((o : ℕ) → slice_index tariff o ≤ most) → (k p : ℕ) (f : List ℕ) → spent_from S cells tariff k p f ≤ most * k
  unfolding spent_from notes_from noted_by sum
  spent_most most b zero p f = omega arith
  spent_most most b (suc k) p f = go (spent_most most b k) (nat_lt p (length cells)) (due_at S cells p f)
    where
      go : ((q : ℕ) (g : List ℕ) → sum (notes_from S cells (priced tariff cells) k q g) ≤ most * k) → (t : Bool) (d : Due) → sum (cond t (noted_by S cells (priced tariff cells) p (notes_from S cells (priced tariff cells) k) d) []) ≤ most * suc k
      go ih true (goes q g) = rw (sum_append (notes_from S cells (priced tariff cells) k q g) (priced tariff cells p)) (omega (arith, ih q g, b (cell_at cells p).instruction.op))
      go ih true (stops s) = omega (arith, b (cell_at cells p).instruction.op)
      go ih true not_executed = omega arith
      go ih false d = omega arith

  -- a jump to itself spends its price with every step
  pub spent_there : (p : ℕ) (f : List ℕ) → p < length cells → due_at S cells p f ≡ goes p f → (k : ℕ) → spent_from S cells tariff k p f ≡ price_at tariff cells p * k
  unfolding spent_from notes_from noted_by sum
  spent_there p f i d zero = omega arith
  spent_there p f i d (suc k) = rw (lt-ltb p (length cells) i, d, sum_append (notes_from S cells (priced tariff cells) k p f) (priced tariff cells p)) (omega (arith, spent_there p f i d k))
