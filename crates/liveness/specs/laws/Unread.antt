-- Dead stores, of a set of slots: what is dead by its class is what the definition calls dead, for any row that the set holds.
-- Assumes nothing.
use Rattle.std.specs.Prelude.{◌≡◌, refl, Bool, true, false, cond, not, ◌&&◌, List, ℕ, zero, suc, ◌+◌, get_or}
use Rattle.std.proofs.Common.{◌∙◌, arith}
use Rattle.std.proofs.Math.Bool.{and-true}
use Rattle.words.specs.Lists.{every}
use Rattle.instruction.specs.declared.Instruction.{Instruction}
use Rattle.instruction.specs.declared.Class.{Class}
use Rattle.instruction.specs.declared.Class.TheVariants.{Hint, LoadInt, LoadConst, Copy, CopyN, Unary, Binary, Jump, JumpIf, JumpIfNot, ForLoop, Return, Panic, Outside, Invalid}
use Rattle.instruction.specs.Class.{is_pure}
use Rattle.instruction.specs.Instruction.{class}
use Rattle.effects.specs.declared.Range.{Range}
use Rattle.effects.specs.Shape.{Sections, Cell}
use Rattle.effects.specs.Effects.{writes, all_of}
use Rattle.effects.specs.laws.Form.{empty_range}
use Rattle.effects.specs.laws.ByClass.{is_outside, writes_by_class}
use Rattle.effects.proofs.laws.ByClass.{writes_by_class_lem}
use Rattle.values.specs.Number.{is_scalar}
use Rattle.use_def.specs.laws.Free.{free_slot, free_range, dead_by}
use Rattle.liveness.specs.Live.{Row}
use Rattle.liveness.specs.Dead.{unread, is_dead}
use Rattle.liveness.specs.laws.Shown.{Holds}

every_same : (n : ℕ) (f g : ℕ → Bool) → ((k : ℕ) → f k ≡ g k) → every n f ≡ every n g
unfolding every
every_same zero f g e = refl
every_same (suc n) f g e = rw (e n, every_same n f g e)

-- a pure instruction writes one range
pub pure_inside : (k : Class) → is_pure k ≡ true → is_outside k ≡ false
unfolding is_pure is_outside
pure_inside Hint e = refl
pure_inside LoadInt e = refl
pure_inside LoadConst e = refl
pure_inside Copy e = refl
pure_inside CopyN e = refl
pure_inside Unary e = refl
pure_inside Binary e = refl
pure_inside Jump e = refl
pure_inside JumpIf e = refl
pure_inside JumpIfNot e = refl
pure_inside ForLoop e = refl
pure_inside Return e = refl
pure_inside Panic e = refl
pure_inside Outside e = let z : ◌≡◌ {A = ℕ} 0 1 = cc in absurd (omega arith)
pure_inside Invalid e = let z : ◌≡◌ {A = ℕ} 0 1 = cc in absurd (omega arith)

pure_one : (k : Class) (i : Instruction) (f : Range → Bool) → is_pure k ≡ true → all_of f (writes_by_class k i) ≡ f (get_or (writes_by_class k i) 0 empty_range)
unfolding is_pure writes_by_class all_of
pure_one Hint i f e = let z : ◌≡◌ {A = ℕ} 0 1 = cc in absurd (omega arith)
pure_one LoadInt i f e = and-true (f (record { start = i.a; count = 1 }))
pure_one LoadConst i f e = and-true (f (record { start = i.a; count = 1 }))
pure_one Copy i f e = and-true (f (record { start = i.a; count = 1 }))
pure_one CopyN i f e = and-true (f (record { start = i.a; count = i.c }))
pure_one Unary i f e = and-true (f (record { start = i.a; count = 1 }))
pure_one Binary i f e = and-true (f (record { start = i.a; count = 1 }))
pure_one Jump i f e = let z : ◌≡◌ {A = ℕ} 0 1 = cc in absurd (omega arith)
pure_one JumpIf i f e = let z : ◌≡◌ {A = ℕ} 0 1 = cc in absurd (omega arith)
pure_one JumpIfNot i f e = let z : ◌≡◌ {A = ℕ} 0 1 = cc in absurd (omega arith)
pure_one ForLoop i f e = let z : ◌≡◌ {A = ℕ} 0 1 = cc in absurd (omega arith)
pure_one Return i f e = let z : ◌≡◌ {A = ℕ} 0 1 = cc in absurd (omega arith)
pure_one Panic i f e = let z : ◌≡◌ {A = ℕ} 0 1 = cc in absurd (omega arith)
pure_one Outside i f e = let z : ◌≡◌ {A = ℕ} 0 1 = cc in absurd (omega arith)
pure_one Invalid i f e = let z : ◌≡◌ {A = ℕ} 0 1 = cc in absurd (omega arith)

-- the definition's answer
pub dead_by_lem : (S : Sections) (x : Cell) (after : Row) (row : List ℕ) → Holds row after → is_dead S x after ≡ dead_by S.types row x.instruction
unfolding is_dead unread
dead_by_lem S x after row h = go (is_pure (class x.instruction)) refl
  where
    go : (t : Bool) → is_pure (class x.instruction) ≡ t → cond t (all_of (unread S after) (writes S.tables x)) false
        ≡ cond t (free_range S.types row (get_or (writes_by_class (class x.instruction) x.instruction) 0 empty_range)) false
    go true e =
        let r : Range = get_or (writes_by_class (class x.instruction) x.instruction) 0 empty_range in
        rw (writes_by_class_lem S.tables x (pure_inside (class x.instruction) e))
        (pure_one (class x.instruction) x.instruction (unread S after) e
        ∙ every_same r.count (λ k. is_scalar S (r.start + k) && not (get_or after (r.start + k) false)) (λ k. free_slot S.types row (r.start + k)) (λ k. rw (h (r.start + k))))
    go false e = refl
