-- What it says of an instruction's slots that its operands are not refused, and back.
-- Assumes nothing.
use Rattle.std.specs.Prelude.{◌≡◌, Bool, false, ◌&&◌, [], ◌∷◌, ◌++◌, ℕ, ◌+◌, ◌<◌, ◌≤◌}
use Rattle.std.proofs.Math.Path.{refl}
use Rattle.std.proofs.Common.{◌∙◌, arith, leb-true, le-leb, le-ltb}
use Rattle.std.proofs.Math.Bool.{true}
use Rattle.std.proofs.lemmas.Bool.{false≢true}
use Rattle.words.specs.laws.Truth.{left_true, right_true}
use Rattle.instruction.specs.Opcode as op
use Rattle.instruction.specs.declared.Class.{Class}
use Rattle.instruction.specs.declared.Class.TheVariants.{Hint, LoadInt, LoadConst, Copy, CopyN, Unary, Binary, Jump, JumpIf, JumpIfNot, ForLoop, Return, Panic, Outside, Invalid}
use Rattle.instruction.specs.Instruction.{class}
use Rattle.effects.specs.declared.Range.{Range}
use Rattle.effects.specs.Shape.{Tables, Cell}
use Rattle.effects.specs.Effects.{writes, all_reads, range_fits, range_within, all_of}
use Rattle.effects.specs.Check.{operand_refusal, effects_sound}
use Rattle.effects.specs.laws.Operands.{all_append}
use Rattle.effects.specs.laws.ByClass.{is_outside, reads_by_class, writes_by_class, inside_valid}
use Rattle.effects.proofs.laws.ByClass.{reads_by_class_lem, writes_by_class_lem, demands_by_class}
use Rattle.effects.specs.laws.Sound.{sound}
use Rattle.values.specs.laws.Named.{Named}

-- every range lies within the frame
refusal_within : (s : ℕ) (T : Tables) (x : Cell) → operand_refusal s T x ≡ 0 → all_of (range_within s) (all_reads T x ++ writes T x) ≡ true
refusal_within s T x e =
    let d = sound s T x e in
    all_append (range_within s) (all_reads T x) (writes T x) ∙ rw (d.reads_within, d.writes_within)

pub refusal_none : (s : ℕ) (T : Tables) (x : Cell) → is_outside (class x.instruction) ≡ false → all_of range_fits (all_reads T x ++ writes T x) ≡ true
    → all_of (range_within s) (all_reads T x ++ writes T x) ≡ true → operand_refusal s T x ≡ 0
unfolding operand_refusal effects_sound
refusal_none s T x f fit within =
    let h = inside_valid x.instruction.op f in
    rw (le-ltb op.max_valid x.instruction.op (omega arith), demands_by_class T x f, fit, within)

-- the classes that name their slots one by one; Return where it returns one slot
unfoldable pub one_by_one : Class → Bool
one_by_one Hint = true
one_by_one LoadInt = true
one_by_one LoadConst = true
one_by_one Copy = true
one_by_one CopyN = false
one_by_one Unary = true
one_by_one Binary = true
one_by_one Jump = true
one_by_one JumpIf = true
one_by_one JumpIfNot = true
one_by_one ForLoop = false
one_by_one Return = true
one_by_one Panic = false
one_by_one Outside = false
one_by_one Invalid = false

abbrev one : ℕ → Range
one a = record { start = a; count = 1 }

one_within : (s a : ℕ) → range_within s (one a) ≡ true → a < s
unfolding range_within
one_within s a e = let h : a + 1 ≤ s = leb-true (a + 1) s e in omega arith

within_one : (s a : ℕ) → a < s → range_within s (one a) ≡ true
unfolding range_within
within_one s a h = le-leb (a + 1) s (omega arith)

fits_one : (s a : ℕ) → s ≤ 65535 → a < s → range_fits (one a) ≡ true
unfolding range_fits
fits_one s a l h = rw (le-leb a 65535 (omega arith), le-leb (a + 1) 65536 (omega arith))

two_within : (s a b : ℕ) → all_of (range_within s) (one a ∷ one b ∷ []) ≡ true → (a < s) × (b < s)
unfolding all_of
two_within s a b e =
    let r = right_true (range_within s (one a)) (range_within s (one b) && true) e in
    (one_within s a (left_true (range_within s (one a)) (range_within s (one b) && true) e), one_within s b (left_true (range_within s (one b)) true r))

three_within : (s a b c : ℕ) → all_of (range_within s) (one a ∷ one b ∷ one c ∷ []) ≡ true → (a < s) × (b < s) × (c < s)
unfolding all_of
three_within s a b c e =
    let rest = range_within s (one b) && (range_within s (one c) && true) in
    let w = two_within s b c (right_true (range_within s (one a)) rest e) in
    (one_within s a (left_true (range_within s (one a)) rest e), w.0, w.1)

module _ (s : ℕ) (T : Tables) (x : Cell) where
  -- by the class's ranges
  within_ranges : (k : Class) → class x.instruction ≡ k → is_outside k ≡ false → operand_refusal s T x ≡ 0
      → all_of (range_within s) (reads_by_class k x.instruction ++ writes_by_class k x.instruction) ≡ true
  within_ranges k e f z =
      let g : is_outside (class x.instruction) ≡ false = rw e f in
      let w = refusal_within s T x z in
      rw (reads_by_class_lem T x g, writes_by_class_lem T x g, e) at w

  pub named_of : (k : Class) → class x.instruction ≡ k → operand_refusal s T x ≡ 0 → Named k s x.instruction
  unfolding Named reads_by_class writes_by_class is_outside all_of
  named_of Hint e z = tt
  named_of LoadInt e z = one_within s _ (left_true _ _ (within_ranges LoadInt e refl z))
  named_of LoadConst e z = one_within s _ (left_true _ _ (within_ranges LoadConst e refl z))
  named_of Copy e z = two_within s x.instruction.b x.instruction.a (within_ranges Copy e refl z)
  named_of CopyN e z = tt
  named_of Unary e z = two_within s x.instruction.b x.instruction.a (within_ranges Unary e refl z)
  named_of Binary e z = three_within s x.instruction.b x.instruction.c x.instruction.a (within_ranges Binary e refl z)
  named_of Jump e z = tt
  named_of JumpIf e z = one_within s _ (left_true _ _ (within_ranges JumpIf e refl z))
  named_of JumpIfNot e z = one_within s _ (left_true _ _ (within_ranges JumpIfNot e refl z))
  named_of ForLoop e z = tt
  named_of Return e z = λ b.
      let w : range_within s (record { start = x.instruction.a; count = x.instruction.b }) ≡ true = left_true _ _ (within_ranges Return e refl z) in
      one_within s _ (rw b at w)
  named_of Panic e z = tt
  named_of Outside e z = tt
  named_of Invalid e z = tt

  from_ranges : (k : Class) → class x.instruction ≡ k → is_outside k ≡ false
      → all_of range_fits (reads_by_class k x.instruction ++ writes_by_class k x.instruction) ≡ true
      → all_of (range_within s) (reads_by_class k x.instruction ++ writes_by_class k x.instruction) ≡ true
      → operand_refusal s T x ≡ 0
  from_ranges k e f fit within =
      let g : is_outside (class x.instruction) ≡ false = rw e f in
      refusal_none s T x g (rw (reads_by_class_lem T x g, writes_by_class_lem T x g, e) fit) (rw (reads_by_class_lem T x g, writes_by_class_lem T x g, e) within)

  -- an instruction whose class names its slots one by one is not refused where they are below s
  pub named_refusal : (k : Class) → class x.instruction ≡ k → one_by_one k ≡ true → s ≤ 65535 → (k ≡ Return → x.instruction.b ≡ 1) → Named k s x.instruction
      → operand_refusal s T x ≡ 0
  unfolding Named reads_by_class writes_by_class is_outside all_of one_by_one
  named_refusal Hint e o l r n = from_ranges Hint e refl refl refl
  named_refusal LoadInt e o l r n = from_ranges LoadInt e refl (rw (fits_one s x.instruction.a l n)) (rw (within_one s x.instruction.a n))
  named_refusal LoadConst e o l r n = from_ranges LoadConst e refl (rw (fits_one s x.instruction.a l n)) (rw (within_one s x.instruction.a n))
  named_refusal Copy e o l r n =
      from_ranges Copy e refl
      (rw (fits_one s x.instruction.b l n.0, fits_one s x.instruction.a l n.1))
      (rw (within_one s x.instruction.b n.0, within_one s x.instruction.a n.1))
  named_refusal CopyN e o l r n = absurd (false≢true o)
  named_refusal Unary e o l r n =
      from_ranges Unary e refl
      (rw (fits_one s x.instruction.b l n.0, fits_one s x.instruction.a l n.1))
      (rw (within_one s x.instruction.b n.0, within_one s x.instruction.a n.1))
  named_refusal Binary e o l r n =
      from_ranges Binary e refl
      (rw (fits_one s x.instruction.b l n.0, fits_one s x.instruction.c l n.1, fits_one s x.instruction.a l n.2))
      (rw (within_one s x.instruction.b n.0, within_one s x.instruction.c n.1, within_one s x.instruction.a n.2))
  named_refusal Jump e o l r n = from_ranges Jump e refl refl refl
  named_refusal JumpIf e o l r n = from_ranges JumpIf e refl (rw (fits_one s x.instruction.a l n)) (rw (within_one s x.instruction.a n))
  named_refusal JumpIfNot e o l r n = from_ranges JumpIfNot e refl (rw (fits_one s x.instruction.a l n)) (rw (within_one s x.instruction.a n))
  named_refusal ForLoop e o l r n = absurd (false≢true o)
  named_refusal Return e o l r n =
      from_ranges Return e refl
      (rw (r refl, fits_one s x.instruction.a l (n (r refl))))
      (rw (r refl, within_one s x.instruction.a (n (r refl))))
  named_refusal Panic e o l r n = absurd (false≢true o)
  named_refusal Outside e o l r n = absurd (false≢true o)
  named_refusal Invalid e o l r n = absurd (false≢true o)
