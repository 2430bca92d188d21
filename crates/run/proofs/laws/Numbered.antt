-- The numbered function runs as the given one: in lock step, with all slots equal.
-- Assumes nothing.
use Rattle.std.specs.Prelude.{Some, ◌≡◌, Bool, eqb, length, get_or}
use Rattle.std.proofs.Math.Path.{refl, ap}
use Rattle.std.proofs.Common.{sym, ◌∙◌, arith, eq-eqb}
use Rattle.std.proofs.Math.Bool.{true, false, cond}
use Rattle.std.proofs.lemmas.Bool.{false≢true}
use mathlib.Core.List.{List, [], ◌∷◌}
use Prim.Native.Nat.{ℕ, zero, suc, ◌+◌, ◌≤◌, ◌<◌}
use Rattle.std.proofs.Math.Nat.{add-zero, zero-add, suc-add, add-suc}
use Rattle.instruction.specs.declared.Instruction.{Instruction}
use Rattle.instruction.specs.Instruction.{class}
use Rattle.instruction.specs.laws.Instruction.{Fields}
use Rattle.unit.specs.Entry.{constant_at}
use Rattle.effects.specs.Shape.{Sections, Cell, cell_at}
use Rattle.effects.specs.Check.{operand_refusal}
use Rattle.flow.specs.Branch.{falls, branches, target}
use Rattle.values.specs.declared.Atom.{Atom}
use Rattle.values.specs.Values.{Values, empty}
use Rattle.values.specs.Number.{Numbered, constant_atom, number, number_from, number_from_with, number_code, number_code_with}
use Rattle.run.specs.Machine.{Words, Event, World, finish, at, put, step}
use Rattle.run.specs.Visits.{SameVisits}
use Rattle.run.specs.laws.Invariant.{Holds, held, Invariant}
use Rattle.run.proofs.laws.LockStep.{Lock, lock_step}
use Rattle.run.specs.Program.{Function, program_of, node_by, class_in, has_meaning}
use Rattle.run.proofs.laws.Valuation.{Valuation, Below, Static, static_empty, Valid, valid_empty}
use Rattle.run.specs.laws.Justified.{Justified}
use Rattle.run.proofs.laws.Justified.{rewrite, one_slot, do_at, Meant, meant, justified_meant, justified_same}
use Rattle.run.proofs.laws.Numbering.{blank, leads, ends, sets}
use Rattle.run.proofs.laws.Numbering.{After, Sound, number_sound}
use Rattle.run.specs.laws.Step.{Succ, next, branch}
use Rattle.run.proofs.laws.Step.{holds_succ, step_do}

-- ---- the table before each place

module _ (S : Sections) (leaders : List ℕ) where
  -- the table that place p starts with: nothing is known where a block starts
  abbrev entering : ℕ → Values → Values
  entering p t = cond (eqb (get_or leaders p 0) 1) empty t

  -- the table before the k-th of cells that stand from place p on
  unfoldable pub table_from : ℕ → Values → List Cell → ℕ → Values
  table_from p t [] k = t
  table_from p t (x ∷ xs) zero = entering p t
  table_from p t (x ∷ xs) (suc k) = table_from (suc p) (number S p x.instruction (entering p t)).table xs k

  numbered_from : (xs : List Cell) (p : ℕ) (t : Values) (k : ℕ) → k < length xs
      → cell_at (number_from S leaders p t xs) k ≡ rewrite (cell_at xs k) (number S (p + k) (cell_at xs k).instruction (table_from p t xs k)).instruction
  unfolding number_from_with table_from
  numbered_from [] p t k h = absurd (omega arith)
  numbered_from (x ∷ xs) p t zero h = rw add-zero
  numbered_from (x ∷ xs) p t (suc k) h = numbered_from xs (suc p) _ k (omega arith) ∙ rw (suc-add p k, add-suc p k)

  table_suc : (xs : List Cell) (p : ℕ) (t : Values) (k : ℕ) → suc k < length xs
      → table_from p t xs (suc k) ≡ entering (p + suc k) (number S (p + k) (cell_at xs k).instruction (table_from p t xs k)).table
  unfolding table_from
  table_suc [] p t k h = absurd (omega arith)
  table_suc (x ∷ []) p t k h = absurd (omega arith)
  table_suc (x ∷ y ∷ xs) p t zero h = rw (add-zero, add-suc, add-zero)
  table_suc (x ∷ y ∷ xs) p t (suc k) h = table_suc (y ∷ xs) (suc p) _ k (omega arith) ∙ rw (suc-add p (suc k), suc-add p k, add-suc p (suc k), add-suc p k)

  length_numbered : (xs : List Cell) (p : ℕ) (t : Values) → length (number_from S leaders p t xs) ≡ length xs
  unfolding number_from_with
  length_numbered [] p t = refl
  length_numbered (x ∷ xs) p t = ap suc (length_numbered xs (suc p) _)

-- the function with other cells
abbrev pub with_cells : Function → List Cell → Function
with_cells F code = record { cells = code; described = F.described; sections = F.sections }

-- A world that answers nothing.
mute : World
mute = record { reply = λ R. finish; free = λ o f x y. 0; lost = λ k. 0 }

-- What is asked of a function and its leaders.
pub record Numberable (F : Function) (leaders : List ℕ) : Type 0 where
  pub locals : F.sections.locals ≤ 65535
  pub few : length F.cells ≤ 65536
  pub described : length F.cells ≤ F.described
  pub typed : length F.sections.types ≤ F.sections.locals
  -- the operands are not refused
  pub operands : (p : ℕ) → p < length F.cells → operand_refusal F.sections.locals F.sections.tables (cell_at F.cells p) ≡ 0
  pub fields : (p : ℕ) → p < length F.cells → Fields (cell_at F.cells p).instruction
  -- known constants are words of 64 bits
  pub constants : (k : ℕ) (v : Atom) → constant_atom (constant_at F.sections.constants k) ≡ Some v → (p : ℕ) → Below p v
  -- a block starts at each branch's target, and after each branch
  pub targets : (p : ℕ) → p < length F.cells → branches (class (cell_at F.cells p).instruction) ≡ true
      → get_or leaders (target p (cell_at F.cells p).instruction) 0 ≡ 1
  pub nexts : (p : ℕ) → suc p < length F.cells → branches (class (cell_at F.cells p).instruction) ≡ true → get_or leaders (suc p) 0 ≡ 1

module _ (F : Function) (leaders : List ℕ) (N : Numberable F leaders) where
  abbrev S : Sections
  S = F.sections

  abbrev cell : ℕ → Cell
  cell p = cell_at F.cells p

  abbrev pub table : ℕ → Values
  table p = table_from S leaders 0 empty F.cells p

  abbrev result : ℕ → Numbered
  result p = number S p (cell p).instruction (table p)

  unfoldable pub numbered_function : Function
  numbered_function = with_cells F (number_code S leaders F.cells)

  pub numbered_at : (p : ℕ) → p < length F.cells → cell_at numbered_function.cells p ≡ rewrite (cell p) (result p).instruction
  unfolding numbered_function number_code_with
  numbered_at p h = numbered_from S leaders F.cells 0 empty p h ∙ rw zero-add

  pub numbered_long : length numbered_function.cells ≡ length F.cells
  unfolding numbered_function number_code_with
  numbered_long = length_numbered S leaders F.cells 0 empty

  table_next : (p : ℕ) → suc p < length F.cells → table (suc p) ≡ entering S leaders (suc p) (result p).table
  table_next p h = table_suc S leaders F.cells 0 empty p h ∙ rw (zero-add, zero-add)

  table_first : table 0 ≡ empty
  unfolding table_from
  table_first = first F.cells
    where
      either : (b : Bool) → cond b empty empty ≡ empty
      either true = refl
      either false = refl

      first : (xs : List Cell) → table_from S leaders 0 empty xs zero ≡ empty
      first [] = refl
      first (x ∷ xs) = either (eqb (get_or leaders 0 0) 1)

  -- at a leader nothing is known
  table_leader : (q : ℕ) → q < length F.cells → get_or leaders q 0 ≡ 1 → table q ≡ empty
  table_leader zero h e = table_first
  table_leader (suc q) h e = table_next q h ∙ rw (eq-eqb (get_or leaders (suc q) 0) 1 e)

  module _ (W : World) where
    meant_at : (p : ℕ) (σ : Words) (R : List Event) → p < length F.cells → Meant F W p σ R (cell p)
    meant_at p σ R h = let d = N.described in (omega arith, N.operands p h)

    sound_at : (p : ℕ) (σ : Words) (R : List Event) (h : p < length F.cells) (Q : Static (table p) p)
        → Sound F W p σ R (cell p) (meant_at p σ R h) (let f = N.few in omega arith) N.typed (table p) Q (result p)
    sound_at p σ R h Q = number_sound F W p σ R (cell p) (meant_at p σ R h) _ N.typed (table p) Q _ refl (N.fields p h) (λ v q. N.constants _ v q p)

    -- the tables are sound by themselves, at every place
    pub static_at : (p : ℕ) → p < length F.cells → Static (table p) p
    static_at zero h = rw table_first (static_empty 0)
    static_at (suc p) h =
        let l : p < length F.cells = omega arith in
        let s = (sound_at p (λ t. 0) [] l (static_at p l)).static in
        rw (table_next p h) (go (eqb (get_or leaders (suc p) 0) 1) s)
      where
        go : (b : Bool) → Static (result p).table (suc p) → Static (cond b empty (result p).table) (suc p)
        go true s = static_empty (suc p)
        go false s = s

    -- what holds of the run before a place inside
    abbrev pub Inv : ℕ → Words → Type 0
    Inv q σ = q < length F.cells → (ρ : Valuation) × Valid W ρ (table q) σ

    inv_empty : (q : ℕ) (σ : Words) → (q < length F.cells → table q ≡ empty) → Inv q σ
    inv_empty q σ e h = rw (e h) (_, valid_empty σ)

    -- a step after which nothing is known, wherever it goes
    holds_empty : (p : ℕ) (σ : Words) (R : List Event) → p < length F.cells
        → ((q : ℕ) → Succ (class (cell p).instruction) p (cell p).instruction q → q < length F.cells → table q ≡ empty)
        → Holds Inv (do_at F W p σ R (cell p))
    holds_empty p σ R h f = holds_succ Inv F W p σ R (cell p) (meant F W p σ R (cell p) (meant_at p σ R h)) (λ q s τ. inv_empty q τ (f q s))

    to_branch : (p : ℕ) → p < length F.cells → (q : ℕ) → Succ (class (cell p).instruction) p (cell p).instruction q → q < length F.cells
        → (falls (class (cell p).instruction) ≡ true → suc p < length F.cells → table (suc p) ≡ empty) → table q ≡ empty
    to_branch p h q (next f) l e = e f l
    to_branch p h q (branch b) l e = table_leader _ l (N.targets p h b)

    after_holds : (p : ℕ) (σ : Words) (R : List Event) → p < length F.cells → After F W p σ R (cell p) (result p).table → Holds Inv (do_at F W p σ R (cell p))
    after_holds p σ R h (blank e) = holds_empty p σ R h (λ q s l. to_branch p h q s l (λ f k. table_next p k ∙ go (eqb (get_or leaders (suc p) 0) 1)))
      where
        go : (b : Bool) → cond b empty (result p).table ≡ empty
        go true = refl
        go false = e
    after_holds p σ R h (leads b) = holds_empty p σ R h (λ q s l. to_branch p h q s l (λ f k. table_leader (suc p) k (N.nexts p k b)))
    after_holds p σ R h (ends e) = holds_empty p σ R h (λ q s l. to_branch p h q s l (λ f k. absurd (false≢true (sym e ∙ f))))
    after_holds p σ R h (sets w g ρ v) =
        rw g (held {σ = put (one_slot (cell p).instruction.a) (λ s. w) σ} (λ k. rw (table_next p k) (go (eqb (get_or leaders (suc p) 0) 1))))
      where
        go : (b : Bool) → (ρ : Valuation) × Valid W ρ (cond b empty (result p).table) (put (one_slot (cell p).instruction.a) (λ s. w) σ)
        go true = (_, valid_empty _)
        go false = (ρ, v)

  -- the table before a place is true whenever the run comes there
  pub invariant : (W : World) → Invariant W (program_of F W) (Inv W)
  unfolding program_of
  invariant W = record {
    first = λ σ. inv_empty W 0 σ (λ h. table_first);
    keeps = λ p σ R h i. rw (step_do F W p σ R h) (after_holds W p σ R h ((sound_at W p σ R h (static_at W p h)).after (i h).0 (i h).1));
  }

  -- Code of the same length each of whose instructions is justified by the table before its place.
  pub record JustifiedCode (code : List Cell) : Type 0 where
    pub long : length code ≡ length F.cells
    pub instruction : ℕ → Instruction
    pub cells : (p : ℕ) → p < length F.cells → cell_at code p ≡ rewrite (cell p) (instruction p)
    pub justified : (p : ℕ) → p < length F.cells → Justified S (table p) (cell p).instruction (instruction p)

  module _ {code : List Cell} (J : JustifiedCode code) where
    module _ (W : World) where
      -- a cell does the same in both functions: they differ in their cells alone
      do_same : (p : ℕ) (σ : Words) (R : List Event) (y : Cell) → do_at (with_cells F code) W p σ R y ≡ do_at F W p σ R y
      unfolding do_at class_in has_meaning node_by
      do_same p σ R y = refl

      pub step_same : (p : ℕ) (σ : Words) (R : List Event) → p < length F.cells → Inv W p σ
          → step W (program_of (with_cells F code) W) (at p σ R) ≡ step W (program_of F W) (at p σ R)
      step_same p σ R h i =
          let j = J.justified p h in
          let m = justified_meant F W p σ R N.locals (cell p) (meant_at W p σ R h) (table p) _ j in
          let inside : p < length code = rw J.long h in
          step_do (with_cells F code) W p σ R inside
          ∙ do_same p σ R _
          ∙ rw (J.cells p h) (justified_same F W p σ R (i h).0 (table p) (i h).1 (cell p) (meant_at W p σ R h) _ j m)
          ∙ sym (step_do F W p σ R h)

      lock : Lock W (program_of F W) (program_of (with_cells F code) W) (Inv W)
      unfolding program_of
      lock = record { size= = J.long; step= = step_same; invariant = invariant W }

    -- it runs as the function does, by the same places
    pub justified_visits : SameVisits (program_of F) (program_of (with_cells F code)) (λ f. f)
    justified_visits = record { visits = λ W σ f. lock_step (lock W) f σ }

    -- and its operands are not refused either; no world matters
    pub justified_operands : (p : ℕ) → p < length F.cells → operand_refusal S.locals S.tables (cell_at code p) ≡ 0
    justified_operands p h =
        rw (J.cells p h) (justified_meant F mute p (λ t. 0) [] N.locals (cell p) (meant_at mute p (λ t. 0) [] h) (table p) _ (J.justified p h)).1

  -- the numbered code is such code
  pub numbered_justified : (p : ℕ) → p < length F.cells → Justified S (table p) (cell p).instruction (result p).instruction
  numbered_justified p h = (sound_at mute p (λ t. 0) [] h (static_at mute p h)).justified

  pub numbered_code_lem : JustifiedCode numbered_function.cells
  numbered_code_lem = record { long = numbered_long; instruction = λ p. (result p).instruction; cells = numbered_at; justified = numbered_justified }

  pub numbered_operands : (p : ℕ) → p < length F.cells → operand_refusal S.locals S.tables (cell_at numbered_function.cells p) ≡ 0
  numbered_operands = justified_operands numbered_code_lem

  pub numbering : SameVisits (program_of F) (program_of numbered_function) (λ f. f)
  unfolding numbered_function
  numbering = justified_visits numbered_code_lem
