-- The numbered code in lent memory: its words hold it, and its operands and branches are as sound as those of the given code.
-- Assumes nothing.
use Rattle.std.specs.Prelude.{◌≡◌, Bool, List, [], ◌∷◌, ℕ, zero, suc, ◌≤◌, ◌<◌, get_or}
use Rattle.std.proofs.Math.Path.{refl, ap}
use Rattle.std.proofs.Common.{sym, ◌∙◌, arith, ext_get_or}
use Rattle.std.proofs.Math.Bool.{true, false}
use Rattle.std.proofs.Math.ListN.{length}
use Rattle.std.proofs.lemmas.List.{length-map}
use Rattle.words.specs.laws.Lists.{get_d_tabulate}
use Rattle.instruction.specs.Instruction.{class, instruction_at, to_word}
use Rattle.instruction.specs.laws.Instruction.{Fields, of_to}
use Rattle.unit.specs.Entry.{metadata_at}
use Rattle.effects.specs.Check.{operand_refusal}
use Rattle.effects.specs.Shape.{Sections, Cell, cell_at, no_cell}
use Rattle.effects.specs.laws.Cells.{cells_by, cells_long, cell_at_lem}
use Rattle.effects.specs.laws.Sound.{passed_at}
use Rattle.flow.specs.Block.{leaders}
use Rattle.flow.specs.Branch.{branches, target, branch_inside}
use Rattle.flow.specs.laws.BranchLaws.{inside_none, inside_yes}
use Rattle.flow.specs.laws.Control.{is_control}
use Rattle.run.specs.Program.{Function}
use Rattle.run.proofs.laws.Numbered.{Numberable}
use Rattle.run.proofs.laws.Numbered.{numbered_function, numbered_at, numbered_long}
use Rattle.run.proofs.laws.Checked.{Well}
use Rattle.run.proofs.laws.Checked.{numberable, removing, numbered_control, numbered_fields}
use Rattle.run.proofs.Given.{instruction_fields, constants_below}
use Rattle.optimize.specs.laws.Given.{cells_in, cells_in_lem, words_long, words_in, Given, Checked, numbered_code, words_of}

word_at : (l : List Cell) (p : ℕ) → p < length l → get_or (words_of l) p 0 ≡ to_word (cell_at l p).instruction
word_at [] p h = absurd (omega arith)
word_at (x ∷ l) zero h = refl
word_at (x ∷ l) (suc p) h = word_at l p (omega arith)

module _ (n : ℕ) (code metadata : List ℕ) (S : Sections) (g : Given n code metadata S) where
  abbrev cells : List Cell
  cells = cells_in n code metadata

  pub given_long : length (cells_in n code metadata) ≡ n
  given_long = cells_long (words_in n code) metadata ∙ words_long n code

  given_at : (p : ℕ) → p < n → cell_at cells p ≡ record { instruction = instruction_at code p; metadata = metadata_at metadata p }
  given_at p h = ap (λ (l : List Cell). cell_at l p) (cells_in_lem n code metadata g.code_bytes_lem) ∙ get_d_tabulate n _ p no_cell h

  -- the function that a pass is given
  abbrev function : Function
  function = record { cells = cells; described = n; sections = S }

  well : Well function
  well = record {
    locals = g.slots;
    described = rw given_long (omega arith);
    typed = let e = g.typed in omega arith;
    fields = λ p h. rw (ap (λ (x : Cell). x.instruction) (given_at p (rw given_long at h))) (instruction_fields code p g.code_bytes_lem);
    constants = constants_below S.constants g.constant_bytes;
  }

  some_code : 0 < length cells
  some_code = let h = g.some in rw given_long (omega arith)

  few_code : length cells ≤ 65536
  few_code = rw given_long g.few

  module _ (k : Checked S cells) where
    abbrev numbered : List Cell
    numbered = numbered_code S cells

    abbrev way : Numberable function (leaders cells)
    way = numberable function well some_code few_code k.operands k.branches

    pub numbered_size : length (numbered_code S cells) ≡ n
    unfolding numbered_function
    numbered_size = numbered_long function (leaders cells) way ∙ given_long

    fields_at : (p : ℕ) → p < n → Fields (cell_at numbered p).instruction
    unfolding numbered_function
    fields_at p h = numbered_fields function well some_code few_code k.operands k.branches p (rw numbered_size h)

    metadata_at_lem : (p : ℕ) → p < n → (cell_at numbered p).metadata ≡ metadata_at metadata p
    unfolding numbered_function
    metadata_at_lem p h =
        ap (λ (x : Cell). x.metadata) (numbered_at function (leaders cells) way p (rw given_long h)) ∙ ap (λ (x : Cell). x.metadata) (given_at p h)

    -- the words in memory hold it
    pub cells_back : cells_by (words_of (numbered_code S cells)) metadata ≡ numbered_code S cells
    cells_back =
        let size : length (words_of numbered) ≡ n = length-map numbered _ ∙ numbered_size in
        let long : length (cells_by (words_of numbered) metadata) ≡ n = cells_long (words_of numbered) metadata ∙ size in
        ext_get_or no_cell (cells_by (words_of numbered) metadata) numbered (long ∙ sym numbered_size)
        (λ p h.
        let q : p < n = rw long at h in
        let word : get_or (words_of numbered) p 0 ≡ to_word (cell_at numbered p).instruction = word_at numbered p (rw numbered_size q) in
        cell_at_lem (words_of numbered) metadata p (rw size q) ∙ rw (word, of_to (cell_at numbered p).instruction (fields_at p q), ← metadata_at_lem p q) refl)

    pub numbered_operands : (p : ℕ) → p < n → operand_refusal S.locals S.tables (cell_at (numbered_code S cells) p) ≡ 0
    unfolding numbered_function
    numbered_operands p h = (removing function well some_code few_code k.operands k.branches).operands p (rw numbered_size h)

    pub numbered_none : (p : ℕ) → p < n → is_control (class (cell_at (cells_in n code metadata) p).instruction) ≡ false → is_control (class (cell_at (numbered_code S cells) p).instruction) ≡ false
    unfolding numbered_function
    numbered_none p h e = numbered_control function well some_code few_code k.operands k.branches p (rw given_long h) e

    pub numbered_inside : (p : ℕ) → p < n → branch_inside n p (cell_at (numbered_code S cells) p).instruction ≡ true
    unfolding numbered_function
    numbered_inside p h = go (branches (class (cell_at numbered p).instruction)) refl
      where
        go : (t : Bool) → branches (class (cell_at numbered p).instruction) ≡ t → branch_inside n p (cell_at numbered p).instruction ≡ true
        go true e =
            let r = (removing function well some_code few_code k.operands k.branches).targets p (rw numbered_size h) e in
            let z : target p (cell_at numbered p).instruction < length numbered = r.1 in
            inside_yes n p (cell_at numbered p).instruction e (omega (arith, numbered_size))
        go false e = inside_none n p (cell_at numbered p).instruction e

  -- the operands of the given code name slots
  pub given_operands : Checked S cells → (p : ℕ) → p < n → operand_refusal S.locals S.tables (cell_at cells p) ≡ 0
  given_operands k p h = passed_at S.locals S.tables cells k.operands p (rw given_long h)
