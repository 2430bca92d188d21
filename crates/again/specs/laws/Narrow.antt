-- What a pass or the cleaning retains has no select of too many cases where the given code has none: metadata moves by its end alone.
-- Assumes nothing.
use Rattle.std.specs.Prelude.{◌≡◌, Bool, cond}
use Rattle.std.proofs.Math.Path.{refl}
use Rattle.std.proofs.Common.{◌∙◌, arith}
use Rattle.std.proofs.Math.Bool.{true, false}
use mathlib.Core.List.{List, [], ◌∷◌}
use Prim.Native.Nat.{ℕ, zero, suc, ◌<◌}
use Rattle.std.proofs.Math.ListN.{length}
use Rattle.unit.specs.Entry.{is_wide_select}
use Rattle.unit.specs.Result.{Retained}
use Rattle.effects.specs.Shape.{Cell, cell_at}
use Rattle.flow.specs.Block.{leaders}
use Rattle.flow.specs.Loop.{reached_places, is_loop_hint}
use Rattle.values.specs.Number.{number_code}
use Rattle.pc_map.specs.Boundary.{is_kept}
use Rattle.pc_map.specs.Relocate.{relocate, retain_from}
use Rattle.pc_map.specs.laws.Relocated.{moved_end, moved_metadata}
use Rattle.answer.specs.Pass.{Outcome, unchanged, refused, rewritten, is_worked_on, optimized, kept_places, pass}
use Rattle.answer.specs.Clean.{cells_after, placed_by, after_pass, clean_from}
use Rattle.run.proofs.Given.{Returnable, placed_cells}
use Rattle.run.proofs.Given.{placed_returnable}
use Rattle.run.specs.Program.{Function}
use Rattle.run.specs.Returned.{result_function}
use Rattle.run.proofs.laws.Checked.{Well}
use Rattle.run.proofs.laws.Checked.{numberable}
use Rattle.run.proofs.laws.Numbered.{Numberable}
use Rattle.run.proofs.laws.Numbered.{numbered_function, numbered_at, numbered_long}
use Rattle.run.proofs.laws.Passed.{pass_worked}
use Rattle.run.proofs.laws.Passed.{some_code, few, optimized_kept}

-- document 02, L9: no cell has "a SelectExecLayout of more than 24"
abbrev pub Narrow : List Cell → Type 0
Narrow cells = (p : ℕ) → p < length cells → is_wide_select (cell_at cells p).metadata ≡ false

module _ (keep : List ℕ) where
  relocated_narrow : (p : ℕ) (x : Cell) → is_wide_select (relocate keep p x).metadata ≡ is_wide_select x.metadata
  unfolding is_wide_select
  relocated_narrow p x = rw (moved_metadata keep p x) (go (is_loop_hint x.instruction))
    where
      go : (t : Bool) → is_wide_select (cond t (moved_end keep x.metadata) x.metadata) ≡ is_wide_select x.metadata
      go true = refl
      go false = refl

  retained_narrow : (xs : List Cell) (p : ℕ) → Narrow xs → Narrow (cells_after (retain_from keep p xs))
  unfolding retain_from
  retained_narrow [] p s k h = absurd (omega arith)
  retained_narrow (x ∷ xs) p s k h = go (is_kept keep p) k h (retained_narrow xs (suc p) (λ k h. s (suc k) (omega arith)))
    where
      head : Retained
      head = record { instruction = (relocate keep p x).instruction; metadata = (relocate keep p x).metadata; place = p }

      rest : List Retained
      rest = retain_from keep (suc p) xs

      go : (t : Bool) (k : ℕ) → k < length (cells_after (cond t (head ∷ rest) rest)) → Narrow (cells_after rest) → is_wide_select (cell_at (cells_after (cond t (head ∷ rest) rest)) k).metadata ≡ false
      go true zero h ih = relocated_narrow p x ∙ s 0 (omega arith)
      go true (suc k) h ih = ih k (omega arith)
      go false k h ih = ih k h

module _ (F : Function) (w : Well F) (worked : is_worked_on (length F.cells) ≡ true) (kept : List Retained) (e : optimized F.sections F.cells ≡ rewritten kept) where
  abbrev cells : List Cell
  cells = F.cells

  abbrev code : List Cell
  code = number_code F.sections (leaders cells) cells

  pub pass_narrow : Narrow F.cells → Narrow (cells_after kept)
  unfolding numbered_function
  pass_narrow s =
      let k = optimized_kept F w worked kept e in
      let N : Numberable F (leaders cells) = numberable F w (some_code F w worked) (few F w worked) k.0 k.1 in
      let long : length code ≡ length cells = numbered_long F (leaders cells) N in
      let numbered : Narrow code = λ p h. let l : p < length cells = rw long at h in rw (numbered_at F (leaders cells) N p l) (s p l) in
      rw (← k.2) (retained_narrow (kept_places F.sections (leaders cells) (reached_places code) code) code 0 numbered)

module _ (F : Function) (cases : ℕ) where
  pub clean_narrow : (k j : ℕ) (before kept : List Retained) → Returnable F cases before → Narrow (cells_after before) → (clean_from F.sections k j before).outcome ≡ rewritten kept → Narrow (cells_after kept)
  unfolding clean_from after_pass result_function
  clean_narrow zero j before kept r s e = let q : before ≡ kept = cc in rw (← q) s
  clean_narrow (suc k) j before kept r s e = go (pass F.sections (cells_after before)) refl e (λ b c d. clean_narrow k (suc j) b kept c d)
    where
      next_narrow : (next : List Retained) → pass F.sections (cells_after before) ≡ rewritten next → Narrow (cells_after (placed_by before next))
      next_narrow next q =
          let worked = pass_worked F.sections (cells_after before) next q in
          rw (placed_cells before next) (pass_narrow (result_function F.sections before) r.good.well worked.0 next worked.1 s)

      go : (o : Outcome) → pass F.sections (cells_after before) ≡ o
          → (after_pass (suc j) before (λ kept. clean_from F.sections k (suc j) (placed_by before kept)) o).outcome ≡ rewritten kept
          → ((b : List Retained) → Returnable F cases b → Narrow (cells_after b) → (clean_from F.sections k (suc j) b).outcome ≡ rewritten kept → Narrow (cells_after kept)) → Narrow (cells_after kept)
      go unchanged q e ih = let same : before ≡ kept = cc in rw (← same) s
      go (refused m p) q e ih = let z : ◌≡◌ {A = ℕ} 0 1 = cc in absurd (omega arith)
      go (rewritten next) q e ih = ih (placed_by before next) (placed_returnable F cases before next r q) (next_narrow next q) e
