use mathlib.Core.Path.{◌≡◌, sym, ◌∙◌}
use native.Mathlib.Omega.{arith}
use Rattle.numbering.proofs.Walking.{word_fits, folded_word, wide_word, no_word}
use Rattle.numbering.proofs.walk.by_value.Goals as goal
use Rattle.numbering.proofs.walk.by_value.Goals.{in-Some+else-fits_imm32, in_default}

pub store_constant-requires : goal.store_constant-requires
store_constant-requires c = (c.requires.0, rw c.load.ensures c.requires.1, omega arith)

pub returns-then-fits_imm32 : goal.returns-then-fits_imm32
returns-then-fits_imm32 c =
    folded_word c.args.i c.args.p _ c.in-Some.is (word_fits c.args.i _ c.fits_imm32.ensures c.if-fits_imm32.true c.load.ensures c.store_constant.ensures)

pub by_number-requires : goal.by_number-requires
by_number-requires c =
    let p = c.requires in (
      p.0,
      p.1,
      p.2,
      p.3,
      p.4,
      λ v e.
          elim c.match-folded.branch [
            | in-Some+else-fits_imm32 w ↦ wide_word w.folded-is w.fits_imm32.ensures w.if-fits_imm32.false v e
            | in_default w ↦ no_word (w.folded-is ∙ w.in_default.is) v e
          ],
    )

pub returns : goal.returns
returns c =
    let m = c.match-folded in
    let same : m.folded ≡ c.args.folded = elim m.branch [ in-Some+else-fits_imm32 w ↦ w.folded-is ∙ sym w.in-Some.is | in_default w ↦ w.folded-is ] in
    rw (← same) c.by_number.ensures
