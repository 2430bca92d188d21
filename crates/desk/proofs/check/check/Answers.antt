use Rattle.std.proofs.lemmas.Result.{err_from_is_err_and}
use Rattle.std.proofs.Common.{◌≡◌, sym, ◌∙◌}
use Rattle.std.specs.Prelude.{Ok}
use Rattle.unit.specs.Layout.{header_of, layout_of}
use Rattle.unit.specs.laws.UnitLaws.{layout_unit}
use Rattle.effects.specs.Check.{Passed}
use Rattle.answer.specs.Answer.{count_check}
use Rattle.desk.proofs.laws.Checking.{row_refused, row_passed, from_frame, from_branches, from_operands, layout_refused, layout_passed, row_counts, row_frame}
use Rattle.desk.proofs.check.check.Goals as goal

pub check_operands-requires : goal.check_operands-requires
check_operands-requires c =
    let u = c.args.unit.now in
    let laid : layout_of u ≡ Ok c.in_ok-h.h = sym c.check.ensures ∙ c.in_ok-h.was in
    record { laid = (layout_unit u _ laid).0; counted = row_counts u c.args.words laid c.check_counts.ensures.answer c.in_ok-check_counts.was }

pub check_branches-requires : goal.check_branches-requires
check_branches-requires c =
    let u = c.args.unit.now in
    let laid : layout_of u ≡ Ok c.in_ok-h.h = sym c.check.ensures ∙ c.in_ok-h.was in
    record { laid = (layout_unit u _ laid).0 }

pub returns-in_err-h : goal.returns-in_err-h
returns-in_err-h c =
    let p = err_from_is_err_and c.from_residual.result c.from_residual.ensures.1 in
    record { answer = rw (p.1, p.2) (layout_refused c.args.unit.now c.args.words (sym c.check.ensures ∙ c.in_err-h.was)) }

pub returns-in_err-check_counts : goal.returns-in_err-check_counts
returns-in_err-check_counts c =
    let p = err_from_is_err_and c.from_residual-in_err-check_counts.result c.from_residual-in_err-check_counts.ensures.1 in
    let u = c.args.unit.now in
    let laid : layout_of u ≡ Ok c.in_ok-h.h = sym c.check.ensures ∙ c.in_ok-h.was in
    record {
      answer =
          rw (p.1, p.2) (layout_passed u c.args.words laid
          (row_refused (from_operands u c.args.words) (row_counts u c.args.words laid c.check_counts.ensures.answer c.in_err-check_counts.was)));
    }

pub returns-in_err-check_operands : goal.returns-in_err-check_operands
returns-in_err-check_operands c =
    let p = err_from_is_err_and c.from_residual-in_err-check_operands.result c.from_residual-in_err-check_operands.ensures.1 in
    let u = c.args.unit.now in
    let laid : layout_of u ≡ Ok c.in_ok-h.h = sym c.check.ensures ∙ c.in_ok-h.was in
    let counted : count_check (header_of u).counts ≡ Passed = row_counts u c.args.words laid c.check_counts.ensures.answer c.in_ok-check_counts.was in
    record {
      answer =
          rw (p.1, p.2) (layout_passed u c.args.words laid
          (row_passed counted (row_refused (from_branches u c.args.words) (sym c.check_operands.ensures.answer ∙ c.in_err-check_operands.was))));
    }

pub returns-in_err-check_branches : goal.returns-in_err-check_branches
returns-in_err-check_branches c =
    let p = err_from_is_err_and c.from_residual-in_err-check_branches.result c.from_residual-in_err-check_branches.ensures.1 in
    let u = c.args.unit.now in
    let laid : layout_of u ≡ Ok c.in_ok-h.h = sym c.check.ensures ∙ c.in_ok-h.was in
    let counted : count_check (header_of u).counts ≡ Passed = row_counts u c.args.words laid c.check_counts.ensures.answer c.in_ok-check_counts.was in
    record {
      answer =
          rw (p.1, p.2) (layout_passed u c.args.words laid
          (row_passed counted
          (row_passed (sym c.check_operands.ensures.answer ∙ c.in_ok-check_operands.was)
          (row_refused (from_frame u c.args.words) (sym c.check_branches.ensures.answer ∙ c.in_err-check_branches.was)))));
    }

pub returns : goal.returns
returns c =
    let u = c.args.unit.now in
    let laid : layout_of u ≡ Ok c.in_ok-h.h = sym c.check.ensures ∙ c.in_ok-h.was in
    let counted : count_check (header_of u).counts ≡ Passed = row_counts u c.args.words laid c.check_counts.ensures.answer c.in_ok-check_counts.was in
    record {
      answer =
          layout_passed u c.args.words laid
          (row_passed counted
          (row_passed (sym c.check_operands.ensures.answer ∙ c.in_ok-check_operands.was)
          (row_passed (sym c.check_branches.ensures.answer ∙ c.in_ok-check_branches.was) (row_frame u c.args.words laid c.check_frame.ensures.answer))));
    }
