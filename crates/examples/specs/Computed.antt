-- The definitions that answers and runs are computed by, crate by crate: to unfold a name here is to unfold all that its line names.
-- Assumes nothing.
use Rattle.words.specs.Le as wordsLe
use Rattle.words.specs.Word as wordsWord
use Rattle.words.specs.Lists as wordsLists
use Rattle.instruction.specs.Class as instructionClass
use Rattle.instruction.specs.Instruction as instructionInstruction
use Rattle.unit.specs.Entry as unitEntry
use Rattle.unit.specs.Layout as unitLayout
use Rattle.unit.specs.Result as unitResult
use Rattle.effects.specs.Shape as effectsShape
use Rattle.effects.specs.Table as effectsTable
use Rattle.effects.specs.Effects as effectsEffects
use Rattle.effects.specs.Check as effectsCheck
use Rattle.flow.specs.Branch as flowBranch
use Rattle.flow.specs.Block as flowBlock
use Rattle.flow.specs.Reach as flowReach
use Rattle.flow.specs.Loop as flowLoop
use Rattle.values.specs.Fold as valuesFold
use Rattle.values.specs.Values as valuesValues
use Rattle.values.specs.Number as valuesNumber
use Rattle.lines.specs.Lines as linesLines
use Rattle.pc_map.specs.Relocate as pcmapRelocate
use Rattle.liveness.specs.Live as livenessLive
use Rattle.liveness.specs.Dead as livenessDead
use Rattle.answer.specs.Jump as answerJump
use Rattle.answer.specs.Pass as answerPass
use Rattle.answer.specs.Answer as answerAnswer
use Rattle.answer.specs.Clean as answerClean
use Rattle.run.specs.System as runSystem
use Rattle.run.specs.Machine as runMachine
use Rattle.run.specs.Program as runProgram
use Rattle.run.specs.Returned as runReturned
use Rattle.again.specs.Again as againAgain
use Rattle.desk.specs.Desk as deskDesk
use Rattle.desk.specs.Answer as desk_answer
use Rattle.desk.specs.Charge as deskCharge

unfoldable pub of_words : Unit {0}
unfolding wordsLe.from_le wordsLe.to_le wordsWord.sign_extend wordsLists.every wordsLists.lowest_below wordsLists.tabulate_from wordsLists.tabulate wordsLists.sum wordsLists.map_from
of_words = tt

unfoldable pub of_instruction : Unit {0}
unfolding instructionClass.single instructionClass.class_of instructionClass.number_of instructionClass.named_class instructionClass.is_pure instructionInstruction.instruction_at instructionInstruction.to_word instructionInstruction.of_word
of_instruction = tt

unfoldable of_unit1 : Unit {0}
unfolding unitEntry.metadata_at unitEntry.metadata_bytes unitEntry.good_metadata unitEntry.is_wide_select unitEntry.constant_of unitEntry.constant_at unitEntry.good_constant unitEntry.function_at unitEntry.extern_at unitEntry.case_at unitEntry.good_case unitLayout.header_of unitLayout.sections_follow unitLayout.good_counts unitLayout.good_entries unitLayout.has_sections unitLayout.is_unit unitLayout.lines_rise unitLayout.wide_select unitLayout.after_lines unitLayout.after_unit unitLayout.layout_of unitResult.result_header unitResult.code_bytes
of_unit1 = tt

unfoldable pub of_unit : Unit {0}
unfolding of_unit1 unitEntry.line_at unitEntry.line_bytes unitEntry.good_line unitResult.metadata_bytes_all unitResult.place_bytes unitResult.line_bytes_all unitResult.result_bytes unitResult.retained_from unitResult.read_result
of_unit = tt

unfoldable of_effects1 : Unit {0}
unfolding effectsShape.is_there effectsShape.param_slots effectsShape.return_slots effectsShape.is_known effectsShape.extern_slots effectsShape.is_kind effectsShape.met effectsShape.value effectsShape.applies effectsShape.range_of effectsTable.shape_in effectsTable.read_shape effectsTable.write_shape effectsTable.perhaps_shape effectsTable.array_shape effectsEffects.case_reads effectsEffects.case_writes effectsEffects.reads effectsEffects.arrays
of_effects1 = tt

unfoldable pub of_effects : Unit {0}
unfolding of_effects1 effectsEffects.sure_writes effectsEffects.perhaps_writes effectsEffects.writes effectsEffects.all_reads effectsEffects.demands_met effectsEffects.range_fits effectsEffects.range_within effectsEffects.range_has effectsEffects.all_of effectsEffects.any_of effectsCheck.lowest effectsCheck.effects_sound effectsCheck.operand_refusal effectsCheck.operand_check
of_effects = tt

unfoldable pub of_flow : Unit {0}
unfolding flowBranch.falls flowBranch.branches flowBranch.target_by flowBranch.branch_inside flowBranch.branch_check_in flowBlock.ends_block flowBlock.branch_targets flowBlock.block_ends flowBlock.is_leader flowBlock.leaders flowReach.mark_all flowReach.mark_if flowReach.sweep flowReach.sweeps flowReach.reached flowLoop.successors flowLoop.reached_places flowLoop.loop_check flowLoop.loop_ends flowLoop.anchors
of_flow = tt

unfoldable of_values1 : Unit {0}
unfolding valuesFold.bitwise valuesFold.differ valuesFold.low_bits valuesFold.trunc valuesFold.bit_word valuesFold.fold_word valuesFold.fits_imm32 valuesValues.same_atom valuesValues.same_expression valuesValues.value_in valuesValues.expression_in valuesValues.lowest_from valuesValues.or_itself valuesValues.representative valuesValues.store valuesValues.learn
of_values1 = tt

unfoldable of_values2 : Unit {0}
unfolding valuesNumber.constant_atom valuesNumber.fold_unary valuesNumber.fold_binary valuesNumber.stored valuesNumber.copy_or_stay valuesNumber.copied valuesNumber.by_expression valuesNumber.folded valuesNumber.by_value_with valuesNumber.number_unary_with valuesNumber.number_binary_with valuesNumber.number_copy valuesNumber.number_constant valuesNumber.number_read valuesNumber.decided valuesNumber.number_jump valuesNumber.number_by_with
of_values2 = tt

unfoldable pub of_values : Unit {0}
unfolding of_values1 of_values2 valuesNumber.number_from_with valuesNumber.number_code_with
of_values = tt

unfoldable pub of_lines : Unit {0}
unfolding linesLines.below linesLines.lands linesLines.moved
of_lines = tt

unfoldable pub of_pc_map : Unit {0}
unfolding pcmapRelocate.relocation_check pcmapRelocate.moved_jump pcmapRelocate.moved_for_loop pcmapRelocate.moved_hint pcmapRelocate.relocate_by pcmapRelocate.retain_from
of_pc_map = tt

unfoldable pub of_liveness : Unit {0}
unfolding livenessLive.live_before livenessLive.union livenessLive.same_row livenessLive.same_rows livenessLive.edges livenessLive.no_row livenessLive.joined livenessLive.live_after livenessLive.round_from livenessLive.solve_in livenessLive.live_rows livenessDead.unread livenessDead.is_dead livenessDead.swept_at livenessDead.sweep_from livenessDead.without_dead livenessDead.dead_stores
of_liveness = tt

unfoldable of_answer1 : Unit {0}
unfolding answerJump.is_idle answerJump.drop_idle answerJump.jump_rounds answerPass.lines_after answerPass.output_after answerPass.checked answerPass.same_code answerPass.all_kept answerPass.useful_places answerPass.kept_places answerPass.removal answerPass.after_loops answerPass.after_branches answerPass.after_operands answerPass.optimized answerPass.is_worked_on answerPass.pass answerAnswer.cells_of answerAnswer.sections_of
of_answer1 = tt

unfoldable pub of_answer : Unit {0}
unfolding of_answer1 answerAnswer.room_for answerAnswer.is_skipped answerAnswer.count_check answerAnswer.admitted_by answerAnswer.after_skipped answerAnswer.after_layout answerAnswer.laid_out answerAnswer.admission answerAnswer.after_admission answerAnswer.answer_with answerAnswer.pass_answer answerClean.placed_by answerClean.after_pass answerClean.clean_from answerClean.cleaned_first answerClean.spare_for answerClean.clean_answer answerClean.lines_past answerClean.lines_from answerClean.lines_first answerClean.clean_lines
of_answer = tt

unfoldable of_run1 : Unit {0}
unfolding runSystem.after runMachine.put runMachine.goto runMachine.is_stored runMachine.replied runMachine.answered runMachine.perform runMachine.step runMachine.way_of runMachine.log_of runProgram.slots_from runProgram.slots_of runProgram.given_ranges runProgram.perhaps_slots runProgram.constant_word runProgram.unary_word runProgram.binary_word runProgram.recorded_metadata runProgram.event runProgram.act_by runProgram.has_meaning runProgram.class_in runProgram.node_by runProgram.program_of
of_run1 = tt

unfoldable pub of_run : Unit {0}
unfolding of_run1 runReturned.given_function runReturned.result_function runReturned.output_function runReturned.PreservesRuns
of_run = tt

-- of a pass and the cleaning; of runs too
unfoldable pub answers : Unit {0}
unfolding of_words of_instruction of_unit of_effects of_flow of_values of_lines of_pc_map of_liveness of_answer
answers = tt

unfoldable pub runs : Unit {0}
unfolding answers of_run
runs = tt

-- at the desk, of a result as a unit again too
unfoldable pub of_again : Unit {0}
unfolding againAgain.counts_with againAgain.offsets_of againAgain.header_words againAgain.bytes_of againAgain.unit_of
of_again = tt

unfoldable pub of_desk : Unit {0}
unfolding deskDesk.loads deskDesk.due_by deskDesk.halted deskDesk.taken deskDesk.run_from deskDesk.noted_by deskDesk.notes_from desk_answer.and_then desk_answer.layout_check desk_answer.frame_check desk_answer.desk_check desk_answer.stopped_by desk_answer.desk_answer deskCharge.spent_from deskCharge.to_cents deskCharge.tariff_check deskCharge.charge_check deskCharge.charge_answer deskCharge.charged_by deskCharge.charge_cents
of_desk = tt

unfoldable pub desk : Unit {0}
unfolding answers of_again of_desk
desk = tt
