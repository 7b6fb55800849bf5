-- The answers of the cycle, which stand by topic in the folder of this file's name.
mod BlockAnswers
mod CallAnswers
mod CellAnswers
mod LoopAnswers
mod MarkedAnswers
mod RightAnswers
mod TurnAnswers
mod WithAnswers
use Rattle.run_eval.proofs.+run.Goals as goal
use Rattle.run_eval.proofs.+run.Answers.BlockAnswers as block_answers
use Rattle.run_eval.proofs.+run.Answers.CallAnswers as call_answers
use Rattle.run_eval.proofs.+run.Answers.CellAnswers as cell_answers
use Rattle.run_eval.proofs.+run.Answers.LoopAnswers as loop_answers
use Rattle.run_eval.proofs.+run.Answers.MarkedAnswers as marked_answers
use Rattle.run_eval.proofs.+run.Answers.RightAnswers as right_answers
use Rattle.run_eval.proofs.+run.Answers.TurnAnswers as turn_answers
use Rattle.run_eval.proofs.+run.Answers.WithAnswers as with_answers

pub blocks::run_steps-run_step-requires : goal.blocks::run_steps-run_step-requires
blocks::run_steps-run_step-requires = block_answers.run_steps-run_step-requires

pub blocks::run_steps-loop-next-preserved-then-made-gt0 : goal.blocks::run_steps-loop-next-preserved-then-made-gt0
blocks::run_steps-loop-next-preserved-then-made-gt0 = block_answers.run_steps-loop-next-preserved-then-made-gt0

pub blocks::run_steps-returns-in_err-run_step : goal.blocks::run_steps-returns-in_err-run_step
blocks::run_steps-returns-in_err-run_step = block_answers.run_steps-returns-in_err-run_step

pub blocks::run_steps-returns : goal.blocks::run_steps-returns
blocks::run_steps-returns = block_answers.run_steps-returns

pub blocks::run_step-run_let-requires : goal.blocks::run_step-run_let-requires
blocks::run_step-run_let-requires = block_answers.run_step-run_let-requires

pub blocks::run_step-returns-in-Bind : goal.blocks::run_step-returns-in-Bind
blocks::run_step-returns-in-Bind = block_answers.run_step-returns-in-Bind

pub blocks::run_step-returns-in_ok-keep-in-Keep : goal.blocks::run_step-returns-in_ok-keep-in-Keep
blocks::run_step-returns-in_ok-keep-in-Keep = block_answers.run_step-returns-in_ok-keep-in-Keep

pub blocks::run_step-returns-in_ok-release-in-Release : goal.blocks::run_step-returns-in_ok-release-in-Release
blocks::run_step-returns-in_ok-release-in-Release = block_answers.run_step-returns-in_ok-release-in-Release

pub blocks::run_let-run_right-requires : goal.blocks::run_let-run_right-requires
blocks::run_let-run_right-requires = block_answers.run_let-run_right-requires

pub blocks::run_let-run_rights-requires : goal.blocks::run_let-run_rights-requires
blocks::run_let-run_rights-requires = block_answers.run_let-run_rights-requires

pub blocks::run_let-returns-in_err-value : goal.blocks::run_let-returns-in_err-value
blocks::run_let-returns-in_err-value = block_answers.run_let-returns-in_err-value

pub blocks::run_let-returns-then-len-eq1 : goal.blocks::run_let-returns-then-len-eq1
blocks::run_let-returns-then-len-eq1 = block_answers.run_let-returns-then-len-eq1

pub blocks::run_let-returns-in_err-run_rights : goal.blocks::run_let-returns-in_err-run_rights
blocks::run_let-returns-in_err-run_rights = block_answers.run_let-returns-in_err-run_rights

pub blocks::run_let-returns : goal.blocks::run_let-returns
blocks::run_let-returns = block_answers.run_let-returns

pub blocks::run_open-run_steps-requires : goal.blocks::run_open-run_steps-requires
blocks::run_open-run_steps-requires = block_answers.run_open-run_steps-requires

pub blocks::run_open-returns-in_err-run_steps : goal.blocks::run_open-returns-in_err-run_steps
blocks::run_open-returns-in_err-run_steps = block_answers.run_open-returns-in_err-run_steps

pub blocks::run_open-returns : goal.blocks::run_open-returns
blocks::run_open-returns = block_answers.run_open-returns

pub blocks::run_block-run_open-requires : goal.blocks::run_block-run_open-requires
blocks::run_block-run_open-requires = block_answers.run_block-run_open-requires

pub blocks::run_block-returns : goal.blocks::run_block-returns
blocks::run_block-returns = block_answers.run_block-returns

pub blocks::run_first-run_steps-requires : goal.blocks::run_first-run_steps-requires
blocks::run_first-run_steps-requires = block_answers.run_first-run_steps-requires

pub blocks::run_first-returns-in_err-run_steps : goal.blocks::run_first-returns-in_err-run_steps
blocks::run_first-returns-in_err-run_steps = block_answers.run_first-returns-in_err-run_steps

pub blocks::run_first-returns : goal.blocks::run_first-returns
blocks::run_first-returns = block_answers.run_first-returns

pub blocks::run_inner-run_first-requires : goal.blocks::run_inner-run_first-requires
blocks::run_inner-run_first-requires = block_answers.run_inner-run_first-requires

pub blocks::run_inner-returns : goal.blocks::run_inner-returns
blocks::run_inner-returns = block_answers.run_inner-returns

pub array_loops::run_cell_loop-run_array-requires : goal.array_loops::run_cell_loop-run_array-requires
array_loops::run_cell_loop-run_array-requires = cell_answers.run_cell_loop-run_array-requires

pub array_loops::run_cell_loop-run_fold-requires : goal.array_loops::run_cell_loop-run_fold-requires
array_loops::run_cell_loop-run_fold-requires = cell_answers.run_cell_loop-run_fold-requires

pub array_loops::run_array-fill-requires : goal.array_loops::run_array-fill-requires
array_loops::run_array-fill-requires = cell_answers.run_array-fill-requires

pub array_loops::fill-loop_cell-requires : goal.array_loops::fill-loop_cell-requires
array_loops::fill-loop_cell-requires = cell_answers.fill-loop_cell-requires

pub array_loops::run_fold-fold_cells-requires : goal.array_loops::run_fold-fold_cells-requires
array_loops::run_fold-fold_cells-requires = cell_answers.run_fold-fold_cells-requires

pub array_loops::fold_cells-loop_cell-requires : goal.array_loops::fold_cells-loop_cell-requires
array_loops::fold_cells-loop_cell-requires = cell_answers.fold_cells-loop_cell-requires

pub array_loops::run_cell_loop-run_array-requires-in-Joined : goal.array_loops::run_cell_loop-run_array-requires-in-Joined
array_loops::run_cell_loop-run_array-requires-in-Joined = cell_answers.run_cell_loop-run_array-requires-in-Joined

pub array_loops::loop_cell-run_cell-requires : goal.array_loops::loop_cell-run_cell-requires
array_loops::loop_cell-run_cell-requires = cell_answers.loop_cell-run_cell-requires

pub array_loops::run_cell_loop-returns-in_ok-size-in-Filled : goal.array_loops::run_cell_loop-returns-in_ok-size-in-Filled
array_loops::run_cell_loop-returns-in_ok-size-in-Filled = cell_answers.run_cell_loop-returns-in_ok-size-in-Filled

pub array_loops::run_cell_loop-returns-in-Joined : goal.array_loops::run_cell_loop-returns-in-Joined
array_loops::run_cell_loop-returns-in-Joined = cell_answers.run_cell_loop-returns-in-Joined

pub array_loops::run_cell_loop-returns-in-Folded : goal.array_loops::run_cell_loop-returns-in-Folded
array_loops::run_cell_loop-returns-in-Folded = cell_answers.run_cell_loop-returns-in-Folded

pub array_loops::fill-loop-place-init : goal.array_loops::fill-loop-place-init
array_loops::fill-loop-place-init = cell_answers.fill-loop-place-init

pub array_loops::fill-returns-in_err-value : goal.array_loops::fill-returns-in_err-value
array_loops::fill-returns-in_err-value = cell_answers.fill-returns-in_err-value

pub array_loops::fill-loop-place-preserved : goal.array_loops::fill-loop-place-preserved
array_loops::fill-loop-place-preserved = cell_answers.fill-loop-place-preserved

pub array_loops::fill-returns : goal.array_loops::fill-returns
array_loops::fill-returns = cell_answers.fill-returns

pub array_loops::fold_cells-loop-place-init : goal.array_loops::fold_cells-loop-place-init
array_loops::fold_cells-loop-place-init = cell_answers.fold_cells-loop-place-init

pub array_loops::fold_cells-returns-in_err-value : goal.array_loops::fold_cells-returns-in_err-value
array_loops::fold_cells-returns-in_err-value = cell_answers.fold_cells-returns-in_err-value

pub array_loops::fold_cells-loop-place-preserved : goal.array_loops::fold_cells-loop-place-preserved
array_loops::fold_cells-loop-place-preserved = cell_answers.fold_cells-loop-place-preserved

pub array_loops::fold_cells-returns : goal.array_loops::fold_cells-returns
array_loops::fold_cells-returns = cell_answers.fold_cells-returns

pub array_loops::loop_cell-returns-in_err-value-in-Some : goal.array_loops::loop_cell-returns-in_err-value-in-Some
array_loops::loop_cell-returns-in_err-value-in-Some = cell_answers.loop_cell-returns-in_err-value-in-Some

pub array_loops::loop_cell-returns-in_ok-value-in-Some : goal.array_loops::loop_cell-returns-in_ok-value-in-Some
array_loops::loop_cell-returns-in_ok-value-in-Some = cell_answers.loop_cell-returns-in_ok-value-in-Some

pub array_loops::loop_cell-returns-in-None : goal.array_loops::loop_cell-returns-in-None
array_loops::loop_cell-returns-in-None = cell_answers.loop_cell-returns-in-None

pub array_loops::run_cell-returns : goal.array_loops::run_cell-returns
array_loops::run_cell-returns = cell_answers.run_cell-returns

pub array_loops::run_array-returns-in_err-fill : goal.array_loops::run_array-returns-in_err-fill
array_loops::run_array-returns-in_err-fill = cell_answers.run_array-returns-in_err-fill

pub array_loops::run_array-returns : goal.array_loops::run_array-returns
array_loops::run_array-returns = cell_answers.run_array-returns

pub array_loops::run_fold-returns-in_err-sum : goal.array_loops::run_fold-returns-in_err-sum
array_loops::run_fold-returns-in_err-sum = cell_answers.run_fold-returns-in_err-sum

pub array_loops::run_fold-returns : goal.array_loops::run_fold-returns
array_loops::run_fold-returns = cell_answers.run_fold-returns

pub blocks::run_right-run_inner-requires : goal.blocks::run_right-run_inner-requires
blocks::run_right-run_inner-requires = right_answers.run_right-run_inner-requires

pub blocks::run_right-run_inner-requires-else-branch : goal.blocks::run_right-run_inner-requires-else-branch
blocks::run_right-run_inner-requires-else-branch = right_answers.run_right-run_inner-requires-else-branch

pub blocks::run_right-run_rights-requires : goal.blocks::run_right-run_rights-requires
blocks::run_right-run_rights-requires = right_answers.run_right-run_rights-requires

pub blocks::run_right-run_one-requires : goal.blocks::run_right-run_one-requires
blocks::run_right-run_one-requires = right_answers.run_right-run_one-requires

pub blocks::run_right-returns-in_err-condition-in-If : goal.blocks::run_right-returns-in_err-condition-in-If
blocks::run_right-returns-in_err-condition-in-If = right_answers.run_right-returns-in_err-condition-in-If

pub blocks::run_right-returns-then-branch : goal.blocks::run_right-returns-then-branch
blocks::run_right-returns-then-branch = right_answers.run_right-returns-then-branch

pub blocks::run_right-returns-else-branch : goal.blocks::run_right-returns-else-branch
blocks::run_right-returns-else-branch = right_answers.run_right-returns-else-branch

pub blocks::run_rights-run_block-requires : goal.blocks::run_rights-run_block-requires
blocks::run_rights-run_block-requires = right_answers.run_rights-run_block-requires

pub blocks::run_rights-run_block-requires-else-branch : goal.blocks::run_rights-run_block-requires-else-branch
blocks::run_rights-run_block-requires-else-branch = right_answers.run_rights-run_block-requires-else-branch

pub blocks::run_rights-run_loop-requires : goal.blocks::run_rights-run_loop-requires
blocks::run_rights-run_loop-requires = right_answers.run_rights-run_loop-requires

pub blocks::run_rights-run_call-requires : goal.blocks::run_rights-run_call-requires
blocks::run_rights-run_call-requires = right_answers.run_rights-run_call-requires

pub blocks::run_rights-run_one-requires : goal.blocks::run_rights-run_one-requires
blocks::run_rights-run_one-requires = right_answers.run_rights-run_one-requires

pub blocks::run_one-run_with-requires : goal.blocks::run_one-run_with-requires
blocks::run_one-run_with-requires = right_answers.run_one-run_with-requires

pub blocks::run_one-run_parted-requires : goal.blocks::run_one-run_parted-requires
blocks::run_one-run_parted-requires = right_answers.run_one-run_parted-requires

pub blocks::run_right-returns-in_err-run_rights-in-Loop : goal.blocks::run_right-returns-in_err-run_rights-in-Loop
blocks::run_right-returns-in_err-run_rights-in-Loop = right_answers.run_right-returns-in_err-run_rights-in-Loop

pub blocks::run_right-returns-in_ok-run_rights-in-Loop : goal.blocks::run_right-returns-in_ok-run_rights-in-Loop
blocks::run_right-returns-in_ok-run_rights-in-Loop = right_answers.run_right-returns-in_ok-run_rights-in-Loop

pub blocks::run_right-returns-in_default : goal.blocks::run_right-returns-in_default
blocks::run_right-returns-in_default = right_answers.run_right-returns-in_default

pub blocks::run_call-run_chosen-requires : goal.blocks::run_call-run_chosen-requires
blocks::run_call-run_chosen-requires = call_answers.run_call-run_chosen-requires

pub blocks::run_call-returns-in_err-found-clause-told : goal.blocks::run_call-returns-in_err-found-clause-told
blocks::run_call-returns-in_err-found-clause-told = call_answers.run_call-returns-in_err-found-clause-told

pub blocks::run_call-returns-in-Some-clause-told : goal.blocks::run_call-returns-in-Some-clause-told
blocks::run_call-returns-in-Some-clause-told = call_answers.run_call-returns-in-Some-clause-told

pub blocks::run_chosen-run_function-requires : goal.blocks::run_chosen-run_function-requires
blocks::run_chosen-run_function-requires = right_answers.run_chosen-run_function-requires

pub blocks::run_chosen-returns-in_default : goal.blocks::run_chosen-returns-in_default
blocks::run_chosen-returns-in_default = right_answers.run_chosen-returns-in_default

pub blocks::run_one-returns-in_default : goal.blocks::run_one-returns-in_default
blocks::run_one-returns-in_default = right_answers.run_one-returns-in_default

pub blocks::run_rights-returns-in_err-condition-in-If : goal.blocks::run_rights-returns-in_err-condition-in-If
blocks::run_rights-returns-in_err-condition-in-If = right_answers.run_rights-returns-in_err-condition-in-If

pub blocks::run_rights-returns-then-branch : goal.blocks::run_rights-returns-then-branch
blocks::run_rights-returns-then-branch = right_answers.run_rights-returns-then-branch

pub blocks::run_rights-returns-else-branch : goal.blocks::run_rights-returns-else-branch
blocks::run_rights-returns-else-branch = right_answers.run_rights-returns-else-branch

pub blocks::run_rights-returns-in_err-run_loop-in-Loop : goal.blocks::run_rights-returns-in_err-run_loop-in-Loop
blocks::run_rights-returns-in_err-run_loop-in-Loop = right_answers.run_rights-returns-in_err-run_loop-in-Loop

pub blocks::run_rights-returns-in_ok-extend_from_slice-in-Loop-2 : goal.blocks::run_rights-returns-in_ok-extend_from_slice-in-Loop-2
blocks::run_rights-returns-in_ok-extend_from_slice-in-Loop-2 = right_answers.run_rights-returns-in_ok-extend_from_slice-in-Loop-2

pub blocks::run_rights-returns-in_ok-push_values-in-Call : goal.blocks::run_rights-returns-in_ok-push_values-in-Call
blocks::run_rights-returns-in_ok-push_values-in-Call = right_answers.run_rights-returns-in_ok-push_values-in-Call

pub blocks::run_rights-returns-in_err-value-in_default : goal.blocks::run_rights-returns-in_err-value-in_default
blocks::run_rights-returns-in_err-value-in_default = right_answers.run_rights-returns-in_err-value-in_default

pub blocks::run_rights-returns-in_ok-push-in_default : goal.blocks::run_rights-returns-in_ok-push-in_default
blocks::run_rights-returns-in_ok-push-in_default = right_answers.run_rights-returns-in_ok-push-in_default

pub blocks::run_one-returns-in-With : goal.blocks::run_one-returns-in-With
blocks::run_one-returns-in-With = right_answers.run_one-returns-in-With

pub blocks::run_one-returns-in-Parted : goal.blocks::run_one-returns-in-Parted
blocks::run_one-returns-in-Parted = right_answers.run_one-returns-in-Parted

pub blocks::run_chosen-returns-in_err-inner : goal.blocks::run_chosen-returns-in_err-inner
blocks::run_chosen-returns-in_err-inner = right_answers.run_chosen-returns-in_err-inner

pub blocks::run_chosen-returns : goal.blocks::run_chosen-returns
blocks::run_chosen-returns = right_answers.run_chosen-returns

pub blocks::run_function-run_open-requires : goal.blocks::run_function-run_open-requires
blocks::run_function-run_open-requires = right_answers.run_function-run_open-requires

pub blocks::run_function-returns-in_err-run_open : goal.blocks::run_function-returns-in_err-run_open
blocks::run_function-returns-in_err-run_open = right_answers.run_function-returns-in_err-run_open

pub blocks::run_function-returns-then-not-all_have : goal.blocks::run_function-returns-then-not-all_have
blocks::run_function-returns-then-not-all_have = right_answers.run_function-returns-then-not-all_have

pub blocks::run_function-returns : goal.blocks::run_function-returns
blocks::run_function-returns = right_answers.run_function-returns

pub blocks::run_loop-run_turn-requires : goal.blocks::run_loop-run_turn-requires
blocks::run_loop-run_turn-requires = turn_answers.run_loop-run_turn-requires

pub blocks::run_loop-repeat-requires : goal.blocks::run_loop-repeat-requires
blocks::run_loop-repeat-requires = turn_answers.run_loop-repeat-requires

pub blocks::run_loop-repeat-requires-else-first_body : goal.blocks::run_loop-repeat-requires-else-first_body
blocks::run_loop-repeat-requires-else-first_body = turn_answers.run_loop-repeat-requires-else-first_body

pub blocks::repeat-run_test-requires : goal.blocks::repeat-run_test-requires
blocks::repeat-run_test-requires = turn_answers.repeat-run_test-requires

pub blocks::repeat-run_turn-requires : goal.blocks::repeat-run_turn-requires
blocks::repeat-run_turn-requires = turn_answers.repeat-run_turn-requires

pub blocks::run_test-run_first-requires : goal.blocks::run_test-run_first-requires
blocks::run_test-run_first-requires = turn_answers.run_test-run_first-requires

pub blocks::run_turn-run_open-requires : goal.blocks::run_turn-run_open-requires
blocks::run_turn-run_open-requires = turn_answers.run_turn-run_open-requires

pub blocks::run_test-returns-in_err-value : goal.blocks::run_test-returns-in_err-value
blocks::run_test-returns-in_err-value = turn_answers.run_test-returns-in_err-value

pub blocks::run_test-returns-in_err-truth : goal.blocks::run_test-returns-in_err-truth
blocks::run_test-returns-in_err-truth = turn_answers.run_test-returns-in_err-truth

pub blocks::run_test-returns : goal.blocks::run_test-returns
blocks::run_test-returns = turn_answers.run_test-returns

pub blocks::run_turn-returns-in_err-run_open : goal.blocks::run_turn-returns-in_err-run_open
blocks::run_turn-returns-in_err-run_open = turn_answers.run_turn-returns-in_err-run_open

pub blocks::run_turn-returns : goal.blocks::run_turn-returns
blocks::run_turn-returns = turn_answers.run_turn-returns

pub blocks::repeat-loop-left-init : goal.blocks::repeat-loop-left-init
blocks::repeat-loop-left-init = turn_answers.repeat-loop-left-init

pub blocks::repeat-returns-in_err-run_test : goal.blocks::repeat-returns-in_err-run_test
blocks::repeat-returns-in_err-run_test = turn_answers.repeat-returns-in_err-run_test

pub blocks::repeat-returns-then-not-branch : goal.blocks::repeat-returns-then-not-branch
blocks::repeat-returns-then-not-branch = turn_answers.repeat-returns-then-not-branch

pub blocks::repeat-returns-then-left-eq0 : goal.blocks::repeat-returns-then-left-eq0
blocks::repeat-returns-then-left-eq0 = turn_answers.repeat-returns-then-left-eq0

pub blocks::repeat-loop-left-preserved : goal.blocks::repeat-loop-left-preserved
blocks::repeat-loop-left-preserved = turn_answers.repeat-loop-left-preserved

pub blocks::repeat-returns-in_err-run_turn : goal.blocks::repeat-returns-in_err-run_turn
blocks::repeat-returns-in_err-run_turn = turn_answers.repeat-returns-in_err-run_turn

pub blocks::run_loop-returns-in_err-run_turn : goal.blocks::run_loop-returns-in_err-run_turn
blocks::run_loop-returns-in_err-run_turn = turn_answers.run_loop-returns-in_err-run_turn

pub blocks::run_loop-returns-then-first_body : goal.blocks::run_loop-returns-then-first_body
blocks::run_loop-returns-then-first_body = turn_answers.run_loop-returns-then-first_body

pub blocks::run_loop-returns : goal.blocks::run_loop-returns
blocks::run_loop-returns = turn_answers.run_loop-returns

pub array_loops::run_with-run_cell_loop-requires : goal.array_loops::run_with-run_cell_loop-requires
array_loops::run_with-run_cell_loop-requires = with_answers.run_with-run_cell_loop-requires

pub array_loops::run_with-run_cell_loop-requires-in-Modarray : goal.array_loops::run_with-run_cell_loop-requires-in-Modarray
array_loops::run_with-run_cell_loop-requires-in-Modarray = with_answers.run_with-run_cell_loop-requires-in-Modarray

pub array_loops::run_with-run_cell_loop-requires-in-Fold : goal.array_loops::run_with-run_cell_loop-requires-in-Fold
array_loops::run_with-run_cell_loop-requires-in-Fold = with_answers.run_with-run_cell_loop-requires-in-Fold

pub array_loops::run_parted-run_cell_loop-requires : goal.array_loops::run_parted-run_cell_loop-requires
array_loops::run_parted-run_cell_loop-requires = with_answers.run_parted-run_cell_loop-requires

pub array_loops::run_parted-run_cell_loop-requires-in_default : goal.array_loops::run_parted-run_cell_loop-requires-in_default
array_loops::run_parted-run_cell_loop-requires-in_default = with_answers.run_parted-run_cell_loop-requires-in_default

pub array_loops::run_with-returns-in_err-plan-in-Genarray-clause-told : goal.array_loops::run_with-returns-in_err-plan-in-Genarray-clause-told
array_loops::run_with-returns-in_err-plan-in-Genarray-clause-told = with_answers.run_with-returns-in_err-plan-in-Genarray-clause-told

pub array_loops::run_with-returns-in-Genarray-clause-told : goal.array_loops::run_with-returns-in-Genarray-clause-told
array_loops::run_with-returns-in-Genarray-clause-told = with_answers.run_with-returns-in-Genarray-clause-told

pub array_loops::run_with-returns-in_err-plan-in-Modarray-clause-told : goal.array_loops::run_with-returns-in_err-plan-in-Modarray-clause-told
array_loops::run_with-returns-in_err-plan-in-Modarray-clause-told = with_answers.run_with-returns-in_err-plan-in-Modarray-clause-told

pub array_loops::run_with-returns-in-Modarray-clause-told : goal.array_loops::run_with-returns-in-Modarray-clause-told
array_loops::run_with-returns-in-Modarray-clause-told = with_answers.run_with-returns-in-Modarray-clause-told

pub array_loops::run_with-returns-in_err-plan-in-Fold-clause-told : goal.array_loops::run_with-returns-in_err-plan-in-Fold-clause-told
array_loops::run_with-returns-in_err-plan-in-Fold-clause-told = with_answers.run_with-returns-in_err-plan-in-Fold-clause-told

pub array_loops::run_with-returns-clause-told : goal.array_loops::run_with-returns-clause-told
array_loops::run_with-returns-clause-told = with_answers.run_with-returns-clause-told

pub array_loops::run_parted-returns-then-not-fits-clause-told : goal.array_loops::run_parted-returns-then-not-fits-clause-told
array_loops::run_parted-returns-then-not-fits-clause-told = with_answers.run_parted-returns-then-not-fits-clause-told

pub array_loops::run_parted-returns-in-Fold-clause-told : goal.array_loops::run_parted-returns-in-Fold-clause-told
array_loops::run_parted-returns-in-Fold-clause-told = with_answers.run_parted-returns-in-Fold-clause-told

pub array_loops::run_parted-returns : goal.array_loops::run_parted-returns
array_loops::run_parted-returns = with_answers.run_parted-returns

pub array_loops::run_parted-run_marked-requires : goal.array_loops::run_parted-run_marked-requires
array_loops::run_parted-run_marked-requires = marked_answers.run_parted-run_marked-requires

pub marked_loops::run_marked-run_marked_loop-requires : goal.marked_loops::run_marked-run_marked_loop-requires
marked_loops::run_marked-run_marked_loop-requires = marked_answers.run_marked-run_marked_loop-requires

pub marked_loops::run_marked_loop-run_cell_loop-requires : goal.marked_loops::run_marked_loop-run_cell_loop-requires
marked_loops::run_marked_loop-run_cell_loop-requires = marked_answers.run_marked_loop-run_cell_loop-requires

pub marked_loops::run_marked_loop-run_over-requires : goal.marked_loops::run_marked_loop-run_over-requires
marked_loops::run_marked_loop-run_over-requires = marked_answers.run_marked_loop-run_over-requires

pub marked_loops::run_marked_loop-run_in_place-requires : goal.marked_loops::run_marked_loop-run_in_place-requires
marked_loops::run_marked_loop-run_in_place-requires = marked_answers.run_marked_loop-run_in_place-requires

pub marked_loops::run_over-run_in_place-requires : goal.marked_loops::run_over-run_in_place-requires
marked_loops::run_over-run_in_place-requires = marked_answers.run_over-run_in_place-requires

pub marked_loops::run_in_place-fill_in_place-requires : goal.marked_loops::run_in_place-fill_in_place-requires
marked_loops::run_in_place-fill_in_place-requires = marked_answers.run_in_place-fill_in_place-requires

pub marked_loops::fill_in_place-loop_cell-requires : goal.marked_loops::fill_in_place-loop_cell-requires
marked_loops::fill_in_place-loop_cell-requires = marked_answers.fill_in_place-loop_cell-requires

pub marked_loops::run_marked-returns : goal.marked_loops::run_marked-returns
marked_loops::run_marked-returns = marked_answers.run_marked-returns

pub marked_loops::run_marked_loop-returns-in_err-value : goal.marked_loops::run_marked_loop-returns-in_err-value
marked_loops::run_marked_loop-returns-in_err-value = marked_answers.run_marked_loop-returns-in_err-value

pub marked_loops::run_marked_loop-returns-then-not-over : goal.marked_loops::run_marked_loop-returns-then-not-over
marked_loops::run_marked_loop-returns-then-not-over = marked_answers.run_marked_loop-returns-then-not-over

pub marked_loops::run_marked_loop-returns-then-in_order : goal.marked_loops::run_marked_loop-returns-then-in_order
marked_loops::run_marked_loop-returns-then-in_order = marked_answers.run_marked_loop-returns-then-in_order

pub marked_loops::run_marked_loop-returns-else-in_order : goal.marked_loops::run_marked_loop-returns-else-in_order
marked_loops::run_marked_loop-returns-else-in_order = marked_answers.run_marked_loop-returns-else-in_order

pub marked_loops::run_over-returns-clause-told : goal.marked_loops::run_over-returns-clause-told
marked_loops::run_over-returns-clause-told = marked_answers.run_over-returns-clause-told

pub marked_loops::run_in_place-returns-in_err-fill_in_place : goal.marked_loops::run_in_place-returns-in_err-fill_in_place
marked_loops::run_in_place-returns-in_err-fill_in_place = marked_answers.run_in_place-returns-in_err-fill_in_place

pub marked_loops::run_in_place-returns : goal.marked_loops::run_in_place-returns
marked_loops::run_in_place-returns = marked_answers.run_in_place-returns

pub marked_loops::fill_in_place-loop-place-init : goal.marked_loops::fill_in_place-loop-place-init
marked_loops::fill_in_place-loop-place-init = marked_answers.fill_in_place-loop-place-init

pub marked_loops::fill_in_place-returns-in_err-value : goal.marked_loops::fill_in_place-returns-in_err-value
marked_loops::fill_in_place-returns-in_err-value = marked_answers.fill_in_place-returns-in_err-value

pub marked_loops::fill_in_place-loop-place-preserved : goal.marked_loops::fill_in_place-loop-place-preserved
marked_loops::fill_in_place-loop-place-preserved = marked_answers.fill_in_place-loop-place-preserved

pub marked_loops::fill_in_place-returns : goal.marked_loops::fill_in_place-returns
marked_loops::fill_in_place-returns = marked_answers.fill_in_place-returns

pub blocks::run_rights-returns-in_err-found-in-Loop-clause-told : goal.blocks::run_rights-returns-in_err-found-in-Loop-clause-told
blocks::run_rights-returns-in_err-found-in-Loop-clause-told = loop_answers.run_rights-returns-in_err-found-in-Loop-clause-told

pub blocks::run_rights-returns-in-Some-clause-told : goal.blocks::run_rights-returns-in-Some-clause-told
blocks::run_rights-returns-in-Some-clause-told = loop_answers.run_rights-returns-in-Some-clause-told
