use Rattle.std.proofs.Common.{◌≡◌, ◌≤◌, ◌+◌, ◌-◌, ◌*◌, max, length, map, drop}
use Rattle.counted_code.specs.declared.tree.CodeBlock.{size-CodeBlock}
use Rattle.counted_code.specs.declared.tree.CodeLet.{size-CodeLet}
use Rattle.counted_code.specs.declared.tree.CodeRight.{size-CodeRight}
use Rattle.counted_code.specs.declared.tree.CodeStep.{size-CodeStep}
use Rattle.counted_code.specs.Machine.{Values}
use Rattle.counted_code.specs.Values.{Heap}
use Rattle.counted_code.specs.View.{code_term}
use Rattle.run_store.specs.Stands.{lender_of}
use Rattle.run_values.specs.Scopes.{current}
use Rattle.run_values.specs.Shown.{value_of}
use Rattle.run_loops.specs.Running.{turn_in, test_in, IsAt, SameScopes, SameOuter, Reaches}
use Rattle.counted_code.proofs.Sizes.{steps_size}
use Rattle.run_loops.proofs.Measures.{rank_of, body_size, source_size}
use Rattle.run_eval.proofs.Turns.{Turned}
use Rattle.run_eval.proofs.+run.Given as goal
use Rattle.counted_code.specs.declared.tree.CodeParted.{size-CodeParted}
use Rattle.counted_code.specs.declared.tree.CodeWith.{size-CodeWith}
use Rattle.run_loops.specs.Loops.{array_of, loop_source}
use Rattle.run_eval.proofs.CellMakings.{covering, folding}
use Rattle.run_eval.proofs.CellLoops.{Carried}
use Rattle.run_eval.proofs.WrittenRuns.{Carried as Written}

abbrev pub decreases-blocks::run_steps : goal.decreases-blocks::run_steps
decreases-blocks::run_steps g l = rank_of l.context.now + 8 * steps_size l.steps.now + 2

abbrev pub decreases-blocks::run_step : goal.decreases-blocks::run_step
decreases-blocks::run_step g l = rank_of l.context.now + 8 * size-CodeStep l.step.now + 1

abbrev pub decreases-blocks::run_let : goal.decreases-blocks::run_let
decreases-blocks::run_let g l = rank_of l.context.now + 8 * size-CodeLet l.binding.now + 8

abbrev pub decreases-blocks::run_open : goal.decreases-blocks::run_open
decreases-blocks::run_open g l = rank_of l.context.now + 8 * size-CodeBlock l.block.now + 3

abbrev pub decreases-blocks::run_block : goal.decreases-blocks::run_block
decreases-blocks::run_block g l = rank_of l.context.now + 8 * size-CodeBlock l.block.now + 4

abbrev pub decreases-blocks::run_first : goal.decreases-blocks::run_first
decreases-blocks::run_first g l = rank_of l.context.now + 8 * size-CodeBlock l.block.now + 3

abbrev pub decreases-blocks::run_inner : goal.decreases-blocks::run_inner
decreases-blocks::run_inner g l = rank_of l.context.now + 8 * size-CodeBlock l.block.now + 4

abbrev pub decreases-blocks::run_right : goal.decreases-blocks::run_right
decreases-blocks::run_right g l = rank_of l.context.now + 8 * size-CodeRight l.right.now + 7

abbrev pub decreases-blocks::run_rights : goal.decreases-blocks::run_rights
decreases-blocks::run_rights g l = rank_of l.context.now + 8 * size-CodeRight l.right.now + 6

abbrev pub decreases-blocks::run_one : goal.decreases-blocks::run_one
decreases-blocks::run_one g l = rank_of l.context.now + 8 * size-CodeRight l.right.now + 5

abbrev pub decreases-blocks::run_loop : goal.decreases-blocks::run_loop
decreases-blocks::run_loop g l = rank_of l.context.now + 8 * max (size-CodeBlock l.turn.now.test.now) (size-CodeBlock l.turn.now.body.now) + 7

abbrev pub decreases-blocks::repeat : goal.decreases-blocks::repeat
decreases-blocks::repeat g l = rank_of l.context.now + 8 * max (size-CodeBlock l.turn.now.test.now) (size-CodeBlock l.turn.now.body.now) + 6

abbrev pub decreases-blocks::run_test : goal.decreases-blocks::run_test
decreases-blocks::run_test g l = rank_of l.context.now + 8 * size-CodeBlock l.turn.now.test.now + 5

abbrev pub decreases-blocks::run_turn : goal.decreases-blocks::run_turn
decreases-blocks::run_turn g l = rank_of l.context.now + 8 * size-CodeBlock l.turn.now.body.now + 5

abbrev pub decreases-blocks::run_call : goal.decreases-blocks::run_call
decreases-blocks::run_call g l = rank_of l.context.now + 1

abbrev pub decreases-blocks::run_chosen : goal.decreases-blocks::run_chosen
decreases-blocks::run_chosen g l = rank_of l.context.now

abbrev pub decreases-blocks::run_function : goal.decreases-blocks::run_function
decreases-blocks::run_function g l = rank_of l.context.now + 8 * body_size l.function.now + 4

abbrev pub invariant-blocks::run_steps-loop-next : goal.invariant-blocks::run_steps-loop-next
invariant-blocks::run_steps-loop-next g l = record {
  told : (m : Heap) → IsAt l.initial.state m → Reaches l.context l.steps l.initial.state m (drop l.next l.steps) l.state;
  within : l.next ≤ length l.steps;
  scopes : SameOuter l.initial.state.frames l.state.frames;
  lender : lender_of l.state.heap ≡ lender_of l.initial.state.heap;
}

abbrev pub decreases-blocks::run_steps-loop-next : goal.decreases-blocks::run_steps-loop-next
decreases-blocks::run_steps-loop-next g l = length l.steps - l.next

abbrev pub invariant-blocks::repeat-loop-left : goal.invariant-blocks::repeat-loop-left
invariant-blocks::repeat-loop-left g l = record {
  told : (m : Heap) → IsAt l.initial.state m → Turned l.turn.site l.turn.test_site (test_in l.context l.turn.params.now (code_term l.turn.test.now) (current l.initial.state.frames)) (turn_in l.context l.turn.params.now (code_term l.turn.body.now) (current l.initial.state.frames)) l.initial.left (map value_of l.initial.values.items) m l.left (map value_of l.values.items) l.state;
  scopes : SameScopes l.initial.state.frames l.state.frames;
  lender : lender_of l.state.heap ≡ lender_of l.initial.state.heap;
}

abbrev pub decreases-blocks::repeat-loop-left : goal.decreases-blocks::repeat-loop-left
decreases-blocks::repeat-loop-left g l = l.left

abbrev pub decreases-array_loops::run_with : goal.decreases-array_loops::run_with
decreases-array_loops::run_with g l = rank_of l.context.now + 8 * size-CodeWith l.with.now + 1

abbrev pub decreases-array_loops::run_parted : goal.decreases-array_loops::run_parted
decreases-array_loops::run_parted g l = rank_of l.context.now + 8 * size-CodeParted l.parted.now + 2

abbrev pub decreases-marked_loops::run_marked : goal.decreases-marked_loops::run_marked
decreases-marked_loops::run_marked g l = rank_of l.context.now + 8 * size-CodeParted l.parted.now + 1

abbrev pub decreases-marked_loops::run_marked_loop : goal.decreases-marked_loops::run_marked_loop
decreases-marked_loops::run_marked_loop g l = rank_of l.context.now + 8 * source_size l.work.now.source + 8

abbrev pub decreases-marked_loops::run_over : goal.decreases-marked_loops::run_over
decreases-marked_loops::run_over g l = rank_of l.context.now + 8 * source_size l.work.now.source + 7

abbrev pub decreases-marked_loops::run_in_place : goal.decreases-marked_loops::run_in_place
decreases-marked_loops::run_in_place g l = rank_of l.context.now + 8 * source_size l.work.now.source + 6

abbrev pub decreases-marked_loops::fill_in_place : goal.decreases-marked_loops::fill_in_place
decreases-marked_loops::fill_in_place g l = rank_of l.context.now + 8 * source_size l.work.now.source + 5

abbrev pub decreases-array_loops::run_cell_loop : goal.decreases-array_loops::run_cell_loop
decreases-array_loops::run_cell_loop g l = rank_of l.context.now + 8 * source_size l.work.now.source + 7

abbrev pub decreases-array_loops::run_array : goal.decreases-array_loops::run_array
decreases-array_loops::run_array g l = rank_of l.context.now + 8 * source_size l.work.now.source + 6

abbrev pub decreases-array_loops::fill : goal.decreases-array_loops::fill
decreases-array_loops::fill g l = rank_of l.context.now + 8 * source_size l.work.now.source + 5

abbrev pub decreases-array_loops::run_fold : goal.decreases-array_loops::run_fold
decreases-array_loops::run_fold g l = rank_of l.context.now + 8 * source_size l.work.now.source + 6

abbrev pub decreases-array_loops::fold_cells : goal.decreases-array_loops::fold_cells
decreases-array_loops::fold_cells g l = rank_of l.context.now + 8 * source_size l.work.now.source + 5

abbrev pub decreases-array_loops::loop_cell : goal.decreases-array_loops::loop_cell
decreases-array_loops::loop_cell g l = rank_of l.context.now + 8 * source_size l.source.now + 4

abbrev pub decreases-array_loops::run_cell : goal.decreases-array_loops::run_cell
decreases-array_loops::run_cell g l = rank_of l.context.now + 8 * size-CodeBlock l.body.now.block.now + 4

abbrev pub invariant-array_loops::fill-loop-place : goal.invariant-array_loops::fill-loop-place
invariant-array_loops::fill-loop-place g l = record {
  carried : Carried (covering l.background) l.work.plan.now.form (λ (e : Values). loop_source l.context e l.work) l.work.plan.now.frame l.initial.cells.items l.initial.state l.state l.cells.items l.place;
  scopes : SameScopes l.initial.state.frames l.state.frames;
  lender : lender_of l.state.heap ≡ lender_of l.initial.state.heap;
}

abbrev pub invariant-array_loops::fold_cells-loop-place : goal.invariant-array_loops::fold_cells-loop-place
invariant-array_loops::fold_cells-loop-place g l = record {
  carried : Carried (folding l.op) l.work.plan.now.form (λ (e : Values). loop_source l.context e l.work) l.work.plan.now.frame (array_of l.initial.sum) l.initial.state l.state (array_of l.sum) l.place;
  scopes : SameScopes l.initial.state.frames l.state.frames;
  lender : lender_of l.state.heap ≡ lender_of l.initial.state.heap;
}

abbrev pub invariant-marked_loops::fill_in_place-loop-place : goal.invariant-marked_loops::fill_in_place-loop-place
invariant-marked_loops::fill_in_place-loop-place g l = record {
  carried : Written l.buffer.born l.work.plan.now.form (λ (e : Values). loop_source l.context e l.work) l.work.plan.now.frame l.initial.state l.state l.place;
  scopes : SameScopes l.initial.state.frames l.state.frames;
  lender : lender_of l.state.heap ≡ lender_of l.initial.state.heap;
}
