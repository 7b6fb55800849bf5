use Rattle.std.proofs.Common.{◌≡◌, ◌++◌, ◌+◌, ◌*◌, max, Ok, map, drop}
use Rattle.sac_ast.specs.View.{expr, exprs, block}
use Rattle.sac_ast.specs.declared.Expression.{size-Expression}
use Rattle.sac_ast.specs.declared.Statement.{size-Statement}
use Rattle.sac_ast.specs.declared.Generator.{size-Generator}
use Rattle.sac_ast.specs.declared.Bound.{size-Bound}
use Rattle.sac_ast.specs.declared.Operation.{size-Operation}
use Rattle.sac_base.specs.Outcomes.{and_then}
use Rattle.source_meaning.specs.Environments.{env_of}
use Rattle.value_meaning.specs.Evaluation.{meanings_in, block_in, repeat_in}
use Rattle.std.proofs.Common.{length}
use Rattle.std.specs.Prelude.{fold}
use Rattle.sac_base.specs.Arrays.{size}
use Rattle.array_with_loops.specs.Cells.{cells_from, array_from}
use Rattle.array_with_loops.specs.Plans.{plan_of}
use Rattle.value_meaning.specs.WithSource.{generator_of, bounds_in, cells_in}
use Rattle.sac_base.specs.WithLoops.{holder, each, combined}
use Rattle.sac_ast.proofs.Lists.{exprs_size, block_size, cells_size, maybe_size}
use Rattle.value_meaning.proofs.Measures.{body_size, rank_of}
use Rattle.value_meaning.proofs.evaluate.+evaluate.Given as goal

abbrev pub decreases-evaluate : goal.decreases-evaluate
decreases-evaluate l = rank_of l.context.now + 4 * size-Expression l.e.now + 2

abbrev pub decreases-evaluate_all : goal.decreases-evaluate_all
decreases-evaluate_all l = rank_of l.context.now + 4 * exprs_size l.es.now + 4

abbrev pub decreases-evaluate_call : goal.decreases-evaluate_call
decreases-evaluate_call l = rank_of l.context.now + 4 * exprs_size l.es.now + 5

abbrev pub decreases-run : goal.decreases-run
decreases-run l = rank_of l.context.now + 4 * size-Statement l.s.now + 2

abbrev pub decreases-run_assign : goal.decreases-run_assign
decreases-run_assign l = rank_of l.context.now + 4 * size-Expression l.value.now + 3

abbrev pub decreases-run_block : goal.decreases-run_block
decreases-run_block l = rank_of l.context.now + 4 * block_size l.ss.now + 4

abbrev pub decreases-repeat_while : goal.decreases-repeat_while
decreases-repeat_while l = rank_of l.context.now + 4 * max (size-Expression l.cond.now) (block_size l.body.now) + 5

abbrev pub decreases-call : goal.decreases-call
decreases-call l = rank_of l.context.now + 2

abbrev pub decreases-run_at : goal.decreases-run_at
decreases-run_at l = rank_of l.context.now + 1

abbrev pub decreases-run_function : goal.decreases-run_function
decreases-run_function l = rank_of l.context.now + 4 * body_size l.context.now.current.now + 6

abbrev pub invariant-evaluate_all-loop-e : goal.invariant-evaluate_all-loop-e
invariant-evaluate_all-loop-e l =
    and_then (meanings_in l.context (exprs (drop l.e-index l.es)) (env_of l.env)) (λ rest. Ok (l.values.items ++ rest))
    ≡ meanings_in l.context (exprs l.es) (env_of l.env)

abbrev pub invariant-run_block-loop-s : goal.invariant-run_block-loop-s
invariant-run_block-loop-s l =
    block_in l.context (block (drop l.s-index l.ss)) (env_of l.env) ≡ block_in l.context (block l.ss) (env_of l.initial.env)

abbrev pub invariant-repeat_while-loop-site : goal.invariant-repeat_while-loop-site
invariant-repeat_while-loop-site l =
    repeat_in l.context l.left l.site l.test_site (expr l.cond) (block l.body) (env_of l.env)
    ≡ repeat_in l.context l.initial.left l.site l.test_site (expr l.cond) (block l.body) (env_of l.initial.env)

abbrev pub decreases-repeat_while-loop-site : goal.decreases-repeat_while-loop-site
decreases-repeat_while-loop-site l = l.left

abbrev pub decreases-evaluate_binary : goal.decreases-evaluate_binary
decreases-evaluate_binary l = rank_of l.context.now + 4 * max (size-Expression l.left.now) (size-Expression l.right.now) + 3

abbrev pub decreases-evaluate_select : goal.decreases-evaluate_select
decreases-evaluate_select l = rank_of l.context.now + 4 * max (size-Expression l.array.now) (size-Expression l.index.now) + 3

abbrev pub decreases-evaluate_test : goal.decreases-evaluate_test
decreases-evaluate_test l = rank_of l.context.now + 4 * size-Expression l.test.now + 3

abbrev pub decreases-run_replace : goal.decreases-run_replace
decreases-run_replace l = rank_of l.context.now + 4 * max (size-Expression l.index.now) (size-Expression l.value.now) + 3

abbrev pub decreases-evaluate_with : goal.decreases-evaluate_with
decreases-evaluate_with l = rank_of l.context.now + 4 * max (cells_size l.gs.now) (size-Operation l.op.now) + 5

abbrev pub decreases-evaluate_generators : goal.decreases-evaluate_generators
decreases-evaluate_generators l = rank_of l.context.now + 4 * cells_size l.gs.now + 4

abbrev pub decreases-evaluate_operation : goal.decreases-evaluate_operation
decreases-evaluate_operation l = rank_of l.context.now + 4 * size-Operation l.op.now + 2

abbrev pub decreases-array_cells : goal.decreases-array_cells
decreases-array_cells l = rank_of l.context.now + 4 * cells_size l.gs.now + 4

abbrev pub decreases-fold_cells : goal.decreases-fold_cells
decreases-fold_cells l = rank_of l.context.now + 4 * cells_size l.gs.now + 4

abbrev pub invariant-array_cells-loop-place : goal.invariant-array_cells-loop-place
invariant-array_cells-loop-place l = record {
  told : and_then (cells_in l.context l.gs l.plan.ranges.items (drop l.place l.plan.frame) l.plan.form (env_of l.env))
      (λ rest. Ok (record { base = l.background.base; shape = l.plan.shape; cells = l.cells.items ++ cells_from l.old l.background (size l.plan.form.shape) l.place rest }))
      ≡ and_then (cells_in l.context l.gs l.plan.ranges.items l.plan.frame l.plan.form (env_of l.env)) (λ found. Ok (array_from l.old l.background (plan_of l.plan) found));
  count : length l.cells.items ≡ l.place * size l.plan.form.shape;
}

abbrev pub invariant-fold_cells-loop-place : goal.invariant-fold_cells-loop-place
invariant-fold_cells-loop-place l =
    and_then (cells_in l.context l.gs l.plan.ranges.items (drop l.place l.plan.frame) l.plan.form (env_of l.env)) (λ rest. Ok (fold (combined l.op) l.value rest))
    ≡ and_then (cells_in l.context l.gs l.plan.ranges.items l.plan.frame l.plan.form (env_of l.env)) (λ found. Ok (fold (combined l.op) l.initial.value found))

abbrev pub decreases-cell_at : goal.decreases-cell_at
decreases-cell_at l = rank_of l.context.now + 4 * size-Generator l.g.now + 1

abbrev pub decreases-checked_cell : goal.decreases-checked_cell
decreases-checked_cell l = rank_of l.context.now + 4 * size-Generator l.g.now + 2

abbrev pub decreases-held_cell : goal.decreases-held_cell
decreases-held_cell l = rank_of l.context.now + 4 * cells_size l.gs.now + 3

abbrev pub invariant-held_cell-loop-i : goal.invariant-held_cell-loop-i
invariant-held_cell-loop-i l =
    holder (map (generator_of l.context (env_of l.env)) (drop l.i l.gs)) (drop l.i l.ranges) l.index
    ≡ holder (map (generator_of l.context (env_of l.env)) l.gs) l.ranges l.index

abbrev pub invariant-evaluate_generators-loop-g : goal.invariant-evaluate_generators-loop-g
invariant-evaluate_generators-loop-g l =
    and_then (each (bounds_in l.context (env_of l.env)) (drop l.g-index l.gs)) (λ rest. Ok (l.all.items ++ rest))
    ≡ each (bounds_in l.context (env_of l.env)) l.gs

abbrev pub decreases-evaluate_generator : goal.decreases-evaluate_generator
decreases-evaluate_generator l = rank_of l.context.now + 4 * size-Generator l.g.now + 3

abbrev pub decreases-evaluate_bound : goal.decreases-evaluate_bound
decreases-evaluate_bound l = rank_of l.context.now + 4 * size-Bound l.b.now + 2

abbrev pub decreases-evaluate_maybe : goal.decreases-evaluate_maybe
decreases-evaluate_maybe l = rank_of l.context.now + 4 * maybe_size l.e.now + 3
