use Rattle.std.proofs.Common.{◌≡◌, ◌+◌, ◌*◌, drop}
use Rattle.sac_ast.specs.Bases.{in_exprs, in_gens, in_block, call_bases_in}
use Rattle.sac_ast.specs.View.{exprs, generators, block, functions}
use Rattle.sac_ast.specs.declared.Expression.{size-Expression}
use Rattle.sac_ast.specs.declared.Statement.{size-Statement}
use Rattle.sac_ast.specs.declared.Generator.{size-Generator}
use Rattle.sac_ast.specs.declared.Bound.{size-Bound}
use Rattle.sac_ast.specs.declared.Operation.{size-Operation}
use Rattle.sac_ast.proofs.Lists.{exprs_size, block_size, cells_size, maybe_size}
use Rattle.sac_bases.proofs.bindings.+bindings.Given as goal

abbrev pub decreases-in_expr : goal.decreases-in_expr
decreases-in_expr l = 4 * size-Expression l.e.now + 2

abbrev pub decreases-in_exprs : goal.decreases-in_exprs
decreases-in_exprs l = 4 * exprs_size l.es.now + 4

abbrev pub decreases-in_maybe : goal.decreases-in_maybe
decreases-in_maybe l = 4 * maybe_size l.e.now + 3

abbrev pub decreases-in_bound : goal.decreases-in_bound
decreases-in_bound l = 4 * size-Bound l.b.now + 2

abbrev pub decreases-in_generator : goal.decreases-in_generator
decreases-in_generator l = 4 * size-Generator l.g.now + 3

abbrev pub decreases-in_bounds : goal.decreases-in_bounds
decreases-in_bounds l = 4 * size-Generator l.g.now + 2

abbrev pub decreases-in_cell : goal.decreases-in_cell
decreases-in_cell l = 4 * size-Generator l.g.now + 2

abbrev pub decreases-in_generators : goal.decreases-in_generators
decreases-in_generators l = 4 * cells_size l.gs.now + 4

abbrev pub decreases-in_operation : goal.decreases-in_operation
decreases-in_operation l = 4 * size-Operation l.op.now + 2

abbrev pub decreases-in_stmt : goal.decreases-in_stmt
decreases-in_stmt l = 4 * size-Statement l.s.now + 2

abbrev pub decreases-in_assign : goal.decreases-in_assign
decreases-in_assign l = 4 * size-Expression l.value.now + 3

abbrev pub decreases-in_block : goal.decreases-in_block
decreases-in_block l = 4 * block_size l.ss.now + 4

abbrev pub invariant-in_exprs-loop-e : goal.invariant-in_exprs-loop-e
invariant-in_exprs-loop-e l =
    in_exprs (call_bases_in (functions l.functions.all.now)) (exprs (drop l.e-index l.es)) l.known.all.items
    ≡ in_exprs (call_bases_in (functions l.functions.all.now)) (exprs l.es) l.initial.known.all.items

abbrev pub invariant-in_generators-loop-g : goal.invariant-in_generators-loop-g
invariant-in_generators-loop-g l =
    in_gens (call_bases_in (functions l.functions.all.now)) (generators (drop l.g-index l.gs)) l.known.all.items
    ≡ in_gens (call_bases_in (functions l.functions.all.now)) (generators l.gs) l.initial.known.all.items

abbrev pub invariant-in_block-loop-s : goal.invariant-in_block-loop-s
invariant-in_block-loop-s l =
    in_block (call_bases_in (functions l.functions.all.now)) (block (drop l.s-index l.ss)) l.known.all.items
    ≡ in_block (call_bases_in (functions l.functions.all.now)) (block l.ss) l.initial.known.all.items
