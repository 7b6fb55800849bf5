use Rattle.std.proofs.Common.{◌≡◌, ◌++◌, ◌+◌, ◌*◌, drop}
use Rattle.sac_ast.specs.Bases.{bases, call_bases_in}
use Rattle.sac_ast.specs.View.{exprs, generators, functions}
use Rattle.sac_ast.specs.declared.Expression.{size-Expression}
use Rattle.sac_ast.specs.declared.Generator.{size-Generator}
use Rattle.sac_ast.specs.declared.Bound.{size-Bound}
use Rattle.sac_ast.specs.declared.Operation.{size-Operation}
use Rattle.sac_bases.specs.Generators.{all_given}
use Rattle.sac_ast.proofs.Lists.{exprs_size, cells_size, maybe_size}
use Rattle.sac_bases.proofs.base.+bases.Given as goal

abbrev pub decreases-base_of : goal.decreases-base_of
decreases-base_of l = 4 * size-Expression l.e.now + 2

abbrev pub decreases-bases_of : goal.decreases-bases_of
decreases-bases_of l = 4 * exprs_size l.es.now + 4

abbrev pub decreases-maybe_base : goal.decreases-maybe_base
decreases-maybe_base l = 4 * maybe_size l.e.now + 3

abbrev pub decreases-bound_base : goal.decreases-bound_base
decreases-bound_base l = 4 * size-Bound l.b.now + 2

abbrev pub decreases-operation_base : goal.decreases-operation_base
decreases-operation_base l = 4 * size-Operation l.op.now + 2

abbrev pub decreases-all_given : goal.decreases-all_given
decreases-all_given l = 4 * cells_size l.gs.now + 4

abbrev pub decreases-one_given : goal.decreases-one_given
decreases-one_given l = 4 * size-Generator l.g.now + 3

abbrev pub invariant-bases_of-loop-e : goal.invariant-bases_of-loop-e
invariant-bases_of-loop-e l =
    l.bases.items ++ bases (call_bases_in (functions l.functions.all.now)) l.known.all.items (exprs (drop l.e-index l.es))
    ≡ bases (call_bases_in (functions l.functions.all.now)) l.known.all.items (exprs l.es)

abbrev pub invariant-all_given-loop-g : goal.invariant-all_given-loop-g
invariant-all_given-loop-g l =
    l.given.items ++ all_given (call_bases_in (functions l.functions.all.now)) l.known.all.items (generators (drop l.g-index l.gs))
    ≡ all_given (call_bases_in (functions l.functions.all.now)) l.known.all.items (generators l.gs)
