use Rattle.std.proofs.Common.{◌≡◌, max, drop}
use Rattle.sac_ast.specs.Heights.{heights, block_height, gens_height, capped}
use Rattle.sac_ast.specs.View as view
use Rattle.sac_ast.proofs.measure.+height.Given as goal

abbrev pub invariant-expressions-loop-e : goal.invariant-expressions-loop-e
invariant-expressions-loop-e l = max (capped (heights (view.exprs (drop l.e-index l.es)))) l.greatest ≡ capped (heights (view.exprs l.es))

abbrev pub invariant-statements-loop-s : goal.invariant-statements-loop-s
invariant-statements-loop-s l = max (capped (block_height (view.block (drop l.s-index l.ss)))) l.greatest ≡ capped (block_height (view.block l.ss))

abbrev pub invariant-all_generators-loop-g : goal.invariant-all_generators-loop-g
invariant-all_generators-loop-g l = max (capped (gens_height (view.generators (drop l.g-index l.gs)))) l.greatest ≡ capped (gens_height (view.generators l.gs))
