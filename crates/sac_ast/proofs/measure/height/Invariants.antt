use Rattle.std.proofs.Common.{◌≡◌, max, drop}
use Rattle.sac_ast.specs.Heights.{functions_height, capped}
use Rattle.sac_ast.specs.View as view
use Rattle.sac_ast.proofs.measure.height.Given as goal

abbrev pub invariant-loop-f : goal.invariant-loop-f
invariant-loop-f l = max (capped (functions_height (view.functions (drop l.f-index l.program.functions.items)))) l.greatest ≡ capped (functions_height (view.functions l.program.functions.items))
