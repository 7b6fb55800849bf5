use Rattle.std.proofs.Common.{◌≡◌, ◌++◌, drop, map}
use Rattle.sac_ast.specs.View.{functions}
use Rattle.core_ir.specs.View.{fun_term}
use Rattle.single_assign.specs.Functions.{functions_by}
use Rattle.single_assign.specs.Views.{place_by}
use Rattle.single_assign.proofs.program.lower_each.Given as goal

abbrev pub invariant-loop-f : goal.invariant-loop-f
invariant-loop-f l =
    map fun_term l.cores.items ++ functions_by (place_by l.names) (functions l.all.all.now) (functions (drop l.f-index l.functions))
    ≡ functions_by (place_by l.names) (functions l.all.all.now) (functions l.functions)
