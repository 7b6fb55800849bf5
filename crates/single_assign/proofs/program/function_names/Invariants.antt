use Rattle.std.proofs.Common.{◌≡◌, ◌++◌, drop}
use Rattle.sac_ast.specs.View.{functions}
use Rattle.core_lowering.specs.Programs.{function_names}
use Rattle.core_scopes.specs.Looks.{texts}
use Rattle.core_scopes.proofs.Once.{among, once_but, names_left}
use Rattle.single_assign.proofs.program.function_names.Given as goal

abbrev pub invariant-loop-f : goal.invariant-loop-f
invariant-loop-f l =
    texts l.names.keys ++ once_but (among l.names.keys) (names_left (functions (drop l.f-index l.functions))) ≡ function_names (functions l.functions)
