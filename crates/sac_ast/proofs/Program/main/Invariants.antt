use Rattle.std.proofs.Common.{◌≡◌, drop}
use Rattle.std.specs.Prelude.{find}
use Rattle.sac_ast.specs.View.{functions}
use Rattle.sac_ast.specs.Mains.{is_main}
use Rattle.sac_ast.proofs.Program.main.Given as goal

abbrev pub invariant-loop-function : goal.invariant-loop-function
invariant-loop-function l = find is_main (functions (drop l.function-index l.self.functions.items)) ≡ find is_main (functions l.self.functions.items)
