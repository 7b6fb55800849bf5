use Rattle.std.proofs.Common.{◌≡◌, [], take, drop}
use Rattle.sac_ast.specs.View.{functions}
use Rattle.check_rules.specs.First.{earlier}
use Rattle.check_rules.specs.Programs.{in_functions}
use Rattle.type_check.proofs.program.all_functions.Given as goal

abbrev pub invariant-loop-at : goal.invariant-loop-at
invariant-loop-at l =
    earlier l.first (in_functions (functions l.functions.all.now) (functions (take l.at l.functions.all.now)) (functions (drop l.at l.functions.all.now)))
    ≡ in_functions (functions l.functions.all.now) [] (functions l.functions.all.now)
