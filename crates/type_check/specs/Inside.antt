-- What the walk finds in a function behind its parameters.
use Rattle.std.specs.Prelude.{Option}
use Rattle.sac_ast.specs.Tree.{FunctionTree}
use Rattle.check_rules.specs.Accepted.{Names, Known, Place, bound_behind}
use Rattle.check_rules.specs.declared.violation.Violation.{Violation}
use Rattle.check_rules.specs.Programs.{ended_first}
use Rattle.check_rules.specs.Walk.{in_block, in_values}

-- the earliest violation, from what is found in the parameters, and from the names that they bind
abbrev pub found_inside : Option Violation → Place → FunctionTree → Names → Known → Option Violation
found_inside twice p f bound known =
    let body = in_block p f.body bound known in
    let values = in_values p f.values (bound_behind f.body bound) body.known in
    ended_first twice body.first values.first values.bases f
