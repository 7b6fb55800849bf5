use Rattle.std.proofs.Common.{◌≡◌, drop}
use Rattle.source_meaning.specs.Environments.{env_of}
use Rattle.source_meaning.specs.Parameters.{names_of_params}
use Rattle.sac_base.specs.Outcomes.{with_variables}
use Rattle.source_meaning.proofs.calls.bind_params.Given as goal

abbrev pub invariant-loop-param : goal.invariant-loop-param
invariant-loop-param l =
    with_variables (names_of_params (drop l.param-index l.params)) l.left.items (env_of l.env)
    ≡ with_variables (names_of_params l.params) l.initial.left.items (env_of l.initial.env)
