use Rattle.std.proofs.Common.{◌≡◌, drop}
use Rattle.core_scopes.specs.Looks.{look}
use Rattle.core_lowering.specs.steps.Functions.{params_declared}
use Rattle.core_lowering.specs.steps.Parts.{after_params}
use Rattle.core_scopes.specs.Built.{built}
use Rattle.single_assign.proofs.program.lower_params.Given as goal

abbrev pub invariant-loop-param : goal.invariant-loop-param
invariant-loop-param l =
    after_params l.typed.items (params_declared (drop l.param-index l.params) (look l.scope) (built l.out)) ≡ params_declared l.params (look l.initial.scope) (built l.initial.out)
