use Rattle.std.proofs.Common.{◌∙◌}
use Rattle.check_rules.specs.Accepted.{with_names, param_names}
use Rattle.check_rules.specs.Tables.{among}
use Rattle.type_check.proofs.program.bound_params.Goals as goal

pub returns : goal.returns
returns c = c.in_ok-push_params.ensures ∙ (λ i. with_names (param_names c.args.params.now) (among (c.new-bound.ensures i)))
