use Rattle.std.proofs.Common.{ap, ◌∙◌}
use Rattle.check_rules.specs.Accepted.{base_of}
use Rattle.check_walk.proofs.walk.bind_replaced.Goals as goal

pub returns-clause-base : goal.returns-clause-base
returns-clause-base c = c.base_of-base.ensures ∙ ap (λ m. base_of m c.args.name.now) c.in_ok-bind.ensures
