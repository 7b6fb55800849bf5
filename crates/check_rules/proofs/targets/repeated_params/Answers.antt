use Rattle.std.proofs.Common.{rules, ◌<◌, ◌+◌, ap, ◌∙◌, length, drop}
use Rattle.check_rules.specs.First.{earlier}
use Rattle.check_rules.specs.Tables.{has}
use Rattle.check_rules.specs.Walk.{repeated_params}
use Rattle.check_rules.proofs.Lists.{params_repeated_step}
use Rattle.check_rules.proofs.targets.repeated_params.Goals as goal

pub loop-param-preserved : goal.loop-param-preserved
loop-param-preserved c =
    let ts = c.args.params.now in
    let k = c.loop-param.param-index in
    let below : k < length ts = search rules in
    let one = c.earlier-first.ensures ∙ ap (earlier c.loop-param.first) c.in_ok-twice.ensures.first in
    ap (λ r. earlier r (repeated_params (has c.repeated.new.before) (drop (k + 1) ts))) one
    ∙ params_repeated_step ts k c.param-item.result below c.param-item.is c.loop-param.first (has c.loop-param.before) (has c.repeated.new.before) c.in_ok-twice.ensures.names
    ∙ c.loop-param.invariant
