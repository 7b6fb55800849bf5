use Rattle.std.proofs.Common.{rules, ◌<◌, ◌+◌, ap, ◌∙◌, length, drop}
use Rattle.check_rules.specs.First.{earlier}
use Rattle.check_rules.specs.Tables.{has}
use Rattle.check_rules.specs.Walk.{repeated_targets}
use Rattle.check_rules.proofs.Lists.{few_repeated, targets_repeated_step}
use Rattle.check_rules.proofs.targets.repeated_targets.Goals as goal

pub returns-then-targets-lt2 : goal.returns-then-targets-lt2
returns-then-targets-lt2 c = few_repeated c.args.targets.now c.if-targets-lt2.true

pub loop-target-preserved : goal.loop-target-preserved
loop-target-preserved c =
    let ts = c.args.targets.now in
    let k = c.loop-target.target-index in
    let below : k < length ts = search rules in
    let one = c.earlier-first.ensures ∙ ap (earlier c.loop-target.first) c.in_ok-twice.ensures.first in
    ap (λ r. earlier r (repeated_targets (has c.repeated.new.before) (drop (k + 1) ts))) one
    ∙ targets_repeated_step ts k c.target-item.result below c.target-item.is c.loop-target.first (has c.loop-target.before) (has c.repeated.new.before) c.in_ok-twice.ensures.names
    ∙ c.loop-target.invariant
