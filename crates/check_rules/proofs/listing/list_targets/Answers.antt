use Rattle.std.proofs.Common.{rules, ◌≤◌, ◌<◌, sym, ◌∙◌, length}
use Rattle.check_rules.specs.Tables.{has}
use Rattle.check_rules.proofs.Places.{targets_step, targets_end}
use Rattle.check_rules.proofs.listing.list_targets.Goals as goal

pub loop-target-preserved : goal.loop-target-preserved
loop-target-preserved c =
    let below : c.loop-target.target-index < length c.args.targets.now = search rules in
    targets_step c.args.targets.now c.loop-target.target-index c.target-item.result (has c.loop-target.names) (has c.note.new.names) below c.target-item.is c.in_ok-note.ensures.names ∙ c.loop-target.invariant

pub returns : goal.returns
returns c =
    let past : length c.args.targets.now ≤ c.loop-target.target-index = search rules in
    sym (targets_end c.args.targets.now c.loop-target.target-index (has c.loop-target.names) past) ∙ c.loop-target.invariant
