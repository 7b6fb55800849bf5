use Rattle.std.proofs.Common.{rules, ◌≤◌, ◌<◌, [], ◌∷◌, sym, ap, ◌∙◌, length}
use Rattle.check_rules.specs.Accepted.{with_names}
use Rattle.check_rules.specs.Tables.{among}
use Rattle.check_rules.proofs.Places.{targets_step, targets_end, kept_twice}
use Rattle.check_rules.proofs.targets.push_targets.Goals as goal

pub loop-target-preserved : goal.loop-target-preserved
loop-target-preserved c =
    let below : c.loop-target.target-index < length c.args.targets.now = search rules in
    record {
      names = targets_step c.args.targets.now c.loop-target.target-index c.target-item.result (among c.loop-target.bound.trail.items) (among c.push.new.self.trail.items) below c.target-item.is
          (c.in_ok-push.ensures.names ∙ ap (λ text. with_names (text ∷ []) (among c.loop-target.bound.trail.items)) c.as_str.ensures.bytes) ∙ c.loop-target.invariant.names;
      kept = kept_twice c.args.bound.now.trail.items c.loop-target.bound.trail.items c.push.new.self.trail.items c.loop-target.invariant.kept c.in_ok-push.ensures.kept;
    }

pub returns-clause-names : goal.returns-clause-names
returns-clause-names c =
    let past : length c.args.targets.now ≤ c.loop-target.target-index = search rules in
    sym (targets_end c.args.targets.now c.loop-target.target-index (among c.loop-target.bound.trail.items) past) ∙ c.loop-target.invariant.names
