use Rattle.std.proofs.Common.{rules, ◌≤◌, ◌<◌, [], ◌∷◌, sym, ap, ◌∙◌, length}
use Rattle.check_rules.specs.Accepted.{with_names}
use Rattle.check_rules.specs.Tables.{among}
use Rattle.check_rules.proofs.Places.{params_step, params_end}
use Rattle.check_rules.proofs.targets.push_params.Goals as goal

pub loop-param-preserved : goal.loop-param-preserved
loop-param-preserved c =
    let below : c.loop-param.param-index < length c.args.params.now = search rules in
    params_step c.args.params.now c.loop-param.param-index c.param-item.result (among c.loop-param.bound.trail.items) (among c.push.new.self.trail.items) below c.param-item.is
    (c.in_ok-push.ensures.names ∙ ap (λ text. with_names (text ∷ []) (among c.loop-param.bound.trail.items)) c.as_str.ensures.bytes) ∙ c.loop-param.invariant

pub returns : goal.returns
returns c =
    let past : length c.args.params.now ≤ c.loop-param.param-index = search rules in
    sym (params_end c.args.params.now c.loop-param.param-index (among c.loop-param.bound.trail.items) past) ∙ c.loop-param.invariant
