use Rattle.std.proofs.Common.{rules, ◌≤◌, ◌<◌, sym, ◌∙◌, length}
use Rattle.check_rules.specs.Tables.{has}
use Rattle.check_rules.proofs.Places.{params_step, params_end}
use Rattle.check_rules.proofs.listing.list_params.Goals as goal

pub loop-param-preserved : goal.loop-param-preserved
loop-param-preserved c =
    let below : c.loop-param.param-index < length c.args.params.now = search rules in
    params_step c.args.params.now c.loop-param.param-index c.param-item.result (has c.loop-param.names) (has c.note.new.names) below c.param-item.is c.in_ok-note.ensures.names ∙ c.loop-param.invariant

pub returns : goal.returns
returns c =
    let past : length c.args.params.now ≤ c.loop-param.param-index = search rules in
    sym (params_end c.args.params.now c.loop-param.param-index (has c.loop-param.names) past) ∙ c.loop-param.invariant
