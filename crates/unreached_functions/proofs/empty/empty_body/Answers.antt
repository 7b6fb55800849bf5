use Rattle.std.proofs.Common.{◌∙◌}
use Rattle.unreached_functions.proofs.Numbers.{fault_body}
use Rattle.unreached_functions.proofs.empty.empty_body.Goals as goal

pub returns : goal.returns
returns c =
    fault_body (record { lets = c.push.new.self; results = c.in_ok-results.results }) c.fault-binding.result c.new-lets.result.items c.args.targets.items c.args.site
    c.in_ok-push.ensures.items c.new-lets.ensures.items c.fault-binding.ensures (c.in_ok-results.ensures.items ∙ c.deref.ensures.value)
