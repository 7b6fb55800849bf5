use Rattle.removal_rules.proofs.Sets.{from_none}
use Rattle.removal_rules.proofs.used.set_of.Goals as goal

pub returns : goal.returns
returns c = from_none c.new-used.result c.args.vars.now _ c.new-used.ensures.empty c.in_ok-add_all.ensures
