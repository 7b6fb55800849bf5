use Rattle.std.proofs.Common.{ap, ◌∙◌}
use Rattle.check_rules.specs.Accepted.{base_first}
use Rattle.sac_bases.proofs.Firsts.{first_is}
use Rattle.sac_bases.proofs.names.BoundNames.base_of.Goals as goal

pub returns-in-None : goal.returns-in-None
returns-in-None c =
    let known = c.args.self.now in
    ap base_first (c.in-None.ensures.value ∙ known.first c.args.name.now) ∙ first_is known.all.items c.args.name.now

pub returns-in-Some : goal.returns-in-Some
returns-in-Some c =
    let known = c.args.self.now in
    ap base_first (c.in-Some.ensures.value ∙ known.first c.args.name.now) ∙ first_is known.all.items c.args.name.now
