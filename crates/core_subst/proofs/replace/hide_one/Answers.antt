use Rattle.core_subst.specs.Substitution.{partner_at}
use Rattle.core_subst.proofs.Hiding.{hidden_pushed}
use Rattle.core_subst.proofs.replace.hide_one.Goals as goal

pub returns-in_ok-push-clause-below : goal.returns-in_ok-push-clause-below
returns-in_ok-push-clause-below c = hidden_pushed c.args.var (partner_at c.args.partners.now) c.args.hidden.now.items c.push.new.self.items c.in_ok-push.ensures.items
