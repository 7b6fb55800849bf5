use Rattle.ref_rules.proofs.Appended.{one_more}
use Rattle.ref_counts.proofs.steps.push_binding.Goals as goal

pub returns : goal.returns
returns c t = one_more c.args.steps.now.items c.push.new.self.items _ c.in_ok-push.ensures.items t
