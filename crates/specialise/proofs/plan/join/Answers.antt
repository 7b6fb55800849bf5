use Rattle.std.proofs.Common.{rules, arith}
use Rattle.specialise.proofs.Steps.{joined_set, joined_beyond}
use Rattle.specialise.proofs.plan.join.Goals as goal

pub returns-in_ok-push : goal.returns-in_ok-push
returns-in_ok-push c = joined_set c.args.groups.now.items c.args.group c.push.new.self c.args.number c.index_mut.result.now (omega (arith, c.if-group-len.true, c.len.ensures)) (search rules)

pub returns-else-group-len : goal.returns-else-group-len
returns-else-group-len c = joined_beyond c.args.groups.now.items c.args.group c.args.number (omega (arith, c.if-group-len.false, c.len.ensures))
