use Rattle.std.proofs.Common.{sym}
use Rattle.check_rules.proofs.Clashing.{skipped_all, skipped}
use Rattle.check_rules.proofs.clashes.first_before.Goals as goal

pub returns-in-None : goal.returns-in-None
returns-in-None c = skipped_all c.args.functions.now.all.now c.args.name.now c.args.at c.requires (sym c.in-None.ensures)

pub returns-in-Some : goal.returns-in-Some
returns-in-Some c = skipped c.args.functions.now.all.now c.args.name.now c.args.at c.in-Some.place c.in-Some.ensures
