use Rattle.count_table.proofs.Facts.{rule_facts}
use Rattle.count_table.proofs.law.rule_facts.Goals as goal

pub returns : goal.returns
returns g c = rule_facts
