use Rattle.removal_rules.proofs.Sets.{appended_first, appended_last}
use Rattle.removal_rules.proofs.used.appended.Goals as goal

pub returns-clause-first : goal.returns-clause-first
returns-clause-first c = appended_first c.args.more c.args.few c.append.new.self c.in_ok-append.ensures.inserts_all

pub returns-clause-last : goal.returns-clause-last
returns-clause-last c = appended_last c.args.more c.args.few c.append.new.self c.in_ok-append.ensures.inserts_all
