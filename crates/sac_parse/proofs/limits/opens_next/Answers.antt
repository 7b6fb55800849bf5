use Rattle.sac_parse.proofs.Shallow.{next_there, next_none}
use Rattle.sac_parse.proofs.limits.opens_next.Goals as goal

pub returns-then-is_word : goal.returns-then-is_word
returns-then-is_word c = λ t r split. next_there c.starts_with_any-is_word.result c.ends_with_fold-is_operator.result c.args.before.now c.args.rest.now c.starts_with_any-is_word.ensures c.if-is_word.true c.ends_with_fold-is_operator.ensures t r split

pub returns-else-is_word : goal.returns-else-is_word
returns-else-is_word c = λ t r split. next_none c.starts_with_any-is_word.result c.args.before.now c.args.rest.now c.starts_with_any-is_word.ensures c.if-is_word.false t r split
