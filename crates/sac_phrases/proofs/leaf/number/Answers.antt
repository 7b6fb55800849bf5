use Rattle.std.proofs.lemmas.Result.{err_from_is_err_and}
use Rattle.sac_phrases.proofs.Steps.{memory_halts}
use Rattle.sac_phrases.proofs.leaf.number.Goals as goal

pub returns-in_err-number-clause-phrase : goal.returns-in_err-number-clause-phrase
returns-in_err-number-clause-phrase c = let p = err_from_is_err_and c.from_residual-in_err-number.result c.from_residual-in_err-number.ensures.1 in rw (p.1, p.2) (memory_halts c.in_err-number.field-0.0 c.in_err-number.ensures.memory)
