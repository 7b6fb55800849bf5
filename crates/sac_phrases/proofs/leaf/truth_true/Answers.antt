use Rattle.std.proofs.lemmas.Result.{err_from_is_err_and}
use Rattle.sac_phrases.proofs.Steps.{memory_halts}
use Rattle.sac_phrases.proofs.leaf.truth_true.Goals as goal

pub returns-in_err-truth-clause-phrase : goal.returns-in_err-truth-clause-phrase
returns-in_err-truth-clause-phrase c = let p = err_from_is_err_and c.from_residual-in_err-truth.result c.from_residual-in_err-truth.ensures.1 in rw (p.1, p.2) (memory_halts c.in_err-truth.field-0.0 c.in_err-truth.ensures.memory)
