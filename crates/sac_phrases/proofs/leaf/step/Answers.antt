use Rattle.std.proofs.lemmas.Result.{err_from_is_err_and}
use Rattle.sac_phrases.specs.Contract.{lexeme}
use Rattle.sac_phrases.proofs.Steps.{memory_halts}
use Rattle.sac_phrases.proofs.LeafSteps.{step_read}
use Rattle.sac_phrases.proofs.leaf.step.Goals as goal

pub returns-in_err-one-clause-phrase : goal.returns-in_err-one-clause-phrase
returns-in_err-one-clause-phrase c = let p = err_from_is_err_and c.from_residual.result c.from_residual.ensures.1 in rw (p.1, p.2) (memory_halts c.in_err-one.field-0.0 c.in_err-one.ensures.memory)

pub returns-in_err-update-clause-phrase : goal.returns-in_err-update-clause-phrase
returns-in_err-update-clause-phrase c = let p = err_from_is_err_and c.from_residual-in_err-update.result c.from_residual-in_err-update.ensures.1 in rw (p.1, p.2) (memory_halts c.in_err-update.field-0.0 c.in_err-update.ensures.memory)

pub returns-clause-phrase : goal.returns-clause-phrase
returns-clause-phrase c = step_read c.args.place (lexeme c.args.token) c.in-Some.op c.in-Some.site c.in_ok-one.one c.in_ok-update.field-0 c.in-Some.ensures.token.1.0 c.in-Some.ensures.token.0 c.in-Some.ensures.token.1.1 c.in_ok-one.ensures.tree c.in_ok-one.ensures.height c.in_ok-update.ensures.tree c.in_ok-update.ensures.height
