use Rattle.std.proofs.Common.{sym}
use Rattle.std.proofs.lemmas.Bool.{false_from_ne_true}
use Rattle.shape_types.proofs.Lists.{length-all_have}
use Rattle.shape_types.proofs.choice.fits.Goals as goal

pub returns-then-params-args : goal.returns-then-params-args
returns-then-params-args c = sym (false_from_ne_true _ (λ e. c.if-params-args.true (length-all_have c.args.params.now c.args.args.now e)))
