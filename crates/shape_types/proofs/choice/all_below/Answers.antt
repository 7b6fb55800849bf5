use Rattle.std.proofs.Common.{sym}
use Rattle.std.proofs.lemmas.Bool.{false_from_ne_true}
use Rattle.shape_types.proofs.Lists.{length-all_below}
use Rattle.shape_types.proofs.choice.all_below.Goals as goal

pub returns-then-params-others : goal.returns-then-params-others
returns-then-params-others c = sym (false_from_ne_true _ (λ e. c.if-params-others.true (length-all_below c.args.params.now c.args.others.now e)))
