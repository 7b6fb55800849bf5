use Rattle.std.proofs.Common.{sym}
use Rattle.std.proofs.lemmas.Bool.{false_from_ne_true}
use Rattle.shape_types.proofs.Lists.{length-all_below}
use Rattle.specialise.proofs.tables.all_below.Goals as goal

pub returns-then-types-others : goal.returns-then-types-others
returns-then-types-others c = sym (false_from_ne_true _ (λ e. c.if-types-others.true (length-all_below c.args.types.now c.args.others.now e)))
