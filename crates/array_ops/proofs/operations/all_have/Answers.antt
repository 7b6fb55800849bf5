use Rattle.std.proofs.Common.{sym}
use Rattle.array_ops.proofs.TypeLists.{have_length}
use Rattle.array_ops.proofs.operations.all_have.Goals as goal

pub returns-then-types-values : goal.returns-then-types-values
returns-then-types-values c = sym (have_length c.args.types.now c.args.values.now c.if-types-values.true)
