use Rattle.std.proofs.Common.{refl}
use Rattle.fold_walk.proofs.level.source_of.Goals as goal

pub returns : goal.returns
returns c = record { var = refl; frame = refl; parts = c.deref.ensures.value }
