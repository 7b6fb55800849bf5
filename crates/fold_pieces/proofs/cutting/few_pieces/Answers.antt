use Rattle.std.proofs.Common.{subst}
use Rattle.generator_sets.specs.Counts.{IsCause}
use Rattle.fold_pieces.proofs.Verdict.{over}
use Rattle.fold_pieces.proofs.cutting.few_pieces.Goals as goal

pub returns-in-Err-TooMany-clause-none : goal.returns-in-Err-TooMany-clause-none
returns-in-Err-TooMany-clause-none c = λ greatest count counted.
    over greatest count (subst (IsCause 4096 greatest count) c.in-Err-TooMany.field-0-is (c.in-Err-TooMany.ensures.due greatest count counted))
