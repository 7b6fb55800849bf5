use Rattle.phase_laws.proofs.Folds.{fold_by_part, part_append}
use Rattle.phase_laws.proofs.folds_in_parts.Goals as goal

pub returns-clause-parts : goal.returns-clause-parts
returns-clause-parts c base op allowed shape xs ys p q = part_append base op allowed shape xs ys p q

pub returns-clause-whole : goal.returns-clause-whole
returns-clause-whole c base op allowed shape neutral cells p q = fold_by_part base op allowed shape neutral cells p q
