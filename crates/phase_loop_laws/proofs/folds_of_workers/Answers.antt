use Rattle.phase_loop_laws.proofs.FoldResults.{fold_made}
use Rattle.phase_loop_laws.proofs.folds_of_workers.Goals as goal

pub returns : goal.returns
returns c base op allowed shape neutral is_neutral cell forms indices es end is =
    fold_made base op allowed shape neutral is_neutral cell forms indices es end is
