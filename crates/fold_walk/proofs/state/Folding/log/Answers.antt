use Rattle.std.proofs.Common.{List, ap}
use Rattle.fold_walk.specs.declared.state.Fold.{Fold}
use Rattle.fold_walk.specs.Walking.{State}
use Rattle.fold_walk.proofs.state.Folding.log.Goals as goal

pub returns : goal.returns
returns c =
    let with_folds : List Fold → State = λ (fs : List Fold). record { next = c.args.self.now.progress.next; folds = fs } in
    ap with_folds c.in_ok-push.ensures.items
