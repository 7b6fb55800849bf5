use Rattle.std.proofs.Common.{◌∙◌, ap}
use Rattle.fold_pieces.specs.Cuts.{have_step_one}
use Rattle.fold_pieces.proofs.Insides.{dense_is}
use Rattle.fold_pieces.proofs.within.is_dense.Goals as goal

pub returns : goal.returns
returns c = dense_is c.args.frame.now c.are_dense.result (c.are_dense.ensures ∙ ap have_step_one c.axes.ensures.axes)
