use Rattle.std.proofs.Common.{◌∙◌}
use Rattle.core_ir.specs.View.{core_term}
use Rattle.unreached_functions.proofs.Outside.{outside_through}
use Rattle.sac_build.proofs.loop_turns.turns.by_vectors.Goals as goal

pub returns-clause-outcome : goal.returns-clause-outcome
returns-clause-outcome c well args caps full =
    c.in_ok-parted.ensures.outcome well args caps full ∙ c.in_ok-vectored.ensures.outcome (c.in_ok-parted.ensures.well well) args caps full

pub returns-clause-outside : goal.returns-clause-outside
returns-clause-outside c =
    outside_through (core_term c.args.core) (core_term c.in_ok-parted.parted) (core_term c.in_ok-vectored.vectored) c.in_ok-parted.ensures.outside c.in_ok-vectored.ensures.outside

pub returns-clause-well : goal.returns-clause-well
returns-clause-well c well = c.in_ok-vectored.ensures.well (c.in_ok-parted.ensures.well well)
