use Rattle.run_kernels.proofs.FewerLevels.{fewer_levels}
use Rattle.run_kernels.proofs.fewer_levels.fewer_levels_end_alike.Goals as goal

pub returns : goal.returns
returns c code plain are turns few left le place vs site h group is stands stays =
    fewer_levels code plain are turns few left le place vs site h group is stands stays
