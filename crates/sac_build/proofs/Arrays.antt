-- Arrays have as many elements as their shapes say.
use Rattle.std.proofs.Common.{List, [], ◌∷◌}
use Rattle.sac_base.specs.Arrays.{ArrayValue}
use Rattle.core_facts.specs.calls.Arrays.{AllFull}
use Rattle.sac_build.specs.Arguments.{AreArrays}

pub all_full : (values : List ArrayValue) → AreArrays values → AllFull values
all_full [] arrays = tt
all_full (a ∷ values) arrays = (arrays.0.0, all_full values arrays.1)
