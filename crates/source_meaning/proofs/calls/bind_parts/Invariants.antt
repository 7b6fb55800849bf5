use Rattle.std.proofs.Common.{◌≡◌, drop, map}
use Rattle.sac_base.specs.declared.base.Base.TheVariants.{Int}
use Rattle.sac_base.specs.Arrays.{scalar}
use Rattle.sac_base.specs.Outcomes.{with_variables}
use Rattle.source_meaning.specs.Environments.{env_of}
use Rattle.source_meaning.specs.Meaning.{names}
use Rattle.source_meaning.proofs.calls.bind_parts.Given as goal

abbrev pub invariant-loop-k : goal.invariant-loop-k
invariant-loop-k l =
    with_variables (names (drop l.k l.targets)) (map (scalar Int) (drop l.k l.v)) (env_of l.env)
    ≡ with_variables (names l.targets) (map (scalar Int) l.v) (env_of l.initial.env)
