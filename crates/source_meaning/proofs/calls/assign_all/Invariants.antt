use Rattle.std.proofs.Common.{◌≡◌, drop}
use Rattle.source_meaning.specs.Environments.{env_of}
use Rattle.source_meaning.specs.Meaning.{names}
use Rattle.sac_base.specs.Outcomes.{with_variables}
use Rattle.source_meaning.proofs.calls.assign_all.Given as goal

abbrev pub invariant-loop-target : goal.invariant-loop-target
invariant-loop-target l =
    with_variables (names (drop l.target-index l.targets)) l.left.items (env_of l.env)
    ≡ with_variables (names l.targets) l.initial.left.items (env_of l.initial.env)
