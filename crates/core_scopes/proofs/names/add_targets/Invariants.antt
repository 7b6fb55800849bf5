use Rattle.std.proofs.Common.{◌≡◌, ◌++◌, drop}
use Rattle.source_meaning.specs.Meaning.{names}
use Rattle.core_scopes.specs.Looks.{texts}
use Rattle.core_scopes.proofs.names.add_targets.Given as goal

abbrev pub invariant-loop-target : goal.invariant-loop-target
invariant-loop-target l = texts l.names.items ++ names (drop l.target-index l.targets) ≡ texts l.initial.names.items ++ names l.targets
