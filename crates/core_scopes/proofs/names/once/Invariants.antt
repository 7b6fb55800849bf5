use Rattle.std.proofs.Common.{◌≡◌, ◌++◌, [], drop}
use Rattle.core_lowering.specs.Lowering.{once}
use Rattle.core_scopes.specs.Looks.{texts}
use Rattle.core_scopes.proofs.Once.{among, once_but}
use Rattle.core_scopes.proofs.names.once.Given as goal

abbrev pub invariant-loop-name : goal.invariant-loop-name
invariant-loop-name l = texts l.kept.items ++ once_but (among l.met.keys) (texts (drop l.name-index l.names)) ≡ once [] (texts l.names)
