use Rattle.std.proofs.Common.{◌≡◌, ◌++◌, drop}
use Rattle.core_lowering.specs.steps.Building.{bound_in}
use Rattle.core_scopes.specs.Looks.{look, texts}
use Rattle.core_scopes.proofs.names.known.Given as goal

abbrev pub invariant-loop-name : goal.invariant-loop-name
invariant-loop-name l = texts l.known.items ++ bound_in (look l.scope) (texts (drop l.name-index l.names)) ≡ bound_in (look l.scope) (texts l.names)
