use Rattle.std.proofs.Common.{◌≡◌, ◌++◌, drop}
use Rattle.core_lowering.specs.steps.Looks.{vars_of}
use Rattle.core_scopes.specs.Looks.{look, texts}
use Rattle.core_scopes.proofs.scope.Scope.vars.Given as goal

abbrev pub invariant-loop-name : goal.invariant-loop-name
invariant-loop-name l = l.vars.items ++ vars_of (look l.self) (texts (drop l.name-index l.names)) ≡ vars_of (look l.self) (texts l.names)
