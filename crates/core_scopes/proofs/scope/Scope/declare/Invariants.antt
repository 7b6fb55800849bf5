use Rattle.std.proofs.Common.{◌≡◌, drop}
use Rattle.core_lowering.specs.steps.Building.{declared}
use Rattle.core_lowering.specs.steps.Parts.{after_names}
use Rattle.core_scopes.specs.Looks.{look, texts}
use Rattle.core_scopes.specs.Built.{built}
use Rattle.core_scopes.proofs.scope.Scope.declare.Given as goal

abbrev pub invariant-loop-name : goal.invariant-loop-name
invariant-loop-name l =
    after_names l.vars.items (declared (texts (drop l.name-index l.names)) (look l.self) (built l.out)) ≡ declared (texts l.names) (look l.initial.self) (built l.initial.out)
