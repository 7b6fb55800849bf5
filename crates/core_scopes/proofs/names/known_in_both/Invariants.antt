use Rattle.std.proofs.Common.{◌≡◌, ◌++◌, drop}
use Rattle.core_lowering.specs.steps.Building.{bound_in_both}
use Rattle.core_scopes.specs.Looks.{look, texts}
use Rattle.core_scopes.proofs.names.known_in_both.Given as goal

abbrev pub invariant-loop-name : goal.invariant-loop-name
invariant-loop-name l =
    texts l.known.items ++ bound_in_both (look l.first) (look l.second) (texts (drop l.name-index l.names)) ≡ bound_in_both (look l.first) (look l.second) (texts l.names)
