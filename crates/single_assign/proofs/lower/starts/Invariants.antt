use Rattle.std.proofs.Common.{◌≡◌, drop}
use Rattle.core_lowering.specs.steps.Parts.{after_list}
use Rattle.core_scopes.specs.Looks.{look, texts}
use Rattle.core_scopes.specs.Built.{built}
use Rattle.single_assign.specs.Views.{make_starts_in}
use Rattle.single_assign.proofs.lower.starts.Given as goal

abbrev pub invariant-loop-name : goal.invariant-loop-name
invariant-loop-name l =
    after_list l.vars.items (make_starts_in l.cx l.site (texts (drop l.name-index l.names)) (look l.scope) (built l.out)) ≡ make_starts_in l.cx l.site (texts l.names) (look l.scope) (built l.initial.out)
