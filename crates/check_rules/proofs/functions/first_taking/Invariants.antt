use Rattle.std.proofs.Common.{◌≡◌, drop}
use Rattle.std.specs.Prelude.{find, option_map}
use Rattle.sac_ast.specs.View.{function, functions}
use Rattle.check_rules.specs.Groups.{takes_beside}
use Rattle.check_rules.proofs.functions.first_taking.Given as goal

abbrev pub invariant-loop-k : goal.invariant-loop-k
invariant-loop-k l =
    find (takes_beside (option_map (λ f. function f.now) l.first) l.name l.bases) (functions (drop l.k l.functions))
    ≡ find (takes_beside (option_map (λ f. function f.now) l.first) l.name l.bases) (functions (drop l.from l.functions))
