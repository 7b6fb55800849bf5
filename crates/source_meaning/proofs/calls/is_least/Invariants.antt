use Rattle.std.proofs.Common.{◌≡◌, drop}
use Rattle.std.specs.Prelude.{not, ◌||◌}
use Rattle.std.specs.List.{list_all}
use Rattle.sac_base.specs.Types.{all_below}
use Rattle.sac_ast.specs.View.{function, functions}
use Rattle.source_meaning.specs.Calls.{fits, param_types}
use Rattle.source_meaning.proofs.calls.is_least.Given as goal

abbrev pub invariant-loop-g : goal.invariant-loop-g
invariant-loop-g l =
    list_all (λ g. not (fits l.name l.args g) || all_below (param_types (function l.f)) (param_types g)) (functions (drop l.g-index l.functions))
    ≡ list_all (λ g. not (fits l.name l.args g) || all_below (param_types (function l.f)) (param_types g)) (functions l.functions)
