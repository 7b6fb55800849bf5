use Rattle.std.proofs.Common.{◌≡◌, drop, map}
use Rattle.core_ir.specs.View.{let_term}
use Rattle.merge_plans.specs.scalarisable.Around.{none_uses}
use Rattle.merge_plans.proofs.scalarisable.around.none_use.Given as goal

abbrev pub invariant-loop-binding : goal.invariant-loop-binding
invariant-loop-binding l = none_uses l.x (map let_term (drop l.binding-index l.bindings)) ≡ none_uses l.x (map let_term l.bindings)
