use Rattle.std.proofs.Common.{◌≡◌, map, take}
use Rattle.core_ir.specs.View.{fun_term}
use Rattle.counted_code.specs.View.{code_fun_term}
use Rattle.reuse_candidates.proofs.calls.without_bodies.Given as goal

abbrev pub invariant-loop-function : goal.invariant-loop-function
invariant-loop-function l = map (λ f. (fun_term f).results) l.functions.items ≡ map (λ f. (code_fun_term f).results) (take l.function-index l.function-items)

abbrev pub invariant-loop-group : goal.invariant-loop-group
invariant-loop-group l = map (λ g. g.items) l.groups.items ≡ map (λ g. g.items) (take l.group-index l.group-items)
