use Rattle.std.proofs.Common.{◌≡◌, ℕ, ◌<◌, get_or, false}
use Rattle.sac_ast.specs.declared.Function.{Function}
use Rattle.sac_ast.specs.View.{function, functions}
use Rattle.source_meaning.specs.Calls.{is_least}
use Rattle.source_meaning.proofs.calls.choose_instance.Given as goal

abbrev pub invariant-loop-i : goal.invariant-loop-i
invariant-loop-i l = (k : ℕ) (d : Function) → k < l.i → is_least (functions l.functions) l.name l.args (function (get_or l.functions k d)) ≡ false
