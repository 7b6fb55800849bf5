use Rattle.std.proofs.Common.{◌≡◌, ℕ, ◌<◌, get_or, false}
use Rattle.sac_ast.specs.declared.Function.{Function}
use Rattle.sac_ast.specs.View.{function}
use Rattle.sac_ast.specs.Mains.{is_main}
use Rattle.sac_ast.proofs.Program.main_place.Given as goal

abbrev pub invariant-loop-i : goal.invariant-loop-i
invariant-loop-i l = (k : ℕ) (d : Function) → k < l.i → is_main (function (get_or l.self.functions.items k d)) ≡ false
