use Rattle.std.proofs.Common.{◌≡◌, drop}
use Rattle.sac_ast.specs.View.{functions}
use Rattle.check_rules.specs.First.{earlier}
use Rattle.check_rules.specs.Programs.{mains, inline_mains}
use Rattle.type_check.proofs.program.check_inline.Given as goal

abbrev pub invariant-loop-f : goal.invariant-loop-f
invariant-loop-f l = earlier l.first (inline_mains (mains (functions (drop l.f-index l.functions)))) ≡ inline_mains (mains (functions l.functions))
