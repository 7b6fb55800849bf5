use Rattle.std.proofs.Common.{◌≡◌, drop, false}
use Rattle.sac_ast.specs.View.{functions}
use Rattle.check_rules.specs.Programs.{mains_left}
use Rattle.type_check.proofs.program.count_mains.Given as goal

abbrev pub invariant-loop-f : goal.invariant-loop-f
invariant-loop-f l = mains_left l.seen (functions (drop l.f-index l.functions)) l.end ≡ mains_left false (functions l.functions) l.end
