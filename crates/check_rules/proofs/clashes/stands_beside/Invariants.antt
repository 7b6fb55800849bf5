use Rattle.std.proofs.Common.{◌≡◌, drop, take}
use Rattle.sac_ast.specs.View.{function, functions}
use Rattle.check_rules.specs.Programs.{stands_with}
use Rattle.check_rules.proofs.clashes.stands_beside.Given as goal

abbrev pub invariant-loop-k : goal.invariant-loop-k
invariant-loop-k l = stands_with (function l.f) (functions (drop l.k (take l.at l.functions.all.now))) ≡ stands_with (function l.f) (functions (take l.at l.functions.all.now))
