use Rattle.std.proofs.Common.{◌≡◌, drop}
use Rattle.core_ir.specs.Binders.{is_in}
use Rattle.phase_checks.proofs.bags.stands_in.Given as goal

abbrev pub invariant-loop-y : goal.invariant-loop-y
invariant-loop-y l = is_in l.x (drop l.y-index l.xs) ≡ is_in l.x l.xs
