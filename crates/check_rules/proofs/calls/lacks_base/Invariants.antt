use Rattle.std.proofs.Common.{◌≡◌, drop, is_some}
use Rattle.sac_ast.specs.Bases.{all_known}
use Rattle.check_rules.proofs.calls.lacks_base.Given as goal

abbrev pub invariant-loop-base : goal.invariant-loop-base
invariant-loop-base l = is_some (all_known (drop l.base-index l.bases)) ≡ is_some (all_known l.bases)
