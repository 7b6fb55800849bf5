use Rattle.std.proofs.Common.{◌≡◌, drop}
use Rattle.sac_ast.specs.Bases.{first_known}
use Rattle.sac_ast.proofs.rules.first_known.Given as goal

abbrev pub invariant-loop-base : goal.invariant-loop-base
invariant-loop-base l = first_known (drop l.base-index l.bases) ≡ first_known l.bases
