use Rattle.std.proofs.Common.{◌≡◌, drop}
use Rattle.std.specs.List.{list_all}
use Rattle.sac_ast.specs.Bases.{may_match}
use Rattle.sac_ast.proofs.rules.agree.Given as goal

abbrev pub invariant-loop-base : goal.invariant-loop-base
invariant-loop-base l = list_all (may_match l.first) (drop l.base-index l.bases) ≡ list_all (may_match l.first) l.bases
