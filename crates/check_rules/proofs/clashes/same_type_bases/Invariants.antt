use Rattle.std.proofs.Common.{◌≡◌, drop}
use Rattle.sac_ast.specs.Bases.{same_bases}
use Rattle.check_rules.specs.Accepted.{base_list}
use Rattle.check_rules.proofs.clashes.same_type_bases.Given as goal

abbrev pub invariant-loop-k : goal.invariant-loop-k
invariant-loop-k l = same_bases (base_list (drop l.k l.a)) (base_list (drop l.k l.b)) ≡ same_bases (base_list l.a) (base_list l.b)
