use Rattle.std.proofs.Common.{◌≡◌, drop}
use Rattle.std.specs.Prelude.{unwrap_or}
use Rattle.std.specs.Ordering.{nat_cmp}
use Rattle.std.specs.BTreeMap.{get}
use Rattle.core_ir.specs.declared.tree.Var.{Var}
use Rattle.core_subst.specs.Substitution.{partner}
use Rattle.core_subst.proofs.replace.partners_of.Given as goal

abbrev pub invariant-loop-from : goal.invariant-loop-from
invariant-loop-from l = (x : Var) → unwrap_or (get nat_cmp l.partners x.0) (partner (drop l.from-index l.pairs) x) ≡ partner l.pairs x
