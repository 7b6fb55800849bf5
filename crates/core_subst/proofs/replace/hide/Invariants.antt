use Rattle.std.proofs.Common.{◌≡◌, length, take, drop}
use Rattle.core_subst.specs.Substitution.{image, below}
use Rattle.core_subst.proofs.replace.hide.Given as goal

abbrev pub invariant-loop-var : goal.invariant-loop-var
invariant-loop-var l = record {
  outer : take (length l.initial.hidden.items) l.hidden.items ≡ l.initial.hidden.items;
  below : below (drop l.var-index l.vars) (image l.partners l.hidden.items) ≡ below l.vars (image l.partners l.initial.hidden.items);
}
