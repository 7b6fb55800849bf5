use Rattle.std.proofs.Common.{◌≡◌, ℕ, ◌||◌, drop}
use Rattle.std.specs.Ordering.{nat_cmp}
use Rattle.std.specs.BTreeSet.{contains}
use Rattle.core_ir.specs.Binders.{is_in}
use Rattle.core_subst.specs.Names.{variable}
use Rattle.removal_rules.proofs.used.add_all.Given as goal

abbrev pub invariant-loop-var : goal.invariant-loop-var
invariant-loop-var l = (n : ℕ) → (contains nat_cmp l.used n || is_in (variable n) (drop l.var-index l.vars)) ≡ (contains nat_cmp l.initial.used n || is_in (variable n) l.vars)
