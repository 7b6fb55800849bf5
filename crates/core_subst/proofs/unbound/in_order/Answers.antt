use Rattle.std.proofs.Common.{◌≡◌, ℕ, List, [], sym, ap, ◌∙◌, ◌++◌, map, append-nil}
use Rattle.core_ir.specs.declared.tree.Var.{Var}
use Rattle.core_ir.specs.Binders.{is_in}
use Rattle.core_subst.specs.Names.{variable}
use Rattle.core_subst.proofs.Numbers.{ascending, in_set}
use Rattle.core_subst.proofs.unbound.in_order.Goals as goal

-- nothing is left to take
all_taken : (vars whole : List Var) (rest : List ℕ) → vars ++ map variable rest ≡ whole → rest ≡ [] → vars ≡ whole
all_taken vars whole rest p e = sym (append-nil vars) ∙ (λ j. vars ++ map variable (sym e j)) ∙ p

pub returns-clause-ascending : goal.returns-clause-ascending
returns-clause-ascending c =
    let keys = c.args.numbers.now.keys in
    ascending keys c.loop-number.vars.items (all_taken c.loop-number.vars.items (map variable keys) c.loop-number.number-iterator c.loop-number.invariant c.in-None.ensures.steps.0) c.into_iter-number-iterator.ensures.into_iter_gives.4

pub returns-clause-exact : goal.returns-clause-exact
returns-clause-exact c = λ x.
    let keys = c.args.numbers.now.keys in
    ap (is_in x) (all_taken c.loop-number.vars.items (map variable keys) c.loop-number.number-iterator c.loop-number.invariant c.in-None.ensures.steps.0) ∙ in_set keys x
