use Rattle.std.proofs.Common.{rules, ◌≡◌, sym, subst, ℕ}
use Rattle.core_ir.specs.View.{fun_term}
use Rattle.core_subst.specs.Names.{above_function, variable, IsNew}
use Rattle.core_subst.proofs.Above.{function_new}
use Rattle.core_subst.proofs.greatest.fresh.Goals as goal

pub returns-in-Ok-clause-new : goal.returns-in-Ok-clause-new
returns-in-Ok-clause-new c =
    let f = fun_term c.args.fun.now in
    let same : c.in-Ok.number ≡ above_function f = search rules in
    subst (λ (n : ℕ). IsNew f (variable n)) (sym same) (function_new f)
