use Rattle.std.proofs.Common.{List, sym, subst, ◌∙◌}
use Rattle.sac_base.specs.declared.types.ArrayType.{ArrayType}
use Rattle.core_ir.specs.View.{fun_term}
use Rattle.core_ir.specs.declared.tree.Var.{Var}
use Rattle.core_ir.specs.WellFormed.{bases, param_bases}
use Rattle.variable_bases.specs.Learned.{HasParams}
use Rattle.variable_bases.proofs.Scopes.{params_told}
use Rattle.variable_bases.proofs.table.BaseTable.of_function.Goals as goal

pub returns-clause-sources : goal.returns-clause-sources
returns-clause-sources c core instances alone m within agreeing follows may =
    let f = fun_term c.args.function.now in
    let table = c.in_ok-table.table in
    let has : HasParams f.params table = subst (λ (ps : List (Var × ArrayType)). HasParams ps table) c.deref.ensures.value c.in_ok-table.ensures in
    (c.in_ok-learn_block.ensures.told core instances alone m (param_bases f) (bases f.results) agreeing within follows (λ x t e. sym (within x t (sym (has x) ∙ e))) (params_told f.params table has) may).1
