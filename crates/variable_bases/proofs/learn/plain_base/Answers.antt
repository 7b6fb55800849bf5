use Rattle.std.proofs.Common.{sym, subst, List, All}
use Rattle.std.specs.Prelude.{IfSome, IfNone}
use Rattle.core_ir.specs.declared.tree.Right.{Right}
use Rattle.core_ir.specs.declared.tree.Var.{Var}
use Rattle.core_ir.specs.View.{right_term}
use Rattle.variable_bases.specs.Learned.{TellsLiteral, TellsRight, TellsNothing}
use Rattle.variable_bases.specs.Table.{IsTold}
use Rattle.variable_bases.proofs.Told.{literal_right, literal_nothing}
use Rattle.variable_bases.proofs.learn.plain_base.Goals as goal

pub returns-in-Literal-clause-some : goal.returns-in-Literal-clause-some
returns-in-Literal-clause-some c =
    let table = c.args.table.now in
    let o = c.literal_base.result in
    subst (λ (r : Right). IfSome o (λ b. TellsRight table (right_term r) b)) (sym c.in-Literal.is)
    (literal_right table c.in-Literal.xs.items o (subst (λ (xs : List Var). IfSome o (λ b. TellsLiteral table xs b)) c.deref.ensures.value c.literal_base.ensures.some))

pub returns-in-Literal-clause-none : goal.returns-in-Literal-clause-none
returns-in-Literal-clause-none c =
    let table = c.args.table.now in
    let o = c.literal_base.result in
    subst (λ (r : Right). IfNone o (TellsNothing table (right_term r))) (sym c.in-Literal.is)
    (literal_nothing table c.in-Literal.xs.items o (subst (λ (xs : List Var). IfNone o (All (IsTold table) xs → ⊥)) c.deref.ensures.value c.literal_base.ensures.none))
