use Rattle.std.proofs.Common.{ap, refl, subst}
use Rattle.core_ir.specs.Scopes.{AllIn}
use Rattle.core_ir.specs.Terms.{PlainTerm}
use Rattle.counted_code.specs.View.{code_right_term}
use Rattle.phase_checks.proofs.Rights.{reads_counted}
use Rattle.phase_checks.proofs.Variants.{no_read}
use Rattle.phase_checks.proofs.reads.only_reads.Goals as goal

pub returns-in-Const-clause-counted : goal.returns-in-Const-clause-counted
returns-in-Const-clause-counted c _ results_of = reads_counted results_of c.args.scope.now (PlainTerm.Const c.in-Const.field-0) (code_right_term c.args.right.now) (ap code_right_term c.in-Const.is) refl refl tt

pub returns-in-Unary-clause-counted : goal.returns-in-Unary-clause-counted
returns-in-Unary-clause-counted c t results_of = reads_counted results_of c.args.scope.now (PlainTerm.Unary c.in-Unary.field-0 c.in-Unary.x) (code_right_term c.args.right.now) (ap code_right_term c.in-Unary.is) refl refl (c.all_in.ensures.inside t)

pub returns-in-Binary-clause-counted : goal.returns-in-Binary-clause-counted
returns-in-Binary-clause-counted c t results_of = reads_counted results_of c.args.scope.now (PlainTerm.Binary c.in-Binary.field-0 c.in-Binary.x c.in-Binary.y) (code_right_term c.args.right.now) (ap code_right_term c.in-Binary.is) refl refl (c.all_in-in-Binary.ensures.inside t)

pub returns-in-Literal-clause-counted : goal.returns-in-Literal-clause-counted
returns-in-Literal-clause-counted c t results_of = reads_counted results_of c.args.scope.now (PlainTerm.Literal c.in-Literal.xs.items) (code_right_term c.args.right.now) (ap code_right_term c.in-Literal.is) refl refl (subst (λ xs. AllIn xs c.args.scope.now) c.deref.ensures.value (c.all_in-in-Literal.ensures.inside t))

pub returns-in-Dim-clause-counted : goal.returns-in-Dim-clause-counted
returns-in-Dim-clause-counted c t results_of = reads_counted results_of c.args.scope.now (PlainTerm.Dim c.in-Dim.x) (code_right_term c.args.right.now) (ap code_right_term c.in-Dim.is) refl refl (c.all_in-in-Dim.ensures.inside t)

pub returns-in-ShapeOf-clause-counted : goal.returns-in-ShapeOf-clause-counted
returns-in-ShapeOf-clause-counted c t results_of = reads_counted results_of c.args.scope.now (PlainTerm.ShapeOf c.in-ShapeOf.x) (code_right_term c.args.right.now) (ap code_right_term c.in-ShapeOf.is) refl refl (c.all_in-in-ShapeOf.ensures.inside t)

pub returns-in-Reshape-clause-counted : goal.returns-in-Reshape-clause-counted
returns-in-Reshape-clause-counted c t results_of = reads_counted results_of c.args.scope.now (PlainTerm.Reshape c.in-Reshape.x c.in-Reshape.y) (code_right_term c.args.right.now) (ap code_right_term c.in-Reshape.is) refl refl (c.all_in-in-Reshape.ensures.inside t)

pub returns-in-Select-clause-counted : goal.returns-in-Select-clause-counted
returns-in-Select-clause-counted c t results_of = reads_counted results_of c.args.scope.now (PlainTerm.Select c.in-Select.x c.in-Select.y) (code_right_term c.args.right.now) (ap code_right_term c.in-Select.is) refl refl (c.all_in-in-Select.ensures.inside t)

pub returns-in-Replace-clause-counted : goal.returns-in-Replace-clause-counted
returns-in-Replace-clause-counted c t results_of = reads_counted results_of c.args.scope.now (PlainTerm.Replace c.in-Replace.x c.in-Replace.y c.in-Replace.z) (code_right_term c.args.right.now) (ap code_right_term c.in-Replace.is) refl refl (c.all_in-in-Replace.ensures.inside t)

pub returns-in_default-clause-converse : goal.returns-in_default-clause-converse
returns-in_default-clause-converse c reads results_of counted =
    let arm = c.in_default in
    absurd (no_read c.args.right.now arm.not-Const arm.not-Unary arm.not-Binary arm.not-Literal arm.not-Dim arm.not-ShapeOf arm.not-Reshape arm.not-Select arm.not-Replace reads)
