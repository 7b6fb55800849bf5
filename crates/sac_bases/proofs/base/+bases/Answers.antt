use Rattle.std.proofs.Common.{rules, ◌<◌, ◌+◌, ◌++◌, [], ◌∷◌, Some, length, drop, append_assoc, sym, ◌∙◌, ap}
use Rattle.sac_base.specs.declared.base.Base.TheVariants.{Int, Bool as Truth}
use Rattle.sac_base.specs.Operators.{result_base}
use Rattle.sac_ast.specs.Bases.{base, bases, operation_base, literal_base, common_base, value_base, builtin_base, operand_base, operands_fit, may_be, where_holds, call_bases_in}
use Rattle.sac_ast.specs.Tree
use Rattle.sac_ast.specs.View.{expr, exprs, generator, generators, operation, functions}
use Rattle.sac_ast.proofs.Views.{expr_literal, expr_unary, expr_binary, expr_choice, expr_select, expr_call, expr_builtin, expr_with, operation_genarray, operation_fold}
use Rattle.sac_ast.proofs.Lists.{exprs-drop, generators-drop}
use Rattle.sac_bases.specs.Generators.{all_given, first_cell, fitting}
use Rattle.sac_bases.proofs.Steps.{given_from, with_from}
use Rattle.sac_bases.proofs.base.+bases.Goals as goal

pub base_of-returns-in_ok-wanted-in-With : goal.base_of-returns-in_ok-wanted-in-With
base_of-returns-in_ok-wanted-in-With t c =
    let calls = call_bases_in (functions c.args.functions.now.all.now) in
    let known = c.args.known.now.all.items in
    let gs = c.in-With.gs in
    let op = c.in-With.op in
    c.with_base.ensures
    ∙ ap (fitting c.in_ok-wanted-in-With.wanted) c.deref-in-With-4.ensures.value
    ∙ with_from calls known (generators gs.items) (operation op.value) c.in_ok-given-in-With.given.items c.in_ok-wanted-in-With.wanted
    (c.in_ok-given-in-With.ensures ∙ ap (λ l. all_given calls known (generators l)) c.deref-in-With.ensures.value)
    (c.in_ok-wanted-in-With.ensures
    ∙ ap (λ o. operation_base calls known (operation o) c.first_cell.result) c.deref-in-With-2.ensures
    ∙ ap (λ cell. operation_base calls known (operation op.value) cell) (c.first_cell.ensures ∙ ap first_cell c.deref-in-With-3.ensures.value))
    ∙ sym (ap (base calls known) (ap expr c.in-With.is ∙ expr_with gs op c.in-With.field-2))

pub one_given-returns : goal.one_given-returns
one_given-returns t c =
    let a = c.args in
    ap (λ b. record { are_int = b; cell = c.in_ok-cell.cell }) c.are_int.ensures
    ∙ given_from (call_bases_in (functions a.functions.now.all.now)) a.known.now.all.items a.g.now c.in_ok-lower.lower c.in_ok-upper.upper c.in_ok-step.step c.in_ok-width.width c.in_ok-cell.cell
    c.in_ok-lower.ensures c.in_ok-upper.ensures c.in_ok-step.ensures c.in_ok-width.ensures c.in_ok-cell.ensures

pub base_of-returns-in_ok-bases-in-Literal : goal.base_of-returns-in_ok-bases-in-Literal
base_of-returns-in_ok-bases-in-Literal t c =
    let calls = call_bases_in (functions c.args.functions.now.all.now) in
    let known = c.args.known.now.all.items in
    let i = c.in-Literal in
    let found = c.deref-in-Literal.ensures.value ∙ c.in_ok-bases-in-Literal.ensures ∙ ap (λ es. bases calls known (exprs es)) c.deref.ensures.value in
    c.literal_base.ensures ∙ ap literal_base found ∙ sym (ap (base calls known) (ap expr i.is ∙ expr_literal i.es i.field-1))

pub base_of-returns-in_ok-base-in-Unary : goal.base_of-returns-in_ok-base-in-Unary
base_of-returns-in_ok-base-in-Unary t c =
    let calls = call_bases_in (functions c.args.functions.now.all.now) in
    let known = c.args.known.now.all.items in
    let i = c.in-Unary in
    let one = c.in_ok-base-in-Unary.ensures ∙ ap (λ e. base calls known (expr e)) c.deref-in-Unary.ensures in
    c.where_holds.ensures ∙ (λ j. where_holds (c.may_be-fits.ensures j) (Some (c.result_base.ensures j)))
    ∙ (λ j. where_holds (may_be (c.operand_base.ensures j) (one j)) (Some (result_base i.op))) ∙ sym (ap (base calls known) (ap expr i.is ∙ expr_unary i.op i.e i.field-2))

pub base_of-returns-in_ok-b-in-Binary : goal.base_of-returns-in_ok-b-in-Binary
base_of-returns-in_ok-b-in-Binary t c =
    let calls = call_bases_in (functions c.args.functions.now.all.now) in
    let known = c.args.known.now.all.items in
    let i = c.in-Binary in
    let one = c.in_ok-a-in-Binary.ensures ∙ ap (λ e. base calls known (expr e)) c.deref-in-Binary.ensures in
    let two = c.in_ok-b-in-Binary.ensures ∙ ap (λ e. base calls known (expr e)) c.deref-in-Binary-2.ensures in
    c.where_holds-in-Binary.ensures ∙ (λ j. where_holds (c.operands_fit.ensures j) (Some (c.result_base-in-Binary.ensures j)))
    ∙ (λ j. where_holds (operands_fit i.op (one j) (two j)) (Some (result_base i.op))) ∙ sym (ap (base calls known) (ap expr i.is ∙ expr_binary i.op i.left i.right i.field-3))

pub base_of-returns-in_ok-b-in-Choice : goal.base_of-returns-in_ok-b-in-Choice
base_of-returns-in_ok-b-in-Choice t c =
    let calls = call_bases_in (functions c.args.functions.now.all.now) in
    let known = c.args.known.now.all.items in
    let i = c.in-Choice in
    let one = c.in_ok-c-in-Choice.ensures ∙ ap (λ e. base calls known (expr e)) c.deref-in-Choice.ensures in
    let two = c.in_ok-a-in-Choice.ensures ∙ ap (λ e. base calls known (expr e)) c.deref-in-Choice-2.ensures in
    let three = c.in_ok-b-in-Choice.ensures ∙ ap (λ e. base calls known (expr e)) c.deref-in-Choice-3.ensures in
    c.where_holds-in-Choice.ensures ∙ (λ j. where_holds (c.may_be.ensures j) (c.choice_base.ensures j))
    ∙ (λ j. where_holds (may_be Truth (one j)) (common_base (two j ∷ three j ∷ []))) ∙ sym (ap (base calls known) (ap expr i.is ∙ expr_choice i.test i.first i.second i.field-3))

pub base_of-returns-in_ok-i-in-Select : goal.base_of-returns-in_ok-i-in-Select
base_of-returns-in_ok-i-in-Select t c =
    let calls = call_bases_in (functions c.args.functions.now.all.now) in
    let known = c.args.known.now.all.items in
    let i = c.in-Select in
    let one = c.in_ok-a-in-Select.ensures ∙ ap (λ e. base calls known (expr e)) c.deref-in-Select.ensures in
    let two = c.in_ok-i-in-Select.ensures ∙ ap (λ e. base calls known (expr e)) c.deref-in-Select-2.ensures in
    c.where_holds-in-Select.ensures ∙ ap (λ h. where_holds h c.in_ok-a-in-Select.a) c.may_be-in-Select.ensures
    ∙ (λ j. where_holds (may_be Int (two j)) (one j)) ∙ sym (ap (base calls known) (ap expr i.is ∙ expr_select i.array i.index i.field-2))

pub base_of-returns-in_ok-bases-in-Call : goal.base_of-returns-in_ok-bases-in-Call
base_of-returns-in_ok-bases-in-Call t c =
    let calls = call_bases_in (functions c.args.functions.now.all.now) in
    let known = c.args.known.now.all.items in
    let i = c.in-Call in
    let found = c.deref-in-Call-2.ensures.value ∙ c.in_ok-bases-in-Call.ensures ∙ ap (λ es. bases calls known (exprs es)) c.deref-in-Call.ensures.value in
    c.call_base.ensures ∙ ap (λ bs. value_base (calls i.name bs)) found ∙ sym (ap (base calls known) (ap expr i.is ∙ expr_call i.name i.es i.field-2))

pub base_of-returns-in_ok-bases-in-Builtin : goal.base_of-returns-in_ok-bases-in-Builtin
base_of-returns-in_ok-bases-in-Builtin t c =
    let calls = call_bases_in (functions c.args.functions.now.all.now) in
    let known = c.args.known.now.all.items in
    let i = c.in-Builtin in
    let found = c.deref-in-Builtin-2.ensures.value ∙ c.in_ok-bases-in-Builtin.ensures ∙ ap (λ es. bases calls known (exprs es)) c.deref-in-Builtin.ensures.value in
    c.builtin_base.ensures ∙ ap (builtin_base i.builtin) found ∙ sym (ap (base calls known) (ap expr i.is ∙ expr_builtin i.builtin i.es i.field-2))

pub operation_base-returns-in_ok-base-in-Genarray : goal.operation_base-returns-in_ok-base-in-Genarray
operation_base-returns-in_ok-base-in-Genarray t c =
    let calls = call_bases_in (functions c.args.functions.now.all.now) in
    let known = c.args.known.now.all.items in
    let i = c.in-Genarray in
    c.where_holds.ensures ∙ ap (λ h. where_holds h c.in_ok-base-in-Genarray.base) c.may_be.ensures
    ∙ (λ j. where_holds (may_be Int (c.in_ok-shape-in-Genarray.ensures j)) (c.in_ok-base-in-Genarray.ensures j)) ∙ ap (λ o. operation_base calls known o c.args.cell) (sym (ap operation i.is ∙ operation_genarray i.shape i.default i.site))

pub operation_base-returns-in_ok-base-in-Fold : goal.operation_base-returns-in_ok-base-in-Fold
operation_base-returns-in_ok-base-in-Fold t c =
    let calls = call_bases_in (functions c.args.functions.now.all.now) in
    let known = c.args.known.now.all.items in
    let i = c.in-Fold in
    c.where_holds-in-Fold.ensures ∙ ap (λ h. where_holds h c.in_ok-base-in-Fold.base) c.operands_fit.ensures
    ∙ (λ j. where_holds (operands_fit i.op (c.in_ok-base-in-Fold.ensures j) (c.in_ok-base-in-Fold.ensures j)) (c.in_ok-base-in-Fold.ensures j)) ∙ ap (λ o. operation_base calls known o c.args.cell) (sym (ap operation i.is ∙ operation_fold i.op i.neutral i.site))

pub bases_of-loop-e-preserved : goal.bases_of-loop-e-preserved
bases_of-loop-e-preserved t c =
    let calls = call_bases_in (functions c.args.functions.now.all.now) in
    let known = c.args.known.now.all.items in
    let es = c.args.es.now in
    let k = c.loop-e.e-index in
    let below : k < length es = search rules in
    let next = exprs-drop es k c.e-item.result below ∙ ap (λ x. Tree.expr_and (expr x) (exprs (drop (k + 1) es))) (sym c.e-item.is) in
    ap (λ bs. bs ++ bases calls known (exprs (drop (k + 1) es))) c.in_ok-push.ensures.items
    ∙ append_assoc c.loop-e.bases.items (c.in_ok-base.base ∷ []) (bases calls known (exprs (drop (k + 1) es)))
    ∙ (λ j. c.loop-e.bases.items ++ (c.in_ok-base.ensures j ∷ bases calls known (exprs (drop (k + 1) es))))
    ∙ ap (λ x. c.loop-e.bases.items ++ bases calls known x) (sym next) ∙ c.loop-e.invariant

pub all_given-loop-g-preserved : goal.all_given-loop-g-preserved
all_given-loop-g-preserved t c =
    let calls = call_bases_in (functions c.args.functions.now.all.now) in
    let known = c.args.known.now.all.items in
    let gs = c.args.gs.now in
    let k = c.loop-g.g-index in
    let below : k < length gs = search rules in
    let next = generators-drop gs k c.g-item.result below ∙ ap (λ x. Tree.gen_and (generator x) (generators (drop (k + 1) gs))) (sym c.g-item.is) in
    ap (λ bs. bs ++ all_given calls known (generators (drop (k + 1) gs))) c.in_ok-push.ensures.items
    ∙ append_assoc c.loop-g.given.items (c.in_ok-one.one ∷ []) (all_given calls known (generators (drop (k + 1) gs)))
    ∙ (λ j. c.loop-g.given.items ++ (c.in_ok-one.ensures j ∷ all_given calls known (generators (drop (k + 1) gs))))
    ∙ ap (λ x. c.loop-g.given.items ++ all_given calls known x) (sym next) ∙ c.loop-g.invariant
