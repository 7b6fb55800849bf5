-- Answers for with-loops, their bounds, operations and cells.
use Rattle.std.proofs.Common.{rules, ◌≡◌, ℕ, ◌-◌, ◌<◌, ◌≤◌, length, true, false, [], ◌∷◌, Ok, Err, Some, None, get_or, drop, refl, ap, sym, ◌∙◌, subst, arith, map, ◌++◌, List, append_assoc, ◌+◌, ℤ}
use Rattle.std.proofs.lemmas.List.{append-nil, drop_all, drop_more, length-append}
use Rattle.std.proofs.Math.Nat.{add-mul}
use Rattle.std.specs.Prelude.{ℤ}
use Rattle.sac_ast.specs.View.{expr, exprs, stmt, block}
use Rattle.sac_ast.specs.Tree
use Rattle.sac_ast.proofs.Views.{stmt_assign, stmt_while, stmt_do, stmt_if, stmt_replace, expr_variable, expr_literal, expr_unary, expr_builtin, expr_call, expr_binary, expr_select, expr_choice, expr_with, operation_genarray, operation_modarray, operation_fold, bound_dot, bound_given}
use Rattle.sac_ast.proofs.Lists.{exprs-drop}
use Rattle.value_meaning.proofs.TestSteps.{turn_test_fault, turn_ends, turn_over, turn_goes}
use Rattle.array_ops.proofs.Steps.{said, test_fault, test_true, test_false}
use Rattle.source_meaning.specs.Environments.{env_of}
use Rattle.source_meaning.specs.Parameters.{names_of_params}
use Rattle.value_meaning.specs.Evaluation.{bases_in, meaning_in, meanings_in, statement_in, block_in, repeat_in, calls_in, cell_in, function_in}
use Rattle.array_ops.specs.Tells.{Tells, TellsItems, TellsEnv}
use Rattle.sac_base.specs.Outcomes.{Env, at_site, choose, first_result, or_zero, with_variable, with_variables}
use Rattle.sac_base.specs.Operators.{unary, binary}
use Rattle.source_meaning.specs.Meaning.{built_in, call_with, default_base, default_or, names, with_index}
use Rattle.source_meaning.specs.Calls.{run_deeper, run_inline, results_in}
use Rattle.sac_ast.specs.Bases.{base_in}
use Rattle.sac_ast.specs.View.{functions, function, index_view}
use Rattle.value_meaning.proofs.CallSteps.{function_at, length-functions, runs_inline, runs_deeper, too_deep, no_bindings, no_inner_bindings, cell_steps, same_value, function_steps}
use Rattle.source_meaning.specs.declared.environment.Environment.{roll-Environment}
use Rattle.value_meaning.proofs.Measures.{rank_falls, rank_falls_inline, body_below}
use Rattle.value_meaning.proofs.Steps.{values_step, assign_plain, not_call, stopped, stopped_items, stopped_env, stopped_as, as_bounds, from_step, from_upper, from_lower}
use Rattle.array_ops.proofs.Steps.{same_stop, fault_then, value_then, then_same}
use Rattle.sac_base.specs.WithLoops.{holds}
use Rattle.array_with_loops.proofs.Holders.{holder_goes_on, holder_ends}
use Rattle.sac_ast.specs.View
use Rattle.value_meaning.specs.WithSource.{generator_of, bounds_in, bound_in, maybe_in, held_in, cells_in, operation_in}
use Rattle.array_with_loops.specs.Plans.{plan_of, operation_of}
use Rattle.array_with_loops.specs.Cells.{array_from, cells_from, cell_from}
use Rattle.array_with_loops.proofs.CellSteps.{genarray_finish, modarray_finish, cell_below, cell_within, cell_length}
use Rattle.array_with_loops.proofs.EachSteps.{each_length, each_step, each_fault, each_end}
use Rattle.value_meaning.proofs.WithValue.{whole, whole_fault, bounds_fault, operation_fault}
use Rattle.sac_base.specs.Arrays.{ArrayValue, size}
use Rattle.sac_base.specs.Parts.{condition, replace, select, shape_of_numbers, vector_of}
use Rattle.sac_base.specs.Parts
use Rattle.sac_base.specs.WithLoops.{genarray, modarray, fold_by, genarray_plan, modarray_plan, fold_plan, index_length, finish, combined, each, holder}
use Rattle.sac_base.specs.WithLoops
use Rattle.sac_base.specs.Outcomes.{and_then}
use Rattle.std.specs.Prelude.{fold}
use Rattle.value_meaning.proofs.evaluate.+evaluate.Goals as goal

-- ---- with-loops

pub held_cell-loop-i-preserved : goal.held_cell-loop-i-preserved
held_cell-loop-i-preserved t c =
    let a = c.args in
    let g = generator_of a.context.now (env_of a.env.now) in
    let r = c.index-ranges-i.result in
    let fails : holds (get_or a.ranges.now c.loop-i.i r) a.index.now ≡ false =
    ap (λ r. holds r a.index.now) (sym c.index-ranges-i.is) ∙ sym (c.holds.ensures ∙ ap (holds r) c.components.ensures.value) ∙ c.if-holds.false in
    sym (holder_goes_on g a.gs.now a.ranges.now a.index.now c.loop-i.i r (omega (arith, c.loop-i-test.true, c.min-i-end.ensures)) (omega (arith, c.loop-i-test.true, c.min-i-end.ensures)) fails)
    ∙ c.loop-i.invariant

pub held_cell-returns-clause-told : goal.held_cell-returns-clause-told
held_cell-returns-clause-told t c =
    let a = c.args in
    let g = generator_of a.context.now (env_of a.env.now) in
    ap (λ h. WithLoops.held_cell a.form.now h a.index.now)
    (sym c.loop-i.invariant ∙ holder_ends g a.gs.now a.ranges.now a.index.now c.loop-i.i (omega (arith, c.loop-i-test.false, c.min-i-end.ensures)))

pub evaluate_with-returns-in_err-bounds : goal.evaluate_with-returns-in_err-bounds
evaluate_with-returns-in_err-bounds t c =
    let a = c.args in
    let ctx = a.context.now in
    let env = env_of a.env.now in
    let stop = c.in_err-bounds.field-0.0 in
    let is : c.from_residual.result ≡ Err stop = search rules in
    let meant = meaning_in ctx (Tree.with_loop (View.generators a.gs.now) (View.operation a.op.now) a.site) env in
    subst (λ r. Tells r meant) (sym is)
    (same_stop stop (each (bounds_in ctx env) a.gs.now) meant (bounds_fault ctx env a.gs.now (View.operation a.op.now) a.site) c.in_err-bounds.ensures)

pub evaluate_with-returns-in_err-shape : goal.evaluate_with-returns-in_err-shape
evaluate_with-returns-in_err-shape t c =
    let a = c.args in
    let ctx = a.context.now in
    let env = env_of a.env.now in
    let op = View.operation a.op.now in
    let stop = c.in_err-shape.field-0.0 in
    let is : c.from_residual-in_err-shape.result ≡ Err stop = search rules in
    let meant = meaning_in ctx (Tree.with_loop (View.generators a.gs.now) op a.site) env in
    subst (λ r. Tells r meant) (sym is)
    (same_stop stop (operation_in ctx op (View.generators a.gs.now) env) meant
    (λ f e. operation_fault ctx env a.gs.now op a.site c.in_ok-bounds.bounds.items f c.in_ok-bounds.ensures e) c.in_err-shape.ensures)

pub evaluate_with-returns-in_err-plan-in-Genarray : goal.evaluate_with-returns-in_err-plan-in-Genarray
evaluate_with-returns-in_err-plan-in-Genarray t c =
    let a = c.args in
    let i = c.in-Genarray in
    let ctx = a.context.now in
    let env = env_of a.env.now in
    let op = View.operation a.op.now in
    let stop = c.in_err-plan-in-Genarray.field-0.0 in
    let is : c.from_residual-in_err-plan-in-Genarray.result ≡ Err stop = search rules in
    let meant = meaning_in ctx (Tree.with_loop (View.generators a.gs.now) op a.site) env in
    let eo = c.in_ok-shape.ensures ∙ ap (λ e. Ok (operation_of e)) i.is in
    let made = λ (bs : List WithLoops.Bounds). genarray_plan bs (shape_of_numbers (vector_of i.shape)) i.default i.site in
    subst (λ r. Tells r meant) (sym is)
    (same_stop stop (made c.deref.result.now) meant
    (λ f e. whole_fault ctx env a.gs.now op a.site c.in_ok-bounds.bounds.items (genarray i.shape i.default i.site) f c.in_ok-bounds.ensures eo (ap made (sym c.deref.ensures.value) ∙ e))
    c.in_err-plan-in-Genarray.ensures.told)

pub evaluate_with-returns-in_err-plan-in-Modarray : goal.evaluate_with-returns-in_err-plan-in-Modarray
evaluate_with-returns-in_err-plan-in-Modarray t c =
    let a = c.args in
    let i = c.in-Modarray in
    let ctx = a.context.now in
    let env = env_of a.env.now in
    let op = View.operation a.op.now in
    let stop = c.in_err-plan-in-Modarray.field-0.0 in
    let is : c.from_residual-in_err-plan-in-Modarray.result ≡ Err stop = search rules in
    let meant = meaning_in ctx (Tree.with_loop (View.generators a.gs.now) op a.site) env in
    let eo = c.in_ok-shape.ensures ∙ ap (λ e. Ok (operation_of e)) i.is in
    let made = λ (bs : List WithLoops.Bounds). modarray_plan bs (index_length bs (length i.array.shape)) i.array i.site in
    subst (λ r. Tells r meant) (sym is)
    (same_stop stop (made c.deref-in-Modarray.result.now) meant
    (λ f e. whole_fault ctx env a.gs.now op a.site c.in_ok-bounds.bounds.items (modarray i.array i.site) f c.in_ok-bounds.ensures eo (ap made (sym c.deref-in-Modarray.ensures.value) ∙ e))
    c.in_err-plan-in-Modarray.ensures.told)

pub evaluate_with-returns-in_err-plan-in-Fold : goal.evaluate_with-returns-in_err-plan-in-Fold
evaluate_with-returns-in_err-plan-in-Fold t c =
    let a = c.args in
    let i = c.in-Fold in
    let ctx = a.context.now in
    let env = env_of a.env.now in
    let op = View.operation a.op.now in
    let stop = c.in_err-plan-in-Fold.field-0.0 in
    let is : c.from_residual-in_err-plan-in-Fold.result ≡ Err stop = search rules in
    let meant = meaning_in ctx (Tree.with_loop (View.generators a.gs.now) op a.site) env in
    let eo = c.in_ok-shape.ensures ∙ ap (λ e. Ok (operation_of e)) i.is in
    let made = λ (bs : List WithLoops.Bounds). fold_plan bs (index_length bs 0) i.neutral i.site in
    subst (λ r. Tells r meant) (sym is)
    (same_stop stop (made c.deref-in-Fold.result.now) meant
    (λ f e. whole_fault ctx env a.gs.now op a.site c.in_ok-bounds.bounds.items (fold_by i.op i.neutral i.site) f c.in_ok-bounds.ensures eo (ap made (sym c.deref-in-Fold.ensures.value) ∙ e))
    c.in_err-plan-in-Fold.ensures)

pub evaluate_with-array_cells-requires : goal.evaluate_with-array_cells-requires
evaluate_with-array_cells-requires t c = (omega (arith, c.decreases), c.in_ok-plan-in-Genarray.ensures.full)

pub evaluate_with-array_cells-requires-in-Modarray : goal.evaluate_with-array_cells-requires-in-Modarray
evaluate_with-array_cells-requires-in-Modarray t c = (omega (arith, c.decreases), c.in_ok-plan-in-Modarray.ensures.full)

pub evaluate_with-fold_cells-requires : goal.evaluate_with-fold_cells-requires
evaluate_with-fold_cells-requires t c = (omega (arith, c.decreases), tt)

pub evaluate_with-returns-in-Genarray : goal.evaluate_with-returns-in-Genarray
evaluate_with-returns-in-Genarray t c =
    let a = c.args in
    let i = c.in-Genarray in
    let ctx = a.context.now in
    let env = env_of a.env.now in
    let p = plan_of c.in_ok-plan-in-Genarray.plan in
    let by = genarray i.shape i.default i.site in
    let eo = c.in_ok-shape.ensures ∙ ap (λ e. Ok (operation_of e)) i.is in
    let made = λ (bs : List WithLoops.Bounds). genarray_plan bs (shape_of_numbers (vector_of i.shape)) i.default i.site in
    let all = whole ctx env a.gs.now (View.operation a.op.now) a.site c.in_ok-bounds.bounds.items by p c.in_ok-bounds.ensures eo (ap made (sym c.deref.ensures.value) ∙ c.in_ok-plan-in-Genarray.ensures.told) in
    let same = then_same (cells_in ctx a.gs.now p.ranges p.indices p.form env) (λ found. Ok (finish by p found)) (λ found. Ok (array_from false i.default p found)) (λ found e. ap Ok (genarray_finish i.shape i.default i.site p found)) in
    subst (λ m. Tells c.array_cells.result m) (sym (all ∙ same)) c.array_cells.ensures

pub evaluate_with-returns-in-Modarray : goal.evaluate_with-returns-in-Modarray
evaluate_with-returns-in-Modarray t c =
    let a = c.args in
    let i = c.in-Modarray in
    let ctx = a.context.now in
    let env = env_of a.env.now in
    let p = plan_of c.in_ok-plan-in-Modarray.plan in
    let by = modarray i.array i.site in
    let bs = c.in_ok-bounds.bounds.items in
    let eo = c.in_ok-shape.ensures ∙ ap (λ e. Ok (operation_of e)) i.is in
    let made = λ (bs : List WithLoops.Bounds). modarray_plan bs (index_length bs (length i.array.shape)) i.array i.site in
    let ep = ap made (sym c.deref-in-Modarray.ensures.value) ∙ c.in_ok-plan-in-Modarray.ensures.told in
    let all = whole ctx env a.gs.now (View.operation a.op.now) a.site bs by p c.in_ok-bounds.ensures eo ep in
    let cell = WithLoops.cell_at p.form (map (generator_of ctx env) a.gs.now) p.ranges in
    let same = then_same (cells_in ctx a.gs.now p.ranges p.indices p.form env) (λ found. Ok (finish by p found)) (λ found. Ok (array_from true i.array p found))
    (λ found e. ap Ok (modarray_finish bs (index_length bs (length i.array.shape)) i.array i.site p ep found (each_length cell p.indices found e))) in
    subst (λ m. Tells c.array_cells-in-Modarray.result m) (sym (all ∙ same)) c.array_cells-in-Modarray.ensures

pub evaluate_with-returns : goal.evaluate_with-returns
evaluate_with-returns t c =
    let a = c.args in
    let i = c.in-Fold in
    let ctx = a.context.now in
    let env = env_of a.env.now in
    let p = plan_of c.in_ok-plan-in-Fold.plan in
    let by = fold_by i.op i.neutral i.site in
    let eo = c.in_ok-shape.ensures ∙ ap (λ e. Ok (operation_of e)) i.is in
    let made = λ (bs : List WithLoops.Bounds). fold_plan bs (index_length bs 0) i.neutral i.site in
    let all = whole ctx env a.gs.now (View.operation a.op.now) a.site c.in_ok-bounds.bounds.items by p c.in_ok-bounds.ensures eo (ap made (sym c.deref-in-Fold.ensures.value) ∙ c.in_ok-plan-in-Fold.ensures) in
    subst (λ m. Tells c.fold_cells.result m) (sym all) c.fold_cells.ensures

-- ---- the cells of a with-loop

pub array_cells-returns-in_err-cell : goal.array_cells-returns-in_err-cell
array_cells-returns-in_err-cell t c =
    let a = c.args in
    let p = a.plan in
    let ctx = a.context.now in
    let env = env_of a.env.now in
    let k = c.loop-place.place in
    let f = WithLoops.cell_at p.form (map (generator_of ctx env) a.gs.now) p.ranges.items in
    let meant = and_then (cells_in ctx a.gs.now p.ranges.items p.frame p.form env) (λ found. Ok (array_from a.old a.background.now (plan_of p) found)) in
    let at : f (get_or p.frame k []) ≡ held_in ctx a.gs.now c.deref.result.now c.index.new.into p.form env =
    ap f (sym (c.in_ok-index.ensures [])) ∙ ap (λ rs. WithLoops.cell_at p.form (map (generator_of ctx env) a.gs.now) rs c.index.new.into) (sym c.deref.ensures.value) in
    let stop = c.in_err-cell.field-0.0 in
    let is : c.from_residual-in_err-cell.result ≡ Err stop = search rules in
    subst (λ r. Tells r meant) (sym is)
    (same_stop stop (held_in ctx a.gs.now c.deref.result.now c.index.new.into p.form env) meant
    (λ fault e. each_fault f p.frame k [] fault
    (λ rest. Ok (record { base = a.background.now.base; shape = p.shape; cells = c.loop-place.cells.items ++ cells_from a.old a.background.now (size p.form.shape) k rest }))
    meant (omega (arith, c.loop-place-test.true, c.count-place-end.ensures)) (at ∙ e) c.loop-place.invariant.told)
    c.in_err-cell.ensures.told)

pub array_cells-loop-place-preserved : goal.array_cells-loop-place-preserved
array_cells-loop-place-preserved t c =
    let a = c.args in
    let p = a.plan in
    let bg = a.background.now in
    let n = size p.form.shape in
    let ctx = a.context.now in
    let env = env_of a.env.now in
    let k = c.loop-place.place in
    let items = c.loop-place.cells.items in
    let cell = c.in_ok-cell.cell in
    let inside : k < length p.frame = omega (arith, c.loop-place-test.true, c.count-place-end.ensures) in
    let sized : c.cell_size-size.result ≡ n = c.cell_size-size.ensures (cell_below k (length p.frame) n (size p.shape) inside c.requires.all c.requires.most) in
    let f = WithLoops.cell_at p.form (map (generator_of ctx env) a.gs.now) p.ranges.items in
    let meant = and_then (cells_in ctx a.gs.now p.ranges.items p.frame p.form env) (λ found. Ok (array_from a.old bg (plan_of p) found)) in
    let at : f (get_or p.frame k []) ≡ held_in ctx a.gs.now c.deref.result.now c.index.new.into p.form env =
    ap f (sym (c.in_ok-index.ensures [])) ∙ ap (λ rs. WithLoops.cell_at p.form (map (generator_of ctx env) a.gs.now) rs c.index.new.into) (sym c.deref.ensures.value) in
    let added : c.add_cell.new.cells.items ≡ items ++ cell_from a.old bg n k cell = c.in_ok-add_cell.ensures ∙ ap (λ n. items ++ cell_from a.old bg n k cell) sized in
    let one = cell_length a.old bg n k (size p.shape) cell c.in_ok-cell.ensures.sized c.requires.stands (cell_within k (length p.frame) n (size p.shape) inside c.requires.all) in
    let all = ap length added ∙ length-append items (cell_from a.old bg n k cell) in
    record {
      told = each_step f p.frame k [] cell
          (λ rest. Ok (record { base = bg.base; shape = p.shape; cells = items ++ cells_from a.old bg n k rest }))
          (λ rest. Ok (record { base = bg.base; shape = p.shape; cells = c.add_cell.new.cells.items ++ cells_from a.old bg n (k + 1) rest }))
          meant inside (at ∙ c.in_ok-cell.ensures.told)
          (λ rest. ap (λ (zs : List ℤ). Ok (record { base = bg.base; shape = p.shape; cells = zs }))
          (sym (append_assoc items (cell_from a.old bg n k cell) (cells_from a.old bg n (k + 1) rest)) ∙ ap (λ zs. zs ++ cells_from a.old bg n (k + 1) rest) (sym added)))
          c.loop-place.invariant.told;
      count = omega (arith, all, one, c.loop-place.invariant.count, add-mul k 1 n);
    }

pub fold_cells-returns-in_err-cell : goal.fold_cells-returns-in_err-cell
fold_cells-returns-in_err-cell t c =
    let a = c.args in
    let p = a.plan.now in
    let ctx = a.context.now in
    let env = env_of a.env.now in
    let k = c.loop-place.place in
    let f = WithLoops.cell_at p.form (map (generator_of ctx env) a.gs.now) p.ranges.items in
    let meant = and_then (cells_in ctx a.gs.now p.ranges.items p.frame p.form env) (λ found. Ok (fold (combined a.op) a.neutral found)) in
    let at : f (get_or p.frame k []) ≡ held_in ctx a.gs.now c.deref.result.now c.index.new.into p.form env =
    ap f (sym (c.in_ok-index.ensures [])) ∙ ap (λ rs. WithLoops.cell_at p.form (map (generator_of ctx env) a.gs.now) rs c.index.new.into) (sym c.deref.ensures.value) in
    let stop = c.in_err-cell.field-0.0 in
    let is : c.from_residual-in_err-cell.result ≡ Err stop = search rules in
    subst (λ r. Tells r meant) (sym is)
    (same_stop stop (held_in ctx a.gs.now c.deref.result.now c.index.new.into p.form env) meant
    (λ fault e. each_fault f p.frame k [] fault (λ rest. Ok (fold (combined a.op) c.loop-place.value rest))
    meant (omega (arith, c.loop-place-test.true, c.count-place-end.ensures)) (at ∙ e) c.loop-place.invariant)
    c.in_err-cell.ensures.told)

pub fold_cells-loop-place-preserved : goal.fold_cells-loop-place-preserved
fold_cells-loop-place-preserved t c =
    let a = c.args in
    let p = a.plan.now in
    let ctx = a.context.now in
    let env = env_of a.env.now in
    let k = c.loop-place.place in
    let f = WithLoops.cell_at p.form (map (generator_of ctx env) a.gs.now) p.ranges.items in
    let meant = and_then (cells_in ctx a.gs.now p.ranges.items p.frame p.form env) (λ found. Ok (fold (combined a.op) a.neutral found)) in
    let at : f (get_or p.frame k []) ≡ held_in ctx a.gs.now c.deref.result.now c.index.new.into p.form env =
    ap f (sym (c.in_ok-index.ensures [])) ∙ ap (λ rs. WithLoops.cell_at p.form (map (generator_of ctx env) a.gs.now) rs c.index.new.into) (sym c.deref.ensures.value) in
    let value : combined a.op c.loop-place.value c.in_ok-cell.cell ≡ c.in_ok-value.value = cc (c.in_ok-value.ensures) in
    each_step f p.frame k [] c.in_ok-cell.cell (λ rest. Ok (fold (combined a.op) c.loop-place.value rest)) (λ rest. Ok (fold (combined a.op) c.in_ok-value.value rest))
    meant (omega (arith, c.loop-place-test.true, c.count-place-end.ensures)) (at ∙ c.in_ok-cell.ensures.told)
    (λ rest. ap (λ v. Ok (fold (combined a.op) v rest)) value) c.loop-place.invariant

-- ---- bounds and operations

pub evaluate_bound-returns-in-Dot : goal.evaluate_bound-returns-in-Dot
evaluate_bound-returns-in-Dot t c =
    let i = c.in-Dot in
    ap (λ b. bound_in c.args.context.now b (env_of c.args.env.now)) (ap View.bound i.is ∙ bound_dot i.field-0)

pub evaluate_bound-returns-in_err-value-in-Given : goal.evaluate_bound-returns-in_err-value-in-Given
evaluate_bound-returns-in_err-value-in-Given t c =
    let i = c.in-Given in
    let ctx = c.args.context.now in
    let env = env_of c.args.env.now in
    let stop = c.in_err-value-in-Given.field-0.0 in
    let is : c.from_residual.result ≡ Err stop = search rules in
    stopped c.from_residual.result stop (meaning_in ctx (expr i.e) env) (λ a. Ok (Some a)) (bound_in ctx (View.bound c.args.b.now) env) is
    (ap (λ b. bound_in ctx b env) (ap View.bound i.is ∙ bound_given i.e)) c.in_err-value-in-Given.ensures

pub evaluate_bound-returns-in_ok-value-in-Given : goal.evaluate_bound-returns-in_ok-value-in-Given
evaluate_bound-returns-in_ok-value-in-Given t c =
    let i = c.in-Given in
    let ctx = c.args.context.now in
    let env = env_of c.args.env.now in
    ap (λ b. bound_in ctx b env) (ap View.bound i.is ∙ bound_given i.e)
    ∙ value_then (meaning_in ctx (expr i.e) env) (λ a. Ok (Some a)) c.in_ok-value-in-Given.value c.in_ok-value-in-Given.ensures

pub evaluate_maybe-returns-in-None : goal.evaluate_maybe-returns-in-None
evaluate_maybe-returns-in-None t c = ap (λ e. maybe_in c.args.context.now (View.maybe e) (env_of c.args.env.now)) c.in-None.is

pub evaluate_maybe-returns-in_err-value-in-Some : goal.evaluate_maybe-returns-in_err-value-in-Some
evaluate_maybe-returns-in_err-value-in-Some t c =
    let i = c.in-Some in
    let ctx = c.args.context.now in
    let env = env_of c.args.env.now in
    let stop = c.in_err-value-in-Some.field-0.0 in
    let is : c.from_residual.result ≡ Err stop = search rules in
    stopped c.from_residual.result stop (meaning_in ctx (expr i.e) env) (λ a. Ok (Some a)) (maybe_in ctx (View.maybe c.args.e.now) env) is
    (ap (λ e. maybe_in ctx (View.maybe e) env) i.is) c.in_err-value-in-Some.ensures

pub evaluate_maybe-returns-in_ok-value-in-Some : goal.evaluate_maybe-returns-in_ok-value-in-Some
evaluate_maybe-returns-in_ok-value-in-Some t c =
    let i = c.in-Some in
    let ctx = c.args.context.now in
    let env = env_of c.args.env.now in
    ap (λ e. maybe_in ctx (View.maybe e) env) i.is
    ∙ value_then (meaning_in ctx (expr i.e) env) (λ a. Ok (Some a)) c.in_ok-value-in-Some.value c.in_ok-value-in-Some.ensures

pub evaluate_operation-returns-in_err-shape-in-Genarray : goal.evaluate_operation-returns-in_err-shape-in-Genarray
evaluate_operation-returns-in_err-shape-in-Genarray t c =
    let i = c.in-Genarray in
    let ctx = c.args.context.now in
    let env = env_of c.args.env.now in
    let gs = View.generators c.args.gs.now in
    let stop = c.in_err-shape-in-Genarray.field-0.0 in
    let is : c.from_residual.result ≡ Err stop = search rules in
    stopped_as operation_of c.from_residual.result stop (meaning_in ctx (expr i.shape) env)
    (λ s. and_then (maybe_in ctx (View.maybe i.default) env) (λ d. Ok (genarray s (default_or (default_base (bases_in ctx) gs) d) i.site)))
    (operation_in ctx (View.operation c.args.op.now) gs env) is
    (ap (λ op. operation_in ctx op gs env) (ap View.operation i.is ∙ operation_genarray i.shape i.default i.site)) c.in_err-shape-in-Genarray.ensures

pub evaluate_operation-returns-in_err-given-in-Genarray : goal.evaluate_operation-returns-in_err-given-in-Genarray
evaluate_operation-returns-in_err-given-in-Genarray t c =
    let i = c.in-Genarray in
    let ctx = c.args.context.now in
    let env = env_of c.args.env.now in
    let gs = View.generators c.args.gs.now in
    let s = c.in_ok-shape-in-Genarray.shape in
    let stop = c.in_err-given-in-Genarray.field-0.0 in
    let is : c.from_residual-in_err-given-in-Genarray.result ≡ Err stop = search rules in
    stopped_as operation_of c.from_residual-in_err-given-in-Genarray.result stop (maybe_in ctx (View.maybe i.default) env)
    (λ d. Ok (genarray s (default_or (default_base (bases_in ctx) gs) d) i.site))
    (operation_in ctx (View.operation c.args.op.now) gs env) is
    (ap (λ op. operation_in ctx op gs env) (ap View.operation i.is ∙ operation_genarray i.shape i.default i.site)
    ∙ value_then (meaning_in ctx (expr i.shape) env) (λ s. and_then (maybe_in ctx (View.maybe i.default) env) (λ d. Ok (genarray s (default_or (default_base (bases_in ctx) gs) d) i.site))) s c.in_ok-shape-in-Genarray.ensures)
    c.in_err-given-in-Genarray.ensures

pub evaluate_operation-returns-in_ok-default-in-Genarray : goal.evaluate_operation-returns-in_ok-default-in-Genarray
evaluate_operation-returns-in_ok-default-in-Genarray t c =
    let i = c.in-Genarray in
    let ctx = c.args.context.now in
    let env = env_of c.args.env.now in
    let gs = View.generators c.args.gs.now in
    let s = c.in_ok-shape-in-Genarray.shape in
    let d = c.in_ok-given-in-Genarray.given in
    ap (λ op. operation_in ctx op gs env) (ap View.operation i.is ∙ operation_genarray i.shape i.default i.site)
    ∙ value_then (meaning_in ctx (expr i.shape) env) (λ s. and_then (maybe_in ctx (View.maybe i.default) env) (λ d. Ok (genarray s (default_or (default_base (bases_in ctx) gs) d) i.site))) s c.in_ok-shape-in-Genarray.ensures
    ∙ value_then (maybe_in ctx (View.maybe i.default) env) (λ d. Ok (genarray s (default_or (default_base (bases_in ctx) gs) d) i.site)) d c.in_ok-given-in-Genarray.ensures
    ∙ ap (λ d. Ok (genarray s d i.site)) (sym c.in_ok-default-in-Genarray.ensures)

pub evaluate_operation-returns-in_err-array-in-Modarray : goal.evaluate_operation-returns-in_err-array-in-Modarray
evaluate_operation-returns-in_err-array-in-Modarray t c =
    let i = c.in-Modarray in
    let ctx = c.args.context.now in
    let env = env_of c.args.env.now in
    let gs = View.generators c.args.gs.now in
    let stop = c.in_err-array-in-Modarray.field-0.0 in
    let is : c.from_residual-in_err-array-in-Modarray.result ≡ Err stop = search rules in
    stopped_as operation_of c.from_residual-in_err-array-in-Modarray.result stop (meaning_in ctx (expr i.array) env) (λ a. Ok (modarray a i.site))
    (operation_in ctx (View.operation c.args.op.now) gs env) is
    (ap (λ op. operation_in ctx op gs env) (ap View.operation i.is ∙ operation_modarray i.array i.site)) c.in_err-array-in-Modarray.ensures

pub evaluate_operation-returns-in_ok-array-in-Modarray : goal.evaluate_operation-returns-in_ok-array-in-Modarray
evaluate_operation-returns-in_ok-array-in-Modarray t c =
    let i = c.in-Modarray in
    let ctx = c.args.context.now in
    let env = env_of c.args.env.now in
    ap (λ op. operation_in ctx op (View.generators c.args.gs.now) env) (ap View.operation i.is ∙ operation_modarray i.array i.site)
    ∙ value_then (meaning_in ctx (expr i.array) env) (λ a. Ok (modarray a i.site)) c.in_ok-array-in-Modarray.array c.in_ok-array-in-Modarray.ensures

pub evaluate_operation-returns-in_err-neutral-in-Fold : goal.evaluate_operation-returns-in_err-neutral-in-Fold
evaluate_operation-returns-in_err-neutral-in-Fold t c =
    let i = c.in-Fold in
    let ctx = c.args.context.now in
    let env = env_of c.args.env.now in
    let gs = View.generators c.args.gs.now in
    let stop = c.in_err-neutral-in-Fold.field-0.0 in
    let is : c.from_residual-in_err-neutral-in-Fold.result ≡ Err stop = search rules in
    stopped_as operation_of c.from_residual-in_err-neutral-in-Fold.result stop (meaning_in ctx (expr i.neutral) env) (λ n. Ok (fold_by i.op n i.site))
    (operation_in ctx (View.operation c.args.op.now) gs env) is
    (ap (λ op. operation_in ctx op gs env) (ap View.operation i.is ∙ operation_fold i.op i.neutral i.site)) c.in_err-neutral-in-Fold.ensures

pub evaluate_operation-returns-in_ok-neutral-in-Fold : goal.evaluate_operation-returns-in_ok-neutral-in-Fold
evaluate_operation-returns-in_ok-neutral-in-Fold t c =
    let i = c.in-Fold in
    let ctx = c.args.context.now in
    let env = env_of c.args.env.now in
    ap (λ op. operation_in ctx op (View.generators c.args.gs.now) env) (ap View.operation i.is ∙ operation_fold i.op i.neutral i.site)
    ∙ value_then (meaning_in ctx (expr i.neutral) env) (λ n. Ok (fold_by i.op n i.site)) c.in_ok-neutral-in-Fold.neutral c.in_ok-neutral-in-Fold.ensures

pub evaluate_generators-returns-in_err-bounds : goal.evaluate_generators-returns-in_err-bounds
evaluate_generators-returns-in_err-bounds t c =
    let a = c.args in
    let B = bounds_in a.context.now (env_of a.env.now) in
    let gs = a.gs.now in
    let k = c.loop-g.g-index in
    let item = c.g-item.result in
    let stop = c.in_err-bounds.field-0.0 in
    let is : c.from_residual.result ≡ Err stop = search rules in
    subst (λ r. TellsItems r (each B gs)) (sym is)
    (same_stop stop (B item) (each B gs)
    (λ fault e. each_fault B gs k item fault (λ rest. Ok (c.loop-g.all.items ++ rest)) (each B gs) c.loop-g-test.true (ap B (sym c.g-item.is) ∙ e) c.loop-g.invariant)
    c.in_err-bounds.ensures)

pub evaluate_generators-loop-g-preserved : goal.evaluate_generators-loop-g-preserved
evaluate_generators-loop-g-preserved t c =
    let a = c.args in
    let B = bounds_in a.context.now (env_of a.env.now) in
    let gs = a.gs.now in
    let k = c.loop-g.g-index in
    let item = c.g-item.result in
    let all = c.loop-g.all.items in
    let b = c.in_ok-bounds.bounds in
    each_step B gs k item b (λ rest. Ok (all ++ rest)) (λ rest. Ok (c.push.new.self.items ++ rest)) (each B gs) c.loop-g-test.true (ap B (sym c.g-item.is) ∙ c.in_ok-bounds.ensures)
    (λ rest. ap Ok (sym (append_assoc all (b ∷ []) rest)) ∙ ap (λ (bs : List WithLoops.Bounds). Ok (bs ++ rest)) (sym c.in_ok-push.ensures.items)) c.loop-g.invariant

pub evaluate_generators-returns : goal.evaluate_generators-returns
evaluate_generators-returns t c =
    let a = c.args in
    let B = bounds_in a.context.now (env_of a.env.now) in
    let gs = a.gs.now in
    let all = c.loop-g.all.items in
    let past : length gs ≤ c.loop-g.g-index = search rules in
    each_end B gs c.loop-g.g-index (λ rest. Ok (all ++ rest)) (each B gs) past c.loop-g.invariant ∙ ap Ok (append-nil all)

pub evaluate_generator-returns-in_err-lower : goal.evaluate_generator-returns-in_err-lower
evaluate_generator-returns-in_err-lower t c =
    let a = c.args in
    let ctx = a.context.now in
    let env = env_of a.env.now in
    let g = a.g.now in
    let stop = c.in_err-lower.field-0.0 in
    let is : c.from_residual.result ≡ Err stop = search rules in
    stopped c.from_residual.result stop (bound_in ctx (View.bound g.lower) env) (from_lower ctx env g) (bounds_in ctx env g) is refl c.in_err-lower.ensures

pub evaluate_generator-returns-in_err-upper : goal.evaluate_generator-returns-in_err-upper
evaluate_generator-returns-in_err-upper t c =
    let a = c.args in
    let ctx = a.context.now in
    let env = env_of a.env.now in
    let g = a.g.now in
    let l = c.in_ok-lower.lower in
    let stop = c.in_err-upper.field-0.0 in
    let is : c.from_residual-in_err-upper.result ≡ Err stop = search rules in
    stopped c.from_residual-in_err-upper.result stop (bound_in ctx (View.bound g.upper) env) (from_upper ctx env g l) (bounds_in ctx env g) is
    (value_then (bound_in ctx (View.bound g.lower) env) (from_lower ctx env g) l c.in_ok-lower.ensures) c.in_err-upper.ensures

pub evaluate_generator-returns-in_err-step : goal.evaluate_generator-returns-in_err-step
evaluate_generator-returns-in_err-step t c =
    let a = c.args in
    let ctx = a.context.now in
    let env = env_of a.env.now in
    let g = a.g.now in
    let l = c.in_ok-lower.lower in
    let u = c.in_ok-upper.upper in
    let stop = c.in_err-step.field-0.0 in
    let is : c.from_residual-in_err-step.result ≡ Err stop = search rules in
    stopped c.from_residual-in_err-step.result stop (maybe_in ctx (View.maybe g.step) env) (from_step ctx env g l u) (bounds_in ctx env g) is
    (value_then (bound_in ctx (View.bound g.lower) env) (from_lower ctx env g) l c.in_ok-lower.ensures
    ∙ value_then (bound_in ctx (View.bound g.upper) env) (from_upper ctx env g l) u c.in_ok-upper.ensures) c.in_err-step.ensures

pub evaluate_generator-returns-in_err-width : goal.evaluate_generator-returns-in_err-width
evaluate_generator-returns-in_err-width t c =
    let a = c.args in
    let ctx = a.context.now in
    let env = env_of a.env.now in
    let g = a.g.now in
    let l = c.in_ok-lower.lower in
    let u = c.in_ok-upper.upper in
    let s = c.in_ok-step.step in
    let stop = c.in_err-width.field-0.0 in
    let is : c.from_residual-in_err-width.result ≡ Err stop = search rules in
    stopped c.from_residual-in_err-width.result stop (maybe_in ctx (View.maybe g.width) env) (as_bounds g l u s) (bounds_in ctx env g) is
    (value_then (bound_in ctx (View.bound g.lower) env) (from_lower ctx env g) l c.in_ok-lower.ensures
    ∙ value_then (bound_in ctx (View.bound g.upper) env) (from_upper ctx env g l) u c.in_ok-upper.ensures
    ∙ value_then (maybe_in ctx (View.maybe g.step) env) (from_step ctx env g l u) s c.in_ok-step.ensures) c.in_err-width.ensures

pub run_function-returns-in_err-run_block : goal.run_function-returns-in_err-run_block
run_function-returns-in_err-run_block t c =
    let context = c.args.context.now in
    let current = context.current.now in
    let start =
    ap (λ env. with_variables (names_of_params current.params.items) c.args.args.items env) (sym (no_bindings c.new.result c.new.ensures.items))
    ∙ ap (λ ps. with_variables (names_of_params ps) c.args.args.items (env_of (roll-Environment (record { outer = None; bindings = c.new.result })))) (sym c.deref.ensures.value)
    ∙ same_value _ _ c.in_ok-bind_params.ensures in
    let body = ap block c.deref-2.ensures.value in
    let stop = c.in_err-run_block.field-0.0 in
    let is : c.from_residual-in_err-run_block.result ≡ Err stop = search rules in
    let after = λ (env : Env). and_then (meanings_in context (exprs current.values.items) env) (results_in current.results.items current.ends) in
    stopped_items c.from_residual-in_err-run_block.result stop (block_in context (block c.deref-2.result.now) (env_of c.bind_params.new.env)) after (function_in context c.args.args.items) is
    (λ j. and_then (block_in context (sym body j) (start j)) after) c.in_err-run_block.ensures
