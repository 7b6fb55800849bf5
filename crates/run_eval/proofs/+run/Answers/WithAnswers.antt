-- Answers for the checks of with-loops and parted loops.
use Rattle.sac_base.specs.declared.stop.Stop.TheVariants.{Faulted}
use Rattle.sac_base.specs.declared.faults.FaultKind.TheVariants.{F6}
use Rattle.run_eval.proofs.PartJobs.{fold_misfits, fold_tells as part_fold_is, parts_tell as part_cells_are}
use Rattle.run_eval.proofs.WithJobs.{with_stops, genarray_tells, modarray_tells, fold_tells as with_fold_tells}
use Rattle.run_eval.proofs.WithTerms.{with_means, parted_means}
use Rattle.std.proofs.Common.{rules, ◌≡◌, true, false, Err, Some, ap, sym, ◌∙◌, subst, arith, map, List, refl, None, true≢false, Option}
use Rattle.std.specs.Prelude.{option_map, is_some}
use Rattle.counted_code.specs.Machine.{reads, bounds_of, one_value}
use Rattle.counted_code.specs.Values.{read}
use Rattle.counted_code.specs.View.{code_with_term, code_parted_term}
use Rattle.run_values.specs.Scopes.{current}
use Rattle.run_values.specs.Shown.{value_of}
use Rattle.counted_code.specs.Pieces.{gen_head}
use Rattle.run_loops.specs.Running.{right_in, Told, ToldStop, IsValue, IsOnly, array_job, fold_job, cells_in}
use Rattle.counted_code.proofs.Sizes.{gens_size, parts_size, gens_below, parts_below}
use Rattle.run_loops.proofs.OldArrays.{based_as, shaped_as}
use Rattle.run_loops.proofs.Steps.{handed}
use Rattle.run_eval.proofs.+run.Goals as goal
use Rattle.core_ir.specs.Meaning.{operation}
use Rattle.sac_base.specs.WithLoops.{fits_form, genarray, modarray, fold_by}
use Rattle.counted_code.specs.declared.tree.CodeGen.{CodeGen}
use Rattle.counted_code.specs.declared.tree.CodeParted.{out-CodeParted}
use Rattle.counted_code.specs.declared.tree.CodeWith.{out-CodeWith}
use Rattle.counted_code.specs.Loops.{job_does, loop_does, parted_job}
use Rattle.array_with_loops.specs.Plans.{plan_of}

pub run_with-run_cell_loop-requires : goal.array_loops::run_with-run_cell_loop-requires
run_with-run_cell_loop-requires g t c κs p =
    (omega (arith, c.decreases, gens_below c.args.with.now, ap gens_size c.deref-2.ensures.value), p)

pub run_with-run_cell_loop-requires-in-Modarray : goal.array_loops::run_with-run_cell_loop-requires-in-Modarray
run_with-run_cell_loop-requires-in-Modarray g t c κs p =
    (omega (arith, c.decreases, gens_below c.args.with.now, ap gens_size c.deref-2.ensures.value), p)

pub run_with-run_cell_loop-requires-in-Fold : goal.array_loops::run_with-run_cell_loop-requires-in-Fold
run_with-run_cell_loop-requires-in-Fold g t c κs p =
    (omega (arith, c.decreases, gens_below c.args.with.now, ap gens_size c.deref-2.ensures.value), p)

pub run_parted-run_cell_loop-requires : goal.array_loops::run_parted-run_cell_loop-requires
run_parted-run_cell_loop-requires g t c κs p =
    (omega (arith, c.decreases, parts_below c.args.parted.now, ap parts_size c.deref.ensures.value), p)

pub run_parted-run_cell_loop-requires-in_default : goal.array_loops::run_parted-run_cell_loop-requires-in_default
run_parted-run_cell_loop-requires-in_default g t c κs p =
    (omega (arith, c.decreases, parts_below c.args.parted.now, ap parts_size c.deref.ensures.value), p)

pub run_with-returns-in_err-plan-in-Genarray-clause-told : goal.array_loops::run_with-returns-in_err-plan-in-Genarray-clause-told
run_with-returns-in_err-plan-in-Genarray-clause-told g t c =
    let a = c.args in
    let ctx = a.context.now in
    let s = a.state.now in
    let e = current s.frames in
    let w = a.with.now in
    let gs = (out-CodeWith w).gens.items in
    let i = c.in-Genarray in
    let bs = c.deref-in-Genarray.result.now in
    let stop = c.in_err-plan-in-Genarray.field-0.0 in
    let is : c.from_residual-in_err-plan-in-Genarray.result ≡ Err stop = search rules in
    λ m at.
    handed IsOnly c.from_residual-in_err-plan-in-Genarray.result stop s (right_in ctx (code_with_term w) a.site e m) is
    (subst (ToldStop stop s) (sym (with_means ctx e w a.site m))
    (with_stops ctx e m gs a.site bs (c.deref-in-Genarray.ensures.value ∙ c.in_ok-bounds.ensures m at.heap ∙ ap (map (λ (g : CodeGen). bounds_of (gen_head g) (reads m e))) c.deref.ensures.value) (out-CodeWith w).op (genarray c.in_ok-shape-in-Genarray.shape c.in_ok-default-in-Genarray.default a.site) (ap (λ o. operation o a.site (reads m e)) i.is ∙ (λ j. genarray ((ap (read m) (sym c.get.ensures) ∙ sym (c.in_ok-shape-in-Genarray.ensures m at.heap)) j) ((ap (read m) (sym c.get-array.ensures) ∙ sym (c.in_ok-default-in-Genarray.ensures m at.heap)) j) a.site)) stop s at c.in_err-plan-in-Genarray.ensures.told))

pub run_with-returns-in-Genarray-clause-told : goal.array_loops::run_with-returns-in-Genarray-clause-told
run_with-returns-in-Genarray-clause-told g t c =
    let a = c.args in
    let ctx = a.context.now in
    let s = a.state.now in
    let e = current s.frames in
    let w = a.with.now in
    let gs = (out-CodeWith w).gens.items in
    let i = c.in-Genarray in
    let bs = c.deref-in-Genarray.result.now in
    let st = c.run_cell_loop.new.state in
    let r = c.run_cell_loop.result in
    λ m at.
    subst (Told IsOnly r st) (sym (with_means ctx e w a.site m))
    (genarray_tells ctx e m gs a.site bs (c.deref-in-Genarray.ensures.value ∙ c.in_ok-bounds.ensures m at.heap ∙ ap (map (λ (g : CodeGen). bounds_of (gen_head g) (reads m e))) c.deref.ensures.value) (out-CodeWith w).op c.in_ok-shape-in-Genarray.shape c.in_ok-default-in-Genarray.default (plan_of c.in_ok-plan-in-Genarray.plan) r st (ap (λ o. operation o a.site (reads m e)) i.is ∙ (λ j. genarray ((ap (read m) (sym c.get.ensures) ∙ sym (c.in_ok-shape-in-Genarray.ensures m at.heap)) j) ((ap (read m) (sym c.get-array.ensures) ∙ sym (c.in_ok-default-in-Genarray.ensures m at.heap)) j) a.site)) c.in_ok-plan-in-Genarray.ensures.told
    (subst (Told IsValue r st) (λ j. job_does None (array_job ctx e m (c.deref-2.ensures.value j) (plan_of c.in_ok-plan-in-Genarray.plan) (sym (c.in_ok-default-in-Genarray.ensures m at.heap) j) false) m) (c.run_cell_loop.ensures.told m at)))

pub run_with-returns-in_err-plan-in-Modarray-clause-told : goal.array_loops::run_with-returns-in_err-plan-in-Modarray-clause-told
run_with-returns-in_err-plan-in-Modarray-clause-told g t c =
    let a = c.args in
    let ctx = a.context.now in
    let s = a.state.now in
    let e = current s.frames in
    let w = a.with.now in
    let gs = (out-CodeWith w).gens.items in
    let i = c.in-Modarray in
    let bs = c.deref-in-Modarray.result.now in
    let v = value_of c.get-array-in-Modarray.result in
    let stop = c.in_err-plan-in-Modarray.field-0.0 in
    let is : c.from_residual-in_err-plan-in-Modarray.result ≡ Err stop = search rules in
    λ m at.
    handed IsOnly c.from_residual-in_err-plan-in-Modarray.result stop s (right_in ctx (code_with_term w) a.site e m) is
    (subst (ToldStop stop s) (sym (with_means ctx e w a.site m))
    (with_stops ctx e m gs a.site bs (c.deref-in-Modarray.ensures.value ∙ c.in_ok-bounds.ensures m at.heap ∙ ap (map (λ (g : CodeGen). bounds_of (gen_head g) (reads m e))) c.deref.ensures.value) (out-CodeWith w).op (modarray (read m v) a.site) (ap (λ o. operation o a.site (reads m e)) i.is ∙ (λ j. modarray (ap (read m) (sym c.get-array-in-Modarray.ensures) j) a.site)) stop s at
    (c.in_err-plan-in-Modarray.ensures.told (read m v) (based_as v m ∙ sym c.base.ensures) (shaped_as v m ∙ sym c.in_ok-shape-in-Modarray.ensures.shape))))

pub run_with-returns-in-Modarray-clause-told : goal.array_loops::run_with-returns-in-Modarray-clause-told
run_with-returns-in-Modarray-clause-told g t c =
    let a = c.args in
    let ctx = a.context.now in
    let s = a.state.now in
    let e = current s.frames in
    let w = a.with.now in
    let gs = (out-CodeWith w).gens.items in
    let i = c.in-Modarray in
    let bs = c.deref-in-Modarray.result.now in
    let v = value_of c.get-array-in-Modarray.result in
    let st = c.run_cell_loop-in-Modarray.new.state in
    let r = c.run_cell_loop-in-Modarray.result in
    λ m at.
    subst (Told IsOnly r st) (sym (with_means ctx e w a.site m))
    (modarray_tells ctx e m gs a.site bs (c.deref-in-Modarray.ensures.value ∙ c.in_ok-bounds.ensures m at.heap ∙ ap (map (λ (g : CodeGen). bounds_of (gen_head g) (reads m e))) c.deref.ensures.value) (out-CodeWith w).op (read m v) (plan_of c.in_ok-plan-in-Modarray.plan) r st (ap (λ o. operation o a.site (reads m e)) i.is ∙ (λ j. modarray (ap (read m) (sym c.get-array-in-Modarray.ensures) j) a.site))
    (c.in_ok-plan-in-Modarray.ensures.told (read m v) (based_as v m ∙ sym c.base.ensures) (shaped_as v m ∙ sym c.in_ok-shape-in-Modarray.ensures.shape))
    (subst (λ (gens : List CodeGen). Told IsValue r st (job_does None (array_job ctx e m gens (plan_of c.in_ok-plan-in-Modarray.plan) (read m v) true) m)) c.deref-2.ensures.value (c.run_cell_loop-in-Modarray.ensures.told m at)))

pub run_with-returns-in_err-plan-in-Fold-clause-told : goal.array_loops::run_with-returns-in_err-plan-in-Fold-clause-told
run_with-returns-in_err-plan-in-Fold-clause-told g t c =
    let a = c.args in
    let ctx = a.context.now in
    let s = a.state.now in
    let e = current s.frames in
    let w = a.with.now in
    let gs = (out-CodeWith w).gens.items in
    let i = c.in-Fold in
    let bs = c.deref-in-Fold.result.now in
    let stop = c.in_err-plan-in-Fold.field-0.0 in
    let is : c.from_residual-in_err-plan-in-Fold.result ≡ Err stop = search rules in
    λ m at.
    handed IsOnly c.from_residual-in_err-plan-in-Fold.result stop s (right_in ctx (code_with_term w) a.site e m) is
    (subst (ToldStop stop s) (sym (with_means ctx e w a.site m))
    (with_stops ctx e m gs a.site bs (c.deref-in-Fold.ensures.value ∙ c.in_ok-bounds.ensures m at.heap ∙ ap (map (λ (g : CodeGen). bounds_of (gen_head g) (reads m e))) c.deref.ensures.value) (out-CodeWith w).op (fold_by i.op c.in_ok-neutral-in-Fold.neutral a.site) (ap (λ o. operation o a.site (reads m e)) i.is ∙ (λ j. fold_by i.op ((ap (read m) (sym c.get-in-Fold.ensures) ∙ sym (c.in_ok-neutral-in-Fold.ensures m at.heap)) j) a.site)) stop s at c.in_err-plan-in-Fold.ensures))

pub run_with-returns-clause-told : goal.array_loops::run_with-returns-clause-told
run_with-returns-clause-told g t c =
    let a = c.args in
    let ctx = a.context.now in
    let s = a.state.now in
    let e = current s.frames in
    let w = a.with.now in
    let gs = (out-CodeWith w).gens.items in
    let i = c.in-Fold in
    let bs = c.deref-in-Fold.result.now in
    let st = c.run_cell_loop-in-Fold.new.state in
    let r = c.run_cell_loop-in-Fold.result in
    λ m at.
    subst (Told IsOnly r st) (sym (with_means ctx e w a.site m))
    (with_fold_tells ctx e m gs a.site bs (c.deref-in-Fold.ensures.value ∙ c.in_ok-bounds.ensures m at.heap ∙ ap (map (λ (g : CodeGen). bounds_of (gen_head g) (reads m e))) c.deref.ensures.value) (out-CodeWith w).op i.op c.in_ok-neutral-in-Fold.neutral (plan_of c.in_ok-plan-in-Fold.plan) r st (ap (λ o. operation o a.site (reads m e)) i.is ∙ (λ j. fold_by i.op ((ap (read m) (sym c.get-in-Fold.ensures) ∙ sym (c.in_ok-neutral-in-Fold.ensures m at.heap)) j) a.site)) c.in_ok-plan-in-Fold.ensures
    (subst (λ (gens : List CodeGen). Told IsValue r st (job_does None (fold_job ctx e m gens (plan_of c.in_ok-plan-in-Fold.plan) i.op c.in_ok-neutral-in-Fold.neutral) m)) c.deref-2.ensures.value (c.run_cell_loop-in-Fold.ensures.told m at)))

-- an option that has nothing
no_mark : {A : Type 0} (o : Option A) → is_some o ≡ false → o ≡ None
no_mark None h = refl
no_mark (Some x) h = absurd (true≢false h)

pub run_parted-returns-then-not-fits-clause-told : goal.array_loops::run_parted-returns-then-not-fits-clause-told
run_parted-returns-then-not-fits-clause-told g t c =
    let a = c.args in
    let ctx = a.context.now in
    let s = a.state.now in
    let e = current s.frames in
    let p = out-CodeParted a.parted.now in
    let unmarked = sym c.is_some.ensures ∙ c.if-is_some.false in
    let i = c.in-Fold in
    λ m at.
    let meant = parted_means ctx e a.parted.now a.site m ∙ (λ j. one_value (loop_does (λ k. parted_job p.frame p.base p.cell p.op (map (cells_in ctx e) p.parts.items) a.site (reads k e)) (option_map e (no_mark p.reuse unmarked j))) m) in
    let misfits = (sym (c.fits.ensures m ∙ (λ j. fits_form ((c.in_ok-plan.ensures j).form) (read m (c.get-neutral.ensures j))))) ∙ c.if-not-fits.true in
    subst (λ stop. ToldStop stop s (right_in ctx (code_parted_term a.parted.now) a.site e m)) (sym c.fault.ensures)
    (subst (ToldStop (Faulted (record { kind = F6; site = a.site })) s) (sym meant)
    (fold_misfits ctx e m p.frame p.base p.cell p.parts.items a.site p.op i.op i.neutral i.is s at misfits))

pub run_parted-returns-in-Fold-clause-told : goal.array_loops::run_parted-returns-in-Fold-clause-told
run_parted-returns-in-Fold-clause-told g t c =
    let a = c.args in
    let ctx = a.context.now in
    let s = a.state.now in
    let e = current s.frames in
    let p = out-CodeParted a.parted.now in
    let unmarked = sym c.is_some.ensures ∙ c.if-is_some.false in
    let i = c.in-Fold in
    let st = c.run_cell_loop.new.state in
    let r = c.run_cell_loop.result in
    λ m at.
    let meant = parted_means ctx e a.parted.now a.site m ∙ (λ j. one_value (loop_does (λ k. parted_job p.frame p.base p.cell p.op (map (cells_in ctx e) p.parts.items) a.site (reads k e)) (option_map e (no_mark p.reuse unmarked j))) m) in
    let fits = (sym (c.fits.ensures m ∙ (λ j. fits_form ((c.in_ok-plan.ensures j).form) (read m (c.get-neutral.ensures j))))) ∙ c.if-not-fits.false in
    subst (Told IsOnly r st) (sym meant)
    (part_fold_is ctx e m p.frame p.base p.cell p.parts.items a.site p.op i.op i.neutral i.is (plan_of c.in_ok-plan.plan) c.in_ok-neutral-in-Fold.neutral c.deref.result.now r st
    c.in_ok-plan.ensures (c.in_ok-neutral-in-Fold.ensures m at.heap ∙ ap (read m) c.get-neutral.ensures) c.deref.ensures.value fits (c.run_cell_loop.ensures.told m at))

pub run_parted-returns : goal.array_loops::run_parted-returns
run_parted-returns g t c =
    let a = c.args in
    let ctx = a.context.now in
    let s = a.state.now in
    let e = current s.frames in
    let p = out-CodeParted a.parted.now in
    let unmarked = sym c.is_some.ensures ∙ c.if-is_some.false in
    let st = c.run_cell_loop-in_default.new.state in
    let r = c.run_cell_loop-in_default.result in
    record {
      told = λ m at.
          let meant = parted_means ctx e a.parted.now a.site m ∙ (λ j. one_value (loop_does (λ k. parted_job p.frame p.base p.cell p.op (map (cells_in ctx e) p.parts.items) a.site (reads k e)) (option_map e (no_mark p.reuse unmarked j))) m) in
          subst (Told IsOnly r st) (sym meant)
          (part_cells_are ctx e m p.frame p.base p.cell p.parts.items a.site p.op (plan_of c.in_ok-plan.plan) c.deref.result.now r st
          (λ o x is. c.in_default.not-Fold o x is) c.in_ok-plan.ensures c.deref.ensures.value (c.run_cell_loop-in_default.ensures.told m at));
      scopes = c.run_cell_loop-in_default.ensures.scopes;
      lender = c.run_cell_loop-in_default.ensures.lender;
    }
