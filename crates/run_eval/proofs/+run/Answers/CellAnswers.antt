-- Answers for loops over cells.
use Rattle.std.proofs.Common.{rules, ◌≡◌, true, false, [], ◌++◌, Ok, Err, Some, ap, sym, ◌∙◌, subst, arith, refl, ◌<◌, length, None, get_or}
use Rattle.std.specs.Prelude.{fold, option_map}
use Rattle.counted_code.specs.Machine.{first_value, Values}
use Rattle.counted_code.specs.Values.{give, read}
use Rattle.counted_code.specs.View.{code_term}
use Rattle.run_values.specs.Scopes.{current}
use Rattle.run_values.specs.Shown.{value_of}
use Rattle.run_loops.specs.Running.{does_in, Told, ToldStop, IsValue, SameScopes}
use Rattle.run_loops.proofs.Steps.{moved, stop_then, on_ok, handed, no_scopes}
use Rattle.run_eval.proofs.+run.Goals as goal
use Rattle.sac_base.specs.WithLoops.{combined}
use Rattle.run_loops.specs.Jobs.{array_over, cells_job, cells_over}
use Rattle.run_loops.specs.Loops.{IsPresent, array_of, body_cell, body_env, body_of, body_source, fold_target, held_body, loop_cells, loop_source, source_at, unreleased}
use Rattle.run_loops.specs.declared.cell_loop.LoopResult.TheVariants.{Joined, Folded}
use Rattle.counted_code.specs.Loops.{job_does}
use Rattle.run_store.specs.Targets.{target_of}
use Rattle.run_eval.proofs.CellJobs.{fold_nothing, target_nothing}
use Rattle.run_eval.proofs.CellLoops.{filled_as, loop_end, loop_step, loop_stop, loop_stops, loop_tells, made_as}
use Rattle.run_eval.proofs.CellMakings.{covered_all, covered_more, covering, folded_more, folding}
use Rattle.run_eval.proofs.CellRuns.{carried_start}
use Rattle.run_eval.proofs.CellScopes.{cell_scopes, cell_tells, scopes_after, scopes_join}
use Rattle.run_eval.proofs.CellTold.{present_told}
use Rattle.run_loops.proofs.CellBodies.{bodies_are, body_smaller}
use Rattle.phase_count.proofs.Tallying.{counts_as}

pub run_cell_loop-run_array-requires : goal.array_loops::run_cell_loop-run_array-requires
run_cell_loop-run_array-requires g t c κs p =
    (omega (arith, c.decreases), p)

pub run_cell_loop-run_fold-requires : goal.array_loops::run_cell_loop-run_fold-requires
run_cell_loop-run_fold-requires g t c κs p =
    (omega (arith, c.decreases), p)

pub run_array-fill-requires : goal.array_loops::run_array-fill-requires
run_array-fill-requires g t c κs p =
    (omega (arith, c.decreases), p)

pub fill-loop_cell-requires : goal.array_loops::fill-loop_cell-requires
fill-loop_cell-requires g t c κs p =
    (omega (arith, c.decreases), p)

pub run_fold-fold_cells-requires : goal.array_loops::run_fold-fold_cells-requires
run_fold-fold_cells-requires g t c κs p =
    (omega (arith, c.decreases), p)

pub fold_cells-loop_cell-requires : goal.array_loops::fold_cells-loop_cell-requires
fold_cells-loop_cell-requires g t c κs p =
    (omega (arith, c.decreases), p)

pub run_cell_loop-run_array-requires-in-Joined : goal.array_loops::run_cell_loop-run_array-requires-in-Joined
run_cell_loop-run_array-requires-in-Joined g t c κs p =
    (omega (arith, c.decreases), p)

pub loop_cell-run_cell-requires : goal.array_loops::loop_cell-run_cell-requires
loop_cell-run_cell-requires g t c κs p =
    let a = c.args in
    let found : Some (body_of c.in-Some.body) ≡ held_body a.source.now a.ranges.now a.index.now = ap (option_map body_of) (sym c.in-Some.is) ∙ c.body_at.ensures in
    (omega (arith, c.decreases, body_smaller a.source.now a.ranges.now a.index.now (body_of c.in-Some.body) found), p)

pub run_cell_loop-returns-in_ok-size-in-Filled : goal.array_loops::run_cell_loop-returns-in_ok-size-in-Filled
run_cell_loop-returns-in_ok-size-in-Filled g t c =
    let a = c.args in
    let s = a.state.now in
    let i = c.in-Filled in
    record {
      told = λ m at.
          filled_as a.context.now (current s.frames) m a.work.now c.run_array.result c.run_array.new.state
          (record { array = record { ref_ptr = (0, 0); now = c.in_ok-array-in-Filled.array }; old = i.old; size = c.in_ok-size-in-Filled.size }) i.array c.base.result i.is (c.in_ok-array-in-Filled.ensures m at.heap) c.base.ensures c.in_ok-size-in-Filled.ensures (c.run_array.ensures.told m at);
      scopes = c.run_array.ensures.scopes;
      lender = c.run_array.ensures.lender;
    }

pub run_cell_loop-returns-in-Joined : goal.array_loops::run_cell_loop-returns-in-Joined
run_cell_loop-returns-in-Joined g t c =
    let a = c.args in
    let s = a.state.now in
    let p = a.work.now.plan.now in
    record {
      told = λ m at.
          made_as a.context.now (current s.frames) m a.work.now c.run_array-in-Joined.result c.run_array-in-Joined.new.state
          Joined false (array_over p.form.base p.shape None) c.in-Joined.is refl (λ found. refl) (c.run_array-in-Joined.ensures.told m at);
      scopes = c.run_array-in-Joined.ensures.scopes;
      lender = c.run_array-in-Joined.ensures.lender;
    }

pub run_cell_loop-returns-in-Folded : goal.array_loops::run_cell_loop-returns-in-Folded
run_cell_loop-returns-in-Folded g t c =
    let a = c.args in
    let s = a.state.now in
    let i = c.in-Folded in
    record {
      told = λ m at.
          made_as a.context.now (current s.frames) m a.work.now c.run_fold.result c.run_fold.new.state
          (Folded i.op i.neutral) true (fold (combined i.op) i.neutral.now) i.is refl (λ found. refl) (c.run_fold.ensures.told m at);
      scopes = c.run_fold.ensures.scopes;
      lender = c.run_fold.ensures.lender;
    }

pub fill-loop-place-init : goal.array_loops::fill-loop-place-init
fill-loop-place-init g t c =
    let a = c.args in
    let w = a.work.now in
    let p = w.plan.now in
    let source = λ (e : Values). loop_source a.context.now e w in
    let s = a.state.now in
    record { carried = λ m at. carried_start (covering a.background) p.form (source (current s.frames)) p.frame a.cells.now.items m s at; scopes = (refl, refl); lender = refl }

pub fill-returns-in_err-value : goal.array_loops::fill-returns-in_err-value
fill-returns-in_err-value g t c =
    let a = c.args in
    let w = a.work.now in
    let p = w.plan.now in
    let source = λ (e : Values). loop_source a.context.now e w in
    let s = a.state.now in
    let here = c.loop-place in
    let k = here.place in
    let inside : k < length p.frame = omega (arith, c.loop-place-test.true, c.count-place-end.ensures) in
    let is : c.components.result.now ≡ get_or p.frame k [] = c.components.ensures.value ∙ c.in_ok-index.ensures [] in
    let st = c.loop_cell.new.state in
    let stop = c.in_err-value.field-0.0 in
    let handed' : c.from_residual-in_err-value.result ≡ Err stop = search rules in
    record {
      told = λ m at.
          handed (λ (_ : Unit {0}) found. here.cells.items ≡ a.cells.now.items ++ cells_over a.background 0 found) c.from_residual-in_err-value.result stop st (loop_cells a.context.now (current s.frames) w m) handed'
          (loop_stop (covering a.background) p.form source p.frame a.cells.now.items s here.state here.cells.items k here.invariant.carried here.invariant.scopes c.components.result.now stop st inside is
          (λ m at. subst (λ rs. ToldStop stop st (unreleased p.form (source_at a.context.now (current here.state.frames) w.source rs c.components.result.now) m)) c.deref.ensures.value (c.in_err-value.ensures.told m at)) m at);
      scopes = no_scopes (SameScopes s.frames st.frames) c.from_residual-in_err-value.result stop handed';
      lender = c.in_err-value.ensures.lender ∙ here.invariant.lender;
    }

pub fill-loop-place-preserved : goal.array_loops::fill-loop-place-preserved
fill-loop-place-preserved g t c =
    let a = c.args in
    let w = a.work.now in
    let p = w.plan.now in
    let source = λ (e : Values). loop_source a.context.now e w in
    let s = a.state.now in
    let here = c.loop-place in
    let k = here.place in
    let inside : k < length p.frame = omega (arith, c.loop-place-test.true, c.count-place-end.ensures) in
    let is : c.components.result.now ≡ get_or p.frame k [] = c.components.ensures.value ∙ c.in_ok-index.ensures [] in
    let st = c.loop_cell.new.state in
    let o = c.in_ok-value.value in
    record {
      carried = loop_step (covering a.background) p.form source p.frame a.cells.now.items s here.state here.cells.items k here.invariant.carried here.invariant.scopes c.components.result.now o st (record st { heap = c.put_cell.new.heap }) c.put_cell.new.cells.items inside is
          (λ m at. subst (λ rs. Told IsPresent (Ok o) st (unreleased p.form (source_at a.context.now (current here.state.frames) w.source rs c.components.result.now) m)) c.deref.ensures.value (c.in_ok-value.ensures.told m at))
          (λ h stands. let q = c.in_ok-put_cell.ensures.put h stands in (covered_more a.background k here.cells.items c.put_cell.new.cells.items (option_map (read h) (option_map value_of o)) q.0, q.1)) refl;
      scopes = scopes_after s.frames here.state.frames st.frames here.invariant.scopes c.in_ok-value.ensures.scopes;
      lender = c.in_ok-put_cell.ensures.lender ∙ c.in_ok-value.ensures.lender ∙ here.invariant.lender;
    }

pub fill-returns : goal.array_loops::fill-returns
fill-returns g t c =
    let a = c.args in
    let w = a.work.now in
    let p = w.plan.now in
    let source = λ (e : Values). loop_source a.context.now e w in
    let s = a.state.now in
    let here = c.loop-place in
    let k = here.place in
    record {
      told = loop_end (covering a.background) p.form source p.frame a.cells.now.items s here.state here.cells.items k here.invariant.carried here.invariant.scopes tt (λ (_ : Unit {0}) found. here.cells.items ≡ a.cells.now.items ++ cells_over a.background 0 found)
          (λ found is. covered_all a.background k here.cells.items a.cells.now.items found is) (omega (arith, c.loop-place-test.false, c.count-place-end.ensures));
      scopes = here.invariant.scopes;
      lender = here.invariant.lender;
    }

pub fold_cells-loop-place-init : goal.array_loops::fold_cells-loop-place-init
fold_cells-loop-place-init g t c =
    let a = c.args in
    let w = a.work.now in
    let p = w.plan.now in
    let source = λ (e : Values). loop_source a.context.now e w in
    let s = a.state.now in
    record { carried = λ m at. carried_start (folding a.op) p.form (source (current s.frames)) p.frame (array_of a.first) m s at; scopes = (refl, refl); lender = refl }

pub fold_cells-returns-in_err-value : goal.array_loops::fold_cells-returns-in_err-value
fold_cells-returns-in_err-value g t c =
    let a = c.args in
    let w = a.work.now in
    let p = w.plan.now in
    let source = λ (e : Values). loop_source a.context.now e w in
    let s = a.state.now in
    let here = c.loop-place in
    let k = here.place in
    let inside : k < length p.frame = omega (arith, c.loop-place-test.true, c.count-place-end.ensures) in
    let is : c.components.result.now ≡ get_or p.frame k [] = c.components.ensures.value ∙ c.in_ok-index.ensures [] in
    let st = c.loop_cell.new.state in
    let stop = c.in_err-value.field-0.0 in
    let handed' : c.from_residual-in_err-value.result ≡ Err stop = search rules in
    record {
      told = λ m at.
          handed (λ s found. array_of s ≡ fold (combined a.op) (array_of a.first) found) c.from_residual-in_err-value.result stop st (loop_cells a.context.now (current s.frames) w m) handed'
          (loop_stop (folding a.op) p.form source p.frame (array_of a.first) s here.state (array_of here.sum) k here.invariant.carried here.invariant.scopes c.components.result.now stop st inside is
          (λ m at. subst (λ rs. ToldStop stop st (unreleased p.form (source_at a.context.now (current here.state.frames) w.source rs c.components.result.now) m)) c.deref.ensures.value (c.in_err-value.ensures.told m at)) m at);
      scopes = no_scopes (SameScopes s.frames st.frames) c.from_residual-in_err-value.result stop handed';
      lender = c.in_err-value.ensures.lender ∙ here.invariant.lender;
    }

pub fold_cells-loop-place-preserved : goal.array_loops::fold_cells-loop-place-preserved
fold_cells-loop-place-preserved g t c =
    let a = c.args in
    let w = a.work.now in
    let p = w.plan.now in
    let source = λ (e : Values). loop_source a.context.now e w in
    let s = a.state.now in
    let here = c.loop-place in
    let k = here.place in
    let inside : k < length p.frame = omega (arith, c.loop-place-test.true, c.count-place-end.ensures) in
    let is : c.components.result.now ≡ get_or p.frame k [] = c.components.ensures.value ∙ c.in_ok-index.ensures [] in
    let st = c.loop_cell.new.state in
    let o = c.in_ok-value.value in
    record {
      carried = loop_step (folding a.op) p.form source p.frame (array_of a.first) s here.state (array_of here.sum) k here.invariant.carried here.invariant.scopes c.components.result.now o st (record st { heap = c.add_cell.new.heap }) (array_of c.in_ok-sum.sum) inside is
          (λ m at. subst (λ rs. Told IsPresent (Ok o) st (unreleased p.form (source_at a.context.now (current here.state.frames) w.source rs c.components.result.now) m)) c.deref.ensures.value (c.in_ok-value.ensures.told m at))
          (λ h stands. let q = c.in_ok-sum.ensures.added h stands in (folded_more a.op k (array_of here.sum) (array_of c.in_ok-sum.sum) (option_map (read h) (option_map value_of o)) q.0, q.1)) refl;
      scopes = scopes_after s.frames here.state.frames st.frames here.invariant.scopes c.in_ok-value.ensures.scopes;
      lender = c.in_ok-sum.ensures.lender ∙ c.in_ok-value.ensures.lender ∙ here.invariant.lender;
    }

pub fold_cells-returns : goal.array_loops::fold_cells-returns
fold_cells-returns g t c =
    let a = c.args in
    let w = a.work.now in
    let p = w.plan.now in
    let source = λ (e : Values). loop_source a.context.now e w in
    let s = a.state.now in
    let here = c.loop-place in
    let k = here.place in
    record {
      told = loop_end (folding a.op) p.form source p.frame (array_of a.first) s here.state (array_of here.sum) k here.invariant.carried here.invariant.scopes here.sum (λ s found. array_of s ≡ fold (combined a.op) (array_of a.first) found)
          (λ found is. is) (omega (arith, c.loop-place-test.false, c.count-place-end.ensures));
      scopes = here.invariant.scopes;
      lender = here.invariant.lender;
    }

pub loop_cell-returns-in_err-value-in-Some : goal.array_loops::loop_cell-returns-in_err-value-in-Some
loop_cell-returns-in_err-value-in-Some g t c =
    let a = c.args in
    let ctx = a.context.now in
    let s = a.state.now in
    let e = current s.frames in
    let v = a.index.now in
    let form = a.form.now in
    let src = a.source.now in
    let rs = a.ranges.now in
    let found : Some (body_of c.in-Some.body) ≡ held_body src rs v = ap (option_map body_of) (sym c.in-Some.is) ∙ c.body_at.ensures in
    let source : Some (body_source ctx e v (body_of c.in-Some.body)) ≡ source_at ctx e src rs v = ap (option_map (body_source ctx e v)) found ∙ sym (bodies_are ctx e v src rs) in
    let st = c.run_cell.new.state in
    let stop = c.in_err-value-in-Some.field-0.0 in
    let is : c.from_residual.result ≡ Err stop = search rules in
    record {
      told = λ m at.
          handed IsPresent c.from_residual.result stop st (unreleased form (source_at ctx e src rs v) m) is
          (subst (λ o. ToldStop stop st (unreleased form o m)) source
          (stop_then stop st (body_cell ctx (body_of c.in-Some.body) form v e m) (λ w. give (Some w)) (c.in_err-value-in-Some.ensures.told m at)));
      scopes = no_scopes (SameScopes s.frames st.frames) c.from_residual.result stop is;
      lender = c.in_err-value-in-Some.ensures.lender;
    }

pub loop_cell-returns-in_ok-value-in-Some : goal.array_loops::loop_cell-returns-in_ok-value-in-Some
loop_cell-returns-in_ok-value-in-Some g t c =
    let a = c.args in
    let ctx = a.context.now in
    let s = a.state.now in
    let e = current s.frames in
    let v = a.index.now in
    let form = a.form.now in
    let src = a.source.now in
    let rs = a.ranges.now in
    let found : Some (body_of c.in-Some.body) ≡ held_body src rs v = ap (option_map body_of) (sym c.in-Some.is) ∙ c.body_at.ensures in
    let source : Some (body_source ctx e v (body_of c.in-Some.body)) ≡ source_at ctx e src rs v = ap (option_map (body_source ctx e v)) found ∙ sym (bodies_are ctx e v src rs) in
    let st = c.run_cell.new.state in
    let value = c.in_ok-value-in-Some.value in
    record {
      told = λ m at.
          subst (λ o. Told IsPresent (Ok (Some value)) st (unreleased form o m)) source
          (present_told value st form (body_source ctx e v (body_of c.in-Some.body)) m (c.in_ok-value-in-Some.ensures.told m at));
      scopes = c.in_ok-value-in-Some.ensures.scopes;
      lender = c.in_ok-value-in-Some.ensures.lender;
    }

pub loop_cell-returns-in-None : goal.array_loops::loop_cell-returns-in-None
loop_cell-returns-in-None g t c =
    let a = c.args in
    let ctx = a.context.now in
    let s = a.state.now in
    let e = current s.frames in
    let v = a.index.now in
    let form = a.form.now in
    let src = a.source.now in
    let rs = a.ranges.now in
    let none : None ≡ held_body src rs v = ap (option_map body_of) (sym c.in-None.is) ∙ c.body_at.ensures in
    let source : None ≡ source_at ctx e src rs v = ap (option_map (body_source ctx e v)) none ∙ sym (bodies_are ctx e v src rs) in
    record {
      told = λ m at. subst (λ o. Told IsPresent (Ok None) s (unreleased form o m)) source (refl, at);
      scopes = (refl, refl);
      lender = refl;
    }

pub run_cell-returns : goal.array_loops::run_cell-returns
run_cell-returns g t c =
    let a = c.args in
    let ctx = a.context.now in
    let s = a.state.now in
    let b = body_of a.body.now in
    let v = a.index.now in
    let bound = c.in_ok-bind_index.ensures.bound in
    let mid = c.bind_index.new.state in
    let answer = c.run_first-answer.result in
    let st = c.run_first-answer.new.state in
    let new = record st { phases = c.enter_cell-outer.result } in
    let inside = bound.inside ∙ (λ i. body_env (c.in_ok-enter.ensures.current i) b v) in
    record {
      told = λ m at.
          cell_tells answer c.formed.result st new m (first_value (does_in ctx (code_term b.block) (body_env (current s.frames) b v))) a.form.now b.site refl (counts_as s.phases c.enter_cell-outer.result m.phases m.phases c.enter_cell-outer.ensures.outer refl at.phases) c.formed.ensures.told
          (subst (λ e. Told IsValue answer st (first_value (does_in ctx (code_term b.block) e) m)) inside (c.run_first-answer.ensures.told m (moved s mid m bound.heap (bound.phases ∙ c.enter_cell-outer.ensures.same) at)));
      scopes = cell_scopes answer c.formed.result s.frames mid.frames st.frames c.formed.ensures.same c.run_first-answer.ensures.scopes (bound.outside ∙ c.in_ok-enter.ensures.outer);
      lender = c.run_first-answer.ensures.lender ∙ c.in_ok-bind_index.ensures.lender;
    }

pub run_array-returns-in_err-fill : goal.array_loops::run_array-returns-in_err-fill
run_array-returns-in_err-fill g t c =
    let a = c.args in
    let ctx = a.context.now in
    let w = a.work.now in
    let p = w.plan.now in
    let s = a.state.now in
    let target = c.in_ok-target.target in
    let s0 = c.begin.new.state in
    let s1 = c.fill.new.state in
    let stop = c.in_err-fill.field-0.0 in
    let is : c.from_residual-in_err-fill.result ≡ Err stop = search rules in
    let result = array_over a.base p.shape a.background in
    record {
      told = λ m at.
          handed IsValue c.from_residual-in_err-fill.result stop s1 (job_does None (cells_job ctx (current s.frames) m w false result) m) is
          (loop_stops ctx w s s0 (target_of target) m c.in_ok-target.ensures.frames (target_nothing target) false result (c.in_ok-target.ensures.begun m (length p.frame) (sym c.count-positions.ensures) at) stop s1 c.in_err-fill.ensures.told);
      scopes = no_scopes (SameScopes s.frames s1.frames) c.from_residual-in_err-fill.result stop is;
      lender = c.in_err-fill.ensures.lender ∙ c.in_ok-target.ensures.lender;
    }

pub run_array-returns : goal.array_loops::run_array-returns
run_array-returns g t c =
    let a = c.args in
    let ctx = a.context.now in
    let w = a.work.now in
    let p = w.plan.now in
    let s = a.state.now in
    let target = c.in_ok-target.target in
    let s0 = c.begin.new.state in
    let s1 = c.fill.new.state in
    let s2 = c.finish.new.state in
    let items = c.fill.new.cells.items in
    let r = c.finish.result in
    let result = array_over a.base p.shape a.background in
    record {
      told = λ m at.
          loop_tells ctx w s s0 (target_of target) m c.in_ok-target.ensures.frames (target_nothing target) false result (c.in_ok-target.ensures.begun m (length p.frame) (sym c.count-positions.ensures) at)
          {A = Unit {0}} (λ _ found. items ≡ target.cells.items ++ cells_over a.background 0 found) tt (record { base = a.base; shape = p.shape; cells = items }) r s1 s2
          (λ found is. λ i. record { base = a.base; shape = p.shape; cells = (is ∙ ap (λ b. b ++ cells_over a.background 0 found) c.in_ok-target.ensures.cells) i })
          c.in_ok-fill.ensures.told c.finish.ensures.told;
      scopes = on_ok r (λ q. scopes_join s.frames s0.frames s1.frames s2.frames c.in_ok-target.ensures.frames c.in_ok-fill.ensures.scopes q) c.finish.ensures.frames;
      lender = c.finish.ensures.lender ∙ c.in_ok-fill.ensures.lender ∙ c.in_ok-target.ensures.lender;
    }

pub run_fold-returns-in_err-sum : goal.array_loops::run_fold-returns-in_err-sum
run_fold-returns-in_err-sum g t c =
    let a = c.args in
    let ctx = a.context.now in
    let w = a.work.now in
    let p = w.plan.now in
    let s = a.state.now in
    let target = c.in_ok-target.target in
    let s0 = c.begin_fold.new.state in
    let s1 = c.fold_cells.new.state in
    let stop = c.in_err-sum.field-0.0 in
    let is : c.from_residual-in_err-sum.result ≡ Err stop = search rules in
    let result = fold (combined a.op) a.neutral.now in
    record {
      told = λ m at.
          handed IsValue c.from_residual-in_err-sum.result stop s1 (job_does None (cells_job ctx (current s.frames) m w true result) m) is
          (loop_stops ctx w s s0 (fold_target target) m c.in_ok-target.ensures.frames (fold_nothing target) true result (c.in_ok-target.ensures.begun m (length p.frame) (sym c.count-positions.ensures) at) stop s1 c.in_err-sum.ensures.told);
      scopes = no_scopes (SameScopes s.frames s1.frames) c.from_residual-in_err-sum.result stop is;
      lender = c.in_err-sum.ensures.lender ∙ c.in_ok-target.ensures.lender;
    }

pub run_fold-returns : goal.array_loops::run_fold-returns
run_fold-returns g t c =
    let a = c.args in
    let ctx = a.context.now in
    let w = a.work.now in
    let p = w.plan.now in
    let s = a.state.now in
    let target = c.in_ok-target.target in
    let s0 = c.begin_fold.new.state in
    let s1 = c.fold_cells.new.state in
    let s2 = c.finish_fold.new.state in
    let r = c.finish_fold.result in
    let first = c.in_ok-first.first in
    let result = fold (combined a.op) a.neutral.now in
    record {
      told = λ m at.
          loop_tells ctx w s s0 (fold_target target) m c.in_ok-target.ensures.frames (fold_nothing target) true result (c.in_ok-target.ensures.begun m (length p.frame) (sym c.count-positions.ensures) at)
          (λ b found. array_of b ≡ fold (combined a.op) (array_of first) found) c.in_ok-sum.sum (array_of c.in_ok-sum.sum) r s1 s2
          (λ found is. is ∙ ap (λ n. fold (combined a.op) n found) c.in_ok-first.ensures) c.in_ok-sum.ensures.told c.finish_fold.ensures.told;
      scopes = on_ok r (λ q. scopes_join s.frames s0.frames s1.frames s2.frames c.in_ok-target.ensures.frames c.in_ok-sum.ensures.scopes q) c.finish_fold.ensures.frames;
      lender = c.finish_fold.ensures.lender ∙ c.in_ok-sum.ensures.lender ∙ c.in_ok-target.ensures.lender;
    }
