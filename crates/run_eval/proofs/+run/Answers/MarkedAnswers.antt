-- Answers for loops with a mark.
use Rattle.std.proofs.Common.{rules, ◌≡◌, false, [], Ok, Err, Some, ap, sym, ◌∙◌, subst, arith, refl, ◌<◌, length, get_or, map}
use Rattle.std.specs.Prelude.{option_map, unsigned_abs}
use Rattle.counted_code.specs.declared.tree.CodeParted.{out-CodeParted}
use Rattle.counted_code.specs.Loops.{job_does, loop_does, parted_job}
use Rattle.counted_code.specs.Machine.{Values, one_value, reads}
use Rattle.counted_code.specs.Values.{Ref, is_small}
use Rattle.core_ir.specs.Meaning.{joined}
use Rattle.array_with_loops.specs.Plans.{plan_of}
use Rattle.run_over.specs.Soles.{is_only}
use Rattle.run_values.specs.declared.value.RunValue.TheVariants.{Buffer}
use Rattle.run_values.specs.Numbers.{numbers}
use Rattle.run_values.specs.Scopes.{current}
use Rattle.run_values.specs.Shown.{value_of}
use Rattle.run_loops.specs.Jobs.{cells_job, job_of}
use Rattle.run_loops.specs.Loops.{IsPresent, cells_written, loop_source, source_at, unreleased}
use Rattle.run_loops.specs.Running.{Told, ToldStop, IsValue, IsOnly, SameScopes, cells_in}
use Rattle.run_eval.proofs.CellScopes.{scopes_after, scopes_join}
use Rattle.run_eval.proofs.MarkedJobs.{is_spared, joined_as, marked_parts_tell, not_small, only_one, over_stops, over_tells, rows_of_parts, spared_stops, spared_tells}
use Rattle.counted_code.proofs.Sizes.{parts_size, parts_below}
use Rattle.run_loops.proofs.Steps.{handed, no_scopes}
use Rattle.run_eval.proofs.WrittenRuns.{Written, carried_start, write_end, write_step, write_stop}
use Rattle.run_eval.proofs.WithTerms.{parted_means}
use Rattle.run_eval.proofs.+run.Goals as goal

pub run_parted-run_marked-requires : goal.array_loops::run_parted-run_marked-requires
run_parted-run_marked-requires g t c κs p =
    (omega (arith, c.decreases), p)

pub run_marked-run_marked_loop-requires : goal.marked_loops::run_marked-run_marked_loop-requires
run_marked-run_marked_loop-requires g t c κs p =
    (omega (arith, c.decreases, parts_below c.args.parted.now, ap parts_size c.deref.ensures.value), p)

pub run_marked_loop-run_cell_loop-requires : goal.marked_loops::run_marked_loop-run_cell_loop-requires
run_marked_loop-run_cell_loop-requires g t c κs p =
    (omega (arith, c.decreases), p)

pub run_marked_loop-run_over-requires : goal.marked_loops::run_marked_loop-run_over-requires
run_marked_loop-run_over-requires g t c κs p =
    (omega (arith, c.decreases), p)

pub run_marked_loop-run_in_place-requires : goal.marked_loops::run_marked_loop-run_in_place-requires
run_marked_loop-run_in_place-requires g t c κs p =
    (omega (arith, c.decreases), p)

pub run_over-run_in_place-requires : goal.marked_loops::run_over-run_in_place-requires
run_over-run_in_place-requires g t c κs p =
    (omega (arith, c.decreases), p)

pub run_in_place-fill_in_place-requires : goal.marked_loops::run_in_place-fill_in_place-requires
run_in_place-fill_in_place-requires g t c κs p =
    (omega (arith, c.decreases), p)

pub fill_in_place-loop_cell-requires : goal.marked_loops::fill_in_place-loop_cell-requires
fill_in_place-loop_cell-requires g t c κs p =
    (omega (arith, c.decreases), p)

pub run_marked-returns : goal.marked_loops::run_marked-returns
run_marked-returns g t c =
    let a = c.args in
    let ctx = a.context.now in
    let s = a.state.now in
    let e = current s.frames in
    let p = out-CodeParted a.parted.now in
    let st = c.run_marked_loop.new.state in
    let r = c.run_marked_loop.result in
    let mark = value_of c.get-array.result in
    let reused : option_map e p.reuse ≡ Some mark = ap (option_map e) c.in-Some.is ∙ ap Some (sym c.get-array.ensures) in
    record {
      told = λ m at.
          let meant = parted_means ctx e a.parted.now a.site m ∙ (λ j. one_value (loop_does (λ k. parted_job p.frame p.base p.cell p.op (map (cells_in ctx e) p.parts.items) a.site (reads k e)) (reused j)) m) in
          subst (Told IsOnly r st) (sym meant)
          (marked_parts_tell ctx e m p.frame p.base p.cell p.parts.items a.site mark p.op (plan_of c.in_ok-plan.plan) c.deref.result.now r st
          (λ o x is. c.in_default-op.not-Fold o x is) c.in_ok-plan.ensures c.deref.ensures.value
          (c.run_marked_loop.ensures.told m at (λ ordered. rows_of_parts p.frame p.base p.cell p.op (plan_of c.in_ok-plan.plan) (λ o x is. c.in_default-op.not-Fold o x is) c.in_ok-plan.ensures (c.is_in_order-in_order.ensures ordered))));
      scopes = c.run_marked_loop.ensures.scopes;
      lender = c.run_marked_loop.ensures.lender;
    }

pub run_marked_loop-returns-in_err-value : goal.marked_loops::run_marked_loop-returns-in_err-value
run_marked_loop-returns-in_err-value g t c =
    let a = c.args in
    let w = a.work.now in
    let s = a.state.now in
    let e = current s.frames in
    let mark = value_of a.array in
    let st = c.run_cell_loop.new.state in
    let stop = c.in_err-value.field-0.0 in
    let is : c.from_residual-in_err-value.result ≡ Err stop = search rules in
    record {
      told = λ m at rows.
          let j = job_of a.context.now e m w in
          let over = sym (c.in_ok-over.ensures m at.heap) ∙ c.if-not-over.true in
          handed IsValue c.from_residual-in_err-value.result stop st (job_does (Some mark) j m) is
          (spared_stops j mark m (is_spared m mark (is_small w.plan.now.shape) over) stop st (c.in_err-value.ensures.told m at));
      scopes = no_scopes (SameScopes s.frames st.frames) c.from_residual-in_err-value.result stop is;
      lender = c.in_err-value.ensures.lender;
    }

pub run_marked_loop-returns-then-not-over : goal.marked_loops::run_marked_loop-returns-then-not-over
run_marked_loop-returns-then-not-over g t c =
    let a = c.args in
    let w = a.work.now in
    let s = a.state.now in
    let e = current s.frames in
    let mark = value_of a.array in
    let st = c.run_cell_loop.new.state in
    record {
      told = λ m at rows.
          let j = job_of a.context.now e m w in
          let over = sym (c.in_ok-over.ensures m at.heap) ∙ c.if-not-over.true in
          spared_tells j mark m (is_spared m mark (is_small w.plan.now.shape) over) c.in_ok-value.value st (record st { heap = c.release.new.heap })
          (λ h stands. c.in_ok-release.ensures.released h stands) refl (c.in_ok-value.ensures.told m at);
      scopes = c.in_ok-value.ensures.scopes;
      lender = c.in_ok-release.ensures.lender ∙ c.in_ok-value.ensures.lender;
    }

pub run_marked_loop-returns-then-in_order : goal.marked_loops::run_marked_loop-returns-then-in_order
run_marked_loop-returns-then-in_order g t c =
    let a = c.args in
    let w = a.work.now in
    let e = current a.state.now.frames in
    let mark = value_of a.array in
    record {
      told = λ m at rows.
          let over = sym (c.in_ok-over.ensures m at.heap) ∙ c.if-not-over.false in
          joined_as a.context.now e m w c.run_over.result c.run_over.new.state mark c.in-Joined.is
          (c.run_over.ensures.told m at (record {
            large = not_small (is_small w.plan.now.shape) (is_only m mark) over;
            only = only_one (is_small w.plan.now.shape) (is_only m mark) over;
            in_order = rows c.if-in_order.true;
          }));
      scopes = c.run_over.ensures.scopes;
      lender = c.run_over.ensures.lender;
    }

pub run_marked_loop-returns-else-in_order : goal.marked_loops::run_marked_loop-returns-else-in_order
run_marked_loop-returns-else-in_order g t c =
    let a = c.args in
    let w = a.work.now in
    let e = current a.state.now.frames in
    let mark = value_of a.array in
    record {
      told = λ m at rows.
          let over = sym (c.in_ok-over.ensures m at.heap) ∙ c.if-not-over.false in
          joined_as a.context.now e m w c.run_in_place.result c.run_in_place.new.state mark c.in-Joined.is
          (c.run_in_place.ensures.told m at (not_small (is_small w.plan.now.shape) (is_only m mark) over) (only_one (is_small w.plan.now.shape) (is_only m mark) over));
      scopes = c.run_in_place.ensures.scopes;
      lender = c.run_in_place.ensures.lender;
    }

pub run_over-returns-clause-told : goal.marked_loops::run_over-returns-clause-told
run_over-returns-clause-told g t c = λ m at over. c.run_in_place.ensures.told m at over.large over.only

pub run_in_place-returns-in_err-fill_in_place : goal.marked_loops::run_in_place-returns-in_err-fill_in_place
run_in_place-returns-in_err-fill_in_place g t c =
    let a = c.args in
    let ctx = a.context.now in
    let w = a.work.now in
    let p = w.plan.now in
    let s = a.state.now in
    let s0 = c.begin_in_place.new.state in
    let s1 = c.fill_in_place.new.state in
    let i = c.in-Buffer in
    let stop = c.in_err-fill_in_place.field-0.0 in
    let is : c.from_residual-in_err-fill_in_place.result ≡ Err stop = search rules in
    record {
      told = λ m at small only.
          handed IsValue c.from_residual-in_err-fill_in_place.result stop s1 (job_does (Some (value_of a.array)) (cells_job ctx (current s.frames) m w false (joined p.form.base p.shape)) m) is
          (over_stops ctx w s s0 m c.in_ok-begin_in_place.ensures.frames small (value_of a.array) i.buffer.born i.field-0 (map unsigned_abs (numbers i.extents)) (ap value_of i.is) only
          stop s1 (c.in_ok-begin_in_place.ensures.begun m (length p.frame) (sym c.count.ensures) at) c.in_err-fill_in_place.ensures.told);
      scopes = no_scopes (SameScopes s.frames s1.frames) c.from_residual-in_err-fill_in_place.result stop is;
      lender = c.in_err-fill_in_place.ensures.lender ∙ c.in_ok-begin_in_place.ensures.lender;
    }

pub run_in_place-returns : goal.marked_loops::run_in_place-returns
run_in_place-returns g t c =
    let a = c.args in
    let ctx = a.context.now in
    let w = a.work.now in
    let p = w.plan.now in
    let s = a.state.now in
    let s0 = c.begin_in_place.new.state in
    let s1 = c.fill_in_place.new.state in
    let i = c.in-Buffer in
    record {
      told = λ m at small only.
          over_tells ctx w s s0 m c.in_ok-begin_in_place.ensures.frames small (value_of a.array) i.buffer.born i.field-0 (map unsigned_abs (numbers i.extents)) (ap value_of i.is) only
          c.in_ok-fill_in_place.field-0 (Buffer p.form.base i.buffer i.extents) s1 (c.in_ok-begin_in_place.ensures.begun m (length p.frame) (sym c.count.ensures) at)
          (λ j. Ref i.buffer.born p.form.base (c.has_shape.ensures c.if-not-has_shape.false j)) c.in_ok-fill_in_place.ensures.told;
      scopes = scopes_join s.frames s0.frames s1.frames s1.frames c.in_ok-begin_in_place.ensures.frames c.in_ok-fill_in_place.ensures.scopes refl;
      lender = c.in_ok-fill_in_place.ensures.lender ∙ c.in_ok-begin_in_place.ensures.lender;
    }

pub fill_in_place-loop-place-init : goal.marked_loops::fill_in_place-loop-place-init
fill_in_place-loop-place-init g t c =
    let a = c.args in
    let w = a.work.now in
    let p = w.plan.now in
    let s = a.state.now in
    record { carried = λ m at. carried_start a.buffer.born p.form (loop_source a.context.now (current s.frames) w) p.frame m s at; scopes = (refl, refl); lender = refl }

pub fill_in_place-returns-in_err-value : goal.marked_loops::fill_in_place-returns-in_err-value
fill_in_place-returns-in_err-value g t c =
    let a = c.args in
    let w = a.work.now in
    let p = w.plan.now in
    let source = λ (e : Values). loop_source a.context.now e w in
    let s = a.state.now in
    let here = c.loop-place in
    let k = here.place in
    let inside : k < length p.frame = omega (arith, c.loop-place-test.true, c.count-place-end.ensures) in
    let is : c.components.result.now ≡ get_or p.frame k [] = c.components.ensures.value ∙ c.in_ok-index.ensures [] in
    let st = c.loop_cell.new.state in
    let stop = c.in_err-value.field-0.0 in
    let handed' : c.from_residual-in_err-value.result ≡ Err stop = search rules in
    record {
      told = λ m at.
          handed Written c.from_residual-in_err-value.result stop st (cells_written a.buffer.born a.context.now (current s.frames) w m) handed'
          (write_stop a.buffer.born p.form source p.frame s here.state k here.invariant.carried here.invariant.scopes c.components.result.now stop st inside is
          (λ m at. subst (λ rs. ToldStop stop st (unreleased p.form (source_at a.context.now (current here.state.frames) w.source rs c.components.result.now) m)) c.deref.ensures.value (c.in_err-value.ensures.told m at)) m at);
      scopes = no_scopes (SameScopes s.frames st.frames) c.from_residual-in_err-value.result stop handed';
      lender = c.in_err-value.ensures.lender ∙ here.invariant.lender;
    }

pub fill_in_place-loop-place-preserved : goal.marked_loops::fill_in_place-loop-place-preserved
fill_in_place-loop-place-preserved g t c =
    let a = c.args in
    let w = a.work.now in
    let p = w.plan.now in
    let source = λ (e : Values). loop_source a.context.now e w in
    let s = a.state.now in
    let here = c.loop-place in
    let k = here.place in
    let inside : k < length p.frame = omega (arith, c.loop-place-test.true, c.count-place-end.ensures) in
    let is : c.components.result.now ≡ get_or p.frame k [] = c.components.ensures.value ∙ c.in_ok-index.ensures [] in
    let st = c.loop_cell.new.state in
    let o = c.in_ok-value.value in
    record {
      carried = write_step a.buffer.born p.form source p.frame s here.state k here.invariant.carried here.invariant.scopes c.components.result.now o st (record st { heap = c.put_in_place.new.heap }) inside is
          (λ m at. subst (λ rs. Told IsPresent (Ok o) st (unreleased p.form (source_at a.context.now (current here.state.frames) w.source rs c.components.result.now) m)) c.deref.ensures.value (c.in_ok-value.ensures.told m at))
          (λ h stands. c.in_ok-put_in_place.ensures.put h stands) refl;
      scopes = scopes_after s.frames here.state.frames st.frames here.invariant.scopes c.in_ok-value.ensures.scopes;
      lender = c.in_ok-put_in_place.ensures.lender ∙ c.in_ok-value.ensures.lender ∙ here.invariant.lender;
    }

pub fill_in_place-returns : goal.marked_loops::fill_in_place-returns
fill_in_place-returns g t c =
    let a = c.args in
    let w = a.work.now in
    let p = w.plan.now in
    let source = λ (e : Values). loop_source a.context.now e w in
    let s = a.state.now in
    let here = c.loop-place in
    record {
      told = write_end a.buffer.born p.form source p.frame s here.state here.place here.invariant.carried here.invariant.scopes (omega (arith, c.loop-place-test.false, c.count-place-end.ensures));
      scopes = here.invariant.scopes;
      lender = here.invariant.lender;
    }
