-- Answers for blocks and their steps.
use Rattle.std.proofs.Common.{rules, ◌≡◌, ◌+◌, [], ◌∷◌, ◌++◌, Err, ap, sym, ◌∙◌, subst, arith, map, drop, take, List, refl}
use Rattle.std.proofs.lemmas.List.{drop_all, drop-drop, drop_more, take-append-drop}
use Rattle.counted_code.specs.declared.tree.CodeStep.{CodeStep, size-CodeStep}
use Rattle.counted_code.specs.declared.tree.CodeStep.TheVariants as step
use Rattle.counted_code.specs.Machine.{bind_value, bind_values, first_of, first_value}
use Rattle.counted_code.specs.Values.{Value, Ended, give, go_on}
use Rattle.counted_code.specs.View.{code_term, code_right_term}
use Rattle.run_values.specs.Scopes.{current, outer}
use Rattle.run_values.specs.Shown.{value_of}
use Rattle.run_loops.specs.Running.{does_in, right_in, Told, ToldSteps, IsValue, IsFirst, Appends, SameOuter, EndsScope, Reaches}
use Rattle.run_loops.proofs.Binding.{let_goes, let_stops, one_target, keep_goes, release_goes}
use Rattle.counted_code.proofs.Sizes.{steps_size, steps_below, step_below, let_below, right_below}
use Rattle.run_loops.proofs.Steps.{moved, given, tell, stop_then, last_step, results_given, block_stops, on_ok, handed, no_scopes}
use Rattle.run_eval.proofs.Replacing.{next_steps, rest_length, rest_of}
use Rattle.run_eval.proofs.+run.Goals as goal

pub run_steps-run_step-requires : goal.blocks::run_steps-run_step-requires
run_steps-run_step-requires g t c κs p =
    let item = c.index-steps-next.result in
    (omega (arith, c.decreases, step_below c.args.steps.now c.loop-next.next item c.loop-next-test.true, ap size-CodeStep c.index-steps-next.is), p)

pub run_steps-loop-next-preserved-then-made-gt0 : goal.blocks::run_steps-loop-next-preserved-then-made-gt0
run_steps-loop-next-preserved-then-made-gt0 g t c =
    let ctx = c.args.context.now in
    let steps = c.args.steps.now in
    let s = c.args.state.now in
    let k = c.loop-next.next in
    let st = c.loop-next.state in
    let u = c.update_first.new.state in
    let n = c.in_ok-made.made in
    record {
      told = λ m at.
          let here = c.loop-next.invariant.told m at in
          let made = c.in_ok-made.ensures.made ctx here.heap here.stands (omega (arith, c.if-made-gt0.true)) in
          let first = subst (λ (ahead : List CodeStep). Reaches ctx (take n ahead) st here.heap [] u) (rest_of k steps) made in
          subst (λ (left : List CodeStep). Reaches ctx steps s m left u) (drop-drop n k steps)
          (next_steps ctx steps s m (drop k steps) (take n (drop k steps)) (drop n (drop k steps)) st u here (sym (take-append-drop n (drop k steps))) first);
      within = omega (arith, c.in_ok-made.ensures.some, rest_length k steps, c.loop-next.invariant.within);
      scopes = c.in_ok-made.ensures.scopes ∙ c.loop-next.invariant.scopes;
      lender = c.in_ok-made.ensures.lender ∙ c.loop-next.invariant.lender;
    }

pub run_steps-returns-in_err-run_step : goal.blocks::run_steps-returns-in_err-run_step
run_steps-returns-in_err-run_step g t c =
    let ctx = c.args.context.now in
    let steps = c.args.steps.now in
    let s = c.args.state.now in
    let k = c.loop-next.next in
    let item = c.index-steps-next.result in
    let st = c.loop-next.state in
    let mid = c.update_first.new.state in
    let same : mid ≡ st = c.in_ok-made.ensures.unchanged (omega (arith, c.if-made-gt0.false)) in
    let split : drop k steps ≡ item ∷ drop (k + 1) steps = drop_more steps k item c.loop-next-test.true ∙ ap (λ x. x ∷ drop (k + 1) steps) (sym c.index-steps-next.is) in
    let stop = c.in_err-run_step.field-0.0 in
    let is : c.from_residual-in_err-run_step.result ≡ Err stop = search rules in
    record {
      told = λ m at.
          let before = subst (λ left. Reaches ctx steps s m left st) split (c.loop-next.invariant.told m at) in
          let here = subst (λ x. Reaches ctx steps s m (item ∷ drop (k + 1) steps) x) (sym same) before in
          subst (λ r. ToldSteps ctx steps s c.run_step.new.state m r) (sym is) (last_step ctx steps s m item (drop (k + 1) steps) mid c.run_step.new.state here stop (c.in_err-run_step.ensures.told here.heap here.stands));
      scopes = no_scopes (SameOuter s.frames c.run_step.new.state.frames) c.from_residual-in_err-run_step.result stop is;
      lender = c.in_err-run_step.ensures.lender ∙ c.in_ok-made.ensures.lender ∙ c.loop-next.invariant.lender;
    }

pub run_steps-returns : goal.blocks::run_steps-returns
run_steps-returns g t c =
    let ctx = c.args.context.now in
    let steps = c.args.steps.now in
    let s = c.args.state.now in
    record {
      told = λ m at. subst (λ left. Reaches ctx steps s m left c.loop-next.state) (drop_all c.loop-next.next steps (omega (arith, c.loop-next-test.false))) (c.loop-next.invariant.told m at);
      scopes = c.loop-next.invariant.scopes;
      lender = c.loop-next.invariant.lender;
    }

pub run_step-run_let-requires : goal.blocks::run_step-run_let-requires
run_step-run_let-requires g t c κs p = (omega (arith, c.decreases, let_below c.args.step.now c.in-Bind.binding c.in-Bind.is), p)

pub run_step-returns-in-Bind : goal.blocks::run_step-returns-in-Bind
run_step-returns-in-Bind g t c =
    let ctx = c.args.context.now in
    let s = c.args.state.now in
    record {
      told = λ m at. subst (λ x. ToldSteps ctx (x ∷ []) s c.run_let.new.state m c.run_let.result) (sym c.in-Bind.is) (c.run_let.ensures.told m at);
      scopes = c.run_let.ensures.scopes;
      lender = c.run_let.ensures.lender;
    }

pub run_step-returns-in_ok-keep-in-Keep : goal.blocks::run_step-returns-in_ok-keep-in-Keep
run_step-returns-in_ok-keep-in-Keep g t c =
    let ctx = c.args.context.now in
    let s = c.args.state.now in
    let i = c.in-Keep in
    let new = record s { heap = c.keep.new.heap } in
    record {
      told = λ m at. subst (λ x. Reaches ctx (x ∷ []) s m [] new) (sym i.is) (keep_goes ctx i.x c.get.result s new m c.get.ensures refl refl at (c.in_ok-keep-in-Keep.ensures.kept m at.heap));
      scopes = refl;
      lender = c.in_ok-keep-in-Keep.ensures.lender;
    }

pub run_step-returns-in_ok-release-in-Release : goal.blocks::run_step-returns-in_ok-release-in-Release
run_step-returns-in_ok-release-in-Release g t c =
    let ctx = c.args.context.now in
    let s = c.args.state.now in
    let i = c.in-Release in
    let new = record s { heap = c.release.new.heap } in
    record {
      told = λ m at. subst (λ x. Reaches ctx (x ∷ []) s m [] new) (sym i.is) (release_goes ctx i.x c.get-in-Release.result s new m c.get-in-Release.ensures refl refl at (c.in_ok-release-in-Release.ensures.released m at.heap));
      scopes = refl;
      lender = c.in_ok-release-in-Release.ensures.lender;
    }

pub run_let-run_right-requires : goal.blocks::run_let-run_right-requires
run_let-run_right-requires g t c κs p = (omega (arith, c.decreases, right_below c.args.binding.now), p)

pub run_let-run_rights-requires : goal.blocks::run_let-run_rights-requires
run_let-run_rights-requires g t c κs p = (omega (arith, c.decreases, right_below c.args.binding.now), p)

pub run_let-returns-in_err-value : goal.blocks::run_let-returns-in_err-value
run_let-returns-in_err-value g t c =
    let ctx = c.args.context.now in
    let s = c.args.state.now in
    let b = c.args.binding.now in
    let st = c.run_right.new.state in
    let stop = c.in_err-value.field-0.0 in
    let is : c.from_residual-in_err-value.result ≡ Err stop = search rules in
    record {
      told = λ m at. subst (λ r. ToldSteps ctx (step.Bind b ∷ []) s st m r) (sym is) (let_stops ctx b s m stop st (c.in_err-value.ensures.told m at));
      scopes = no_scopes (SameOuter s.frames st.frames) c.from_residual-in_err-value.result stop is;
      lender = c.in_err-value.ensures.lender;
    }

pub run_let-returns-then-len-eq1 : goal.blocks::run_let-returns-then-len-eq1
run_let-returns-then-len-eq1 g t c =
    let ctx = c.args.context.now in
    let s = c.args.state.now in
    let b = c.args.binding.now in
    let mid = c.run_right.new.state in
    let v = value_of c.in_ok-value.value in
    let x = c.index-then-len-eq1.result.now in
    let new = record mid { frames = c.bind-then-len-eq1.new.self } in
    let scopes' = c.in_ok-value.ensures.scopes in
    record {
      told = λ m at.
          let g = given IsFirst c.in_ok-value.value mid (right_in ctx (code_right_term b.right) b.site (current s.frames) m) (c.in_ok-value.ensures.told m at) in
          let_goes ctx b s m new g.value g.heap g.is
          (c.in_ok-bind-2.ensures.current ∙ ap (λ e. bind_value e x v) scopes'.0 ∙ one_target (current s.frames) b.targets.items x g.value v (omega (arith, c.if-len-eq1.true, c.len.ensures)) c.index-then-len-eq1.ensures g.agrees)
          (moved mid new g.heap refl refl g.stands);
      scopes = c.in_ok-bind-2.ensures.outer ∙ scopes'.1;
      lender = c.in_ok-value.ensures.lender;
    }

pub run_let-returns-in_err-run_rights : goal.blocks::run_let-returns-in_err-run_rights
run_let-returns-in_err-run_rights g t c =
    let ctx = c.args.context.now in
    let s = c.args.state.now in
    let b = c.args.binding.now in
    let st = c.run_rights.new.state in
    let stop = c.in_err-run_rights.field-0.0 in
    let is : c.from_residual-in_err-run_rights.result ≡ Err stop = search rules in
    record {
      told = λ m at. subst (λ r. ToldSteps ctx (step.Bind b ∷ []) s st m r) (sym is) (let_stops ctx b s m stop st (c.in_err-run_rights.ensures.told m at));
      scopes = no_scopes (SameOuter s.frames st.frames) c.from_residual-in_err-run_rights.result stop is;
      lender = c.in_err-run_rights.ensures.lender;
    }

pub run_let-returns : goal.blocks::run_let-returns
run_let-returns g t c =
    let ctx = c.args.context.now in
    let s = c.args.state.now in
    let b = c.args.binding.now in
    let mid = c.run_rights.new.state in
    let vs = c.run_rights.new.values in
    let bound = c.in_ok-bind_all.ensures.bound in
    let scopes' = c.in_ok-run_rights.ensures.scopes in
    record {
      told = λ m at.
          let g = given (λ (_ : Unit {0}) ws. Appends c.new-values.result.items vs.items ws) tt mid (right_in ctx (code_right_term b.right) b.site (current s.frames) m) (c.in_ok-run_rights.ensures.told m at) in
          let own : map value_of vs.items ≡ g.value = g.agrees ∙ ap (λ xs. map value_of xs ++ g.value) c.new-values.ensures.items in
          let_goes ctx b s m c.bind_all.new.state g.value g.heap g.is
          (bound.inside ∙ (λ i. bind_values (scopes'.0 i) (c.deref.ensures.value i) ((ap (map value_of) c.deref-2.ensures.value ∙ own) i)))
          (moved mid c.bind_all.new.state g.heap bound.heap bound.phases g.stands);
      scopes = bound.outside ∙ scopes'.1;
      lender = c.in_ok-bind_all.ensures.lender ∙ c.in_ok-run_rights.ensures.lender;
    }

pub run_open-run_steps-requires : goal.blocks::run_open-run_steps-requires
run_open-run_steps-requires g t c κs p = (omega (arith, c.decreases, steps_below c.args.block.now, ap steps_size c.deref.ensures.value), p)

pub run_open-returns-in_err-run_steps : goal.blocks::run_open-returns-in_err-run_steps
run_open-returns-in_err-run_steps g t c =
    let ctx = c.args.context.now in
    let s = c.args.state.now in
    let b = c.args.block.now in
    let st = c.run_steps.new.state in
    let stop = c.in_err-run_steps.field-0.0 in
    let is : c.from_residual.result ≡ Err stop = search rules in
    record {
      told = λ m at.
          handed (λ (_ : Unit {0}) ws. Appends c.args.values.now.items c.args.values.now.items ws) c.from_residual.result stop st (does_in ctx (code_term b) (current s.frames) m) is
          (block_stops ctx b.steps.items s m stop b.results.items st (subst (λ ss. ToldSteps ctx ss s st m (Err stop)) c.deref.ensures.value (c.in_err-run_steps.ensures.told m at)));
      scopes = no_scopes (EndsScope s.frames st.frames) c.from_residual.result stop is;
      lender = c.in_err-run_steps.ensures.lender;
    }

pub run_open-returns : goal.blocks::run_open-returns
run_open-returns g t c =
    let ctx = c.args.context.now in
    let s = c.args.state.now in
    let b = c.args.block.now in
    let mid = c.run_steps.new.state in
    let new = record mid { frames = c.leave.new.self } in
    let old = c.args.values.now.items in
    let vs = c.push_values.new.values.items in
    record {
      told = λ m at.
          let here = subst (λ ss. Reaches ctx ss s m [] mid) c.deref.ensures.value (c.in_ok-run_steps.ensures.told m at) in
          tell (λ (_ : Unit {0}) ws. Appends old vs ws) tt new (does_in ctx (code_term b) (current s.frames) m) (map (current mid.frames) b.results.items) here.heap
          (results_given ctx b.steps.items s m b.results.items mid here)
          (c.in_ok-push_values.ensures ∙ ap (λ xs. map value_of old ++ map (current mid.frames) xs) c.deref-2.ensures.value)
          (moved mid new here.heap refl refl here.stands);
      scopes = λ e es h. c.leave.ensures e es (c.in_ok-run_steps.ensures.scopes ∙ h);
      lender = c.in_ok-run_steps.ensures.lender;
    }

pub run_block-run_open-requires : goal.blocks::run_block-run_open-requires
run_block-run_open-requires g t c κs p = (omega (arith, c.decreases), p)

pub run_block-returns : goal.blocks::run_block-returns
run_block-returns g t c =
    let ctx = c.args.context.now in
    let s = c.args.state.now in
    let b = c.args.block.now in
    let mid = record s { frames = c.enter.new.self } in
    let old = c.args.values.now.items in
    let vs = c.run_open.new.values.items in
    record {
      told = λ m at. subst (λ e. Told (λ (_ : Unit {0}) ws. Appends old vs ws) c.run_open.result c.run_open.new.state (does_in ctx (code_term b) e m)) c.in_ok-enter.ensures.current (c.run_open.ensures.told m (moved s mid m refl refl at));
      scopes = on_ok c.run_open.result (λ (ends : EndsScope mid.frames c.run_open.new.state.frames). ends (current s.frames) (outer s.frames) c.in_ok-enter.ensures.outer) c.run_open.ensures.scopes;
      lender = c.run_open.ensures.lender;
    }

pub run_first-run_steps-requires : goal.blocks::run_first-run_steps-requires
run_first-run_steps-requires g t c κs p = (omega (arith, c.decreases, steps_below c.args.block.now, ap steps_size c.deref.ensures.value), p)

pub run_first-returns-in_err-run_steps : goal.blocks::run_first-returns-in_err-run_steps
run_first-returns-in_err-run_steps g t c =
    let ctx = c.args.context.now in
    let s = c.args.state.now in
    let b = c.args.block.now in
    let st = c.run_steps.new.state in
    let stop = c.in_err-run_steps.field-0.0 in
    let is : c.from_residual.result ≡ Err stop = search rules in
    record {
      told = λ m at.
          handed IsValue c.from_residual.result stop st (first_value (does_in ctx (code_term b) (current s.frames)) m) is
          (stop_then stop st (does_in ctx (code_term b) (current s.frames) m) (λ vs. give (first_of vs)) (block_stops ctx b.steps.items s m stop b.results.items st (subst (λ ss. ToldSteps ctx ss s st m (Err stop)) c.deref.ensures.value (c.in_err-run_steps.ensures.told m at))));
      scopes = no_scopes (EndsScope s.frames st.frames) c.from_residual.result stop is;
      lender = c.in_err-run_steps.ensures.lender;
    }

pub run_first-returns : goal.blocks::run_first-returns
run_first-returns g t c =
    let ctx = c.args.context.now in
    let s = c.args.state.now in
    let b = c.args.block.now in
    let mid = c.run_steps.new.state in
    let new = record mid { frames = c.leave.new.self } in
    record {
      told = λ m at.
          let here = subst (λ ss. Reaches ctx ss s m [] mid) c.deref.ensures.value (c.in_ok-run_steps.ensures.told m at) in
          tell IsValue c.first_of-value.result new (first_value (does_in ctx (code_term b) (current s.frames)) m) (first_of (map (current mid.frames) b.results.items)) here.heap
          (ap (λ (end : Ended (List Value)). go_on end (λ vs. give (first_of vs))) (results_given ctx b.steps.items s m b.results.items mid here))
          (c.first_of-value.ensures ∙ ap (λ xs. first_of (map (current mid.frames) xs)) c.deref-2.ensures.value)
          (moved mid new here.heap refl refl here.stands);
      scopes = λ e es h. c.leave.ensures e es (c.in_ok-run_steps.ensures.scopes ∙ h);
      lender = c.in_ok-run_steps.ensures.lender;
    }

pub run_inner-run_first-requires : goal.blocks::run_inner-run_first-requires
run_inner-run_first-requires g t c κs p = (omega (arith, c.decreases), p)

pub run_inner-returns : goal.blocks::run_inner-returns
run_inner-returns g t c =
    let ctx = c.args.context.now in
    let s = c.args.state.now in
    let b = c.args.block.now in
    let mid = record s { frames = c.enter.new.self } in
    record {
      told = λ m at. subst (λ e. Told IsValue c.run_first.result c.run_first.new.state (first_value (does_in ctx (code_term b) e) m)) c.in_ok-enter.ensures.current (c.run_first.ensures.told m (moved s mid m refl refl at));
      scopes = on_ok c.run_first.result (λ (ends : EndsScope mid.frames c.run_first.new.state.frames). ends (current s.frames) (outer s.frames) c.in_ok-enter.ensures.outer) c.run_first.ensures.scopes;
      lender = c.run_first.ensures.lender;
    }

-- ---- right sides
