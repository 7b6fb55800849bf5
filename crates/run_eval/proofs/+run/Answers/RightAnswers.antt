-- Answers for right sides and calls.
use Rattle.std.proofs.Common.{rules, ◌≡◌, true, false, [], ◌∷◌, ◌++◌, Ok, Err, Some, ap, sym, ◌∙◌, subst, arith, map, List, refl}
use Rattle.sac_base.specs.Parts.{condition}
use Rattle.sac_base.specs.Types.{all_have}
use Rattle.counted_code.specs.declared.tree.CodeFun.{CodeFun}
use Rattle.counted_code.specs.Machine.{bind_values, first_of, turns_do, no_values}
use Rattle.counted_code.specs.Outcome.{function_does, results_do}
use Rattle.counted_code.specs.Values.{Value, Ended, go_on, read}
use Rattle.counted_code.specs.View.{code_term, code_right_term, code_fun_term}
use Rattle.run_values.specs.Scopes.{current, outer}
use Rattle.run_values.specs.Shown.{value_of}
use Rattle.run_loops.specs.declared.state.State.{State}
use Rattle.run_loops.specs.Running.{calls_in, does_in, right_in, turn_in, test_in, Told, ToldStop, IsFirst, IsOnly, Appends, SameScopes, SaysTruth, vars_of}
use Rattle.run_eval.proofs.CallSteps.{none_chosen, call_runs, call_stops, chosen_same, function_at, place_same, within_same, results_fit, results_unfit, alone, no_place}
use Rattle.run_loops.proofs.Measures.{falls, body_below, body_size}
use Rattle.run_plain.proofs.Rest.{plain_rest}
use Rattle.run_plain.proofs.Rights.{right_told}
use Rattle.counted_code.proofs.Sizes.{if_first, if_second, loop_blocks, with_below, parted_below}
use Rattle.run_loops.proofs.Steps.{moved, given, tell, stop_then, raised, first_told, only_first, appended, handed, no_scopes, plain_scopes, plain_given, plain_failed}
use Rattle.counted_code.proofs.Trees.{if_term, loop_term}
use Rattle.run_eval.proofs.Turns.{condition_goes, condition_stops}
use Rattle.run_eval.proofs.+run.Goals as goal

pub run_right-run_inner-requires : goal.blocks::run_right-run_inner-requires
run_right-run_inner-requires g t c κs p = let i = c.in-If in (omega (arith, c.decreases, if_first c.args.right.now i.cond i.yes i.no i.is), p)

pub run_right-run_inner-requires-else-branch : goal.blocks::run_right-run_inner-requires-else-branch
run_right-run_inner-requires-else-branch g t c κs p = let i = c.in-If in (omega (arith, c.decreases, if_second c.args.right.now i.cond i.yes i.no i.is), p)

pub run_right-run_rights-requires : goal.blocks::run_right-run_rights-requires
run_right-run_rights-requires g t c κs p = (omega (arith, c.decreases), p)

pub run_right-run_one-requires : goal.blocks::run_right-run_one-requires
run_right-run_one-requires g t c κs p = (omega (arith, c.decreases), p)

pub run_right-returns-in_err-condition-in-If : goal.blocks::run_right-returns-in_err-condition-in-If
run_right-returns-in_err-condition-in-If g t c =
    let i = c.in-If in
    let ctx = c.args.context.now in
    let s = c.args.state.now in
    let e = current s.frames in
    let site = c.args.site in
    let stop = c.in_err-condition-in-If.field-0.0 in
    let is : c.from_residual.result ≡ Err stop = search rules in
    record {
      told = λ m at.
          let whole' = ap (λ r. right_in ctx (code_right_term r) site e m) i.is ∙ ap (λ r. right_in ctx r site e m) (if_term i.cond i.yes i.no) in
          handed IsFirst c.from_residual.result stop s (right_in ctx (code_right_term c.args.right.now) site e m) is
          (subst (λ (end : Ended (List Value)). ToldStop stop s end) (sym whole')
          (condition_stops (List Value) site (does_in ctx (code_term i.yes) e) (does_in ctx (code_term i.no) e) stop s (e i.cond) m (subst (λ v. SaysTruth (Err stop) site (condition (read m v))) c.get.ensures (c.in_err-condition-in-If.ensures m)) at));
      scopes = no_scopes (SameScopes s.frames s.frames) c.from_residual.result stop is;
      lender = refl;
    }

pub run_right-returns-then-branch : goal.blocks::run_right-returns-then-branch
run_right-returns-then-branch g t c =
    let i = c.in-If in
    let ctx = c.args.context.now in
    let s = c.args.state.now in
    let e = current s.frames in
    let site = c.args.site in
    record {
      told = λ m at.
          let whole' = ap (λ r. right_in ctx (code_right_term r) site e m) i.is ∙ ap (λ r. right_in ctx r site e m) (if_term i.cond i.yes i.no) in
          let says = condition_goes (List Value) site (does_in ctx (code_term i.yes) e) (does_in ctx (code_term i.no) e) (e i.cond) m true (subst (λ b. SaysTruth (Ok b) site (condition (read m (e i.cond)))) c.if-branch.true (subst (λ v. SaysTruth (Ok c.in_ok-condition-in-If.field-0) site (condition (read m v))) c.get.ensures (c.in_ok-condition-in-If.ensures m))) in
          subst (λ (end : Ended (List Value)). Told IsFirst c.run_inner.result c.run_inner.new.state end) (sym (whole' ∙ says))
          (first_told c.run_inner.result c.run_inner.new.state (does_in ctx (code_term i.yes) e m) (c.run_inner.ensures.told m at));
      scopes = c.run_inner.ensures.scopes;
      lender = c.run_inner.ensures.lender;
    }

pub run_right-returns-else-branch : goal.blocks::run_right-returns-else-branch
run_right-returns-else-branch g t c =
    let i = c.in-If in
    let ctx = c.args.context.now in
    let s = c.args.state.now in
    let e = current s.frames in
    let site = c.args.site in
    record {
      told = λ m at.
          let whole' = ap (λ r. right_in ctx (code_right_term r) site e m) i.is ∙ ap (λ r. right_in ctx r site e m) (if_term i.cond i.yes i.no) in
          let says = condition_goes (List Value) site (does_in ctx (code_term i.yes) e) (does_in ctx (code_term i.no) e) (e i.cond) m false (subst (λ b. SaysTruth (Ok b) site (condition (read m (e i.cond)))) c.if-branch.false (subst (λ v. SaysTruth (Ok c.in_ok-condition-in-If.field-0) site (condition (read m v))) c.get.ensures (c.in_ok-condition-in-If.ensures m))) in
          subst (λ (end : Ended (List Value)). Told IsFirst c.run_inner-else-branch.result c.run_inner-else-branch.new.state end) (sym (whole' ∙ says))
          (first_told c.run_inner-else-branch.result c.run_inner-else-branch.new.state (does_in ctx (code_term i.no) e m) (c.run_inner-else-branch.ensures.told m at));
      scopes = c.run_inner-else-branch.ensures.scopes;
      lender = c.run_inner-else-branch.ensures.lender;
    }

pub run_rights-run_block-requires : goal.blocks::run_rights-run_block-requires
run_rights-run_block-requires g t c κs p = let i = c.in-If in (omega (arith, c.decreases, if_first c.args.right.now i.cond i.yes i.no i.is), p)

pub run_rights-run_block-requires-else-branch : goal.blocks::run_rights-run_block-requires-else-branch
run_rights-run_block-requires-else-branch g t c κs p = let i = c.in-If in (omega (arith, c.decreases, if_second c.args.right.now i.cond i.yes i.no i.is), p)

pub run_rights-run_loop-requires : goal.blocks::run_rights-run_loop-requires
run_rights-run_loop-requires g t c κs p =
    let i = c.in-Loop in
    (omega (arith, c.decreases, loop_blocks c.args.right.now i.first_body i.start i.params i.test i.body i.test_site i.is), p)

pub run_rights-run_call-requires : goal.blocks::run_rights-run_call-requires
run_rights-run_call-requires g t c κs p = (omega (arith, c.decreases), p)

pub run_rights-run_one-requires : goal.blocks::run_rights-run_one-requires
run_rights-run_one-requires g t c κs p = (omega (arith, c.decreases), p)

pub run_one-run_with-requires : goal.blocks::run_one-run_with-requires
run_one-run_with-requires g t c κs p = (omega (arith, c.decreases, with_below c.args.right.now c.in-With.with c.in-With.is), p)

pub run_one-run_parted-requires : goal.blocks::run_one-run_parted-requires
run_one-run_parted-requires g t c κs p = (omega (arith, c.decreases, parted_below c.args.right.now c.in-Parted.parted c.in-Parted.is), p)

-- ---- turns

pub run_right-returns-in_err-run_rights-in-Loop : goal.blocks::run_right-returns-in_err-run_rights-in-Loop
run_right-returns-in_err-run_rights-in-Loop g t c =
    let ctx = c.args.context.now in
    let s = c.args.state.now in
    let st = c.run_rights.new.state in
    let stop = c.in_err-run_rights-in-Loop.field-0.0 in
    let is : c.from_residual-in_err-run_rights-in-Loop.result ≡ Err stop = search rules in
    record {
      told = λ m at. handed IsFirst c.from_residual-in_err-run_rights-in-Loop.result stop st (right_in ctx (code_right_term c.args.right.now) c.args.site (current s.frames) m) is (c.in_err-run_rights-in-Loop.ensures.told m at);
      scopes = no_scopes (SameScopes s.frames st.frames) c.from_residual-in_err-run_rights-in-Loop.result stop is;
      lender = c.in_err-run_rights-in-Loop.ensures.lender;
    }

pub run_right-returns-in_ok-run_rights-in-Loop : goal.blocks::run_right-returns-in_ok-run_rights-in-Loop
run_right-returns-in_ok-run_rights-in-Loop g t c =
    let ctx = c.args.context.now in
    let s = c.args.state.now in
    let st = c.run_rights.new.state in
    let vs = c.run_rights.new.values in
    record {
      told = λ m at.
          let end = right_in ctx (code_right_term c.args.right.now) c.args.site (current s.frames) m in
          let g = given (λ (_ : Unit {0}) ws. Appends c.new-values.result.items vs.items ws) tt st end (c.in_ok-run_rights-in-Loop.ensures.told m at) in
          let own : map value_of vs.items ≡ g.value = g.agrees ∙ ap (λ xs. map value_of xs ++ g.value) c.new-values.ensures.items in
          tell IsFirst c.value_at.result st end g.value g.heap g.is (c.value_at.ensures ∙ ap (λ xs. first_of (map value_of xs)) c.deref.ensures.value ∙ ap first_of own) g.stands;
      scopes = c.in_ok-run_rights-in-Loop.ensures.scopes;
      lender = c.in_ok-run_rights-in-Loop.ensures.lender;
    }

pub run_right-returns-in_default : goal.blocks::run_right-returns-in_default
run_right-returns-in_default g t c =
    let ctx = c.args.context.now in
    let s = c.args.state.now in
    record {
      told = λ m at. only_first c.run_one.result c.run_one.new.state (right_in ctx (code_right_term c.args.right.now) c.args.site (current s.frames) m) (c.run_one.ensures.told m at);
      scopes = c.run_one.ensures.scopes;
      lender = c.run_one.ensures.lender;
    }

pub run_chosen-run_function-requires : goal.blocks::run_chosen-run_function-requires
run_chosen-run_function-requires g t c κs p =
    let ctx = c.args.context.now in
    let fs = ctx.code.now.functions.items in
    let f = c.index-function.result.now in
    let place = c.in-Some.place in
    let inside = within_same c.get-code.result.now ctx.code.now place c.get-code.ensures.same c.in-Some.ensures.within in
    let is = place_same c.get-code.result.now ctx.code.now place f c.get-code.ensures.same c.index-function.ensures in
    (omega (arith, c.decreases, falls c.in_ok-inner.inner ctx f.inline c.args.site c.in_ok-inner.ensures, body_below fs place f inside, ap body_size is), p)

pub run_chosen-returns-in_default : goal.blocks::run_chosen-returns-in_default
run_chosen-returns-in_default g t c =
    let ctx = c.args.context.now in
    let s = c.args.state.now in
    let vs = map value_of c.args.args.now in
    record {
      told = λ m at.
          raised c.fault.result _ s m (calls_in ctx c.args.group vs c.args.site m) c.fault.ensures
          (none_chosen ctx c.args.group vs c.args.site m (sym (no_place c.choose.result c.in_default.not-Some) ∙ c.choose.ensures.told m ∙ chosen_same c.get-code.result.now ctx.code.now c.args.group vs m c.get-code.ensures.same)) at;
      scopes = tt;
      lender = refl;
    }

pub run_one-returns-in_default : goal.blocks::run_one-returns-in_default
run_one-returns-in_default g t c =
    let ctx = c.args.context.now in
    let s = c.args.state.now in
    let r = c.args.right.now in
    let d = c.in_default in
    let h = c.right_value.new.heap in
    let new : State = record { frames = s.frames; heap = h; phases = s.phases } in
    record {
      told = λ m at.
          right_told (λ r end. Told IsOnly r new end) h m
          (λ v k stands same. plain_given v s new m k refl at stands same)
          (λ f. plain_failed f s new m refl at) (λ end. tt)
          (calls_in ctx) ctx.turns (code_right_term r) c.args.site (current s.frames) c.right_value.result
          (plain_rest r d.not-If d.not-Loop d.not-Call d.not-With d.not-Parted) (c.right_value.ensures.told m at.heap);
      scopes = plain_scopes c.right_value.result s.frames;
      lender = c.right_value.ensures.lender;
    }

pub run_rights-returns-in_err-condition-in-If : goal.blocks::run_rights-returns-in_err-condition-in-If
run_rights-returns-in_err-condition-in-If g t c =
    let i = c.in-If in
    let ctx = c.args.context.now in
    let s = c.args.state.now in
    let e = current s.frames in
    let site = c.args.site in
    let stop = c.in_err-condition-in-If.field-0.0 in
    let is : c.from_residual.result ≡ Err stop = search rules in
    record {
      told = λ m at.
          let whole' = ap (λ r. right_in ctx (code_right_term r) site e m) i.is ∙ ap (λ r. right_in ctx r site e m) (if_term i.cond i.yes i.no) in
          handed (λ (_ : Unit {0}) ws. Appends c.args.values.now.items c.args.values.now.items ws) c.from_residual.result stop s (right_in ctx (code_right_term c.args.right.now) site e m) is
          (subst (λ (end : Ended (List Value)). ToldStop stop s end) (sym whole')
          (condition_stops (List Value) site (does_in ctx (code_term i.yes) e) (does_in ctx (code_term i.no) e) stop s (e i.cond) m (subst (λ v. SaysTruth (Err stop) site (condition (read m v))) c.get.ensures (c.in_err-condition-in-If.ensures m)) at));
      scopes = no_scopes (SameScopes s.frames s.frames) c.from_residual.result stop is;
      lender = refl;
    }

pub run_rights-returns-then-branch : goal.blocks::run_rights-returns-then-branch
run_rights-returns-then-branch g t c =
    let i = c.in-If in
    let ctx = c.args.context.now in
    let s = c.args.state.now in
    let e = current s.frames in
    let site = c.args.site in
    record {
      told = λ m at.
          let whole' = ap (λ r. right_in ctx (code_right_term r) site e m) i.is ∙ ap (λ r. right_in ctx r site e m) (if_term i.cond i.yes i.no) in
          let says = condition_goes (List Value) site (does_in ctx (code_term i.yes) e) (does_in ctx (code_term i.no) e) (e i.cond) m true (subst (λ b. SaysTruth (Ok b) site (condition (read m (e i.cond)))) c.if-branch.true (subst (λ v. SaysTruth (Ok c.in_ok-condition-in-If.field-0) site (condition (read m v))) c.get.ensures (c.in_ok-condition-in-If.ensures m))) in
          subst (λ (end : Ended (List Value)). Told (λ (_ : Unit {0}) ws. Appends c.args.values.now.items c.run_block.new.values.items ws) c.run_block.result c.run_block.new.state end) (sym (whole' ∙ says)) (c.run_block.ensures.told m at);
      scopes = c.run_block.ensures.scopes;
      lender = c.run_block.ensures.lender;
    }

pub run_rights-returns-else-branch : goal.blocks::run_rights-returns-else-branch
run_rights-returns-else-branch g t c =
    let i = c.in-If in
    let ctx = c.args.context.now in
    let s = c.args.state.now in
    let e = current s.frames in
    let site = c.args.site in
    record {
      told = λ m at.
          let whole' = ap (λ r. right_in ctx (code_right_term r) site e m) i.is ∙ ap (λ r. right_in ctx r site e m) (if_term i.cond i.yes i.no) in
          let says = condition_goes (List Value) site (does_in ctx (code_term i.yes) e) (does_in ctx (code_term i.no) e) (e i.cond) m false (subst (λ b. SaysTruth (Ok b) site (condition (read m (e i.cond)))) c.if-branch.false (subst (λ v. SaysTruth (Ok c.in_ok-condition-in-If.field-0) site (condition (read m v))) c.get.ensures (c.in_ok-condition-in-If.ensures m))) in
          subst (λ (end : Ended (List Value)). Told (λ (_ : Unit {0}) ws. Appends c.args.values.now.items c.run_block-else-branch.new.values.items ws) c.run_block-else-branch.result c.run_block-else-branch.new.state end) (sym (whole' ∙ says)) (c.run_block-else-branch.ensures.told m at);
      scopes = c.run_block-else-branch.ensures.scopes;
      lender = c.run_block-else-branch.ensures.lender;
    }

pub run_rights-returns-in_err-run_loop-in-Loop : goal.blocks::run_rights-returns-in_err-run_loop-in-Loop
run_rights-returns-in_err-run_loop-in-Loop g t c =
    let i = c.in-Loop in
    let ctx = c.args.context.now in
    let s = c.args.state.now in
    let e = current s.frames in
    let site = c.args.site in
    let st = c.run_loop.new.state in
    let stop = c.in_err-run_loop-in-Loop.field-0.0 in
    let is : c.from_residual-in_err-run_loop-in-Loop.result ≡ Err stop = search rules in
    let started = c.in_ok-push_values-in-Loop.ensures ∙ (λ j. map value_of (c.new-own.ensures.items j) ++ map e (c.deref-in-Loop-2.ensures.value j)) in
    record {
      told = λ m at.
          let whole' = ap (λ r. right_in ctx (code_right_term r) site e m) i.is ∙ ap (λ r. right_in ctx r site e m) (loop_term i.first_body i.start i.params i.test i.body i.test_site) in
          handed (λ (_ : Unit {0}) ws. Appends c.args.values.now.items c.args.values.now.items ws) c.from_residual-in_err-run_loop-in-Loop.result stop st (right_in ctx (code_right_term c.args.right.now) site e m) is
          (subst (λ (end : Ended (List Value)). ToldStop stop st end)
          ((λ j. turns_do i.first_body ctx.turns site i.test_site (test_in ctx (c.deref-in-Loop.ensures.value j) (code_term i.test) e) (turn_in ctx (c.deref-in-Loop.ensures.value j) (code_term i.body) e) (started j) m) ∙ sym whole')
          (c.in_err-run_loop-in-Loop.ensures.told m at));
      scopes = no_scopes (SameScopes s.frames st.frames) c.from_residual-in_err-run_loop-in-Loop.result stop is;
      lender = c.in_err-run_loop-in-Loop.ensures.lender;
    }

pub run_rights-returns-in_ok-extend_from_slice-in-Loop-2 : goal.blocks::run_rights-returns-in_ok-extend_from_slice-in-Loop-2
run_rights-returns-in_ok-extend_from_slice-in-Loop-2 g t c =
    let i = c.in-Loop in
    let ctx = c.args.context.now in
    let s = c.args.state.now in
    let e = current s.frames in
    let site = c.args.site in
    let st = c.run_loop.new.state in
    let own = c.run_loop.new.values.items in
    let new = c.extend_from_slice-in-Loop.new.self.items in
    let started = c.in_ok-push_values-in-Loop.ensures ∙ (λ j. map value_of (c.new-own.ensures.items j) ++ map e (c.deref-in-Loop-2.ensures.value j)) in
    record {
      told = λ m at.
          let whole' = ap (λ r. right_in ctx (code_right_term r) site e m) i.is ∙ ap (λ r. right_in ctx r site e m) (loop_term i.first_body i.start i.params i.test i.body i.test_site) in
          let end = right_in ctx (code_right_term c.args.right.now) site e m in
          let g = given (λ (_ : Unit {0}) ws. map value_of own ≡ ws) tt st end (subst (λ (end : Ended (List Value)). Told (λ (_ : Unit {0}) ws. map value_of own ≡ ws) (Ok tt) st end)
          ((λ j. turns_do i.first_body ctx.turns site i.test_site (test_in ctx (c.deref-in-Loop.ensures.value j) (code_term i.test) e) (turn_in ctx (c.deref-in-Loop.ensures.value j) (code_term i.body) e) (started j) m) ∙ sym whole')
          (c.in_ok-run_loop-in-Loop.ensures.told m at)) in
          tell (λ (_ : Unit {0}) ws. Appends c.args.values.now.items new ws) tt st end g.value g.heap g.is
          (appended c.args.values.now.items own new g.value (c.in_ok-extend_from_slice-in-Loop-2.ensures.items ∙ ap (λ xs. c.args.values.now.items ++ xs) c.deref-in-Loop-3.ensures.value) g.agrees) g.stands;
      scopes = c.in_ok-run_loop-in-Loop.ensures.scopes;
      lender = c.in_ok-run_loop-in-Loop.ensures.lender;
    }

pub run_rights-returns-in_ok-push_values-in-Call : goal.blocks::run_rights-returns-in_ok-push_values-in-Call
run_rights-returns-in_ok-push_values-in-Call g t c =
    let i = c.in-Call in
    let ctx = c.args.context.now in
    let s = c.args.state.now in
    let e = current s.frames in
    let site = c.args.site in
    let passed = ap (map value_of) c.deref-in-Call-2.ensures.value ∙ c.in_ok-push_values-in-Call.ensures ∙ (λ j. map value_of (c.new-passed.ensures.items j) ++ map e (c.deref-in-Call.ensures.value j)) in
    record {
      told = λ m at.
          subst (λ (end : Ended (List Value)). Told (λ (_ : Unit {0}) ws. Appends c.args.values.now.items c.run_call.new.values.items ws) c.run_call.result c.run_call.new.state end)
          (ap (λ us. calls_in ctx i.group us site m) passed ∙ sym (ap (λ r. right_in ctx (code_right_term r) site e m) i.is)) (c.run_call.ensures.told m at);
      scopes = c.run_call.ensures.scopes;
      lender = c.run_call.ensures.lender;
    }

pub run_rights-returns-in_err-value-in_default : goal.blocks::run_rights-returns-in_err-value-in_default
run_rights-returns-in_err-value-in_default g t c =
    let ctx = c.args.context.now in
    let s = c.args.state.now in
    let st = c.run_one.new.state in
    let stop = (c.in_err-value-in_default).field-0.0 in
    let is : (c.from_residual-in_err-value-in_default).result ≡ Err stop = search rules in
    record {
      told = λ m at. handed (λ (_ : Unit {0}) ws. Appends c.args.values.now.items c.args.values.now.items ws) (c.from_residual-in_err-value-in_default).result stop st (right_in ctx (code_right_term c.args.right.now) c.args.site (current s.frames) m) is ((c.in_err-value-in_default).ensures.told m at);
      scopes = no_scopes (SameScopes s.frames st.frames) (c.from_residual-in_err-value-in_default).result stop is;
      lender = (c.in_err-value-in_default).ensures.lender;
    }

pub run_rights-returns-in_ok-push-in_default : goal.blocks::run_rights-returns-in_ok-push-in_default
run_rights-returns-in_ok-push-in_default g t c =
    let ctx = c.args.context.now in
    let s = c.args.state.now in
    let st = c.run_one.new.state in
    let v = (c.in_ok-value-in_default).value in
    let new = c.push.new.self.items in
    record {
      told = λ m at.
          let end = right_in ctx (code_right_term c.args.right.now) c.args.site (current s.frames) m in
          let g = given IsOnly v st end ((c.in_ok-value-in_default).ensures.told m at) in
          tell (λ (_ : Unit {0}) ws. Appends c.args.values.now.items new ws) tt st end g.value g.heap g.is
          (appended c.args.values.now.items (v ∷ []) new g.value (c.in_ok-push-in_default).ensures.items (sym g.agrees)) g.stands;
      scopes = (c.in_ok-value-in_default).ensures.scopes;
      lender = (c.in_ok-value-in_default).ensures.lender;
    }

pub run_one-returns-in-With : goal.blocks::run_one-returns-in-With
run_one-returns-in-With g t c =
    let ctx = c.args.context.now in
    let e = current c.args.state.now.frames in
    record {
      told = λ m at. subst (λ r. Told IsOnly c.run_with.result c.run_with.new.state (right_in ctx (code_right_term r) c.args.site e m)) (sym c.in-With.is) (c.run_with.ensures.told m at);
      scopes = c.run_with.ensures.scopes;
      lender = c.run_with.ensures.lender;
    }

pub run_one-returns-in-Parted : goal.blocks::run_one-returns-in-Parted
run_one-returns-in-Parted g t c =
    let ctx = c.args.context.now in
    let e = current c.args.state.now.frames in
    record {
      told = λ m at. subst (λ r. Told IsOnly c.run_parted.result c.run_parted.new.state (right_in ctx (code_right_term r) c.args.site e m)) (sym c.in-Parted.is) (c.run_parted.ensures.told m at);
      scopes = c.run_parted.ensures.scopes;
      lender = c.run_parted.ensures.lender;
    }

pub run_chosen-returns-in_err-inner : goal.blocks::run_chosen-returns-in_err-inner
run_chosen-returns-in_err-inner g t c =
    let ctx = c.args.context.now in
    let s = c.args.state.now in
    let fs = ctx.code.now.functions.items in
    let f = c.index-function.result.now in
    let place = c.in-Some.place in
    let vs = map value_of c.args.args.now in
    let same = c.get-code.ensures.same in
    let inside = within_same c.get-code.result.now ctx.code.now place same c.in-Some.ensures.within in
    let here = function_at fs place f inside ∙ ap (λ (f : CodeFun). Some (code_fun_term f)) (sym (place_same c.get-code.result.now ctx.code.now place f same c.index-function.ensures)) in
    let stop = c.in_err-inner.field-0.0 in
    let is : c.from_residual.result ≡ Err stop = search rules in
    record {
      told = λ m at.
          handed (λ (_ : Unit {0}) ws. Appends c.args.values.now.items c.args.values.now.items ws) c.from_residual.result stop s (calls_in ctx c.args.group vs c.args.site m) is
          (call_stops ctx c.args.group vs c.args.site m place (code_fun_term f) (sym c.in-Some.is ∙ c.choose.ensures.told m ∙ chosen_same c.get-code.result.now ctx.code.now c.args.group vs m same) here stop s c.in_err-inner.ensures at);
      scopes = no_scopes (SameScopes s.frames s.frames) c.from_residual.result stop is;
      lender = refl;
    }

pub run_chosen-returns : goal.blocks::run_chosen-returns
run_chosen-returns g t c =
    let ctx = c.args.context.now in
    let s = c.args.state.now in
    let fs = ctx.code.now.functions.items in
    let f = c.index-function.result.now in
    let place = c.in-Some.place in
    let inner = c.in_ok-inner.inner in
    let vs = map value_of c.args.args.now in
    let same = c.get-code.ensures.same in
    let inside = within_same c.get-code.result.now ctx.code.now place same c.in-Some.ensures.within in
    let here = function_at fs place f inside ∙ ap (λ (f : CodeFun). Some (code_fun_term f)) (sym (place_same c.get-code.result.now ctx.code.now place f same c.index-function.ensures)) in
    record {
      told = λ m at.
          subst (λ (end : Ended (List Value)). Told (λ (_ : Unit {0}) ws. Appends c.args.values.now.items c.run_function.new.values.items ws) c.run_function.result c.run_function.new.state end)
          (sym (call_runs ctx c.args.group vs c.args.site m place (code_fun_term f) (sym c.in-Some.is ∙ c.choose.ensures.told m ∙ chosen_same c.get-code.result.now ctx.code.now c.args.group vs m same) here inner c.in_ok-inner.ensures)) (c.run_function.ensures.told m at);
      scopes = c.run_function.ensures.scopes;
      lender = c.run_function.ensures.lender;
    }

pub run_function-run_open-requires : goal.blocks::run_function-run_open-requires
run_function-run_open-requires g t c κs p = (omega (arith, c.decreases), p)

pub run_function-returns-in_err-run_open : goal.blocks::run_function-returns-in_err-run_open
run_function-returns-in_err-run_open g t c =
    let ctx = c.args.context.now in
    let s = c.args.state.now in
    let f = c.args.function.now in
    let B = code_term f.body in
    let bound = c.in_ok-bind_params.ensures.bound in
    let mid = c.bind_params.new.state in
    let st = c.run_open.new.state in
    let vs = map value_of c.args.args.now in
    let inside = bound.inside ∙ (λ j. bind_values (c.in_ok-enter_call.ensures.current j) (vars_of (c.deref.ensures.value j)) vs) in
    let stop = c.in_err-run_open.field-0.0 in
    let is : c.from_residual-in_err-run_open.result ≡ Err stop = search rules in
    record {
      told = λ m at.
          let first = does_in ctx B (bind_values no_values (vars_of f.params.items) vs) m in
          handed (λ (_ : Unit {0}) ws. Appends c.args.values.now.items c.args.values.now.items ws) c.from_residual-in_err-run_open.result stop st (go_on first (results_do f.results.items f.ends)) is
          (stop_then stop st first (results_do f.results.items f.ends) (subst (λ e. ToldStop stop st (does_in ctx B e m)) inside (c.in_err-run_open.ensures.told m (moved s mid m bound.heap bound.phases at))));
      scopes = no_scopes (SameScopes s.frames st.frames) c.from_residual-in_err-run_open.result stop is;
      lender = c.in_err-run_open.ensures.lender ∙ c.in_ok-bind_params.ensures.lender;
    }

pub run_function-returns-then-not-all_have : goal.blocks::run_function-returns-then-not-all_have
run_function-returns-then-not-all_have g t c =
    let ctx = c.args.context.now in
    let s = c.args.state.now in
    let f = c.args.function.now in
    let B = code_term f.body in
    let bound = c.in_ok-bind_params.ensures.bound in
    let mid = c.bind_params.new.state in
    let st = c.run_open.new.state in
    let vs = map value_of c.args.args.now in
    let own = c.run_open.new.values.items in
    let old = c.args.values.now.items in
    let inside = bound.inside ∙ (λ j. bind_values (c.in_ok-enter_call.ensures.current j) (vars_of (c.deref.ensures.value j)) vs) in
    record {
      told = λ m at.
          let first = does_in ctx B (bind_values no_values (vars_of f.params.items) vs) m in
          let block = alone c.new-own.result.items own st first c.new-own.ensures.items (subst (λ e. Told (λ (_ : Unit {0}) ws. Appends c.new-own.result.items own ws) (Ok tt) st (does_in ctx B e m)) inside (c.in_ok-run_open.ensures.told m (moved s mid m bound.heap bound.phases at))) in
          results_unfit f.results.items f.ends own st first c.fault.result c.fault.ensures block
          (λ h. sym c.if-not-all_have.true ∙ c.all_have.ensures h ∙ (λ j. all_have (c.deref-2.ensures.value j) (map (read h) (map value_of (c.deref-3.ensures.value j)))));
      scopes = tt;
      lender = c.in_ok-run_open.ensures.lender ∙ c.in_ok-bind_params.ensures.lender;
    }

pub run_function-returns : goal.blocks::run_function-returns
run_function-returns g t c =
    let ctx = c.args.context.now in
    let s = c.args.state.now in
    let f = c.args.function.now in
    let B = code_term f.body in
    let bound = c.in_ok-bind_params.ensures.bound in
    let mid = c.bind_params.new.state in
    let st = c.run_open.new.state in
    let vs = map value_of c.args.args.now in
    let own = c.run_open.new.values.items in
    let old = c.args.values.now.items in
    let inside = bound.inside ∙ (λ j. bind_values (c.in_ok-enter_call.ensures.current j) (vars_of (c.deref.ensures.value j)) vs) in
    let new = c.extend_from_slice.new.self.items in
    record {
      told = λ m at.
          let first = does_in ctx B (bind_values no_values (vars_of f.params.items) vs) m in
          let block = alone c.new-own.result.items own st first c.new-own.ensures.items (subst (λ e. Told (λ (_ : Unit {0}) ws. Appends c.new-own.result.items own ws) (Ok tt) st (does_in ctx B e m)) inside (c.in_ok-run_open.ensures.told m (moved s mid m bound.heap bound.phases at))) in
          let end = function_does ctx.turns (calls_in ctx) (code_fun_term f) vs m in
          let fits = results_fit f.results.items f.ends own st first block
          (λ h. sym c.if-not-all_have.false ∙ c.all_have.ensures h ∙ (λ j. all_have (c.deref-2.ensures.value j) (map (read h) (map value_of (c.deref-3.ensures.value j))))) in
          let g = given (λ (_ : Unit {0}) ws. map value_of own ≡ ws) tt st end fits in
          tell (λ (_ : Unit {0}) ws. Appends old new ws) tt st end g.value g.heap g.is (appended old own new g.value (c.in_ok-extend_from_slice.ensures.items ∙ ap (λ xs. old ++ xs) c.deref-4.ensures.value) g.agrees) g.stands;
      scopes = c.in_ok-run_open.ensures.scopes (current s.frames) (outer s.frames) (bound.outside ∙ c.in_ok-enter_call.ensures.outer);
      lender = c.in_ok-run_open.ensures.lender ∙ c.in_ok-bind_params.ensures.lender;
    }
