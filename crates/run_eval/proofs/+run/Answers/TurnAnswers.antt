-- Answers for loops over turns.
use Rattle.std.proofs.Common.{rules, ◌≡◌, ◌-◌, ◌++◌, Ok, Err, ap, sym, ◌∙◌, subst, arith, map, List, refl}
use Rattle.counted_code.specs.Machine.{bind_values, first_value, repeat_does, turns_do}
use Rattle.counted_code.specs.Values.{Value, Ended, go_on}
use Rattle.counted_code.specs.View.{code_term}
use Rattle.run_values.specs.Scopes.{current, outer}
use Rattle.run_values.specs.Shown.{value_of}
use Rattle.run_loops.specs.Running.{does_in, turn_in, test_in, truth_of, Told, ToldStop, IsValue, Appends, SameScopes}
use Rattle.run_loops.proofs.Steps.{moved, given, tell, stop_then, on_ok, handed, no_scopes}
use Rattle.run_eval.proofs.Turns.{test_ends, test_stops, turned_stops, turned_ends, turned_over, turned_goes, tested_stops, tested_turned}
use Rattle.run_eval.proofs.+run.Goals as goal

pub run_loop-run_turn-requires : goal.blocks::run_loop-run_turn-requires
run_loop-run_turn-requires g t c κs p = (omega (arith, c.decreases), p)

pub run_loop-repeat-requires : goal.blocks::run_loop-repeat-requires
run_loop-repeat-requires g t c κs p = (omega (arith, c.decreases), p)

pub run_loop-repeat-requires-else-first_body : goal.blocks::run_loop-repeat-requires-else-first_body
run_loop-repeat-requires-else-first_body g t c κs p = (omega (arith, c.decreases), p)

pub repeat-run_test-requires : goal.blocks::repeat-run_test-requires
repeat-run_test-requires g t c κs p = (omega (arith, c.decreases), p)

pub repeat-run_turn-requires : goal.blocks::repeat-run_turn-requires
repeat-run_turn-requires g t c κs p = (omega (arith, c.decreases), p)

pub run_test-run_first-requires : goal.blocks::run_test-run_first-requires
run_test-run_first-requires g t c κs p = (omega (arith, c.decreases), p)

pub run_turn-run_open-requires : goal.blocks::run_turn-run_open-requires
run_turn-run_open-requires g t c κs p = (omega (arith, c.decreases), p)

pub run_test-returns-in_err-value : goal.blocks::run_test-returns-in_err-value
run_test-returns-in_err-value g t c =
    let ctx = c.args.context.now in
    let s = c.args.state.now in
    let turn = c.args.turn.now in
    let vs = map value_of c.args.values.now in
    let T = code_term turn.test.now in
    let bound = c.in_ok-bind_all.ensures.bound in
    let mid = c.bind_all.new.state in
    let st = c.run_first.new.state in
    let inside = bound.inside ∙ ap (λ e. bind_values e turn.params.now vs) c.in_ok-enter.ensures.current in
    let stop = c.in_err-value.field-0.0 in
    let is : c.from_residual-in_err-value.result ≡ Err stop = search rules in
    record {
      told = λ m at.
          let first = first_value (does_in ctx T (bind_values (current s.frames) turn.params.now vs)) m in
          handed (λ b c. b ≡ c) c.from_residual-in_err-value.result stop st (go_on first (truth_of turn.test_site)) is
          (stop_then stop st first (truth_of turn.test_site) (subst (λ e. ToldStop stop st (first_value (does_in ctx T e) m)) inside (c.in_err-value.ensures.told m (moved s mid m bound.heap bound.phases at))));
      scopes = no_scopes (SameScopes s.frames st.frames) c.from_residual-in_err-value.result stop is;
      lender = c.in_err-value.ensures.lender ∙ c.in_ok-bind_all.ensures.lender;
    }

pub run_test-returns-in_err-truth : goal.blocks::run_test-returns-in_err-truth
run_test-returns-in_err-truth g t c =
    let ctx = c.args.context.now in
    let s = c.args.state.now in
    let turn = c.args.turn.now in
    let vs = map value_of c.args.values.now in
    let T = code_term turn.test.now in
    let bound = c.in_ok-bind_all.ensures.bound in
    let mid = c.bind_all.new.state in
    let st = c.run_first.new.state in
    let v = c.in_ok-value.value in
    let inside = bound.inside ∙ ap (λ e. bind_values e turn.params.now vs) c.in_ok-enter.ensures.current in
    let stop = c.in_err-truth.field-0.0 in
    let is : c.from_residual-in_err-truth.result ≡ Err stop = search rules in
    record {
      told = λ m at.
          let first = first_value (does_in ctx T (bind_values (current s.frames) turn.params.now vs)) m in
          handed (λ b c. b ≡ c) c.from_residual-in_err-truth.result stop st (go_on first (truth_of turn.test_site)) is
          (test_stops stop turn.test_site v st first (subst (λ e. Told IsValue (Ok v) st (first_value (does_in ctx T e) m)) inside (c.in_ok-value.ensures.told m (moved s mid m bound.heap bound.phases at))) c.in_err-truth.ensures);
      scopes = no_scopes (SameScopes s.frames st.frames) c.from_residual-in_err-truth.result stop is;
      lender = c.in_ok-value.ensures.lender ∙ c.in_ok-bind_all.ensures.lender;
    }

pub run_test-returns : goal.blocks::run_test-returns
run_test-returns g t c =
    let ctx = c.args.context.now in
    let s = c.args.state.now in
    let turn = c.args.turn.now in
    let vs = map value_of c.args.values.now in
    let T = code_term turn.test.now in
    let bound = c.in_ok-bind_all.ensures.bound in
    let mid = c.bind_all.new.state in
    let st = c.run_first.new.state in
    let new = record st { heap = c.release.new.heap } in
    let v = c.in_ok-value.value in
    let inside = bound.inside ∙ ap (λ e. bind_values e turn.params.now vs) c.in_ok-enter.ensures.current in
    record {
      told = λ m at.
          let first = first_value (does_in ctx T (bind_values (current s.frames) turn.params.now vs)) m in
          test_ends c.in_ok-truth.truth turn.test_site v st new first (subst (λ e. Told IsValue (Ok v) st (first_value (does_in ctx T e) m)) inside (c.in_ok-value.ensures.told m (moved s mid m bound.heap bound.phases at))) c.in_ok-truth.ensures c.in_ok-release.ensures.released refl;
      scopes = c.in_ok-value.ensures.scopes (current s.frames) (outer s.frames) (bound.outside ∙ c.in_ok-enter.ensures.outer);
      lender = c.in_ok-release.ensures.lender ∙ c.in_ok-value.ensures.lender ∙ c.in_ok-bind_all.ensures.lender;
    }

pub run_turn-returns-in_err-run_open : goal.blocks::run_turn-returns-in_err-run_open
run_turn-returns-in_err-run_open g t c =
    let ctx = c.args.context.now in
    let s = c.args.state.now in
    let turn = c.args.turn.now in
    let B = code_term turn.body.now in
    let bound = c.in_ok-bind_all.ensures.bound in
    let mid = c.bind_all.new.state in
    let st = c.run_open.new.state in
    let inside = bound.inside ∙ ap (λ e. bind_values e turn.params.now (map value_of c.deref.result.now)) c.in_ok-enter.ensures.current ∙ ap (λ us. bind_values (current s.frames) turn.params.now (map value_of us)) c.deref.ensures.value in
    let stop = c.in_err-run_open.field-0.0 in
    let is : c.from_residual-in_err-run_open.result ≡ Err stop = search rules in
    record {
      told = λ m at.
          let vs = map value_of c.args.values.now.items in
          handed (λ (_ : Unit {0}) ws. vs ≡ ws) c.from_residual-in_err-run_open.result stop st (does_in ctx B (bind_values (current s.frames) turn.params.now vs) m) is
          (subst (λ e. ToldStop stop st (does_in ctx B e m)) inside (c.in_err-run_open.ensures.told m (moved s mid m bound.heap bound.phases at)));
      scopes = no_scopes (SameScopes s.frames st.frames) c.from_residual-in_err-run_open.result stop is;
      lender = c.in_err-run_open.ensures.lender ∙ c.in_ok-bind_all.ensures.lender;
    }

pub run_turn-returns : goal.blocks::run_turn-returns
run_turn-returns g t c =
    let ctx = c.args.context.now in
    let s = c.args.state.now in
    let turn = c.args.turn.now in
    let B = code_term turn.body.now in
    let bound = c.in_ok-bind_all.ensures.bound in
    let mid = c.bind_all.new.state in
    let st = c.run_open.new.state in
    let inside = bound.inside ∙ ap (λ e. bind_values e turn.params.now (map value_of c.deref.result.now)) c.in_ok-enter.ensures.current ∙ ap (λ us. bind_values (current s.frames) turn.params.now (map value_of us)) c.deref.ensures.value in
    let next = c.run_open.new.values.items in
    record {
      told = λ m at.
          let vs = map value_of c.args.values.now.items in
          let end = does_in ctx B (bind_values (current s.frames) turn.params.now vs) m in
          let g = given (λ (_ : Unit {0}) ws. Appends c.clear.new.self.items next ws) tt st end (subst (λ e. Told (λ (_ : Unit {0}) ws. Appends c.clear.new.self.items next ws) (Ok tt) st (does_in ctx B e m)) inside (c.in_ok-run_open.ensures.told m (moved s mid m bound.heap bound.phases at))) in
          let own : map value_of next ≡ g.value = g.agrees ∙ ap (λ xs. map value_of xs ++ g.value) c.clear.ensures.items in
          tell (λ (_ : Unit {0}) ws. map value_of c.extend_from_slice.new.self.items ≡ ws) tt st end g.value g.heap g.is
          (ap (map value_of) (c.in_ok-extend_from_slice.ensures.items ∙ (λ i. c.clear-2.ensures.items i ++ c.deref-2.ensures.value i)) ∙ own) g.stands;
      scopes = c.in_ok-run_open.ensures.scopes (current s.frames) (outer s.frames) (bound.outside ∙ c.in_ok-enter.ensures.outer);
      lender = c.in_ok-run_open.ensures.lender ∙ c.in_ok-bind_all.ensures.lender;
    }

-- ---- the turns of a loop

pub repeat-loop-left-init : goal.blocks::repeat-loop-left-init
repeat-loop-left-init g t c = record {
  told = λ m at. record { heap = m; stands = at; same = refl };
  scopes = (refl, refl);
  lender = refl;
}

pub repeat-returns-in_err-run_test : goal.blocks::repeat-returns-in_err-run_test
repeat-returns-in_err-run_test g t c =
    let ctx = c.args.context.now in
    let s = c.args.state.now in
    let turn = c.args.turn.now in
    let e = current s.frames in
    let test' = test_in ctx turn.params.now (code_term turn.test.now) e in
    let body' = turn_in ctx turn.params.now (code_term turn.body.now) e in
    let most = c.args.most in
    let start = map value_of c.args.values.now.items in
    let vs = map value_of c.loop-left.values.items in
    let st = c.run_test.new.state in
    let stop = c.in_err-run_test.field-0.0 in
    let is : c.from_residual.result ≡ Err stop = search rules in
    record {
      told = λ m at.
          let here = c.loop-left.invariant.told m at in
          handed (λ (_ : Unit {0}) ws. vs ≡ ws) c.from_residual.result stop st (repeat_does most turn.site turn.test_site test' body' start m) is
          (turned_stops turn.site turn.test_site test' body' most start m c.loop-left.left vs c.loop-left.state here stop st
          (subst (λ f. ToldStop stop st (go_on (test_in ctx turn.params.now (code_term turn.test.now) f vs here.heap) (truth_of turn.test_site))) c.loop-left.invariant.scopes.0
          (subst (λ us. ToldStop stop st (go_on (test_in ctx turn.params.now (code_term turn.test.now) (current c.loop-left.state.frames) (map value_of us) here.heap) (truth_of turn.test_site))) c.deref.ensures.value
          (c.in_err-run_test.ensures.told here.heap here.stands))));
      scopes = no_scopes (SameScopes s.frames st.frames) c.from_residual.result stop is;
      lender = c.in_err-run_test.ensures.lender ∙ c.loop-left.invariant.lender;
    }

pub repeat-returns-then-not-branch : goal.blocks::repeat-returns-then-not-branch
repeat-returns-then-not-branch g t c =
    let ctx = c.args.context.now in
    let s = c.args.state.now in
    let turn = c.args.turn.now in
    let e = current s.frames in
    let test' = test_in ctx turn.params.now (code_term turn.test.now) e in
    let body' = turn_in ctx turn.params.now (code_term turn.body.now) e in
    let most = c.args.most in
    let start = map value_of c.args.values.now.items in
    let vs = map value_of c.loop-left.values.items in
    let st = c.run_test.new.state in
    let sc = c.loop-left.invariant.scopes in
    record {
      told = λ m at.
          let here = c.loop-left.invariant.told m at in
          turned_ends turn.site turn.test_site test' body' most start m c.loop-left.left vs c.loop-left.state here st
          (subst (λ b. Told (λ b c. b ≡ c) (Ok b) st (go_on (test' vs here.heap) (truth_of turn.test_site))) c.if-not-branch.true
          (subst (λ f. Told (λ b c. b ≡ c) (Ok c.in_ok-run_test.field-0) st (go_on (test_in ctx turn.params.now (code_term turn.test.now) f vs here.heap) (truth_of turn.test_site))) sc.0
          (subst (λ us. Told (λ b c. b ≡ c) (Ok c.in_ok-run_test.field-0) st (go_on (test_in ctx turn.params.now (code_term turn.test.now) (current c.loop-left.state.frames) (map value_of us) here.heap) (truth_of turn.test_site))) c.deref.ensures.value
          (c.in_ok-run_test.ensures.told here.heap here.stands))));
      scopes = (c.in_ok-run_test.ensures.scopes.0 ∙ sc.0, c.in_ok-run_test.ensures.scopes.1 ∙ sc.1);
      lender = c.in_ok-run_test.ensures.lender ∙ c.loop-left.invariant.lender;
    }

pub repeat-returns-then-left-eq0 : goal.blocks::repeat-returns-then-left-eq0
repeat-returns-then-left-eq0 g t c =
    let ctx = c.args.context.now in
    let s = c.args.state.now in
    let turn = c.args.turn.now in
    let e = current s.frames in
    let test' = test_in ctx turn.params.now (code_term turn.test.now) e in
    let body' = turn_in ctx turn.params.now (code_term turn.body.now) e in
    let most = c.args.most in
    let start = map value_of c.args.values.now.items in
    let vs = map value_of c.loop-left.values.items in
    let st = c.run_test.new.state in
    let sc = c.loop-left.invariant.scopes in
    record {
      told = λ m at.
          let here = c.loop-left.invariant.told m at in
          turned_over turn.site turn.test_site test' body' most start m c.loop-left.left vs c.loop-left.state here st c.fault.result (omega (arith, c.if-left-eq0.true)) c.fault.ensures
          (subst (λ b. Told (λ b c. b ≡ c) (Ok b) st (go_on (test' vs here.heap) (truth_of turn.test_site))) c.if-not-branch.false
          (subst (λ f. Told (λ b c. b ≡ c) (Ok c.in_ok-run_test.field-0) st (go_on (test_in ctx turn.params.now (code_term turn.test.now) f vs here.heap) (truth_of turn.test_site))) sc.0
          (subst (λ us. Told (λ b c. b ≡ c) (Ok c.in_ok-run_test.field-0) st (go_on (test_in ctx turn.params.now (code_term turn.test.now) (current c.loop-left.state.frames) (map value_of us) here.heap) (truth_of turn.test_site))) c.deref.ensures.value
          (c.in_ok-run_test.ensures.told here.heap here.stands))));
      scopes = tt;
      lender = c.in_ok-run_test.ensures.lender ∙ c.loop-left.invariant.lender;
    }

pub repeat-loop-left-preserved : goal.blocks::repeat-loop-left-preserved
repeat-loop-left-preserved g t c =
    let ctx = c.args.context.now in
    let s = c.args.state.now in
    let turn = c.args.turn.now in
    let e = current s.frames in
    let T = code_term turn.test.now in
    let B = code_term turn.body.now in
    let test' = test_in ctx turn.params.now T e in
    let body' = turn_in ctx turn.params.now B e in
    let most = c.args.most in
    let start = map value_of c.args.values.now.items in
    let vs = map value_of c.loop-left.values.items in
    let st = c.run_test.new.state in
    let sc = c.loop-left.invariant.scopes in
    let mid = c.in_ok-run_test.ensures.scopes in
    let left = c.loop-left.left in
    let ws = map value_of c.run_turn.new.values.items in
    record {
      told = λ m at.
          let here = c.loop-left.invariant.told m at in
          let tested = turned_goes turn.site turn.test_site test' body' most start m left vs c.loop-left.state here st (omega (arith, c.if-left-eq0.false))
          (subst (λ b. Told (λ b c. b ≡ c) (Ok b) st (go_on (test' vs here.heap) (truth_of turn.test_site))) c.if-not-branch.false
          (subst (λ f. Told (λ b c. b ≡ c) (Ok c.in_ok-run_test.field-0) st (go_on (test_in ctx turn.params.now T f vs here.heap) (truth_of turn.test_site))) sc.0
          (subst (λ us. Told (λ b c. b ≡ c) (Ok c.in_ok-run_test.field-0) st (go_on (test_in ctx turn.params.now T (current c.loop-left.state.frames) (map value_of us) here.heap) (truth_of turn.test_site))) c.deref.ensures.value
          (c.in_ok-run_test.ensures.told here.heap here.stands)))) in
          tested_turned turn.site turn.test_site test' body' most start m (left - 1) vs ws st c.run_turn.new.state tested
          (subst (λ f. Told (λ (_ : Unit {0}) us. ws ≡ us) (Ok tt) c.run_turn.new.state (turn_in ctx turn.params.now B f vs tested.heap)) (mid.0 ∙ sc.0) (c.in_ok-run_turn.ensures.told tested.heap tested.stands));
      scopes = (c.in_ok-run_turn.ensures.scopes.0 ∙ mid.0 ∙ sc.0, c.in_ok-run_turn.ensures.scopes.1 ∙ mid.1 ∙ sc.1);
      lender = c.in_ok-run_turn.ensures.lender ∙ c.in_ok-run_test.ensures.lender ∙ c.loop-left.invariant.lender;
    }

pub repeat-returns-in_err-run_turn : goal.blocks::repeat-returns-in_err-run_turn
repeat-returns-in_err-run_turn g t c =
    let ctx = c.args.context.now in
    let s = c.args.state.now in
    let turn = c.args.turn.now in
    let e = current s.frames in
    let T = code_term turn.test.now in
    let B = code_term turn.body.now in
    let test' = test_in ctx turn.params.now T e in
    let body' = turn_in ctx turn.params.now B e in
    let most = c.args.most in
    let start = map value_of c.args.values.now.items in
    let vs = map value_of c.loop-left.values.items in
    let st = c.run_test.new.state in
    let sc = c.loop-left.invariant.scopes in
    let mid = c.in_ok-run_test.ensures.scopes in
    let left = c.loop-left.left in
    let end' = c.run_turn.new.state in
    let ws = map value_of c.run_turn.new.values.items in
    let stop = c.in_err-run_turn.field-0.0 in
    let is : c.from_residual-in_err-run_turn.result ≡ Err stop = search rules in
    record {
      told = λ m at.
          let here = c.loop-left.invariant.told m at in
          let tested = turned_goes turn.site turn.test_site test' body' most start m left vs c.loop-left.state here st (omega (arith, c.if-left-eq0.false))
          (subst (λ b. Told (λ b c. b ≡ c) (Ok b) st (go_on (test' vs here.heap) (truth_of turn.test_site))) c.if-not-branch.false
          (subst (λ f. Told (λ b c. b ≡ c) (Ok c.in_ok-run_test.field-0) st (go_on (test_in ctx turn.params.now T f vs here.heap) (truth_of turn.test_site))) sc.0
          (subst (λ us. Told (λ b c. b ≡ c) (Ok c.in_ok-run_test.field-0) st (go_on (test_in ctx turn.params.now T (current c.loop-left.state.frames) (map value_of us) here.heap) (truth_of turn.test_site))) c.deref.ensures.value
          (c.in_ok-run_test.ensures.told here.heap here.stands)))) in
          handed (λ (_ : Unit {0}) us. ws ≡ us) c.from_residual-in_err-run_turn.result stop end' (repeat_does most turn.site turn.test_site test' body' start m) is
          (tested_stops body' (repeat_does (left - 1) turn.site turn.test_site test' body') vs (repeat_does most turn.site turn.test_site test' body' start m) st tested stop end'
          (subst (λ f. ToldStop stop end' (turn_in ctx turn.params.now B f vs tested.heap)) (mid.0 ∙ sc.0) (c.in_err-run_turn.ensures.told tested.heap tested.stands)));
      scopes = no_scopes (SameScopes s.frames end'.frames) c.from_residual-in_err-run_turn.result stop is;
      lender = c.in_err-run_turn.ensures.lender ∙ c.in_ok-run_test.ensures.lender ∙ c.loop-left.invariant.lender;
    }

-- ---- calls

pub run_loop-returns-in_err-run_turn : goal.blocks::run_loop-returns-in_err-run_turn
run_loop-returns-in_err-run_turn g t c =
    let ctx = c.args.context.now in
    let s = c.args.state.now in
    let turn = c.args.turn.now in
    let e = current s.frames in
    let test' = test_in ctx turn.params.now (code_term turn.test.now) e in
    let body' = turn_in ctx turn.params.now (code_term turn.body.now) e in
    let vs = map value_of c.args.values.now.items in
    let st = c.run_turn.new.state in
    let stop = c.in_err-run_turn.field-0.0 in
    let is : c.from_residual.result ≡ Err stop = search rules in
    record {
      told = λ m at.
          handed (λ (_ : Unit {0}) ws. map value_of c.run_turn.new.values.items ≡ ws) c.from_residual.result stop st (turns_do c.args.first_body ctx.turns turn.site turn.test_site test' body' vs m) is
          (subst (λ b. ToldStop stop st (turns_do b ctx.turns turn.site turn.test_site test' body' vs m)) (sym c.if-first_body.true)
          (stop_then stop st (body' vs m) (repeat_does (ctx.turns - 1) turn.site turn.test_site test' body') (c.in_err-run_turn.ensures.told m at)));
      scopes = no_scopes (SameScopes s.frames st.frames) c.from_residual.result stop is;
      lender = c.in_err-run_turn.ensures.lender;
    }

pub run_loop-returns-then-first_body : goal.blocks::run_loop-returns-then-first_body
run_loop-returns-then-first_body g t c =
    let ctx = c.args.context.now in
    let s = c.args.state.now in
    let turn = c.args.turn.now in
    let e = current s.frames in
    let T = code_term turn.test.now in
    let B = code_term turn.body.now in
    let test' = test_in ctx turn.params.now T e in
    let body' = turn_in ctx turn.params.now B e in
    let vs = map value_of c.args.values.now.items in
    let mid = c.run_turn.new.state in
    let us = map value_of c.run_turn.new.values.items in
    let sc = c.in_ok-run_turn.ensures.scopes in
    let st = c.repeat.new.state in
    let same : c.saturating_sub-left.result ≡ ctx.turns - 1 = search rules in
    record {
      told = λ m at.
          let g = given (λ (_ : Unit {0}) ws. us ≡ ws) tt mid (body' vs m) (c.in_ok-run_turn.ensures.told m at) in
          let again = repeat_does (ctx.turns - 1) turn.site turn.test_site test' body' in
          subst (λ (end : Ended (List Value)). Told (λ (_ : Unit {0}) ws. map value_of c.repeat.new.values.items ≡ ws) c.repeat.result st end)
          ((λ j. repeat_does (same j) turn.site turn.test_site (test_in ctx turn.params.now T (sc.0 j)) (turn_in ctx turn.params.now B (sc.0 j)) (g.agrees j) g.heap)
          ∙ ap (λ end. go_on end again) (sym g.is)
          ∙ ap (λ b. turns_do b ctx.turns turn.site turn.test_site test' body' vs m) (sym c.if-first_body.true))
          (c.repeat.ensures.told g.heap g.stands);
      scopes = on_ok c.repeat.result (λ (same : SameScopes mid.frames st.frames). (same.0 ∙ sc.0, same.1 ∙ sc.1)) c.repeat.ensures.scopes;
      lender = c.repeat.ensures.lender ∙ c.in_ok-run_turn.ensures.lender;
    }

pub run_loop-returns : goal.blocks::run_loop-returns
run_loop-returns g t c =
    let ctx = c.args.context.now in
    let s = c.args.state.now in
    let turn = c.args.turn.now in
    let e = current s.frames in
    let test' = test_in ctx turn.params.now (code_term turn.test.now) e in
    let body' = turn_in ctx turn.params.now (code_term turn.body.now) e in
    let vs = map value_of c.args.values.now.items in
    let r = c.repeat-else-first_body in
    record {
      told = λ m at.
          subst (λ b. Told (λ (_ : Unit {0}) ws. map value_of c.repeat-else-first_body.new.values.items ≡ ws) c.repeat-else-first_body.result c.repeat-else-first_body.new.state (turns_do b ctx.turns turn.site turn.test_site test' body' vs m)) (sym c.if-first_body.false)
          (c.repeat-else-first_body.ensures.told m at);
      scopes = c.repeat-else-first_body.ensures.scopes;
      lender = c.repeat-else-first_body.ensures.lender;
    }
