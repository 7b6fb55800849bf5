use Rattle.std.proofs.Common.{◌≡◌, false, true, Some, None, [], ◌++◌, length, refl, ap, ◌∙◌, sym, subst, arith}
use Rattle.std.specs.Prelude.{IfSome, IfOk, IsSomeAnd, IsTrue, is_some}
use Rattle.std.proofs.lemmas.List.{drop_all}
use Rattle.core_ir.specs.Binders.{is_in, NoneIn}
use Rattle.core_ir.specs.Terms.{PlainTerm}
use Rattle.core_ir.specs.WellFormed.{Distinct}
use Rattle.counted_code.specs.declared.tree.CodeParted.{out-CodeParted}
use Rattle.counted_code.specs.declared.tree.CodeWith.{out-CodeWith}
use Rattle.counted_code.specs.Counts.{Reordered, CountedGens, CountedParts, UnmarkedGens, UnmarkedParts}
use Rattle.counted_code.specs.Terms.{IfCode}
use Rattle.counted_code.specs.View.{code_term, code_right_term}
use Rattle.counted_code.specs.Pieces.{gens_term, parts_term}
use Rattle.phase_checks.specs.Walks.{results_in, IsCounted, IsCountedRight, Leads, Determines}
use Rattle.phase_checks.proofs.Counted.{in_any_order, keep_leads, release_leads, binding_leads, at_the_end, one_back}
use Rattle.phase_checks.proofs.Determined.{Takes, Tells, keep_lost, keep_determines, release_determines, targets_lost, targets_old, right_lost, binding_determines, results_size, only_at_the_end, only_one_back, none_back}
use Rattle.phase_checks.proofs.Found.{Branch, then_asks, value_size, with_none, parted_none, reads_none, none_counted, none_found, with_parts, parted_parts, if_found, if_unread, if_other, loop_parts}
use Rattle.phase_checks.proofs.Orders.{opposite}
use Rattle.phase_checks.proofs.Variants.{is_value, not_nested, only_reads}
use Rattle.phase_checks.proofs.walk.+walk.Goals.{nested_refs-else-branch-2-via-then-branch-2+in_ok-block_is_counted-in-Loop-2+else-branch-3, nested_refs-else-branch-2-via-else-branch-2}
use Rattle.phase_checks.proofs.walk.+walk.Goals.{nested_refs-else-stands_in_either-via-then-stands_in_either+in_ok-block_is_counted-in-If+else-branch, nested_refs-else-stands_in_either-via-else-stands_in_either}
use Rattle.phase_checks.proofs.walk.+walk.Goals.{parted_is_counted-then-is_some-via-then-is_some, parted_is_counted-then-is_some-via-else-is_some+then-not-parted_reads}
use Rattle.phase_checks.proofs.Rights.{then_holds, no_mark, hands_counted, fault_counted, call_counted, if_counted, loop_counted, with_counted, parted_counted}
use Rattle.phase_checks.proofs.Taken.{one_taken}
use Rattle.counted_code.proofs.Trees.{if_term, loop_term, with_out, parted_out}
use Rattle.phase_checks.proofs.walk.+walk.Goals as goal

pub binding_back-returns-in-Some-clause-counted : goal.binding_back-returns-in-Some-clause-counted
binding_back-returns-in-Some-clause-counted t c _ =
    let code = results_in c.args.code.now in
    let l = c.args.binding.now in
    let mid = c.take_all.new.refs.items in
    let scope = c.in_ok-scope.scope.items in
    let taken = subst (λ xs. Reordered c.args.refs.now.items (xs ++ mid)) c.deref.ensures.value (c.take_all.ensures.taken c.if-not-take_all.false) in
    let new = subst (λ scope. NoneIn l.targets.items scope) c.deref-4.ensures.value (subst (λ xs. NoneIn xs c.deref-4.result.now) c.deref-3.ensures.value (c.are_new.ensures.outside c.if-not-are_new.false)) in
    let size : c.len-results.result ≡ length l.targets.items = grind (arith, c.len-results.ensures, l.targets.ok) in
    let right = subst (λ o. IfSome o (λ mine. IsCountedRight code c.len-results.result c.deref-5.result.now mine.items (code_right_term l.right))) c.in-Some.is c.in_ok-mine.ensures.counted in
    binding_leads code l c.args.outer.now c.extend_from_slice.new.self.items mid c.args.refs.now.items scope c.in-Some.mine.items taken
    (c.in_ok-scope.ensures ∙ ap (λ refs. refs ++ c.args.outer.now) c.deref-2.ensures.value)
    (subst Distinct c.deref-3.ensures.value (c.are_new.ensures.distinct c.if-not-are_new.false)) new
    (subst (λ n. IsCountedRight code n scope c.in-Some.mine.items (code_right_term l.right)) size (subst (λ scope. IsCountedRight code c.len-results.result scope c.in-Some.mine.items (code_right_term l.right)) c.deref-5.ensures.value right))
    (c.in_ok-extend_from_slice-in-Some.ensures.items ∙ ap (λ xs. mid ++ xs) c.deref-in-Some.ensures.value)

pub block_is_counted-returns-in-Some-clause-counted : goal.block_is_counted-returns-in-Some-clause-counted
block_is_counted-returns-in-Some-clause-counted t c same =
    let code = results_in c.args.code.now in
    let own = c.args.own.now in
    let refs = c.in-Some.refs.items in
    let counted = subst (λ o. IfSome o (λ refs. IsCounted code c.args.results c.args.outer.now refs.items (code_term c.args.block.now))) c.in-Some.is c.in_ok-refs.ensures.counted in
    (in_any_order code (code_term c.args.block.now) c.args.results c.args.outer.now own refs (c.are_same.ensures.same same) counted.0, counted.1)

pub block_refs-loop-left-init : goal.block_refs-loop-left-init
block_refs-loop-left-init t c =
    let b = c.args.block.now in
    let size : length b.results.items ≡ c.args.results = grind (arith, c.if-len-results.false, c.len.ensures, b.results.ok) in
    let all : length b.steps.items ≡ c.len-left.result = grind (arith, c.len-left.ensures, b.steps.ok) in
    record {
      within = omega (arith, all);
      counted = at_the_end (results_in c.args.code.now) c.args.results c.args.outer.now c.in_ok-refs.refs.items b.results.items b.steps.items c.len-left.result size (c.in_ok-refs.ensures.items ∙ c.deref.ensures.value) (drop_all c.len-left.result b.steps.items (omega (arith, all)));
      only = only_at_the_end (results_in c.args.code.now) c.args.results c.args.outer.now c.in_ok-refs.refs.items b.results.items b.steps.items c.len-left.result (c.in_ok-refs.ensures.items ∙ c.deref.ensures.value) (drop_all c.len-left.result b.steps.items (omega (arith, all)));
    }

pub block_refs-loop-left-preserved : goal.block_refs-loop-left-preserved
block_refs-loop-left-preserved t c =
    let b = c.args.block.now in
    let at = c.loop-left in
    record {
      within = omega (arith, at.invariant.within);
      counted = one_back (results_in c.args.code.now) c.args.results c.args.outer.now c.step_back.new.refs.items at.refs.items b.results.items c.index.result.now c.index.result.now b.steps.items at.left (omega (arith, c.loop-left-test.true)) at.invariant.within c.index.ensures (c.in_ok-step_back.ensures.counted c.if-not-branch.false) at.invariant.counted;
      only = only_one_back (results_in c.args.code.now) c.args.results c.args.outer.now c.step_back.new.refs.items at.refs.items b.results.items c.index.result.now c.index.result.now b.steps.items at.left c.in_ok-step_back.field-0 (omega (arith, c.loop-left-test.true)) at.invariant.within c.index.ensures c.in_ok-step_back.ensures.converse at.invariant.only;
    }

pub nested_refs-returns-then-branch-clause-counted : goal.nested_refs-returns-then-branch-clause-counted
nested_refs-returns-then-branch-clause-counted t c =
    let code = results_in c.args.code.now in
    let i = c.in-If in
    let scope = c.args.scope.now in
    let mine = c.in-Some.mine.items in
    let first = subst (λ o. IfSome o (λ mine. IsCounted code c.args.results scope mine.items (code_term i.yes))) c.in-Some.is c.in_ok-mine-in-If.ensures.counted in
    let second = subst (λ mine. IsCounted code c.args.results scope mine (code_term i.no)) c.deref-then-stands_in_either.ensures.value (c.in_ok-block_is_counted-in-If.ensures.counted c.if-branch.true) in
    if_counted code c.args.results scope mine i.cond (code_term i.yes) (code_term i.no) (code_right_term c.args.right.now) (ap code_right_term i.is ∙ if_term i.cond i.yes i.no) (sym (c.stands_in_either.ensures ∙ ap (λ xs. is_in i.cond (xs ++ scope)) c.deref.ensures.value) ∙ c.if-stands_in_either.true) first second

pub nested_refs-returns-then-branch-3-clause-counted : goal.nested_refs-returns-then-branch-3-clause-counted
nested_refs-returns-then-branch-3-clause-counted t c =
    let code = results_in c.args.code.now in
    let l = c.in-Loop in
    let scope = c.args.scope.now in
    let params = l.params.items in
    let start_size : length l.start.items ≡ c.args.results = grind (arith, c.if-len-results.false, c.len.ensures, l.start.ok) in
    let params_size : length params ≡ c.args.results = grind (arith, c.if-len-results-2.false, c.len-else-len-results.ensures, l.params.ok) in
    loop_counted code c.args.results scope c.in_ok-from_slice-in-Loop.field-0.items l.first_body l.start.items params (code_term l.test) (code_term l.body) l.test_site (code_right_term c.args.right.now)
    (ap code_right_term l.is ∙ loop_term l.first_body l.start l.params l.test l.body l.test_site) start_size params_size
    (subst Distinct c.deref-else-len-results-2.ensures.value (c.are_new.ensures.distinct c.if-not-are_new.false))
    (subst (λ xs. NoneIn xs scope) c.deref-else-len-results-2.ensures.value (c.are_new.ensures.outside c.if-not-are_new.false))
    (c.in_ok-from_slice-in-Loop.ensures.items ∙ c.deref-then-branch-3.ensures.value)
    (subst (λ outer. IsCounted code 1 outer [] (code_term l.test)) (c.deref-in-Loop-2.ensures.value ∙ c.in_ok-inside-in-Loop.ensures ∙ ap (λ xs. xs ++ scope) c.deref-in-Loop.ensures.value) (c.in_ok-block_is_counted-in-Loop.ensures.counted c.if-branch-2.true))
    (subst (λ xs. IsCounted code c.args.results scope xs (code_term l.body)) c.deref-then-branch-2.ensures.value (c.in_ok-block_is_counted-in-Loop-2.ensures.counted c.if-branch-3.true))

pub parted_is_counted-returns-clause-counted : goal.parted_is_counted-returns-clause-counted
parted_is_counted-returns-clause-counted t c =
    let code = results_in c.args.code.now in
    let p = out-CodeParted c.args.parted.now in
    let scope = c.args.scope.now in
    then_holds c.parts_are_counted.result (λ found. parted_counted code scope p.frame p.base p.cell p.op (parts_term p.parts.items) p.reuse _ (parted_out c.args.parted.now) (no_mark p.reuse (sym c.is_some.ensures ∙ c.if-is_some.false)) (c.parted_reads.ensures.inside c.if-not-parted_reads.false) (subst (λ ps. CountedParts code scope (parts_term ps) × UnmarkedParts (parts_term ps)) c.deref.ensures.value found)) c.parts_are_counted.ensures.counted

pub right_refs-returns-in_ok-from_slice-in-Call-clause-counted : goal.right_refs-returns-in_ok-from_slice-in-Call-clause-counted
right_refs-returns-in_ok-from_slice-in-Call-clause-counted t c =
    let k = c.in-Call in
    let same : c.count_results.result ≡ c.args.results = grind (arith, c.if-count_results-results.false) in
    call_counted (results_in c.args.code.now) c.args.results c.args.scope.now c.in_ok-from_slice-in-Call.field-0.items k.args.items k.group (code_right_term c.args.right.now) (ap code_right_term k.is)
    (sym c.count_results.ensures ∙ same) (c.in_ok-from_slice-in-Call.ensures.items ∙ c.deref.ensures.value)

pub right_refs-returns-in-Always-clause-counted : goal.right_refs-returns-in-Always-clause-counted
right_refs-returns-in-Always-clause-counted t c =
    fault_counted (results_in c.args.code.now) c.args.results c.args.scope.now c.new.result.items (PlainTerm.Always c.in-Always.field-0) (code_right_term c.args.right.now) (ap code_right_term c.in-Always.is) tt refl refl c.new.ensures.items

pub step_back-returns-in-Bind-clause-counted : goal.step_back-returns-in-Bind-clause-counted
step_back-returns-in-Bind-clause-counted t c =
    subst (λ s. IfOk c.binding_back.result (λ b. IsTrue b → Leads (results_in c.args.code.now) c.args.outer.now c.binding_back.new.refs.items s c.args.refs.now.items)) (sym c.in-Bind.is) c.binding_back.ensures.counted

pub step_back-returns-else-not-take_out-clause-counted : goal.step_back-returns-else-not-take_out-clause-counted
step_back-returns-else-not-take_out-clause-counted t c alive =
    let code = results_in c.args.code.now in
    let x = c.in-Keep.x in
    let outer = c.args.outer.now in
    let left = c.take_out.new.xs.items in
    let taken = one_taken x c.args.refs.now.items left (sym c.take_out.ensures.was_there ∙ c.if-not-take_out.false) c.take_out.ensures.rest in
    subst (λ s. Leads code outer left s c.args.refs.now.items) (sym c.in-Keep.is)
    (keep_leads code outer left c.args.refs.now.items x taken (sym (c.stands_in_either.ensures ∙ ap (λ xs. is_in x (xs ++ outer)) c.deref.ensures.value) ∙ alive))

pub step_back-returns-in_ok-push-in-Release-clause-counted : goal.step_back-returns-in_ok-push-in-Release-clause-counted
step_back-returns-in_ok-push-in-Release-clause-counted t c _ =
    subst (λ s. Leads (results_in c.args.code.now) c.args.outer.now c.push.new.self.items s c.args.refs.now.items) (sym c.in-Release.is)
    (release_leads (results_in c.args.code.now) c.args.outer.now c.push.new.self.items c.args.refs.now.items c.in-Release.x c.in_ok-push-in-Release.ensures.items)

pub value_refs-returns-in_ok-from_slice-in-Copy-clause-counted : goal.value_refs-returns-in_ok-from_slice-in-Copy-clause-counted
value_refs-returns-in_ok-from_slice-in-Copy-clause-counted t c =
    let x = c.in-Copy.x in
    hands_counted (results_in c.args.code.now) c.args.scope.now c.in_ok-from_slice-in-Copy.field-0.items x (PlainTerm.Copy x) (code_right_term c.args.right.now) (ap code_right_term c.in-Copy.is) refl refl refl c.in_ok-from_slice-in-Copy.ensures.items

pub value_refs-returns-in_ok-from_slice-in-Check-clause-counted : goal.value_refs-returns-in_ok-from_slice-in-Check-clause-counted
value_refs-returns-in_ok-from_slice-in-Check-clause-counted t c =
    let x = c.in-Check.x in
    hands_counted (results_in c.args.code.now) c.args.scope.now c.in_ok-from_slice-in-Check.field-0.items x (PlainTerm.Check x c.in-Check.field-1) (code_right_term c.args.right.now) (ap code_right_term c.in-Check.is) refl refl refl c.in_ok-from_slice-in-Check.ensures.items

pub with_is_counted-returns-clause-counted : goal.with_is_counted-returns-clause-counted
with_is_counted-returns-clause-counted t c =
    let code = results_in c.args.code.now in
    let w = out-CodeWith c.args.with.now in
    let scope = c.args.scope.now in
    then_holds c.gens_are_counted.result (λ found. with_counted code scope w.op (gens_term w.gens.items) _ (with_out c.args.with.now) (c.operation_reads.ensures.inside c.if-not-operation_reads.false) (subst (λ gs. CountedGens code scope (gens_term gs) × UnmarkedGens (gens_term gs)) c.deref.ensures.value found)) c.gens_are_counted.ensures.counted

-- ---- the converse

pub binding_back-returns-then-not-take_all-clause-converse : goal.binding_back-returns-then-not-take_all-clause-converse
binding_back-returns-then-not-take_all-clause-converse t c =
    let after = c.args.refs.now.items in
    let mid = c.take_all.new.refs.items in
    let takes = subst (λ xs. Takes after xs mid c.take_all.result) c.deref.ensures.value c.take_all.ensures.converse in
    targets_lost (results_in c.args.code.now) c.args.binding.now c.args.outer.now mid mid after c.take_all.result takes c.if-not-take_all.true

pub binding_back-returns-then-not-are_new-clause-converse : goal.binding_back-returns-then-not-are_new-clause-converse
binding_back-returns-then-not-are_new-clause-converse t c =
    let l = c.args.binding.now in
    let after = c.args.refs.now.items in
    let mid = c.take_all.new.refs.items in
    let scope = c.in_ok-scope.scope.items in
    let takes = subst (λ xs. Takes after xs mid c.take_all.result) c.deref.ensures.value c.take_all.ensures.converse in
    let new = subst (λ scope. Distinct l.targets.items → NoneIn l.targets.items scope → IsTrue c.are_new.result) c.deref-4.ensures.value (subst (λ xs. Distinct xs → NoneIn xs c.deref-4.result.now → IsTrue c.are_new.result) c.deref-3.ensures.value c.are_new.ensures.converse) in
    targets_old (results_in c.args.code.now) l c.args.outer.now mid mid after scope c.take_all.result c.are_new.result takes
    (c.in_ok-scope.ensures ∙ ap (λ refs. refs ++ c.args.outer.now) c.deref-2.ensures.value) new c.if-not-are_new.true

pub binding_back-returns-clause-converse : goal.binding_back-returns-clause-converse
binding_back-returns-clause-converse t c =
    let code = results_in c.args.code.now in
    let l = c.args.binding.now in
    let r = code_right_term l.right in
    let after = c.args.refs.now.items in
    let mid = c.take_all.new.refs.items in
    let scope = c.in_ok-scope.scope.items in
    let takes = subst (λ xs. Takes after xs mid c.take_all.result) c.deref.ensures.value c.take_all.ensures.converse in
    let size : c.len-results.result ≡ length l.targets.items = grind (arith, c.len-results.ensures, l.targets.ok) in
    let tells = subst (λ o. Tells code c.len-results.result c.deref-5.result.now r o) c.in-None.is c.in_ok-mine.ensures.converse in
    right_lost code l c.args.outer.now mid mid after scope c.take_all.result takes
    (c.in_ok-scope.ensures ∙ ap (λ refs. refs ++ c.args.outer.now) c.deref-2.ensures.value)
    (subst (λ n. Tells code n scope r None) size (subst (λ scope. Tells code c.len-results.result scope r None) c.deref-5.ensures.value tells))

pub binding_back-returns-in-Some-clause-converse : goal.binding_back-returns-in-Some-clause-converse
binding_back-returns-in-Some-clause-converse t c =
    let code = results_in c.args.code.now in
    let l = c.args.binding.now in
    let r = code_right_term l.right in
    let after = c.args.refs.now.items in
    let mid = c.take_all.new.refs.items in
    let scope = c.in_ok-scope.scope.items in
    let mine = c.in-Some.mine in
    let takes = subst (λ xs. Takes after xs mid c.take_all.result) c.deref.ensures.value c.take_all.ensures.converse in
    let size : c.len-results.result ≡ length l.targets.items = grind (arith, c.len-results.ensures, l.targets.ok) in
    let tells = subst (λ o. Tells code c.len-results.result c.deref-5.result.now r o) c.in-Some.is c.in_ok-mine.ensures.converse in
    binding_determines code l c.args.outer.now c.extend_from_slice.new.self.items mid after scope c.take_all.result mine takes
    (c.in_ok-scope.ensures ∙ ap (λ refs. refs ++ c.args.outer.now) c.deref-2.ensures.value)
    (subst (λ n. Tells code n scope r (Some mine)) size (subst (λ scope. Tells code c.len-results.result scope r (Some mine)) c.deref-5.ensures.value tells))
    (c.in_ok-extend_from_slice-in-Some.ensures.items ∙ ap (λ xs. mid ++ xs) c.deref-in-Some.ensures.value)

pub block_is_counted-returns-in-None-clause-converse : goal.block_is_counted-returns-in-None-clause-converse
block_is_counted-returns-in-None-clause-converse t c counted =
    absurd (subst (λ o. IsSomeAnd o (λ refs. Reordered c.args.own.now refs.items)) c.in-None.is (c.in_ok-refs.ensures.converse c.args.own.now counted))

pub block_refs-returns-then-len-results-clause-converse : goal.block_refs-returns-then-len-results-clause-converse
block_refs-returns-then-len-results-clause-converse t c own counted =
    let b = c.args.block.now in
    let size : length b.results.items ≡ c.args.results = results_size (results_in c.args.code.now) c.args.results c.args.outer.now own b.results.items b.steps.items counted in
    grind (arith, size, c.if-len-results.true, c.len.ensures, b.results.ok)

pub block_refs-returns-then-not-branch-clause-converse : goal.block_refs-returns-then-not-branch-clause-converse
block_refs-returns-then-not-branch-clause-converse t c own counted =
    let b = c.args.block.now in
    let at = c.loop-left in
    none_back (results_in c.args.code.now) c.args.results c.args.outer.now c.step_back.new.refs.items at.refs.items b.results.items c.index.result.now c.index.result.now b.steps.items at.left c.in_ok-step_back.field-0 (omega (arith, c.loop-left-test.true)) at.invariant.within c.index.ensures c.in_ok-step_back.ensures.converse c.if-not-branch.true at.invariant.only own counted

pub nested_refs-returns-in_default-2-clause-converse : goal.nested_refs-returns-in_default-2-clause-converse
nested_refs-returns-in_default-2-clause-converse t c _ =
    let code = results_in c.args.code.now in
    let i = c.in-If in
    if_found code c.args.results c.args.scope.now i.cond (code_term i.yes) (code_term i.no) (code_right_term c.args.right.now) (ap code_right_term i.is ∙ if_term i.cond i.yes i.no)
    None (subst (λ o. Branch code c.args.results c.args.scope.now (code_term i.yes) o) c.in_default-2.is c.in_ok-mine-in-If.ensures.converse)

pub nested_refs-returns-then-branch-clause-converse : goal.nested_refs-returns-then-branch-clause-converse
nested_refs-returns-then-branch-clause-converse t c _ =
    let code = results_in c.args.code.now in
    let i = c.in-If in
    if_found code c.args.results c.args.scope.now i.cond (code_term i.yes) (code_term i.no) (code_right_term c.args.right.now) (ap code_right_term i.is ∙ if_term i.cond i.yes i.no)
    (Some c.in-Some.mine) (subst (λ o. Branch code c.args.results c.args.scope.now (code_term i.yes) o) c.in-Some.is c.in_ok-mine-in-If.ensures.converse)

pub nested_refs-returns-else-stands_in_either-clause-converse : goal.nested_refs-returns-else-stands_in_either-clause-converse
nested_refs-returns-else-stands_in_either-clause-converse t c _ own counted =
    let code = results_in c.args.code.now in
    let i = c.in-If in
    let n = c.args.results in
    let scope = c.args.scope.now in
    let mine = c.in-Some.mine in
    let r = code_right_term c.args.right.now in
    let e : r ≡ IfCode i.cond (code_term i.yes) (code_term i.no) = ap code_right_term i.is ∙ if_term i.cond i.yes i.no in
    let first = subst (λ o. Branch code n scope (code_term i.yes) o) c.in-Some.is c.in_ok-mine-in-If.ensures.converse in
    elim c.else-stands_in_either.branch [
      | nested_refs-else-stands_in_either-via-then-stands_in_either+in_ok-block_is_counted-in-If+else-branch w ↦ if_other code n scope i.cond (code_term i.yes) (code_term i.no) r e mine w.in_ok-block_is_counted-in-If.field-0 first (subst (λ mine. IsCounted code n scope mine (code_term i.no) → IsTrue w.in_ok-block_is_counted-in-If.field-0) w.deref-then-stands_in_either.ensures.value w.in_ok-block_is_counted-in-If.ensures.converse) w.if-branch.false own counted
      | nested_refs-else-stands_in_either-via-else-stands_in_either w ↦ if_unread code n scope i.cond (code_term i.yes) (code_term i.no) r e mine first (sym (c.stands_in_either.ensures ∙ ap (λ xs. is_in i.cond (xs ++ scope)) c.deref.ensures.value) ∙ w.if-stands_in_either.false) own counted
    ]

pub nested_refs-returns-else-branch-2-clause-converse : goal.nested_refs-returns-else-branch-2-clause-converse
nested_refs-returns-else-branch-2-clause-converse t c _ own counted =
    let code = results_in c.args.code.now in
    let l = c.in-Loop in
    let scope = c.args.scope.now in
    let parts = loop_parts code c.args.results scope l.first_body l.start.items l.params.items (code_term l.test) (code_term l.body) l.test_site (code_right_term c.args.right.now) (ap code_right_term l.is ∙ loop_term l.first_body l.start l.params l.test l.body l.test_site) own counted in
    elim c.else-branch-2.branch [
      | nested_refs-else-branch-2-via-then-branch-2+in_ok-block_is_counted-in-Loop-2+else-branch-3 w ↦ opposite (subst (λ xs. IsCounted code c.args.results scope xs (code_term l.body) → IsTrue w.in_ok-block_is_counted-in-Loop-2.field-0) w.deref-then-branch-2.ensures.value w.in_ok-block_is_counted-in-Loop-2.ensures.converse parts.6) w.if-branch-3.false
      | nested_refs-else-branch-2-via-else-branch-2 w ↦ opposite (subst (λ outer. IsCounted code 1 outer [] (code_term l.test) → IsTrue c.in_ok-block_is_counted-in-Loop.field-0) (c.deref-in-Loop-2.ensures.value ∙ c.in_ok-inside-in-Loop.ensures ∙ ap (λ xs. xs ++ scope) c.deref-in-Loop.ensures.value) c.in_ok-block_is_counted-in-Loop.ensures.converse parts.5) w.if-branch-2.false
    ]

pub nested_refs-returns-in_default : goal.nested_refs-returns-in_default
nested_refs-returns-in_default t c = record {
  counted = tt;
  converse = λ nested own counted. not_nested c.args.right.now c.in_default.not-If c.in_default.not-Loop nested;
}

pub parted_is_counted-returns-clause-converse : goal.parted_is_counted-returns-clause-converse
parted_is_counted-returns-clause-converse t c =
    let code = results_in c.args.code.now in
    let p = out-CodeParted c.args.parted.now in
    let scope = c.args.scope.now in
    then_asks c.parts_are_counted.result (λ counted. (let parts = parted_parts code scope p.frame p.base p.cell p.op (parts_term p.parts.items) p.reuse _ (parted_out c.args.parted.now) counted in subst (λ ps. CountedParts code scope (parts_term ps) × UnmarkedParts (parts_term ps)) (sym c.deref.ensures.value) (parts.2, parts.3))) c.parts_are_counted.ensures.converse

pub parted_is_counted-returns-then-is_some-clause-converse : goal.parted_is_counted-returns-then-is_some-clause-converse
parted_is_counted-returns-then-is_some-clause-converse t c counted =
    let code = results_in c.args.code.now in
    let p = out-CodeParted c.args.parted.now in
    let parts = parted_parts code c.args.scope.now p.frame p.base p.cell p.op (parts_term p.parts.items) p.reuse _ (parted_out c.args.parted.now) counted in
    absurd (elim c.then-is_some.branch [
      | parted_is_counted-then-is_some-via-then-is_some w ↦ opposite (sym c.is_some.ensures ∙ w.if-is_some.true) (ap is_some parts.0)
      | parted_is_counted-then-is_some-via-else-is_some+then-not-parted_reads w ↦ opposite (w.parted_reads.ensures.converse parts.1) w.if-not-parted_reads.true
    ])

pub right_refs-returns-else-results-ne1 : goal.right_refs-returns-else-results-ne1
right_refs-returns-else-results-ne1 t c =
    let code = results_in c.args.code.now in
    let r = code_right_term c.args.right.now in
    let scope = c.args.scope.now in
    let one : 1 ≡ c.args.results = grind (arith, c.if-results-ne1.false) in
    record {
      counted = subst (λ n. IfOk c.value_refs.result (λ o. IfSome o (λ mine. IsCountedRight code n scope mine.items r))) one c.value_refs.ensures.counted;
      converse = subst (λ n. IfOk c.value_refs.result (λ o. Tells code n scope r o)) one (c.value_refs.ensures.converse (is_value c.args.right.now c.in_default.not-If c.in_default.not-Loop c.in_default.not-Call c.in_default.not-Always));
    }

pub right_refs-returns-then-results-ne1 : goal.right_refs-returns-then-results-ne1
right_refs-returns-then-results-ne1 t c = record {
  counted = tt;
  converse = λ own counted. (let one : 1 ≡ c.args.results = value_size (results_in c.args.code.now) (code_right_term c.args.right.now) c.args.results c.args.scope.now own (is_value c.args.right.now c.in_default.not-If c.in_default.not-Loop c.in_default.not-Call c.in_default.not-Always) counted in grind (arith, one, c.if-results-ne1.true));
}

pub step_back-returns-else-not-take_out-clause-converse : goal.step_back-returns-else-not-take_out-clause-converse
step_back-returns-else-not-take_out-clause-converse t c =
    let code = results_in c.args.code.now in
    let x = c.in-Keep.x in
    let outer = c.args.outer.now in
    let left = c.take_out.new.xs.items in
    let after = c.args.refs.now.items in
    subst (λ s. Determines code outer left s after c.stands_in_either.result) (sym c.in-Keep.is)
    (keep_determines code outer left after x c.stands_in_either.result (sym c.take_out.ensures.was_there ∙ c.if-not-take_out.false) c.take_out.ensures.rest (c.stands_in_either.ensures ∙ ap (λ xs. is_in x (xs ++ outer)) c.deref.ensures.value))

pub step_back-returns-then-not-take_out-clause-converse : goal.step_back-returns-then-not-take_out-clause-converse
step_back-returns-then-not-take_out-clause-converse t c =
    let code = results_in c.args.code.now in
    let x = c.in-Keep.x in
    let left = c.take_out.new.xs.items in
    let after = c.args.refs.now.items in
    subst (λ s. Determines code c.args.outer.now left s after false) (sym c.in-Keep.is) (keep_lost code c.args.outer.now left after x (sym c.take_out.ensures.was_there ∙ c.if-not-take_out.true))

pub step_back-returns-in_ok-push-in-Release-clause-converse : goal.step_back-returns-in_ok-push-in-Release-clause-converse
step_back-returns-in_ok-push-in-Release-clause-converse t c =
    let code = results_in c.args.code.now in
    let after = c.args.refs.now.items in
    subst (λ s. Determines code c.args.outer.now c.push.new.self.items s after true) (sym c.in-Release.is) (release_determines code c.args.outer.now c.push.new.self.items after c.in-Release.x c.in_ok-push-in-Release.ensures.items)

pub value_refs-returns-in_default : goal.value_refs-returns-in_default
value_refs-returns-in_default t c =
    let code = results_in c.args.code.now in
    let r = code_right_term c.args.right.now in
    let scope = c.args.scope.now in
    let arm = c.in_default in
    let found = c.none_if-in_default in
    record {
      counted = none_counted code scope r c.only_reads.result found.result (λ holds. c.only_reads.ensures.counted holds code) found.ensures.holding found.ensures.empty;
      converse = λ value own counted. (let reads = only_reads c.args.right.now arm.not-Copy arm.not-Check arm.not-With arm.not-Parted value in none_found code own scope r c.only_reads.result found.result (reads_none code r scope own reads counted) counted (c.only_reads.ensures.converse reads code) found.ensures.found);
    }

pub value_refs-returns-in_ok-counted-in-Parted-clause-converse : goal.value_refs-returns-in_ok-counted-in-Parted-clause-converse
value_refs-returns-in_ok-counted-in-Parted-clause-converse t c _ own counted =
    let code = results_in c.args.code.now in
    let r = code_right_term c.args.right.now in
    let scope = c.args.scope.now in
    let answer = c.in_ok-counted-in-Parted in
    let p = out-CodeParted c.in-Parted.parted in
    none_found code own scope r answer.counted c.none_if-in-Parted.result (parted_none code scope p.frame p.base p.cell p.op (parts_term p.parts.items) p.reuse r (ap code_right_term c.in-Parted.is ∙ parted_out c.in-Parted.parted) own counted) counted
    (subst (λ r. IsCountedRight code 1 scope [] r → IsTrue answer.counted) (sym (ap code_right_term c.in-Parted.is)) answer.ensures.converse) c.none_if-in-Parted.ensures.found

pub value_refs-returns-in_ok-counted-in-With-clause-converse : goal.value_refs-returns-in_ok-counted-in-With-clause-converse
value_refs-returns-in_ok-counted-in-With-clause-converse t c _ own counted =
    let code = results_in c.args.code.now in
    let r = code_right_term c.args.right.now in
    let scope = c.args.scope.now in
    let answer = c.in_ok-counted-in-With in
    let w = out-CodeWith c.in-With.with in
    none_found code own scope r answer.counted c.none_if.result (with_none code scope w.op (gens_term w.gens.items) r (ap code_right_term c.in-With.is ∙ with_out c.in-With.with) own counted) counted
    (subst (λ r. IsCountedRight code 1 scope [] r → IsTrue answer.counted) (sym (ap code_right_term c.in-With.is)) answer.ensures.converse) c.none_if.ensures.found

pub with_is_counted-returns-clause-converse : goal.with_is_counted-returns-clause-converse
with_is_counted-returns-clause-converse t c =
    let code = results_in c.args.code.now in
    let w = out-CodeWith c.args.with.now in
    let scope = c.args.scope.now in
    then_asks c.gens_are_counted.result (λ counted. (let parts = with_parts code scope w.op (gens_term w.gens.items) _ (with_out c.args.with.now) counted in subst (λ gs. CountedGens code scope (gens_term gs) × UnmarkedGens (gens_term gs)) (sym c.deref.ensures.value) (parts.1, parts.2))) c.gens_are_counted.ensures.converse

pub with_is_counted-returns-then-not-operation_reads-clause-converse : goal.with_is_counted-returns-then-not-operation_reads-clause-converse
with_is_counted-returns-then-not-operation_reads-clause-converse t c counted =
    let w = out-CodeWith c.args.with.now in
    absurd (opposite (c.operation_reads.ensures.converse (with_parts (results_in c.args.code.now) c.args.scope.now w.op (gens_term w.gens.items) _ (with_out c.args.with.now) counted).0) c.if-not-operation_reads.true)
