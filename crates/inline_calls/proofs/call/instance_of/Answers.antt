use Rattle.std.proofs.Common.{◌≡◌, [], ◌∙◌, ap, subst, Some, arith}
use Rattle.std.specs.Prelude.{slice_get, unwrap_or}
use Rattle.core_ir.specs.View.{core_term, fun_term}
use Rattle.inline_calls.proofs.Instances.{mapped_at, one_item, read_at, is_instance, no_instance}
use Rattle.inline_calls.proofs.call.instance_of.Goals as goal

pub returns-then-function-clause-found : goal.returns-then-function-clause-found
returns-then-function-clause-found c =
    let ps = c.in_ok-places.places.now in
    let f = c.in_ok-function.function.now in
    let p = c.index.result.now in
    let there = subst (λ xs. slice_get xs c.args.group ≡ Some ps) c.deref.ensures.value (read_at c.deref.result.now c.args.group ps c.in_ok-places.ensures.lookup.3.0 c.in_ok-places.ensures.lookup.1) in
    let alone = ap (λ o. unwrap_or o []) (mapped_at (λ g. g.items) c.args.core.now.groups.items c.args.group ps there) ∙ one_item ps.items p (omega (arith, c.len.ensures, c.if-len-ne1.false)) c.index.ensures in
    let at = subst (λ xs. slice_get xs p ≡ Some f) c.deref-2.ensures.value (read_at c.deref-2.result.now p f c.in_ok-function.ensures.lookup.3.0 c.in_ok-function.ensures.lookup.1) in
    is_instance (core_term c.args.core.now) c.args.group p (fun_term f) alone (mapped_at fun_term c.args.core.now.functions.items p f at) c.if-function.true

pub returns-else-function-clause-none : goal.returns-else-function-clause-none
returns-else-function-clause-none c =
    let ps = c.in_ok-places.places.now in
    let f = c.in_ok-function.function.now in
    let p = c.index.result.now in
    let there = subst (λ xs. slice_get xs c.args.group ≡ Some ps) c.deref.ensures.value (read_at c.deref.result.now c.args.group ps c.in_ok-places.ensures.lookup.3.0 c.in_ok-places.ensures.lookup.1) in
    let alone = ap (λ o. unwrap_or o []) (mapped_at (λ g. g.items) c.args.core.now.groups.items c.args.group ps there) ∙ one_item ps.items p (omega (arith, c.len.ensures, c.if-len-ne1.false)) c.index.ensures in
    let at = subst (λ xs. slice_get xs p ≡ Some f) c.deref-2.ensures.value (read_at c.deref-2.result.now p f c.in_ok-function.ensures.lookup.3.0 c.in_ok-function.ensures.lookup.1) in
    no_instance (core_term c.args.core.now) c.args.group p (fun_term f) alone (mapped_at fun_term c.args.core.now.functions.items p f at) c.if-function.false
