use Rattle.std.proofs.Common.{◌≡◌, refl, sym, ap, subst, ◌∙◌, inr, length, arith, IfSome}
use Rattle.std.specs.Prelude.{unwrap_or}
use Rattle.core_ir.specs.declared.tree.CoreFun.{CoreFun}
use Rattle.core_ir.specs.View.{core_term, fun_term, block_term}
use Rattle.core_subst.specs.Names.{above_function}
use Rattle.unreached_functions.specs.Emptied.{numbered, empty_body}
use Rattle.unreached_functions.proofs.Places.{mapped_at, read_at}
use Rattle.unreached_functions.proofs.Emptied.{emptied_is, function_emptied, some_exact}
use Rattle.unreached_functions.proofs.empty.empty_function.Goals as goal

pub returns-clause-emptied : goal.returns-clause-emptied
returns-clause-emptied c =
    let items = c.args.core.now.functions.items in
    let x = c.index.result.now in
    let y = c.index-2.result.now in
    let u = c.index-3.result.now in
    let z = c.index_mut.result.now in
    let at_x = read_at items c.args.place x c.requires c.index.ensures in
    let at_y = read_at items c.args.place y c.requires c.index-2.ensures in
    let at_u = read_at items c.args.place u c.requires c.index-3.ensures in
    let at_z = read_at items c.args.place z c.requires c.index_mut.ensures.value in
    let x_is_z : x ≡ z = ap (λ o. unwrap_or o z) (sym at_x ∙ at_z) in
    let y_is_z : y ≡ z = ap (λ o. unwrap_or o z) (sym at_y ∙ at_z) in
    let u_is_z : u ≡ z = ap (λ o. unwrap_or o z) (sym at_u ∙ at_z) in
    let first : c.in-Some.first.0 ≡ above_function (fun_term z) = some_exact (above_function (fun_term x)) c.in-Some.first (sym c.fresh.ensures.exact ∙ c.in-Some.is) ∙ ap (λ (f : CoreFun). above_function (fun_term f)) x_is_z in
    let count : c.len-count.result ≡ length z.results.items =
    let same = ap (λ (f : CoreFun). length f.results.items) y_is_z in
    omega (arith, c.len-count.ensures, same) in
    let vars = subst (λ o. IfSome o (λ v. v.items ≡ numbered c.in-Some.first.0 c.len-count.result)) c.in-Some-2.is c.in_ok-targets.ensures in
    let body : block_term c.in_ok-body.body ≡ empty_body (fun_term z) =
    emptied_is (fun_term z) (block_term c.in_ok-body.body) c.in-Some-2.targets.items c.in-Some.first.0 c.len-count.result u.site c.in_ok-body.ensures vars first count (ap (λ (f : CoreFun). f.site) u_is_z) in
    inr (function_emptied (core_term c.args.core.now) items c.args.place z _ refl (mapped_at fun_term items c.args.place z at_z) (λ i. record (fun_term z) { body = body i }))
