use Rattle.std.proofs.Common.{◌≡◌, refl, sym, ap, subst, ◌∙◌, arith}
use Rattle.std.specs.Prelude.{unwrap_or}
use Rattle.core_ir.specs.View.{core_term, fun_term, block_term}
use Rattle.core_ir.specs.declared.tree.Core.{Core}
use Rattle.core_ir.specs.declared.tree.CoreFun.{CoreFun}
use Rattle.core_subst.specs.Names.{above_function}
use Rattle.core_forms.specs.inlined_bodies.Inlining.{BlockInlined}
use Rattle.core_forms.specs.inlined_bodies.Functions.{Anywhere}
use Rattle.inline_calls.proofs.Passes.{set_term}
use Rattle.inline_calls.proofs.Sizing.{size_kept}
use Rattle.inline_calls.proofs.Instances.{mapped_at, read_at, none_full, some_exact, function_stays, function_put}
use Rattle.inline_calls.proofs.functions.inline_function.Goals as goal

pub returns-in_default-clause-inlined : goal.returns-in_default-clause-inlined
returns-in_default-clause-inlined c =
    let f = c.index.result.now in
    let there = mapped_at fun_term c.args.core.now.functions.items c.args.place f (read_at c.args.core.now.functions.items c.args.place f c.requires.within c.index.ensures) in
    function_stays (core_term c.args.core.now) c.args.place (fun_term f) there (none_full (above_function (fun_term f)) (sym c.fresh.ensures.exact ∙ c.in_default.is))

pub returns-clause-inlined : goal.returns-clause-inlined
returns-clause-inlined c =
    let items = c.args.core.now.functions.items in
    let x = c.index.result.now in
    let y = c.index-2.result.now in
    let z = c.index_mut.result.now in
    let at_x = read_at items c.args.place x c.requires.within c.index.ensures in
    let at_y = read_at items c.args.place y c.requires.within c.index-2.ensures in
    let at_z = read_at items c.args.place z c.requires.within c.index_mut.ensures.value in
    let x_is_z : x ≡ z = ap (λ o. unwrap_or o z) (sym at_x ∙ at_z) in
    let y_is_z : y ≡ z = ap (λ o. unwrap_or o z) (sym at_y ∙ at_z) in
    let number : c.in-Some.new.0 ≡ above_function (fun_term z) = some_exact (above_function (fun_term x)) c.in-Some.new (sym c.fresh.ensures.exact ∙ c.in-Some.is) ∙ ap (λ (f : CoreFun). above_function (fun_term f)) x_is_z in
    let from : c.from.result ≡ above_function (fun_term z) = omega (arith, c.from.ensures, number) in
    let walked =
    subst (λ (m : Core). BlockInlined (core_term m) Anywhere (record { count = 0; above = c.from.result }) (block_term y.body) (block_term c.in_ok-body.body) c.inline_block.new.growth) c.new-work.ensures c.in_ok-body.ensures in
    function_put (core_term c.args.core.now) _ c.args.place (fun_term z) (block_term c.in_ok-body.body) (record { count = 0; above = c.from.result }) c.inline_block.new.growth
    (mapped_at fun_term items c.args.place z at_z) (λ i. record { count = 0; above = from i })
    (subst (λ (f : CoreFun). BlockInlined (core_term c.args.core.now) Anywhere (record { count = 0; above = c.from.result }) (block_term f.body) (block_term c.in_ok-body.body) c.inline_block.new.growth) y_is_z walked)
    (set_term items c.args.place _)

pub returns-clause-sized : goal.returns-clause-sized
returns-clause-sized c =
    size_kept (core_term c.args.core.now) c.args.core.now.functions.items c.args.place _ c.index-3.result.now c.args.sizes.now.items c.note_size.new.sizes.items c.size_of-size.result
    refl c.requires.within c.index-3.ensures c.size_of-size.ensures c.requires.sized c.note_size.ensures
