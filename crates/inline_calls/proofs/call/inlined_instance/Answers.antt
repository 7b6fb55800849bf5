use Rattle.std.proofs.Common.{◌≡◌, map, rules, arith}
use Rattle.core_ir.specs.View.{core_term, fun_term, let_term}
use Rattle.inline_calls.proofs.Instances.{call_placed}
use Rattle.inline_calls.proofs.call.inlined_instance.Goals as goal

pub inlined_bindings-requires : goal.inlined_bindings-requires
inlined_bindings-requires c =
    let is = c.size_at-size.ensures c.in-Some.ensures.found.0 c.in-Some.ensures.found.1 in
    let low = (c.in-Some-grown_with.ensures.fits (fun_term c.in-Some.function.now) is).0.low in
    let same : c.in-Ok.by ≡ c.args.growth.above = search rules in
    omega (arith, low, same)

pub returns-clause-placed : goal.returns-clause-placed
returns-clause-placed c =
    let is = c.size_at-size.ensures c.in-Some.ensures.found.0 c.in-Some.ensures.found.1 in
    let fits = c.in-Some-grown_with.ensures.fits (fun_term c.in-Some.function.now) is in
    call_placed (core_term c.args.work.now.core.now) c.args.growth c.in-Some-grown_with.growth_after c.args.group c.in-Some.ensures.found.0 c.in-Ok.by (fun_term c.in-Some.function.now) c.args.targets.now c.args.args.now c.args.site (map let_term c.in_ok-lets.lets.items)
    c.in-Some.ensures.found.1 fits.0 fits.1 (search rules) c.in_ok-lets.ensures
