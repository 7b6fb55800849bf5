use Rattle.std.proofs.Common.{◌≡◌, get_or, true, sym, ◌∙◌, subst, arith}
use Rattle.sac_ast.specs.View.{function, functions}
use Rattle.source_meaning.specs.Calls.{is_least}
use Rattle.sac_ast.proofs.FirstPlaces.{position_at, position_none}
use Rattle.source_meaning.proofs.calls.choose_instance.Goals as goal

pub returns-then-is_least-clause-told : goal.returns-then-is_least-clause-told
returns-then-is_least-clause-told c =
    let fs = c.args.functions.now in
    let p = is_least (functions fs) c.args.name.now c.args.args.now in
    let here : p (function (get_or fs c.loop-i.i c.index-functions-i.result)) ≡ true = subst (λ f. p (function f) ≡ true) c.index-functions-i.is (sym c.is_least.ensures ∙ c.if-is_least.true) in
    sym (position_at p function fs c.loop-i.i c.index-functions-i.result c.loop-i-test.true here c.loop-i.invariant)

pub returns-clause-told : goal.returns-clause-told
returns-clause-told c =
    let fs = c.args.functions.now in
    let p = is_least (functions fs) c.args.name.now c.args.args.now in
    sym (position_none p function fs (λ k e h. c.loop-i.invariant k e (omega (arith, h, c.loop-i-test.false))))
