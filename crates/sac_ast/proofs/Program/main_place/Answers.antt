use Rattle.std.proofs.Common.{◌≡◌, get_or, true, sym, ap, ◌∙◌, arith}
use Rattle.sac_ast.specs.View.{function}
use Rattle.sac_ast.specs.Mains.{is_main, MAIN}
use Rattle.std.specs.Prelude.{bytes_eq}
use Rattle.sac_ast.proofs.FirstPlaces.{position_at, position_none}
use Rattle.sac_ast.proofs.Program.main_place.Goals as goal

pub returns-then-eq-clause-told : goal.returns-then-eq-clause-told
returns-then-eq-clause-told c =
    let fs = c.args.self.now.functions.items in
    let e = c.eq.ensures in
    let s = c.as_str.ensures.bytes in
    let t = c.if-eq.true in
    let here : is_main (function (get_or fs c.loop-i.i c.index.result.now)) ≡ true = ap (λ g. is_main (function g)) (sym c.index.ensures) ∙ ap (λ n. bytes_eq n MAIN) (sym s) ∙ sym e ∙ t in
    sym (position_at is_main function fs c.loop-i.i c.index.result.now (omega (arith, c.loop-i-test.true, c.len-i-end.ensures)) here c.loop-i.invariant)

pub returns-clause-told : goal.returns-clause-told
returns-clause-told c =
    let fs = c.args.self.now.functions.items in
    sym (position_none is_main function fs (λ k e h. c.loop-i.invariant k e (omega (arith, h, c.loop-i-test.false, c.len-i-end.ensures))))
