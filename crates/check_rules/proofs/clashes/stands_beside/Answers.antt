use Rattle.std.proofs.Common.{◌+◌, take, drop, sym, ap, ◌∙◌, ◌&&◌}
use Rattle.std.specs.List.{list_all}
use Rattle.sac_ast.specs.View.{function, functions}
use Rattle.check_rules.specs.Accepted.{may_stand_together}
use Rattle.check_rules.specs.Programs.{stands_with}
use Rattle.check_rules.proofs.Clashing.{stands_at}
use Rattle.check_rules.proofs.clashes.stands_beside.Goals as goal

pub loop-k-init : goal.loop-k-init
loop-k-init c = ap (list_all (may_stand_together (function c.args.f.now))) c.first_before-first.ensures

pub returns-then-not-stands_if_named : goal.returns-then-not-stands_if_named
returns-then-not-stands_if_named c =
    let fs = c.args.functions.now.all.now in
    let f = function c.args.f.now in
    let rest = stands_with f (functions (drop (c.loop-k.k + 1) (take c.args.at fs))) in
    ap (λ b. b && rest) (sym (sym c.stands_if_named.ensures ∙ c.if-not-stands_if_named.true))
    ∙ sym (stands_at f fs c.args.at c.loop-k.k c.index-functions-k.result c.requires c.loop-k-test.true) ∙ c.loop-k.invariant

pub loop-k-preserved : goal.loop-k-preserved
loop-k-preserved c =
    let fs = c.args.functions.now.all.now in
    let f = function c.args.f.now in
    let rest = stands_with f (functions (drop (c.loop-k.k + 1) (take c.args.at fs))) in
    ap (λ b. b && rest) (sym (sym c.stands_if_named.ensures ∙ c.if-not-stands_if_named.false))
    ∙ sym (stands_at f fs c.args.at c.loop-k.k c.index-functions-k.result c.requires c.loop-k-test.true) ∙ c.loop-k.invariant
