use Rattle.std.proofs.Common.{◌≡◌, sym, ap, ◌∙◌, take, ◌||◌, not}
use Rattle.std.specs.Prelude.{option_map, ◌==◌}
use Rattle.std.proofs.lemmas.List.{take-map}
use Rattle.sac_ast.specs.View.{function, functions}
use Rattle.check_rules.specs.Accepted.{is_inline, count_named}
use Rattle.check_rules.specs.First.{earlier}
use Rattle.check_rules.specs.Places.{place}
use Rattle.check_rules.proofs.Positions.{rules_from, counts_below}
use Rattle.check_rules.proofs.calls.call_rules.Goals as goal

pub returns : goal.returns
returns c =
    let p = place c.args.here.now in
    let name = c.args.name.now in
    let args = c.args.args.now in
    let site = c.args.site in
    let fs = c.args.here.now.functions.now.all.now in
    let first = option_map (λ f. function f.now) c.first_named-first.result in
    let before : count_named (functions fs) name == count_named (take c.args.here.now.at (functions fs)) name ≡ count_named p.functions name == count_named p.before name = ap (λ gs. count_named (functions fs) name == count_named gs name) (take-map function c.args.here.now.at fs) in
    let order = c.stands_earlier.ensures ∙ ap (λ b. not p.inline || not (is_inline first) || b) (sym (counts_below (functions fs) c.args.here.now.at name) ∙ before) in
    c.earlier-3.ensures
    ∙ (λ i. earlier ((c.earlier-2.ensures ∙ (λ j. earlier ((c.earlier.ensures ∙ (λ k. earlier (c.unless-there.ensures k) (c.unless-numbers.ensures k))) j) (c.unless-bases.ensures j))) i) (c.unless-order.ensures i))
    ∙ rules_from p name args c.args.results site first c.is_there.result c.numbers_fit.result c.are_taken.result c.stands_earlier.result c.first_named-first.ensures c.is_there.ensures c.numbers_fit.ensures c.are_taken.ensures order
