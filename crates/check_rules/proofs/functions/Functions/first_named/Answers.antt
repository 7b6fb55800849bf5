use Rattle.std.proofs.Common.{sym, ap, ◌∙◌}
use Rattle.sac_ast.specs.View.{functions}
use Rattle.check_rules.specs.Accepted.{is_named}
use Rattle.check_rules.specs.Tables.{place_of}
use Rattle.check_rules.proofs.Positions.{at_place, find_is, read_at}
use Rattle.check_rules.proofs.functions.Functions.first_named.Goals as goal

pub returns-in-None : goal.returns-in-None
returns-in-None c =
    let all = functions c.args.self.now.all.now in
    let found = c.in-None.ensures.value ∙ ap (place_of c.args.self.now.firsts) c.as_str.ensures.bytes ∙ c.args.self.now.first c.args.name.now in
    ap (at_place all) found ∙ sym (find_is (is_named c.args.name.now) all)

pub returns-in-Some : goal.returns-in-Some
returns-in-Some c =
    let fs = c.args.self.now.all.now in
    let all = functions fs in
    let found = c.in-Some.ensures.value ∙ ap (place_of c.args.self.now.firsts) c.as_str.ensures.bytes ∙ c.args.self.now.first c.args.name.now in
    let there = c.get-in-Some.ensures.lookup in
    read_at fs c.in-Some.place.now c.get-in-Some.result there.0 there.1 ∙ ap (at_place all) found ∙ sym (find_is (is_named c.args.name.now) all)
