use Rattle.std.proofs.Common.{sym, ap, ◌∙◌}
use Rattle.std.specs.Prelude.{find}
use Rattle.sac_ast.specs.View.{functions}
use Rattle.sac_ast.specs.Bases.{first_named}
use Rattle.check_rules.specs.Tables.{place_of}
use Rattle.check_rules.specs.Groups.{takes_beside}
use Rattle.check_rules.proofs.Positions.{found_from, taken_later, functions_behind}
use Rattle.check_rules.proofs.Instances.{instance_is}
use Rattle.check_rules.proofs.functions.Functions.instance.Goals as goal

pub returns-in-None : goal.returns-in-None
returns-in-None c =
    let all = functions c.args.self.now.all.now in
    let name = c.args.name.now in
    let bases = c.args.bases.now in
    let takes = takes_beside (first_named all name) name bases in
    let found = c.in-None.ensures.value ∙ ap (place_of c.args.self.now.firsts) c.as_str.ensures.bytes ∙ c.args.self.now.first name in
    ap (found_from takes all) found ∙ sym (taken_later (first_named all name) name bases all) ∙ instance_is all name bases

pub returns-in-Some : goal.returns-in-Some
returns-in-Some c =
    let fs = c.args.self.now.all.now in
    let all = functions fs in
    let name = c.args.name.now in
    let bases = c.args.bases.now in
    let takes = takes_beside (first_named all name) name bases in
    let found = c.in-Some.ensures.value ∙ ap (place_of c.args.self.now.firsts) c.as_str.ensures.bytes ∙ c.args.self.now.first name in
    c.first_taking.ensures
    ∙ (λ i. find (takes_beside (c.first_named.ensures i) name bases) (functions_behind fs c.in-Some.place.now i))
    ∙ ap (found_from takes all) found ∙ sym (taken_later (first_named all name) name bases all) ∙ instance_is all name bases
