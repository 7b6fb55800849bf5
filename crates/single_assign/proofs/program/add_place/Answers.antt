use Rattle.std.proofs.Common.{ℕ, sym, ◌∙◌, Vec, Global, map}
use Rattle.std.proofs.lemmas.List.{length-map}
use Rattle.single_assign.proofs.Groups.{none_more, put_in}
use Rattle.core_scopes.proofs.Once.{place_found, place_missed}
use Rattle.single_assign.proofs.program.add_place.Goals as goal

pub returns-in_ok-push : goal.returns-in_ok-push
returns-in_ok-push c =
    let keys = c.args.names.now.keys in
    let groups = c.args.groups.now.items in
    put_in (λ (g : Vec ℕ Global). g.items) c.args.name.now c.args.place keys groups c.in-Some.group c.index_mut.result.now c.push.new.self
    c.requires c.len-count.ensures.unique
    (place_found keys c.args.name.now c.in-Some.group (sym c.in-Some.is ∙ c.get_index_of.ensures.index))
    c.in-Some.ensures.within c.index_mut.ensures.value c.in_ok-push.ensures.items

pub returns-in_default : goal.returns-in_default
returns-in_default c =
    let keys = c.args.names.now.keys in
    let groups = c.args.groups.now.items in
    sym (none_more c.args.name.now c.args.place keys (map (λ (g : Vec ℕ Global). g.items) groups) (length-map groups (λ (g : Vec ℕ Global). g.items) ∙ c.requires)
    (sym (place_missed keys c.args.name.now (sym c.in_default.is ∙ c.get_index_of.ensures.index))))
