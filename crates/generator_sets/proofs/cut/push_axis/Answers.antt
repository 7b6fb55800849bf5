use Rattle.std.proofs.Common.{rules, ◌≤◌, ◌∙◌, ◌++◌, List, length, sym, ap, subst, append-nil}
use Rattle.std.specs.Option.{option_to_list}
use Rattle.std.proofs.lemmas.Option.{slice_get_past}
use Rattle.sac_base.specs.declared.grid.Grid1.{Grid1}
use Rattle.generator_sets.proofs.cut.push_axis.Goals as goal

pub returns-in-None : goal.returns-in-None
returns-in-None c =
    let xs = c.args.grids.now.items in
    let beyond : length c.axes.result.now ≤ c.args.axis = search rules in
    let past : length c.args.generator.now ≤ c.args.axis = subst (λ (l : List Grid1). length l ≤ c.args.axis) c.axes.ensures.axes beyond in
    sym (append-nil xs) ∙ ap (λ o. xs ++ option_to_list o) (sym (slice_get_past c.args.generator.now c.args.axis past))
