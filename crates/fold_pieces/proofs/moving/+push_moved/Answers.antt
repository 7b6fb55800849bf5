use Rattle.std.proofs.Common.{rules, ◌≡◌, ◌∷◌, subst}
use Rattle.std.specs.List.{All}
use Rattle.std.proofs.lemmas.List.Elements.{All-tail}
use Rattle.fold_pieces.specs.Pieces.{IsNearAxis}
use Rattle.fold_pieces.proofs.moving.+push_moved.Goals as goal

pub returns-in_ok-push-in-Some-moved_axis-clause-far : goal.returns-in_ok-push-in-Some-moved_axis-clause-far
returns-in_ok-push-in-Some-moved_axis-clause-far t c = λ e all.
    let axis = c.in-Some-split_first.axis.now in
    let others = c.in-Some-split_first.others.now in
    let split : c.args.axes.now ≡ axis ∷ others = search rules in
    c.push_moved.ensures.far e (All-tail IsNearAxis axis others (subst (All IsNearAxis) split all))
