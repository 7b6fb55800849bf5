use Rattle.std.proofs.Common.{rules, arith, ◌≡◌, ◌≤◌, ◌++◌, length, ap, subst, ◌∙◌, Ok}
use Rattle.fold_pieces.proofs.Backward.{few_back}
use Rattle.fold_pieces.proofs.moving.moved_grid.Goals as goal

pub new-requires : goal.new-requires
new-requires c =
    let few : length c.axes.result.now ≤ 8 = subst (λ l. length l ≤ 8) (Rattle.std.proofs.Common.sym c.axes.ensures.axes) c.axes.ensures.few in
    let n : length c.push_moved.new.moved.items ≤ 8 = few_back c.args.by.now c.axes.result.now c.new-axes.result.items c.push_moved.new.moved.items
    (c.in_ok-push_moved.ensures.moved (ap Ok c.if-branch.true)) c.new-axes.ensures.items few in
    search rules
