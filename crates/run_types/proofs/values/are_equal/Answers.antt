use Rattle.std.proofs.Common.{sym, ◌∙◌, map}
use Rattle.std.specs.Prelude.{nat_eq, unsigned_abs}
use Rattle.std.specs.Cmp.Lexicographic.{unequal}
use Rattle.std.proofs.lemmas.List.{length-map}
use Rattle.run_types.proofs.values.are_equal.Goals as goal

pub returns-then-extents-others : goal.returns-then-extents-others
returns-then-extents-others c =
    let xs = c.args.extents.now in
    let ys = c.args.others.now in
    sym (unequal nat_eq (map unsigned_abs xs) (map unsigned_abs ys) (λ e. c.if-extents-others.true (sym (length-map xs unsigned_abs) ∙ e ∙ length-map ys unsigned_abs)))
