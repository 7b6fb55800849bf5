use Rattle.std.proofs.Common.{◌∙◌, ap, map, take, sym}
use Rattle.std.proofs.lemmas.List.{take-map}
use lib.IntN.{nat_abs}
use Rattle.sac_base.proofs.shape.Shape.first.Goals as goal

pub returns : goal.returns
returns c = ap (map nat_abs) c.truncate.ensures.items ∙ sym (take-map nat_abs c.args.n _) ∙ ap (take c.args.n) (c.shape.view_is ∙ c.copy-shape.ensures)
