use Rattle.std.proofs.Common.{ap, sym, ◌∙◌, length}
use Rattle.sac_base.proofs.GridFacts.{no_member}
use Rattle.sac_base.proofs.grid.Grid.contains.Goals as goal

pub returns-then-axes-index : goal.returns-then-axes-index
returns-then-axes-index c =
    sym (no_member c.args.self.now c.args.index.now (λ e. c.if-axes-index.true (ap length c.axes-axes.ensures.axes ∙ e)))
