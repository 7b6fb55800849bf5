use Rattle.std.proofs.Common.{◌≡◌, subst, ◌∙◌, arith}
use Rattle.phase_team.specs.Segments.{value_if}
use Rattle.phase_team.proofs.Stored.{costs_free}
use Rattle.phase_chunks.specs.Gathering.{GatheredNext}
use Rattle.phase_chunks.proofs.gather.gather_next.Goals as goal
use Rattle.phase_chunks.proofs.gather.gather_next.Goals.{then-work-eq1+else-together-gt0, else-work-eq1}

pub returns-then-together-gt0-clause-spent : goal.returns-then-together-gt0-clause-spent
returns-then-together-gt0-clause-spent g c =
    let spent = g.C.PhaseCells.spent c.args.work.now.cells.now in
    costs_free (g.C.PhaseCells.cost c.args.work.now.cells.now) c.args.stretch.start c.gather_together-together.result (spent c.args.worker.now.context)
    (spent c.gather_together-together.new.worker.context) c.gather_together-together.ensures.free c.gather_together-together.ensures.spent

pub returns-clause-ran : goal.returns-clause-ran
returns-clause-ran g c =
    let cell = g.C.PhaseCells.cell c.args.work.now.cells.now in
    let same : c.if-work-eq1.row ≡ c.args.row.now = elim c.if-work-eq1.branch [
      | then-work-eq1+else-together-gt0 w ↦ w.row-is ∙ w.gather_together-together.ensures.none (omega (arith, w.if-together-gt0.false))
      | else-work-eq1 w ↦ w.row-is
    ] in
    subst (λ r. GatheredNext c.args.op c.args.work.now.share.width cell c.args.stretch.start c.args.stretch.count (value_if c.args.held.now r) (value_if c.gather_one.new.held c.gather_one.new.row) c.gather_one.result) same
    (c.gather_one.ensures.ran c.args.stretch.count c.requires.some)
