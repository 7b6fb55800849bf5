use Rattle.std.proofs.Common.{◌≡◌, ℕ, [], refl, ap, sym, subst, ◌∙◌, arith}
use Rattle.sac_base.specs.Verdict.{each}
use Rattle.phase_team.specs.Segments.{cells_from, value_if, Costs}
use Rattle.phase_team.proofs.Sequences.{widths_none}
use Rattle.phase_team.proofs.Stored.{costs_both}
use Rattle.phase_team.proofs.Steps.{costs_none}
use Rattle.phase_chunks.proofs.Gathering.{gathered_both, stops_after}
use Rattle.phase_chunks.proofs.gather.gather.Goals as goal

pub loop-done-init : goal.loop-done-init
loop-done-init g c = record {
  most = omega arith;
  combined_so_far = ([], refl, refl, widths_none c.args.work.now.share.width);
  worker = c.requires.worker;
  spent = costs_none (g.C.PhaseCells.cost c.args.work.now.cells.now) c.args.stretch.start (g.C.PhaseCells.spent c.args.work.now.cells.now c.args.worker.now.context) (g.C.PhaseCells.spent c.args.work.now.cells.now c.args.worker.now.context) (λ kind. refl);
  seat = refl;
}

pub loop-done-preserved : goal.loop-done-preserved
loop-done-preserved g c =
    let cell = g.C.PhaseCells.cell c.args.work.now.cells.now in
    let spent = g.C.PhaseCells.spent c.args.work.now.cells.now in
    let next = c.in-Ok.ensures.ran in
    record {
      most = omega (arith, next.1, c.loop-done.invariant.most);
      combined_so_far = gathered_both cell c.args.stretch.start c.loop-done.done c.in-Ok.more c.args.op c.args.work.now.share.width (value_if c.loop-done.held c.loop-done.row) (value_if c.gather_next.new.held c.gather_next.new.row) c.loop-done.invariant.combined_so_far (next.2, next.3, next.4, next.5);
      worker = c.gather_next.ensures.worker;
      spent = costs_both (g.C.PhaseCells.cost c.args.work.now.cells.now) c.args.stretch.start c.loop-done.done c.in-Ok.more (spent c.args.worker.now.context) (spent c.loop-done.worker.context) (spent c.gather_next.new.worker.context) c.loop-done.invariant.spent c.in-Ok.ensures.spent;
      seat = c.gather_next.ensures.seat ∙ c.loop-done.invariant.seat;
    }

pub returns-in-Err-clause-ran : goal.returns-in-Err-clause-ran
returns-in-Err-clause-ran g c =
    stops_after (g.C.PhaseCells.cell c.args.work.now.cells.now) c.args.stretch.start c.loop-done.done c.args.stretch.count c.args.op c.args.work.now.share.width _ c.gather_next.new.row c.in-Err.stop c.loop-done.invariant.most c.loop-done.invariant.combined_so_far c.in-Err.ensures.ran

pub returns-clause-ran : goal.returns-clause-ran
returns-clause-ran g c =
    let cell = g.C.PhaseCells.cell c.args.work.now.cells.now in
    let sofar = c.loop-done.invariant.combined_so_far in
    let end : c.loop-done.done ≡ c.args.stretch.count = omega (arith, c.loop-done.invariant.most, c.loop-done-test.false) in
    (sofar.0, ap (λ (n : ℕ). each (cells_from cell c.args.stretch.start n)) (sym end) ∙ sofar.1, sofar.2, sofar.3)

pub returns-clause-spent : goal.returns-clause-spent
returns-clause-spent g c =
    let end : c.loop-done.done ≡ c.args.stretch.count = omega (arith, c.loop-done.invariant.most, c.loop-done-test.false) in
    subst (λ (n : ℕ). Costs (g.C.PhaseCells.cost c.args.work.now.cells.now) c.args.stretch.start n (g.C.PhaseCells.spent c.args.work.now.cells.now c.args.worker.now.context) (g.C.PhaseCells.spent c.args.work.now.cells.now c.loop-done.worker.context)) end c.loop-done.invariant.spent
