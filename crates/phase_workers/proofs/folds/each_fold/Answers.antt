use denote.Param.Send.{sendable}
use Rattle.std.proofs.Common.{◌≡◌, length, sym, subst}
use Rattle.phase_books.specs.Homes.{CombinesAll, left_in, new_behind}
use Rattle.phase_cells.specs.Idle.{IsLending}
use Rattle.phase_kernels.specs.declared.cells.KernelCells.{KernelCells}
use Rattle.phase_loop_cells.specs.Opened.{OpenSource}
use Rattle.phase_team.specs.Segments.{cells_from, cost_from}
use Rattle.phase_workers.proofs.Shared.{phase_sync}
use Rattle.phase_workers.specs.Covered.{cell_of, taken_of}
use Rattle.run_values.specs.Scopes.{current}
use Rattle.sac_base.specs.Arrays.{size}
use Rattle.phase_workers.proofs.folds.each_fold.Goals as goal

pub compute_fold-requires-clause-positions : goal.compute_fold-requires-clause-positions
compute_fold-requires-clause-positions g c κs within =
    (c.requires.positions.0, subst (λ (s : KernelCells). c.args.count ≡ length s.cells.plan.now.frame) (sym c.of-kernels.ensures) c.requires.positions.1)

pub compute_fold-requires-clause-lending : goal.compute_fold-requires-clause-lending
compute_fold-requires-clause-lending g c κs within =
    subst (λ (s : KernelCells). IsLending (OpenSource s.cells.context s.cells.heap.now (current s.cells.frames.now) s.cells.source) s.cells.heap.now)
    (sym c.of-kernels.ensures) c.requires.lending

pub compute_fold-requires-clause-width : goal.compute_fold-requires-clause-width
compute_fold-requires-clause-width g c κs within =
    subst (λ (s : KernelCells). length c.args.value.now ≡ size s.cells.plan.now.form.shape) (sym c.of-kernels.ensures) c.requires.width

pub compute_fold-requires-clause-home : goal.compute_fold-requires-clause-home
compute_fold-requires-clause-home g c κs within =
    subst (λ (s : KernelCells). c.args.books.now.home ≡ new_behind s.cells.heap.now) (sym c.of-kernels.ensures) c.requires.home

pub returns-clause-combined : goal.returns-clause-combined
returns-clause-combined g c =
    let n = c.args.count in
    let after = c.compute_fold.new.value in
    let left = left_in c.compute_fold.new.books.home c.compute_fold.result in
    subst (λ (s : KernelCells). CombinesAll c.args.op (cells_from (cell_of s) 0 n) s.cells.heap.now (cost_from (taken_of s) 0 n) c.args.value.now after left)
    c.of-kernels.ensures c.compute_fold.ensures.combined

pub compute_fold-requires-sync-C : goal.compute_fold-requires-sync-C
compute_fold-requires-sync-C g c κs within =
    search (sendable, phase_sync (record { shared = c.shares-3.ensures.shared }) (record { shared = c.shares-4.ensures.shared }) (record { shared = c.shares-2.ensures.shared }) (record { shared = c.shares.ensures.shared }) (record { shared = c.shares-5.ensures.shared })) depth 14
