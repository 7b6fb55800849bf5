use denote.Param.Send.{sendable}
use Rattle.std.proofs.Common.{◌≡◌, length, sym, subst}
use Rattle.phase_books.specs.Homes.{ComputesAll, left_in, new_behind}
use Rattle.phase_cells.specs.Idle.{IsLending}
use Rattle.phase_kernels.specs.declared.cells.KernelCells.{KernelCells}
use Rattle.phase_loop_cells.specs.Opened.{OpenSource}
use Rattle.phase_team.specs.Segments.{cells_from, cost_from}
use Rattle.phase_workers.proofs.Shared.{covered_sync}
use Rattle.phase_workers.specs.Covered.{cell_of, must_be_there, taken_of}
use Rattle.run_values.specs.Scopes.{current}
use Rattle.sac_base.specs.Arrays.{size}
use Rattle.phase_workers.proofs.covered.each_cell.Goals as goal

pub compute_array-requires-clause-positions : goal.compute_array-requires-clause-positions
compute_array-requires-clause-positions g c κs within =
    let is = sym c.of-kernels.ensures in (
      c.requires.positions.0,
      subst (λ (s : KernelCells). c.args.count ≡ length s.cells.plan.now.frame) is c.requires.positions.1,
      subst (λ (s : KernelCells). c.args.width ≡ size s.cells.plan.now.form.shape) is c.requires.positions.2,
    )

pub compute_array-requires-clause-lending : goal.compute_array-requires-clause-lending
compute_array-requires-clause-lending g c κs within =
    subst (λ (s : KernelCells). IsLending (OpenSource s.cells.context s.cells.heap.now (current s.cells.frames.now) s.cells.source) s.cells.heap.now)
    (sym c.of-kernels.ensures) c.requires.lending

pub compute_array-requires-clause-home : goal.compute_array-requires-clause-home
compute_array-requires-clause-home g c κs within =
    subst (λ (s : KernelCells). c.args.books.now.home ≡ new_behind s.cells.heap.now) (sym c.of-kernels.ensures) c.requires.home

pub returns-clause-computed : goal.returns-clause-computed
returns-clause-computed g c =
    let n = c.args.count in
    let into = c.compute_array.new.into in
    let left = left_in c.compute_array.new.books.home c.compute_array.result in
    subst (λ (s : KernelCells). ComputesAll (cells_from (λ p. must_be_there (cell_of s p)) 0 n) s.cells.heap.now (cost_from (taken_of s) 0 n) into left)
    c.of-kernels.ensures c.compute_array.ensures.computed

pub compute_array-requires-sync-C : goal.compute_array-requires-sync-C
compute_array-requires-sync-C g c κs within =
    search (sendable, covered_sync (record { shared = c.shares-3.ensures.shared }) (record { shared = c.shares-4.ensures.shared }) (record { shared = c.shares-2.ensures.shared }) (record { shared = c.shares.ensures.shared }) (record { shared = c.shares-5.ensures.shared })) depth 14
