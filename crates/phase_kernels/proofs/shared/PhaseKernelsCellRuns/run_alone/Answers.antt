use Rattle.std.proofs.Common.{rules, ◌≡◌, ◌<◌, FitsSigned, w32, List, ℤ, ◌∷◌, [], Ok, Err, Some, length, ap, refl, sym, subst, ◌∙◌}
use Rattle.std.proofs.lemmas.Int.{to_z-of_z}
use Rattle.kernel_rows.proofs.Bodies.{same_cell, same_fault}
use Rattle.phase_kernels.specs.Listed.{listed}
use Rattle.phase_kernels.specs.declared.cells.KernelCells.{KernelCells}
use Rattle.phase_kernels.proofs.SourceCells.{cell_of, source_fault, source_value, taken_of}
use Rattle.phase_loop_cells.specs.Cells.{index_at}
use Rattle.phase_loop_cells.specs.Ranges.{ranges_of}
use Rattle.run_values.specs.Scopes.{current}
use Rattle.phase_kernels.proofs.shared.PhaseKernelsCellRuns.run_alone.Goals as goal

pub run_cell-requires : goal.run_cell-requires
run_cell-requires c = subst (λ (s : KernelCells). c.args.position < length s.cells.plan.now.frame) (sym c.self.view_is) c.requires.position

pub returns-else-not-put_one-clause-tells : goal.returns-else-not-put_one-clause-tells
returns-else-not-put_one-clause-tells c =
    let inside = c.self.inside in
    let cells = inside.of.cells in
    let p = cells.plan.now in
    let e = current cells.frames.now in
    let place = c.args.position in
    let fits : FitsSigned w32 c.in-Ok.n = search rules in
    let is = same_cell cells.context.turns _ inside.buffers.items _ (ranges_of cells.source p inside.ranges.items) _ (listed inside.kernels) (index_at p.frame place) c.in-Ok.n c.deref-2.ensures.value (c.source_ranges.ensures ∙ ap (ranges_of cells.source p) c.deref.ensures.value) c.all-list.ensures (rw c.in-Ok.is at c.in_ok-n.ensures) in
    subst (λ (s : KernelCells). cell_of s place ≡ Ok (Some c.put_one.new.into)) c.self.view_is
    ((source_value cells.context cells.heap.now e p cells.background inside.ranges.items inside.buffers.items (listed inside.kernels) place cells.source c.self.invariant.1 c.self.invariant.0 c.in-Ok.n is).0
    ∙ ap (λ (x : List ℤ). Ok (Some x)) (ap (λ z. z ∷ []) (sym (to_z-of_z w32 c.in-Ok.n fits)) ∙ sym (c.if-not-put_one.ensures refl)))

pub returns-else-not-put_one-clause-takes : goal.returns-else-not-put_one-clause-takes
returns-else-not-put_one-clause-takes c computed =
    let inside = c.self.inside in
    let cells = inside.of.cells in
    let p = cells.plan.now in
    let e = current cells.frames.now in
    let place = c.args.position in
    let is = same_cell cells.context.turns _ inside.buffers.items _ (ranges_of cells.source p inside.ranges.items) _ (listed inside.kernels) (index_at p.frame place) c.in-Ok.n c.deref-2.ensures.value (c.source_ranges.ensures ∙ ap (ranges_of cells.source p) c.deref.ensures.value) c.all-list.ensures (rw c.in-Ok.is at c.in_ok-n.ensures) in
    subst (λ (s : KernelCells). taken_of s place ≡ 0) c.self.view_is
    (source_value cells.context cells.heap.now e p cells.background inside.ranges.items inside.buffers.items (listed inside.kernels) place cells.source c.self.invariant.1 c.self.invariant.0 c.in-Ok.n is).1

pub returns-in-Err-clause-tells : goal.returns-in-Err-clause-tells
returns-in-Err-clause-tells c =
    let inside = c.self.inside in
    let cells = inside.of.cells in
    let p = cells.plan.now in
    let e = current cells.frames.now in
    let place = c.args.position in
    let is = same_fault cells.context.turns _ inside.buffers.items _ (ranges_of cells.source p inside.ranges.items) _ (listed inside.kernels) (index_at p.frame place) c.in-Err.fault c.deref-2.ensures.value (c.source_ranges.ensures ∙ ap (ranges_of cells.source p) c.deref.ensures.value) c.all-list.ensures (rw c.in-Err.is at c.in_ok-n.ensures) in
    subst (λ (s : KernelCells). cell_of s place ≡ Err c.in-Err.fault) c.self.view_is
    (source_fault cells.context cells.heap.now e p cells.background inside.ranges.items inside.buffers.items (listed inside.kernels) place cells.source c.self.invariant.1 c.self.invariant.0 c.in-Err.fault is)
