use Rattle.std.proofs.Common.{sym, subst}
use Rattle.kernel_code.specs.Relations.{IsScope}
use Rattle.phase_kernels.specs.Calls.{calls_in}
use Rattle.phase_loop_cells.specs.Opened.{lent_env}
use Rattle.run_values.specs.Scopes.{current}
use Rattle.phase_kernels.proofs.shared.with_kernels.Goals as goal

pub invariant_of-result : goal.invariant_of-result
invariant_of-result c =
    let cells = c.args.cells.cells in
    let e = lent_env cells.heap.now (current cells.frames.now) in
    let bs = c.in_ok-known.field-0.buffers.items in
    (c.in_ok-ranges.ensures, c.in_ok-kernels.ensures (calls_in cells.context) bs e c.lowering_of.ensures (subst (IsScope bs e) (sym c.deref-2.ensures.value) c.in_ok-known.ensures))
