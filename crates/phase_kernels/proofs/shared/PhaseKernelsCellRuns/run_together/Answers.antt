use Rattle.std.proofs.Common.{rules, ◌≡◌, ◌+◌, ◌*◌, ◌<◌, ◌≤◌, ◌∙◌, Ok, Some, length, get_or, pos, ap, sym, subst, arith}
use Rattle.sac_base.specs.Arrays.{size}
use Rattle.kernel_rows.specs.Kernels.{HaveStrips}
use Rattle.kernel_rows.proofs.Bodies.{have_strips, same_cell}
use Rattle.phase_kernels.specs.Listed.{listed}
use Rattle.phase_kernels.specs.declared.cells.KernelCells.{KernelCells}
use Rattle.phase_kernels.specs.Calls.{calls_in}
use Rattle.kept_kernels.specs.Bodies.{source_bodies}
use Rattle.phase_kernels.proofs.Rows.{row_told}
use Rattle.phase_kernels.proofs.SourceCells.{cell_of, source_value, taken_of}
use Rattle.phase_loop_cells.specs.Cells.{index_at}
use Rattle.phase_loop_cells.specs.Opened.{lent_env}
use Rattle.phase_loop_cells.specs.Ranges.{AreMade, ranges_of}
use Rattle.phase_team.specs.Segments.{row_at}
use Rattle.run_values.specs.Scopes.{current}
use Rattle.phase_kernels.proofs.shared.PhaseKernelsCellRuns.run_together.Goals as goal

pub run_row-done-requires-clause-within : goal.run_row-done-requires-clause-within
run_row-done-requires-clause-within c = subst (λ (s : KernelCells). c.args.start + c.args.count ≤ length s.cells.plan.now.frame) (sym c.self.view_is) c.requires.within

pub run_row-done-requires-clause-strips : goal.run_row-done-requires-clause-strips
run_row-done-requires-clause-strips c =
    let inside = c.self.inside in
    let cells = inside.of.cells in
    let e = lent_env cells.heap.now (current cells.frames.now) in
    subst HaveStrips (sym c.all-list.ensures) (have_strips (calls_in cells.context) inside.buffers.items e cells.plan.now.form (source_bodies cells.source) (listed inside.kernels) c.self.invariant.1)

pub returns-then-done-gt0-clause-tells : goal.returns-then-done-gt0-clause-tells
returns-then-done-gt0-clause-tells c = λ j lt.
    let inside = c.self.inside in
    let cells = inside.of.cells in
    let p = cells.plan.now in
    let e = current cells.frames.now in
    let rows = c.run_row-done.new.rows in
    let place = c.args.start + j in
    let within : j < length rows = omega (arith, lt, c.run_row-done.ensures.inside) in
    let is = same_cell cells.context.turns _ inside.buffers.items _ (ranges_of cells.source p inside.ranges.items) _ (listed inside.kernels) (index_at p.frame place) (get_or rows j (pos 0)) c.deref-2.ensures.value (c.source_ranges.ensures ∙ ap (ranges_of cells.source p) c.deref.ensures.value) c.all-list.ensures (c.run_row-done.ensures.each j lt) in
    let told = source_value cells.context cells.heap.now e p cells.background inside.ranges.items inside.buffers.items (listed inside.kernels) place cells.source c.self.invariant.1 c.self.invariant.0 (get_or rows j (pos 0)) is in
    subst (λ (s : KernelCells). cell_of s place ≡ Ok (Some (row_at (size s.cells.plan.now.form.shape) j rows))) c.self.view_is
    (row_told (size p.form.shape) j rows (cell_of inside.of place) told.2 within told.0)

pub returns-then-done-gt0-clause-takes : goal.returns-then-done-gt0-clause-takes
returns-then-done-gt0-clause-takes c = λ j lt.
    let inside = c.self.inside in
    let cells = inside.of.cells in
    let p = cells.plan.now in
    let e = current cells.frames.now in
    let rows = c.run_row-done.new.rows in
    let place = c.args.start + j in
    let is = same_cell cells.context.turns _ inside.buffers.items _ (ranges_of cells.source p inside.ranges.items) _ (listed inside.kernels) (index_at p.frame place) (get_or rows j (pos 0)) c.deref-2.ensures.value (c.source_ranges.ensures ∙ ap (ranges_of cells.source p) c.deref.ensures.value) c.all-list.ensures (c.run_row-done.ensures.each j lt) in
    subst (λ (s : KernelCells). taken_of s place ≡ 0) c.self.view_is
    (source_value cells.context cells.heap.now e p cells.background inside.ranges.items inside.buffers.items (listed inside.kernels) place cells.source c.self.invariant.1 c.self.invariant.0 (get_or rows j (pos 0)) is).1

pub fill_free-requires-clause-made : goal.fill_free-requires-clause-made
fill_free-requires-clause-made c = subst (AreMade c.self.inside.of.cells.source) (sym c.deref-3.ensures.value) c.self.invariant.0

pub fill_free-requires-clause-within : goal.fill_free-requires-clause-within
fill_free-requires-clause-within c = subst (λ (s : KernelCells). c.args.start + c.args.count ≤ length s.cells.plan.now.frame) (sym c.self.view_is) c.requires.within

pub fill_free-requires-clause-room : goal.fill_free-requires-clause-room
fill_free-requires-clause-room c =
    let long : length c.run_row-done.new.rows ≡ c.args.count * size c.args.self.now.cells.plan.now.form.shape = search rules in
    subst (λ (s : KernelCells). length c.run_row-done.new.rows ≡ c.args.count * size s.cells.plan.now.form.shape) (sym c.self.view_is) long

pub returns-clause-tells : goal.returns-clause-tells
returns-clause-tells c = λ j lt.
    let inside = c.self.inside in
    let cells = inside.of.cells in
    let p = cells.plan.now in
    let rows = c.fill_free.new.rows in
    let place = c.args.start + j in
    let long : length rows ≡ c.args.count * size c.args.self.now.cells.plan.now.form.shape = search rules in
    let here : length rows ≡ c.args.count * size p.form.shape = subst (λ (s : KernelCells). length rows ≡ c.args.count * size s.cells.plan.now.form.shape) (sym c.self.view_is) long in
    let one : size p.form.shape ≡ 1 = c.fill_free.ensures.one (omega (arith, lt)) in
    let once : c.args.count * 1 ≡ c.args.count = omega arith in
    let all : length rows ≡ c.args.count = here ∙ ap (λ s. c.args.count * s) one ∙ once in
    let within : j < length rows = omega (arith, lt, all, c.fill_free.ensures.most) in
    subst (λ (s : KernelCells). cell_of s place ≡ Ok (Some (row_at (size s.cells.plan.now.form.shape) j rows))) c.self.view_is
    (row_told (size p.form.shape) j rows (cell_of inside.of place) one within (c.fill_free.ensures.each j lt))

pub returns-clause-takes : goal.returns-clause-takes
returns-clause-takes c = λ j lt. subst (λ (s : KernelCells). taken_of s (c.args.start + j) ≡ 0) c.self.view_is (c.fill_free.ensures.takes j lt)
