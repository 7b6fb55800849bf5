use Rattle.std.proofs.Common.{◌≡◌, true, [], length, sym, subst, ◌∙◌}
use Rattle.core_ir.specs.Meaning.{cell_form}
use Rattle.kernel_code.specs.Relations.{IsScope}
use Rattle.own_kernels.specs.Kernels.{ArePartKernels, parts_own}
use Rattle.phase_kernels.proofs.over_checks.Elements.{elements_own}
use Rattle.phase_kernels.specs.Listed.{listed}
use Rattle.phase_kernels.specs.Calls.{calls_in}
use Rattle.phase_loop_cells.specs.Opened.{lent_env}
use Rattle.run_values.specs.Scopes.{current}
use Rattle.phase_kernels.proofs.over_checks.own.cells_read_own.Goals as goal

pub returns : goal.returns
returns c own =
    let s = c.args.cells.now.cells in
    let context = s.context in
    let parts = c.args.parts.now in
    let form = s.plan.now.form in
    let known = c.in_ok-scope.scope.known.items in
    let bs = c.in_ok-scope.scope.buffers.items in
    let kernels = listed c.in_ok-kernels.kernels in
    let e = lent_env s.heap.now (current s.frames.now) in
    let is : parts_own kernels (length parts) known c.args.array c.args.rank ≡ true = (λ i. parts_own (sym c.all.ensures i) (length parts) (sym c.deref-3.ensures.value i) c.args.array c.args.rank) ∙ sym c.parts_read_own.ensures ∙ own in
    let calls = calls_in context in
    let are : ArePartKernels calls known form parts kernels = λ bs f scope. c.in_ok-kernels.ensures calls bs f c.lowering_of-lowering.ensures (subst (IsScope bs f) (sym c.deref-2.ensures.value) scope) in
    record {
      own = λ indices long. c.own_kernels_read_own.ensures.cells calls context.turns parts form known kernels are c.args.array c.args.rank is bs e c.in_ok-scope.ensures indices long form.base;
      elements = λ index long there. elements_own calls context.turns parts form known kernels bs e (are bs e c.in_ok-scope.ensures) c.args.array c.args.rank is (cell_form form.base []) index long there;
    }
