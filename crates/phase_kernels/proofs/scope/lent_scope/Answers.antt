use Rattle.phase_loop_cells.specs.Opened.{lent_env}
use Rattle.run_values.specs.Scopes.{current}
use Rattle.phase_kernels.proofs.Lent.{shown_lent}
use Rattle.phase_kernels.proofs.scope.lent_scope.Goals as goal

pub returns : goal.returns
returns c =
    let h = c.args.heap.now in
    let e = current c.args.frames.now in
    c.scope_of.ensures (lent_env h e) (λ x. shown_lent h c.buffers_are_numbered.ensures.single (e x))
