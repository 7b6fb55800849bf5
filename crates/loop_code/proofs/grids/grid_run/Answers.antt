use Rattle.std.proofs.Common.{◌≡◌, ◌-◌, ◌≤◌, length, sym, ap, ◌∙◌, arith, rules, get_or, pos, FitsSigned, w64}
use Rattle.std.proofs.lemmas.Int.{to_z-of_z}
use Rattle.sac_base.specs.Grids.{has_vector}
use Rattle.sac_base.proofs.GridFacts.{no_member}
use Rattle.array_with_loops.specs.Ranges.{moved_last}
use Rattle.array_with_loops.proofs.RowSteps.{moved_length}
use Rattle.loop_code.proofs.GridSteps.{grid_end}
use Rattle.loop_code.proofs.grids.grid_run.Goals as goal

pub returns-then-index-axes-clause-same : goal.returns-then-index-axes-clause-same
returns-then-index-axes-clause-same c = λ j h.
    no_member c.args.grid.now (moved_last j c.args.index.now)
    (λ e. c.if-index-axes.true (sym (moved_length j c.args.index.now) ∙ sym e ∙ ap length (sym c.axes-axes.ensures.axes)))
    ∙ sym c.of.ensures.held

pub returns-clause-same : goal.returns-clause-same
returns-clause-same c = λ j h.
    let v = c.args.index.now in
    let g = c.axes-axes.result.now in
    let k = c.loop-k.k in
    let some : 1 ≤ length c.args.index.now = search rules in
    let same : length c.args.index.now - 1 ≡ c.loop-k.k = omega (arith, c.loop-k-test.false, c.loop-k.auto.k-end) in
    let fits : FitsSigned w64 (get_or c.args.index.now (length c.args.index.now - 1) (pos 0)) = search rules in
    ap (λ grid. has_vector grid (moved_last j v)) (sym c.axes-axes.ensures.axes)
    ∙ sym (c.loop-k.invariant j)
    ∙ grid_end g v k j _ _ (omega (arith, some, same)) (omega (arith, c.if-index-axes.false))
    (c.index-axes-last.is ∙ ap (λ n. get_or g n c.index-axes-last.result) same)
    (to_z-of_z w64 _ fits ∙ ap (λ n. get_or v n (pos 0)) same)
    ∙ c.axis_run.ensures.same j h
