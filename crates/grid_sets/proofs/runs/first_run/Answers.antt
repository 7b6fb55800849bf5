use Rattle.std.proofs.Common.{arith, ◌∙◌}
use Rattle.std.proofs.lemmas.Int.{ints}
use Rattle.grid_sets.proofs.Likeness.{run_same, run_change}
use Rattle.grid_sets.proofs.runs.first_run.Goals as goal

pub loop-grid-preserved : goal.loop-grid-preserved
loop-grid-preserved c =
    let before = c.loop-grid.invariant in
    let now = c.front_of_grid-run.ensures in
    record {
      from = now.from ∙ before.from;
      some = omega (arith, ints);
      low = omega (arith, ints);
      same = run_same c.args.grids.now c.loop-grid.grid-index c.grid-item.result c.args.segment.now.from c.loop-grid.run.from c.loop-grid.run.to c.front_of_grid-run.result.to
          c.grid-item.is c.loop-grid-test.true before.from now.low before.same now.same;
      change = run_change c.args.grids.now c.loop-grid.grid-index c.grid-item.result c.args.segment.now.from c.args.segment.now.to c.loop-grid.run.from c.loop-grid.run.to c.front_of_grid-run.result.to
          c.grid-item.is c.loop-grid-test.true before.from now.low before.low before.change now.change;
    }
