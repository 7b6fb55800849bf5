use Rattle.std.proofs.Common.{sym}
use Rattle.array_with_loops.proofs.plans.modarray_plan.Goals as goal

pub returns-clause-full : goal.returns-clause-full
returns-clause-full c =
    c.modarray_plan_of.ensures.full c.args.array.now (sym c.shape.ensures) c.cells.ensures.array.most c.cells.ensures.array.full
