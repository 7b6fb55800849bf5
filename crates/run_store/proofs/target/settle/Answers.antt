use Rattle.std.proofs.Common.{subst, sym}
use Rattle.std.specs.Prelude.{IfOk}
use Rattle.sac_base.specs.Arrays.{ArrayValue}
use Rattle.counted_code.specs.Loops.{settled}
use Rattle.run_store.specs.Stands.{Placed}
use Rattle.run_store.specs.Targets.{target_at}
use Rattle.run_store.proofs.Targets.{inside_settled}
use Rattle.run_store.proofs.target.settle.Goals as goal

pub returns-in-None-clause-placed : goal.returns-in-None-clause-placed
returns-in-None-clause-placed c m stands =
    subst (λ zs. IfOk c.settle_inside.result (λ v. Placed v c.args.heap.now (settled (target_at c.args.target.buffer) (record { base = c.args.base; shape = c.args.shape.now; cells = zs }) m))) c.deref.ensures.value
    (inside_settled c.settle_inside.result c.args.heap.now m c.args.target.buffer (record { base = c.args.base; shape = c.args.shape.now; cells = c.deref.result.now }) c.in-None.is c.settle_inside.ensures stands)

pub returns-in-Some-clause-placed : goal.returns-in-Some-clause-placed
returns-in-Some-clause-placed c m stands =
    let a : ArrayValue = record { base = c.args.base; shape = c.args.shape.now; cells = c.args.target.cells.items } in
    subst (λ b. IfOk c.settle_buffer.result (λ v. Placed v c.settle_buffer.new.heap (settled (target_at b) a m))) (sym c.in-Some.is) (c.settle_buffer.ensures.placed m stands)
