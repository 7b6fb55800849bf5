use Rattle.std.proofs.Common.{subst}
use Rattle.std.specs.Prelude.{IfOk}
use Rattle.counted_code.specs.Values.{place_as, place_value}
use Rattle.run_store.specs.Stands.{Placed}
use Rattle.run_store.proofs.Placing.{small_placed}
use Rattle.run_store.proofs.arrays.place_cells.Goals as goal

pub returns-in-Some-clause-placed : goal.returns-in-Some-clause-placed
returns-in-Some-clause-placed c m stands =
    subst (λ zs. Placed c.in-Some.value c.args.heap.now (place_value (record { base = c.args.base; shape = c.args.shape.now; cells = zs }) m)) c.deref.ensures.value
    (small_placed c.args.heap.now m (record { base = c.args.base; shape = c.args.shape.now; cells = c.deref.result.now }) c.in-Some.value c.in-Some.ensures.small c.in-Some.ensures.some stands)

pub returns-in-None-clause-placed : goal.returns-in-None-clause-placed
returns-in-None-clause-placed c m stands =
    subst (λ t. IfOk c.put_cells.result (λ v. Placed v c.put_cells.new.heap (place_as t (record { base = c.args.base; shape = c.args.shape.now; cells = c.args.cells.items }) m))) c.in-None.ensures.small (c.put_cells.ensures.placed m stands)
