use Rattle.std.proofs.Common.{subst, ap, ◌∙◌}
use Rattle.std.specs.Prelude.{IfOk}
use Rattle.sac_base.specs.Arrays.{ArrayValue}
use Rattle.counted_code.specs.Values.{is_small, place_as, place_value}
use Rattle.run_store.specs.Stands.{Placed}
use Rattle.run_store.proofs.Placing.{small_placed}
use Rattle.run_store.proofs.arrays.place_array.Goals as goal

pub returns-in-Some-clause-placed : goal.returns-in-Some-clause-placed
returns-in-Some-clause-placed c m stands =
    subst (λ (a : ArrayValue). Placed c.in-Some.value c.args.heap.now (place_value a m)) (λ i. record { base = c.base.ensures i; shape = c.shape.ensures i; cells = c.cells.ensures.value i })
    (small_placed c.args.heap.now m (record { base = c.base.result; shape = c.shape.result.now; cells = c.cells.result.now }) c.in-Some.value c.in-Some.ensures.small c.in-Some.ensures.some stands)

pub returns-in-None-clause-placed : goal.returns-in-None-clause-placed
returns-in-None-clause-placed c m stands =
    subst (λ t. IfOk c.put_copy.result (λ v. Placed v c.put_copy.new.heap (place_as t c.args.array.now m))) (c.in-None.ensures.small ∙ ap is_small c.shape.ensures) (c.put_copy.ensures.placed m stands)
