use Rattle.std.proofs.Common.{subst, ◌∙◌}
use Rattle.std.specs.Prelude.{IfOk}
use Rattle.sac_base.specs.Arrays.{ArrayValue}
use Rattle.counted_code.specs.Values.{place_value}
use Rattle.run_store.specs.Stands.{Placed}
use Rattle.run_store.proofs.arrays.place_own.Goals as goal

pub returns-clause-placed : goal.returns-clause-placed
returns-clause-placed c m stands =
    subst (λ (a : ArrayValue). IfOk c.place_cells.result (λ v. Placed v c.place_cells.new.heap (place_value a m))) (λ i. record { base = c.base-base.ensures i; shape = (c.copy-shape.ensures ∙ c.shape.ensures) i; cells = c.into_cells.ensures i })
    (c.place_cells.ensures.placed m stands)
