use Rattle.std.proofs.Common.{◌≡◌, Ok, subst, sym}
use Rattle.std.specs.Prelude.{IfOk, IfSome}
use Rattle.sac_base.specs.Arrays.{scalar}
use Rattle.sac_base.specs.Parts.{part_at, selected}
use Rattle.counted_code.specs.Values.{read}
use Rattle.run_values.specs.Numbers.{numbers}
use Rattle.run_values.specs.Shown.{value_of}
use Rattle.run_store.proofs.select.select_cell.Goals as goal

pub returns-in-Buffer : goal.returns-in-Buffer
returns-in-Buffer c m stands =
    subst (λ w. IfOk c.buffer_cell.result (λ o. IfSome o (λ n. selected (read m (value_of w)) (part_at (read m (value_of w)).shape (numbers c.args.index.now)) ≡ Ok (scalar (read m (value_of w)).base n)))) (sym c.in-Buffer.is)
    (c.buffer_cell.ensures m stands c.in-Buffer.field-0)
