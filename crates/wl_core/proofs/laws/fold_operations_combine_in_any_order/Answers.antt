use Rattle.sac_base.specs.Verdict.{fold_op}
use Rattle.wl_core.proofs.FoldLaws.{foldable, elementwise-foldable}
use Rattle.wl_core.proofs.laws.fold_operations_combine_in_any_order.Goals as goal

pub returns : goal.returns
returns c = record { numbers = foldable; lists = λ base op h. elementwise-foldable (fold_op op) (foldable base op h) }
