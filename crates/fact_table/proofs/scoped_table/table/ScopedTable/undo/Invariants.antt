use Rattle.std.proofs.Common.{◌≡◌, ◌-◌, length}
use Rattle.std.specs.Prelude.{drop}
use Rattle.fact_table.proofs.scoped_table.table.ScopedTable.undo.Given as goal

abbrev pub invariant-loop-self : goal.invariant-loop-self
invariant-loop-self g l = drop (length l.self - l.mark) l.self ≡ drop (length l.fn.self - l.mark) l.fn.self

abbrev pub decreases-loop-self : goal.decreases-loop-self
decreases-loop-self g l = length l.self
