use Rattle.std.proofs.Common.{◌≡◌, length}
use Rattle.std.specs.Prelude.{IfSome}
use Rattle.wl_core.specs.Machine.{combine}
use Rattle.wl_core.specs.Rows.{items_of, partial_of}
use Rattle.wl_core.proofs.Combining.{gathered}
use Rattle.wl_core.proofs.partials.Partials.combined.Given as goal

abbrev pub invariant-loop-worker : goal.invariant-loop-worker
invariant-loop-worker l = record { value : items_of l.whole ≡ gathered (combine l.op) (partial_of l.self) l.worker; width : IfSome l.whole (λ v. length v.items ≡ l.self.rows.width) }
