use Rattle.std.proofs.Common.{◌≡◌, take}
use Rattle.std.specs.Prelude.{fold}
use Rattle.sac_base.specs.Verdict.{fold_op}
use Rattle.phase_chunks.proofs.combine.fold_by.Given as goal

abbrev pub invariant-loop-i : goal.invariant-loop-i
invariant-loop-i l = l.value ≡ fold (fold_op l.op) l.first (take l.i l.numbers)
