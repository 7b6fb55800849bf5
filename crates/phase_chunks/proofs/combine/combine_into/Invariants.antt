use Rattle.std.proofs.Common.{◌≡◌, ◌++◌, take, drop}
use Rattle.wl_core.specs.Machine.{combine}
use Rattle.phase_chunks.proofs.combine.combine_into.Given as goal

abbrev pub invariant-loop-i : goal.invariant-loop-i
invariant-loop-i l = l.into ≡ combine l.op (take l.i l.initial.into) (take l.i l.value) ++ drop l.i l.initial.into
