use Rattle.std.proofs.Common.{List, take}
use Rattle.sac_base.specs.Arrays.{ArrayValue}
use Rattle.run_kernels.specs.Scopes.{AreHeld}
use Rattle.run_kernels.proofs.values.word_values.Given as goal

abbrev pub invariant-loop-held : goal.invariant-loop-held
invariant-loop-held l = (bs : List ArrayValue) → AreHeld bs l.registers (take l.held-index l.results) l.values.items
