use Rattle.std.proofs.Common.{◌≡◌, drop}
use Rattle.run_loops.specs.Loops.{part_held}
use Rattle.run_loops.proofs.holders.part_holder.Given as goal

abbrev pub invariant-loop-part : goal.invariant-loop-part
invariant-loop-part l = part_held (drop l.part-index l.parts) l.index ≡ part_held l.parts l.index
