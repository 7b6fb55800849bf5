use Rattle.std.proofs.Common.{◌≡◌, ◌++◌, drop}
use Rattle.core_loops.specs.Pairs.{grids_of}
use Rattle.foldable_pairs.specs.Parts.{terms}
use Rattle.foldable_pairs.proofs.plan.grids_of_parts.Given as goal

abbrev pub invariant-loop-part : goal.invariant-loop-part
invariant-loop-part l = l.grids.items ++ grids_of (terms (drop l.part-index l.parts)) ≡ grids_of (terms l.parts)
