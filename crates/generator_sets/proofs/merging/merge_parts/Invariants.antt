use Rattle.generator_sets.specs.Unions.{IsMerged}
use Rattle.generator_sets.proofs.merging.merge_parts.Given as goal

abbrev pub invariant-loop-left : goal.invariant-loop-left
invariant-loop-left l = IsMerged l.initial.merged.items l.merged.items

abbrev pub decreases-loop-left : goal.decreases-loop-left
decreases-loop-left l = l.left
