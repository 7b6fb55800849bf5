use Rattle.std.proofs.Common.{◌≡◌, ◌++◌, length}
use Rattle.std.specs.Vec.Iter.{into_iter_items, into_iter_len}
use Rattle.generator_sets.specs.Unions.{IsMerged}
use Rattle.generator_sets.proofs.merging.merge_axis.Given as goal

abbrev pub invariant-loop-part : goal.invariant-loop-part
invariant-loop-part l = record {
  merged : IsMerged (into_iter_items l.initial.part-iterator) (l.merged.items ++ into_iter_items l.part-iterator);
  left : into_iter_len l.part-iterator ≡ length (into_iter_items l.part-iterator);
}
