use Rattle.std.proofs.Common.{◌≡◌, ◌++◌, length}
use Rattle.std.specs.Prelude.{map}
use Rattle.std.specs.Vec.Iter.{into_iter_items, into_iter_len}
use Rattle.generator_sets.proofs.Kept.{labelled}
use Rattle.generator_sets.proofs.parts.label.Given as goal

abbrev pub invariant-loop-piece : goal.invariant-loop-piece
invariant-loop-piece l = record {
  labels : l.parts.items ++ map (labelled l.generators) (into_iter_items l.piece-iterator) ≡ map (labelled l.generators) (into_iter_items l.initial.piece-iterator);
  left : into_iter_len l.piece-iterator ≡ length (into_iter_items l.piece-iterator);
}
