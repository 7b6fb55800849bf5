use Rattle.std.proofs.Common.{map}
use Rattle.core_ir.specs.View.{part_term}
use Rattle.folded_parts.proofs.Turns.{Going}
use Rattle.folded_parts.proofs.folding.+folding.Given as goal

abbrev pub invariant-fold_block-loop-binding : goal.invariant-fold_block-loop-binding
invariant-fold_block-loop-binding l =
    Going l.source.producer (map part_term l.source.parts.now) l.source.holders.now l.initial.passed l.initial.progress.next l.initial.binding-iterator.rest.items l.folded.items
    l.binding-iterator.rest.items l.passed l.progress.next
