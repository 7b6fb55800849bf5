use Rattle.std.proofs.Common.{◌≡◌, ◌+◌, ◌++◌, drop, map}
use Rattle.core_ir.specs.View.{block_term, part_term}
use Rattle.merge_plans.specs.Openings.{lets_of}
use Rattle.merged_parts.specs.Merging.{merged_inner}
use Rattle.parted_bodies.specs.Making.{binds_of}
use Rattle.merged_parts.proofs.merging.add_inner.Given as goal

abbrev pub invariant-loop-part : goal.invariant-loop-part
invariant-loop-part l = record {
  parts : map part_term l.merged.items ++ merged_inner l.grid l.index (lets_of (block_term l.around)) (map part_term (drop l.part-index l.inner)) l.progress.next
      ≡ map part_term l.initial.merged.items ++ merged_inner l.grid l.index (lets_of (block_term l.around)) (map part_term l.inner) l.initial.progress.next;
  next : record l.progress { next = l.progress.next + binds_of (merged_inner l.grid l.index (lets_of (block_term l.around)) (map part_term (drop l.part-index l.inner)) l.progress.next) }
      ≡ record l.initial.progress { next = l.initial.progress.next + binds_of (merged_inner l.grid l.index (lets_of (block_term l.around)) (map part_term l.inner) l.initial.progress.next) };
}
