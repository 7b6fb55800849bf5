use Rattle.std.proofs.Common.{◌≡◌, ◌+◌, ◌++◌, All, map}
use Rattle.core_ir.specs.View.{part_term}
use Rattle.merged_parts.specs.Merging.{merged_all, PartFits}
use Rattle.parted_bodies.specs.Making.{binds_of}
use Rattle.merged_parts.proofs.merging.merged_parts.Given as goal

abbrev pub invariant-loop-part : goal.invariant-loop-part
invariant-loop-part l = record {
  fits : All PartFits (map part_term l.part-iterator.rest.items);
  parts : map part_term l.merged.items ++ merged_all (map part_term l.part-iterator.rest.items) l.progress.next
      ≡ merged_all (map part_term l.initial.part-iterator.rest.items) l.initial.progress.next;
  next : record l.progress { next = l.progress.next + binds_of (merged_all (map part_term l.part-iterator.rest.items) l.progress.next) }
      ≡ record l.initial.progress { next = l.initial.progress.next + binds_of (merged_all (map part_term l.initial.part-iterator.rest.items) l.initial.progress.next) };
}
