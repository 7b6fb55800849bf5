use Rattle.std.proofs.Common.{◌≡◌, ◌+◌, ◌++◌, map}
use Rattle.core_ir.specs.View.{gen_term, part_term}
use Rattle.parted_bodies.specs.Making.{binds_of, made_parts}
use Rattle.parted_bodies.proofs.parts.parts_of.Given as goal

abbrev pub invariant-loop-grid : goal.invariant-loop-grid
invariant-loop-grid l =
    (map part_term l.parts.items ++ made_parts l.op l.site (map gen_term l.gens) l.grid-iterator.rest.items l.progress.next
    ≡ made_parts l.op l.site (map gen_term l.gens) l.initial.grid-iterator.rest.items l.initial.progress.next)
    × (record l.progress { next = l.progress.next + binds_of (made_parts l.op l.site (map gen_term l.gens) l.grid-iterator.rest.items l.progress.next) }
    ≡ record l.initial.progress {
      next = l.initial.progress.next
          + binds_of (made_parts l.op l.site (map gen_term l.gens) l.initial.grid-iterator.rest.items l.initial.progress.next);
    })
