use Rattle.std.proofs.Common.{◌≡◌, ◌∷◌, length, ap, arith}
use Rattle.std.specs.Vec.Iter.{into_iter_items}
use Rattle.generator_sets.proofs.Joining.{merged_more}
use Rattle.generator_sets.proofs.merging.merge_axis.Goals as goal

pub loop-part-preserved : goal.loop-part-preserved
loop-part-preserved c =
    let at = c.loop-part in
    let steps : into_iter_items at.part-iterator ≡ c.in-Some.part ∷ into_iter_items c.next.new.self = c.in-Some.ensures.steps.0 in
    record {
      merged = merged_more _ at.merged.items c.add_part.new.list.items (into_iter_items at.part-iterator) (into_iter_items c.next.new.self) c.in-Some.part steps c.in_ok-add_part.ensures at.invariant.merged;
      left =
          let was = at.invariant.left in
          let gone = c.in-Some.ensures.steps.1 in
          let short = ap length steps in
          omega arith;
    }
