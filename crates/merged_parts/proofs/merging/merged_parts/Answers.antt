use Rattle.std.proofs.Common.{◌++◌, All, refl, ap, sym, subst, map}
use Rattle.core_ir.specs.View.{part_term}
use Rattle.parted_bodies.specs.declared.names.Progress.{Progress}
use Rattle.merged_parts.specs.Merging.{merged_all, PartFits}
use Rattle.merged_parts.proofs.Assembled.{all_done, all_next, all_next_done, all_turn, first_fits, none_left, rest_fits}
use Rattle.merged_parts.proofs.merging.merged_parts.Goals as goal

pub loop-part-init : goal.loop-part-init
loop-part-init c = record {
  fits = subst (λ xs. All PartFits (map part_term xs)) (sym c.into_iter-part-iterator.ensures.into_iter_gives.0) c.requires.fits;
  parts = λ i. map part_term (c.new-merged.ensures.items i) ++ merged_all (map part_term c.into_iter-part-iterator.result.rest.items) c.args.progress.now.next;
  next = refl;
}

pub loop-part-preserved : goal.loop-part-preserved
loop-part-preserved c =
    let v = c.loop-part.invariant in
    let before = c.loop-part.part-iterator.rest.items in
    let rest = c.next.new.self.rest.items in
    let p = c.in-Some.part in
    record {
      fits = rest_fits before rest p c.in-Some.ensures.steps.0 v.fits;
      parts = all_turn before rest c.loop-part.merged.items c.add_merged.new.merged.items p c.loop-part.progress.next _ _ c.in-Some.ensures.steps.0 v.parts c.in_ok-add_merged.ensures.parts
          (ap (λ (q : Progress). q.next) c.in_ok-add_merged.ensures.next);
      next = all_next before rest p c.loop-part.progress c.add_merged.new.progress _ c.in-Some.ensures.steps.0 v.next c.in_ok-add_merged.ensures.next;
    }

pub add_merged-requires : goal.add_merged-requires
add_merged-requires c = record { fits = first_fits c.loop-part.part-iterator.rest.items c.next.new.self.rest.items c.in-Some.part c.in-Some.ensures.steps.0 c.loop-part.invariant.fits }

pub returns-clause-parts : goal.returns-clause-parts
returns-clause-parts c =
    let none = none_left c.loop-part.part-iterator.rest.len c.loop-part.part-iterator.rest.items c.in-None.ensures.steps.0 c.loop-part.part-iterator.rest.ok.0 in
    all_done c.loop-part.merged.items c.loop-part.part-iterator.rest.items c.into_iter-part-iterator.result.rest.items c.args.parts.items _ c.args.progress.now.next none
    c.into_iter-part-iterator.ensures.into_iter_gives.0 c.loop-part.invariant.parts

pub returns-clause-next : goal.returns-clause-next
returns-clause-next c =
    let none = none_left c.loop-part.part-iterator.rest.len c.loop-part.part-iterator.rest.items c.in-None.ensures.steps.0 c.loop-part.part-iterator.rest.ok.0 in
    all_next_done c.loop-part.progress c.args.progress.now c.loop-part.part-iterator.rest.items c.into_iter-part-iterator.result.rest.items c.args.parts.items none
    c.into_iter-part-iterator.ensures.into_iter_gives.0 c.loop-part.invariant.next
