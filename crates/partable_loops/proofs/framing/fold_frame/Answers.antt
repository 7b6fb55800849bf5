use Rattle.std.proofs.Common.{◌≡◌, ◌∙◌, ap, sym, rules, true, None, map}
use Rattle.std.specs.Prelude.{is_some, nat_le}
use Rattle.sac_base.specs.Arrays.{MOST}
use Rattle.sac_base.specs.WithLoops.{box_size, each, range_of}
use Rattle.array_with_loops.specs.Frames.{joined_frame}
use Rattle.partable_loops.specs.declared.framing.Framed.{Framed}
use Rattle.core_loops.specs.Loops.{spanned}
use Rattle.partable_loops.proofs.Framers.{fold_frames, passed}
use Rattle.partable_loops.proofs.framing.fold_frame.Goals as goal

pub returns-in-Ok : goal.returns-in-Ok
returns-in-Ok c =
    let bs = c.args.bounds.now in
    let rs = c.in-Ok.ranges.items in
    let some : is_some c.in_ok-of_ranges-in-Ok.field-0 ≡ true = search rules in
    let f : Framed = record { grids = c.in_ok-grids_of-in-Ok.field-0; frame = c.in_ok-grid_of_ranges-in-Ok.field-0; cell = c.copy.result } in (
      c.copy.ensures,
      fold_frames bs c.args.cell.now rs f c.index_length-n.result
          ((λ i. each (range_of (sym c.index_length-n.ensures i) 8 None (sym c.empty.ensures i)) bs) ∙ c.in-Ok.ensures.told)
          c.in-Ok.ensures.lengths
          (passed (box_size (joined_frame rs)) MOST (ap (λ r. nat_le (box_size (joined_frame r)) MOST) (sym c.deref.ensures.value) ∙ sym c.in_ok-of_ranges-in-Ok.ensures.none ∙ some))
          (c.in_ok-grids_of-in-Ok.ensures ∙ c.deref-in-Ok.ensures.value)
          (c.in_ok-grid_of_ranges-in-Ok.ensures.spans ∙ ap (λ r. map spanned (joined_frame r)) c.deref-in-Ok-2.ensures.value)
          c.copy.ensures
          c.in_ok-grid_of_ranges-in-Ok.ensures.words
          c.in_ok-grid_of_ranges-in-Ok.ensures.rank
          (sym c.index_length-n.ensures),
    )
