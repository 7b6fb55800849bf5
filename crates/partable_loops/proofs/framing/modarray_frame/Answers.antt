use Rattle.std.proofs.Common.{◌≡◌, ◌≤◌, ◌∙◌, ap, sym, subst, rules, length, true, All, Some, take, drop, min, map}
use Rattle.std.specs.Prelude.{is_some}
use Rattle.sac_base.specs.Arrays.{size, MOST}
use Rattle.sac_base.specs.Shapes.{IsShape}
use Rattle.sac_base.specs.WithLoops.{Range, each, index_length, range_of, shape_spans}
use Rattle.array_with_loops.proofs.CellSteps.{some_small}
use Rattle.partable_loops.specs.declared.framing.Framed.{Framed}
use Rattle.core_loops.specs.Loops.{spanned}
use Rattle.partable_loops.proofs.Framers.{modarray_frames, modarray_whole}
use Rattle.partable_loops.proofs.framing.modarray_frame.Goals as goal

pub returns-in-Ok : goal.returns-in-Ok
returns-in-Ok c =
    let bs = c.args.bounds.now in
    let shape = c.args.shape.now in
    let rs = c.in-Ok.ranges.items in
    let rank = c.rank-rank.ensures.value in
    let n : c.index_length-n.result ≡ index_length bs (length shape) = c.index_length-n.ensures ∙ ap (index_length bs) rank in
    let front : c.first-front.result ≡ take (index_length bs (length shape)) shape = c.first-front.ensures ∙ ap (λ m. take m shape) n in
    let some : is_some c.elements.result ≡ true = search rules in
    let whole : is_some c.elements-else-is_none.result ≡ true = search rules in
    let spans = c.in_ok-grid_of_shape-in-Ok.ensures ∙ ap (λ s. map spanned (shape_spans s)) front in
    let cell : c.rest.result ≡ drop (min (index_length bs (length shape)) (length shape)) shape =
    c.rest.ensures ∙ ap (λ m. drop m shape) (c.min.ensures ∙ (λ i. min (n i) (rank i))) in
    let f : Framed = record { grids = c.in_ok-grids_of-in-Ok.field-0; frame = c.in_ok-grid_of_shape-in-Ok.field-0; cell = c.rest.result } in (
      modarray_whole shape (index_length bs (length shape)) f spans cell,
      modarray_frames bs shape rs f
          (subst (λ s. size s ≤ MOST) front (some_small _ _ _ c.elements.ensures some))
          ((λ i. each (range_of (sym n i) (sym rank i) (Some (sym front i)) (sym front i)) bs) ∙ c.in-Ok.ensures.told)
          (subst (λ m. All (λ (r : Range). length r ≡ m) rs) n c.in-Ok.ensures.lengths)
          (c.in_ok-grids_of-in-Ok.ensures ∙ c.deref.ensures.value)
          spans
          cell
          (subst IsShape front c.extents.ensures.shape)
          c.extents-2.ensures.shape
          (some_small _ _ _ c.elements-else-is_none.ensures whole),
    )
