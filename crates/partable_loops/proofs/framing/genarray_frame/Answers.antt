use Rattle.std.proofs.Common.{◌≡◌, ◌≤◌, ◌∙◌, sym, subst, rules, length, true, All, Some, Ok}
use Rattle.std.specs.Prelude.{is_some}
use Rattle.sac_base.specs.Arrays.{size, MOST}
use Rattle.sac_base.specs.Shapes.{IsShape}
use Rattle.sac_base.specs.WithLoops.{Range, each, range_of}
use Rattle.array_with_loops.proofs.CellSteps.{some_small}
use Rattle.partable_loops.proofs.Framers.{genarray_frames, joined_short}
use Rattle.partable_loops.proofs.framing.genarray_frame.Goals as goal

pub returns-in-Ok : goal.returns-in-Ok
returns-in-Ok c =
    let bs = c.args.bounds.now in
    let ns = c.in-Some.front in
    let cell = c.args.cell.now in
    let rs = c.in-Ok.ranges.items in
    let inner : is_some c.elements.result ≡ true = search rules in
    let outer : is_some c.elements-else-is_none.result ≡ true = search rules in (
      c.copy.ensures,
      genarray_frames bs c.args.shape.now ns cell rs
          (record { grids = c.in_ok-grids_of-in-Ok.field-0; frame = c.in_ok-grid_of_shape-in-Ok.field-0; cell = c.copy.result })
          (sym c.shape_of.ensures ∙ c.in-Some.is)
          (joined_short ns cell c.joined.result c.in-Some-joined.whole c.in-Some-joined.is c.joined.ensures.fits)
          (some_small _ _ _ c.elements.ensures inner)
          (subst (λ s. size s ≤ MOST) c.in-Some-joined.ensures.value (some_small _ _ _ c.elements-else-is_none.ensures outer))
          (subst (λ n. each (range_of n 8 (Some ns) ns) bs ≡ Ok rs) c.rank.ensures.value c.in-Ok.ensures.told)
          (subst (λ n. All (λ (r : Range). length r ≡ n) rs) c.rank.ensures.value c.in-Ok.ensures.lengths)
          (c.in_ok-grids_of-in-Ok.ensures ∙ c.deref.ensures.value)
          c.in_ok-grid_of_shape-in-Ok.ensures
          c.copy.ensures
          c.extents.ensures.shape
          (subst IsShape c.in-Some-joined.ensures.value c.extents-2.ensures.shape),
    )
