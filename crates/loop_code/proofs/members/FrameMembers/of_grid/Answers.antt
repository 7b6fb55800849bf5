use Rattle.std.proofs.Common.{◌≡◌, ◌≤◌, ap, sym, ◌∙◌, subst, All}
use Rattle.std.specs.Prelude.{IfOk}
use Rattle.sac_base.specs.Arrays.{size, MOST}
use Rattle.sac_base.specs.WithLoops.{box, shape_spans}
use Rattle.array_with_loops.proofs.GridSteps.{no_members}
use Rattle.loop_code.specs.Offsets.{IsOffset, lowest_of, shifted}
use Rattle.loop_code.proofs.OffsetSteps.{are_offsets, shifted_members}
use Rattle.loop_code.proofs.members.FrameMembers.of_grid.Goals as goal

pub returns-then-is_empty : goal.returns-then-is_empty
returns-then-is_empty c =
    subst (λ m. IfOk c.none.result (λ f. f ≡ m)) (sym (no_members c.args.grid.now (sym c.is_empty.ensures ∙ c.if-is_empty.true))) c.none.ensures

pub extents_of-requires-clause-some : goal.extents_of-requires-clause-some
extents_of-requires-clause-some c = sym c.is_empty.ensures ∙ c.if-is_empty.false

pub of_shape-requires : goal.of_shape-requires
of_shape-requires c = subst (λ ns. size ns ≤ MOST) (sym c.in_ok-extents.ensures.value) c.requires.most

pub invariant_of-result : goal.invariant_of-result
invariant_of-result c =
    let g = c.args.grid.now in
    let offsets = c.in_ok-offsets.ensures ∙ ap (λ ns. box (shape_spans ns)) c.in_ok-extents.ensures.value in
    subst (λ ls. All (IsOffset ls) c.in_ok-offsets.offsets) (sym c.in_ok-low.ensures) (subst (All (IsOffset (lowest_of g))) (sym offsets) (are_offsets g c.in_ok-extents.ensures.bounds))

pub returns : goal.returns
returns c =
    let offsets = c.in_ok-offsets.ensures ∙ ap (λ ns. box (shape_spans ns)) c.in_ok-extents.ensures.value in
    ap (λ ls. shifted ls c.in_ok-offsets.offsets) c.in_ok-low.ensures ∙ ap (shifted (lowest_of c.args.grid.now)) offsets ∙ shifted_members c.args.grid.now c.requires.dense
