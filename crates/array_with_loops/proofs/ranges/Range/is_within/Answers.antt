use Rattle.std.proofs.Common.{map, ap, sym, ◌∙◌, subst, All}
use Rattle.array_with_loops.specs.Ranges.{IsAxis, axes_within}
use Rattle.array_with_loops.proofs.RangeSteps.{members_none, members_within, all_hold, abs_pos}
use lib.IntN.{nat_abs}
use Rattle.array_with_loops.proofs.ranges.Range.is_within.Goals as goal

pub returns-then-is_empty : goal.returns-then-is_empty
returns-then-is_empty c = c.if-is_empty.true ∙ sym (members_none c.args.frame.now c.args.self.now (sym c.is_empty.ensures ∙ c.if-is_empty.true))

pub returns-else-is_empty : goal.returns-else-is_empty
returns-else-is_empty c =
    let some = sym c.is_empty.ensures ∙ c.if-is_empty.false in
    let each = subst (All IsAxis) c.self.view_is c.self.invariant in
    c.has_axes_within.ensures ∙ ap (λ ns. axes_within ns c.args.self.now) (ap (map nat_abs) c.extents.ensures.value ∙ abs_pos c.args.frame.now) ∙ sym (members_within c.args.frame.now c.args.self.now c.requires (all_hold c.args.self.now each some))
