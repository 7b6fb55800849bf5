use Rattle.std.proofs.Common.{rules, ◌≡◌, ◌↔◌, IsTrue, sym, subst, ◌∙◌, true≢false, ◌∷◌}
use Rattle.merge_plans.specs.Filled.{IsFilled, IsFilledAxis}
use Rattle.merge_plans.proofs.Frames.{filled_first, filled_more, filled_rest}
use Rattle.merge_plans.proofs.filling.+is_filled.Goals as goal

pub returns-then-is_filled_axis : goal.returns-then-is_filled_axis
returns-then-is_filled_axis t c =
    let g = c.in-Some.axis.now in
    let gs = c.in-Some.inner.now in
    let z = c.in-Some-split_first.extent.now in
    let zs = c.in-Some-split_first.others.now in
    let whole : IsFilled (g ∷ gs) (z ∷ zs) ≡ IsFilled c.args.axes.now c.args.extents.now = λ i. IsFilled (sym c.in-Some.ensures.cases.0 i) (sym c.in-Some-split_first.ensures.cases.0 i) in
    let first : IsTrue c.is_filled_axis.result ↔ IsFilledAxis g z = search rules in (
      λ h. subst (λ T. T) whole (filled_more g gs z zs (first.0 c.if-is_filled_axis.true) (c.is_filled.ensures.0 h)),
      λ w. c.is_filled.ensures.1 (filled_rest g gs z zs (subst (λ T. T) (sym whole) w)),
    )

pub returns-else-is_filled_axis : goal.returns-else-is_filled_axis
returns-else-is_filled_axis t c =
    let g = c.in-Some.axis.now in
    let gs = c.in-Some.inner.now in
    let z = c.in-Some-split_first.extent.now in
    let zs = c.in-Some-split_first.others.now in
    let whole : IsFilled (g ∷ gs) (z ∷ zs) ≡ IsFilled c.args.axes.now c.args.extents.now = λ i. IsFilled (sym c.in-Some.ensures.cases.0 i) (sym c.in-Some-split_first.ensures.cases.0 i) in
    let first : IsTrue c.is_filled_axis.result ↔ IsFilledAxis g z = search rules in (
      λ h. absurd (true≢false (sym h ∙ c.if-is_filled_axis.false)),
      λ w. first.1 (filled_first g gs z zs (subst (λ T. T) (sym whole) w)),
    )
