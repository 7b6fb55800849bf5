use Rattle.std.proofs.Common.{◌≡◌, ◌++◌, ◌∷◌, [], ap, ◌∙◌, arith}
use Rattle.count_table.proofs.Bounds.{bound, bound_push, bound_under}
use Rattle.phase_count.proofs.alone.draw_all.Goals as goal

pub loop-smaller : goal.loop-smaller
loop-smaller c =
    let old = c.loop.seat.drawn in
    let chunk = c.in-Some.field-0 in
    let within = c.in-Some.ensures.drawn.0 in
    let under = bound_under old chunk c.in-Some.ensures.later in
    let list : c.draw.new.seat.drawn ≡ old ++ chunk ∷ [] = ap (λ seat. seat.drawn) c.in-Some.ensures.drawn.1 in
    let is = ap bound list ∙ bound_push old chunk under in
    omega (arith, is, under, within)

pub loop-preserved : goal.loop-preserved
loop-preserved c =
    let old = c.loop.seat.drawn in
    let chunk = c.in-Some.field-0 in
    let drew = c.in-Some.ensures.drawn.1 in
    let within = c.in-Some.ensures.drawn.0 in
    let kept = c.loop.invariant in
    let under = bound_under old chunk c.in-Some.ensures.later in
    let list : c.draw.new.seat.drawn ≡ old ++ chunk ∷ [] = ap (λ seat. seat.drawn) drew in
    let is = ap bound list ∙ bound_push old chunk under in
    (ap (λ seat. seat.phase) drew ∙ kept.0, ap (λ seat. seat.holds) drew ∙ kept.1, ap (λ seat. seat.ended) drew ∙ kept.2, omega (arith, is, within))
