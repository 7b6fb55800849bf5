use Rattle.std.proofs.Common.{rules, ◌≡◌, ◌∙◌, ◌-ℤ◌, pos, ap, sym, subst}
use Rattle.grid_spans.specs.Spans.{IsGreatest, gap_after}
use Rattle.grid_spans.proofs.Ends.{greatest_is}
use Rattle.grid_spans.proofs.span.greatest.Goals as goal

pub returns : goal.returns
returns c =
    let g = c.args.axis.now in
    let last = c.last_inside-last.result in
    let gap : c.gap_behind-gap.result ≡ gap_after g last = search rules in
    let down : c.down.result ≡ last -ℤ pos c.gap_behind-gap.result = search rules in
    let greatest : IsGreatest g c.down.result =
    subst (IsGreatest g) (sym (down ∙ ap (λ n. last -ℤ pos n) gap)) (greatest_is g last c.requires c.last_inside-last.ensures g.steps g.wide) in
    search rules
