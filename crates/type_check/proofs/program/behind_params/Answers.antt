use Rattle.std.proofs.Common.{ap, ◌∙◌}
use Rattle.sac_ast.specs.View.{function, block, exprs}
use Rattle.check_rules.specs.Accepted.{bound_behind}
use Rattle.check_rules.specs.Places.{place}
use Rattle.check_rules.specs.Programs.{ended_first}
use Rattle.check_rules.specs.Tables.{among, entered}
use Rattle.check_rules.specs.Walk.{in_block, in_values}
use Rattle.type_check.proofs.program.behind_params.Goals as goal

pub returns : goal.returns
returns c =
    let p = place c.args.here.now in
    let b = among c.args.bound.now.trail.items in
    let n = entered c.args.known.now in
    let body = c.in_ok-body.ensures in
    let values = c.in_ok-values.ensures in
    let first = body.first ∙ ap (λ ss. (in_block p (block ss) b n).first) c.deref.ensures.value in
    let known = body.known ∙ ap (λ ss. (in_block p (block ss) b n).known) c.deref.ensures.value in
    let names = body.names ∙ ap (λ ss. bound_behind (block ss) b) c.deref.ensures.value in
    let inside = values.first ∙ (λ j. (in_values p (exprs (c.deref-2.ensures.value j)) (names j) (known j)).first) in
    let bases = values.bases ∙ (λ j. (in_values p (exprs (c.deref-2.ensures.value j)) (names j) (known j)).bases) in
    c.ended.ensures ∙ (λ j. ended_first c.args.twice (first j) (inside j) (bases j) (function c.args.f.now))
