use Rattle.std.proofs.Common.{sym, ap, ◌∙◌, ◌||◌, is_some}
use Rattle.sac_ast.specs.View.{functions}
use Rattle.sac_ast.specs.Bases.{all_known, instance_by}
use Rattle.check_rules.proofs.Positions.{some_found}
use Rattle.check_rules.proofs.calls.some_takes.Goals as goal

pub returns-then-lacks_base : goal.returns-then-lacks_base
returns-then-lacks_base c =
    let fs = functions c.args.functions.now.all.now in
    let name = c.args.name.now in
    let bs = all_known c.args.bases.now in
    c.if-lacks_base.true ∙ ap (λ b. b || is_some (instance_by fs name bs)) (sym c.if-lacks_base.true ∙ c.lacks_base.ensures) ∙ some_found fs name bs

pub returns-else-lacks_base : goal.returns-else-lacks_base
returns-else-lacks_base c =
    let fs = functions c.args.functions.now.all.now in
    let name = c.args.name.now in
    let bs = all_known c.args.bases.now in
    c.is_there.ensures ∙ ap is_some c.instance.ensures ∙ ap (λ b. b || is_some (instance_by fs name bs)) (sym c.if-lacks_base.false ∙ c.lacks_base.ensures) ∙ some_found fs name bs
