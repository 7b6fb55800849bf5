use Rattle.std.proofs.Common.{sym, ◌∙◌, map}
use Rattle.std.proofs.lemmas.List.{length-map}
use Rattle.sac_ast.specs.declared.Param.{Param}
use Rattle.check_rules.proofs.Instances.{has_length}
use Rattle.check_rules.proofs.functions.takes.Goals as goal

pub returns-then-params-bases : goal.returns-then-params-bases
returns-then-params-bases c =
    let wanted = map (λ (p : Param). p.ty.base) c.args.params.now in
    sym (has_length wanted c.args.bases.now (λ e. c.if-params-bases.true (sym (length-map c.args.params.now (λ (p : Param). p.ty.base)) ∙ e)))
