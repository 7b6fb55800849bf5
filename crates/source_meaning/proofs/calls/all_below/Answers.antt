use Rattle.std.proofs.Common.{sym, ◌∙◌}
use Rattle.std.proofs.lemmas.List.{length-map}
use Rattle.sac_ast.specs.declared.Param.{Param}
use Rattle.source_meaning.specs.Parameters.{types_of_params}
use Rattle.array_ops.proofs.TypeLists.{below_length}
use Rattle.source_meaning.proofs.calls.all_below.Goals as goal

pub returns-then-params-others : goal.returns-then-params-others
returns-then-params-others c = sym (below_length (types_of_params c.args.params.now) (types_of_params c.args.others.now) (λ e. c.if-params-others.true (sym (length-map c.args.params.now (λ (p : Param). p.ty)) ∙ e ∙ length-map c.args.others.now (λ (p : Param). p.ty))))
