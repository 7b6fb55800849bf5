use Rattle.std.proofs.Common.{sym, ◌∙◌}
use Rattle.std.proofs.lemmas.List.{length-map}
use Rattle.sac_ast.specs.declared.Param.{Param}
use Rattle.source_meaning.specs.Parameters.{types_of_params}
use Rattle.array_ops.proofs.TypeLists.{have_length}
use Rattle.source_meaning.proofs.calls.all_fit.Goals as goal

pub returns-then-params-args : goal.returns-then-params-args
returns-then-params-args c = sym (have_length (types_of_params c.args.params.now) c.args.args.now (λ e. c.if-params-args.true (sym (length-map c.args.params.now (λ (p : Param). p.ty)) ∙ e)))
