use Rattle.std.proofs.Common.{sym, ◌∙◌}
use Rattle.std.proofs.lemmas.List.{length-map}
use Rattle.sac_base.specs.declared.types.ArrayType.{ArrayType}
use Rattle.core_ir.specs.declared.tree.Var.{Var}
use Rattle.kernel_callees.specs.Choosing.{types_of}
use Rattle.kernel_callees.proofs.Fitting.{below_length}
use Rattle.kernel_callees.proofs.instance.all_below.Goals as goal

pub returns-then-params-others : goal.returns-then-params-others
returns-then-params-others c = sym (below_length (types_of c.args.params.now) (types_of c.args.others.now) (λ e. c.if-params-others.true (sym (length-map c.args.params.now (λ (p : Var × ArrayType). p.1)) ∙ e ∙ length-map c.args.others.now (λ (p : Var × ArrayType). p.1))))
