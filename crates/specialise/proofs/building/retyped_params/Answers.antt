use Rattle.std.proofs.Common.{◌∙◌, ◌++◌, ◌≤◌, List, ap, sym, length, append-nil, min, rules}
use Rattle.sac_base.specs.declared.types.ArrayType.{ArrayType}
use Rattle.core_ir.specs.declared.tree.Var.{Var}
use Rattle.specialise.proofs.Steps.{zip_end}
use Rattle.specialise.proofs.building.retyped_params.Goals as goal

pub returns : goal.returns
returns c =
    let at_end : min (length c.args.params.now) (length c.args.types.now) ≤ c.loop-k.k = search rules in
    sym (append-nil c.loop-k.new.items)
    ∙ ap (λ (ps : List (Var × ArrayType)). c.loop-k.new.items ++ ps) (sym (zip_end c.args.params.now c.args.types.now c.loop-k.k at_end))
    ∙ c.loop-k.invariant
