use Rattle.std.proofs.Common.{◌∙◌, ◌++◌, ◌≤◌, List, ap, sym, length, append-nil, min, rules}
use Rattle.sac_base.specs.declared.form.Form.{Form}
use Rattle.specialise.proofs.Steps.{forms_end}
use Rattle.specialise.proofs.tables.forms_of.Goals as goal

pub returns : goal.returns
returns c =
    let at_end : min (length c.args.types.now) (length c.args.shapes.now) ≤ c.loop-k.k = search rules in
    sym (append-nil c.loop-k.forms.items)
    ∙ ap (λ (fs : List Form). c.loop-k.forms.items ++ fs) (sym (forms_end c.args.types.now c.args.shapes.now c.loop-k.k at_end))
    ∙ c.loop-k.invariant
