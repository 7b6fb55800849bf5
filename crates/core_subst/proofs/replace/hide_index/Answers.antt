use Rattle.std.proofs.Common.{◌≡◌, ◌∙◌, ap, subst}
use Rattle.std.specs.Result.{OnOk}
use Rattle.core_subst.specs.Substitution.{image, below}
use Rattle.core_subst.proofs.Hiding.{below_two}
use Rattle.core_subst.proofs.replace.hide_index.Goals as goal

pub returns-clause-below : goal.returns-clause-below
returns-clause-below c =
    subst (λ (f : _). OnOk c.hide.result (image c.args.partners.now c.hide.new.hidden.items ≡ f))
    (ap (below c.args.names.now) c.in_ok-hide_one.ensures.below ∙ below_two c.args.index c.args.names.now (image c.args.partners.now c.args.hidden.now.items))
    c.hide.ensures.below
