use Rattle.std.proofs.Common.{◌≡◌, true, List, refl, sym, subst, ◌∙◌}
use Rattle.sac_base.specs.declared.base.Base.{Base}
use Rattle.variable_bases.specs.Table.{may_have}
use Rattle.variable_bases.proofs.Groups.{some_gives}
use Rattle.variable_bases.proofs.signatures.all_give.Goals as goal

pub returns-then-not-same_bases-clause-some : goal.returns-then-not-same_bases-clause-some
returns-then-not-same_bases-clause-some c is =
    some_gives c.args.signatures.now c.signature-item.result c.loop-signature.signature-index c.args.args.now c.args.table.now c.args.gives.now c.loop-signature-test.true c.signature-item.is
    (subst (λ (us : List Base). may_have c.args.table.now c.args.args.now us ≡ true) c.deref.ensures.value (sym c.if-may_have.ensures))
    (λ e. c.if-not-same_bases.ensures.other refl (c.deref-then-may_have.ensures.value ∙ e))
