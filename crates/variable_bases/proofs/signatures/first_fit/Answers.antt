use Rattle.std.proofs.Common.{◌≡◌, true, false, List, sym, subst, arith}
use Rattle.sac_base.specs.declared.base.Base.{Base}
use Rattle.variable_bases.specs.Table.{may_have}
use Rattle.variable_bases.proofs.Groups.{none_next, none_takes}
use Rattle.variable_bases.proofs.signatures.first_fit.Goals as goal

pub loop-signature-init : goal.loop-signature-init
loop-signature-init c = λ k low d. absurd (omega (arith, low))

pub loop-signature-preserved : goal.loop-signature-preserved
loop-signature-preserved c =
    none_next c.args.signatures.now c.loop-signature.signature-index c.signature-item.result c.args.args.now c.args.table.now c.loop-signature-test.true c.signature-item.is
    (subst (λ (us : List Base). may_have c.args.table.now c.args.args.now us ≡ false) c.deref.ensures.value (sym c.if-may_have.ensures)) c.loop-signature.invariant

pub returns-then-may_have-clause-fits : goal.returns-then-may_have-clause-fits
returns-then-may_have-clause-fits c = (
  (c.loop-signature.signature-index, c.loop-signature-test.true, sym c.signature-item.is),
  subst (λ (us : List Base). may_have c.args.table.now c.args.args.now us ≡ true) c.deref.ensures.value (sym c.if-may_have.ensures),
)

pub returns-clause-none : goal.returns-clause-none
returns-clause-none c = none_takes c.args.signatures.now c.loop-signature.signature-index c.args.args.now c.args.table.now c.loop-signature-test.false c.loop-signature.invariant
