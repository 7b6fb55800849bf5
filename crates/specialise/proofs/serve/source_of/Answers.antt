use Rattle.std.proofs.Common.{◌≡◌, ◌∙◌, ap, sym, subst, refl, map, Some, List, All}
use Rattle.std.specs.Prelude.{IsFalse}
use Rattle.sac_base.specs.declared.types.ArrayType.{ArrayType}
use Rattle.sac_base.specs.Types.{all_have_forms, all_compatible}
use Rattle.shape_types.specs.Instances.{IsLeastPlace, types_of}
use Rattle.specialise.specs.Plans.{entries}
use Rattle.specialise.proofs.Steps.{source_is, none_is}
use Rattle.specialise.proofs.serve.source_of.Goals as goal

pub returns-in-Some : goal.returns-in-Some
returns-in-Some c =
    source_is (entries c.args.items.now) c.args.own.now c.args.forms.now c.in-Some.k
    (subst (λ (lists : List (List ArrayType)). IsLeastPlace lists c.args.forms.now c.in-Some.k) (ap types_of c.deref.ensures.value ∙ c.in_ok-table.ensures) c.in-Some.ensures.least) c.if-k-own.true

pub returns : goal.returns
returns c = λ h.
    let same = ap types_of c.deref.ensures.value ∙ c.in_ok-table.ensures in
    none_is (entries c.args.items.now) c.args.own.now c.args.forms.now
    (subst (λ (lists : List (List ArrayType)). All (λ types. IsFalse (all_have_forms types c.args.forms.now)) lists) same ((c.in-None.ensures.none (ap all_compatible same ∙ h)).0 refl))
