use Rattle.std.proofs.Common.{sym, ap, ◌∙◌, subst}
use Rattle.std.specs.Slice.{IsItemAt}
use Rattle.run_types.specs.Choosing.{functions_of, least_in}
use Rattle.run_types.specs.Reading.{arrays_in}
use Rattle.run_types.proofs.Choices.{group_there, no_group}
use Rattle.run_types.proofs.calls.choose.Goals as goal

pub returns-in-Some-clause-told : goal.returns-in-Some-clause-told
returns-in-Some-clause-told c h =
    let code = c.args.code.now in
    let args = arrays_in h c.args.args.now in
    let found = subst (λ gs. IsItemAt gs c.args.group c.get.result) c.deref.ensures.value c.get.ensures.lookup in
    c.choose_among.ensures.told h
    ∙ ap (λ fs. least_in (functions_of fs) c.deref-in-Some-2.result.now args) c.deref-in-Some.ensures.value
    ∙ ap (λ ps. least_in (functions_of code.functions.items) ps args) (c.deref-in-Some-2.ensures.value ∙ sym (group_there code.groups.items c.args.group c.get.result found c.in-Some.places c.in-Some.is))

pub returns-in-None-clause-told : goal.returns-in-None-clause-told
returns-in-None-clause-told c h =
    let code = c.args.code.now in
    let args = arrays_in h c.args.args.now in
    let found = subst (λ gs. IsItemAt gs c.args.group c.get.result) c.deref.ensures.value c.get.ensures.lookup in
    ap (λ ps. least_in (functions_of code.functions.items) ps args) (sym (no_group code.groups.items c.args.group c.get.result found c.in-None.is))
