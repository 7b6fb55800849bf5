use Rattle.std.proofs.Common.{rules, ◌≡◌, ◌<◌, length, map, refl, sym, subst, ap, ◌∙◌, List, Some, Vec, Global}
use Rattle.std.specs.Prelude.{IfNone, slice_get}
use Rattle.sac_base.specs.declared.base.Base.{Base}
use Rattle.variable_bases.specs.declared.signatures.Signature.{Signature}
use Rattle.variable_bases.specs.Table.{AllGive, Fits, NoneGives, NoneTakes, SomeGives}
use Rattle.variable_bases.proofs.Groups.{group_gives, group_none, group_two, found_mapped}
use Rattle.variable_bases.proofs.signatures.Signatures.given.Goals as goal

signatures_of : Vec Signature Global → List Signature
signatures_of group = group.items

pub returns-then-all_give-clause-some : goal.returns-then-all_give-clause-some
unfolding signatures_of
returns-then-all_give-clause-some c =
    let groups = c.deref.result.now in
    let group = c.in_ok-signatures.signatures.now in
    let gives = c.deref-then-all_give.result.now in
    let less : c.args.group < length groups = search rules in
    let found : slice_get (map signatures_of c.args.self.now.groups.items) c.args.group ≡ Some group.items =
    ap (λ gs. slice_get (map signatures_of gs) c.args.group) (sym c.deref.ensures.value) ∙ found_mapped signatures_of groups c.args.group group less c.in_ok-signatures.ensures.lookup.1 in
    let all : AllGive group.items c.args.args.now c.args.table.now gives =
    subst (λ (us : List Base). AllGive group.items c.args.args.now c.args.table.now us) (c.deref-4.ensures.value ∙ sym c.deref-then-all_give.ensures.value)
    (subst (λ (ss : List Signature). AllGive ss c.args.args.now c.args.table.now c.deref-4.result.now) c.deref-3.ensures.value (c.all_give.ensures.all c.if-all_give.true)) in
    group_gives (map signatures_of c.args.self.now.groups.items) c.args.group group.items c.args.args.now c.args.table.now gives found all

pub returns-in_err-first-clause-none : goal.returns-in_err-first-clause-none
unfolding signatures_of
returns-in_err-first-clause-none c =
    let groups = c.deref.result.now in
    let group = c.in_ok-signatures.signatures.now in
    let args = c.args.args.now in
    let table = c.args.table.now in
    let less : c.args.group < length groups = search rules in
    let found : slice_get (map signatures_of c.args.self.now.groups.items) c.args.group ≡ Some group.items =
    ap (λ gs. slice_get (map signatures_of gs) c.args.group) (sym c.deref.ensures.value) ∙ found_mapped signatures_of groups c.args.group group less c.in_ok-signatures.ensures.lookup.1 in
    let none : NoneTakes group.items args table = subst (λ (ss : List Signature). NoneTakes ss args table) c.deref-2.ensures.value c.in_err-first.ensures.none in
    subst (λ o. IfNone o (NoneGives c.args.self.now c.args.group args table)) (sym c.from_residual-in_err-first.ensures)
    (λ takes gives instance may same. group_none (map signatures_of c.args.self.now.groups.items) c.args.group group.items args table takes gives found none instance may)

pub returns-else-all_give-clause-none : goal.returns-else-all_give-clause-none
unfolding signatures_of
returns-else-all_give-clause-none c takes gives instance may same =
    let groups = c.deref.result.now in
    let group = c.in_ok-signatures.signatures.now in
    let first = c.in_ok-first.first.now in
    let args = c.args.args.now in
    let table = c.args.table.now in
    let less : c.args.group < length groups = search rules in
    let found : slice_get (map signatures_of c.args.self.now.groups.items) c.args.group ≡ Some group.items =
    ap (λ gs. slice_get (map signatures_of gs) c.args.group) (sym c.deref.ensures.value) ∙ found_mapped signatures_of groups c.args.group group less c.in_ok-signatures.ensures.lookup.1 in
    let fits : Fits group.items args table first = subst (λ (ss : List Signature). Fits ss args table first) c.deref-2.ensures.value c.in_ok-first.ensures.fits in
    let other : SomeGives group.items args table first.gives.items = subst (λ (us : List Base). SomeGives group.items args table us) c.deref-4.ensures.value
    (subst (λ (ss : List Signature). SomeGives ss args table c.deref-4.result.now) c.deref-3.ensures.value (c.if-all_give.ensures.some refl)) in
    group_two (map signatures_of c.args.self.now.groups.items) c.args.group group.items first args table gives found fits other same
