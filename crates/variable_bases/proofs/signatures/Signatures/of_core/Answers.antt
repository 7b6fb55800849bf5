use Rattle.std.proofs.Common.{◌≡◌, ◌+◌, ℕ, List, [], ◌∷◌, ◌++◌, map, sym, ap, subst, ◌∙◌, arith, Vec, Global}
use Rattle.std.proofs.lemmas.List.{length-map, map-append}
use Rattle.core_ir.specs.declared.tree.CoreFun.{CoreFun}
use Rattle.core_ir.specs.View.{core_term, fun_term}
use Rattle.variable_bases.specs.declared.signatures.Signature.{Signature}
use Rattle.core_ir.specs.Terms.{FunTerm}
use Rattle.variable_bases.specs.Instances.{HasPlaces, OnlyPlaces}
use Rattle.variable_bases.proofs.Groups.{AllPlaces, ArePlaces, GroupsSoFar, next_group, all_groups, mapped_at, has_instances, only_instances}
use Rattle.variable_bases.proofs.signatures.Signatures.of_core.Goals as goal

places_of : Vec ℕ Global → List ℕ
places_of group = group.items

signatures_of : Vec Signature Global → List Signature
signatures_of group = group.items

pub loop-places-preserved : goal.loop-places-preserved
unfolding places_of signatures_of
loop-places-preserved c =
    let fs = (core_term c.args.core.now).functions in
    let groups = c.deref-places-items.result.now in
    let i = c.loop-places.places-index in
    let group = c.places-item.result in
    let one = c.in_ok-group_signatures.field-0 in
    let before = c.loop-places.groups.items in
    let moved = λ (P : List FunTerm → List ℕ → List Signature → Type 0) (h : P (map fun_term c.deref.result.now) c.deref-in-loop-places.result.now one.items).
    subst (λ (ps : List ℕ). P fs ps one.items) c.deref-in-loop-places.ensures.value
    (subst (λ (xs : List CoreFun). P (map fun_term xs) c.deref-in-loop-places.result.now one.items) c.deref.ensures.value h) in
    let has : ArePlaces fs group.items one.items = (moved HasPlaces c.in_ok-group_signatures.ensures.has, moved OnlyPlaces c.in_ok-group_signatures.ensures.only) in
    let added : map signatures_of c.push.new.self.items ≡ map signatures_of before ++ one.items ∷ [] = ap (map signatures_of) c.in_ok-push.ensures.items ∙ map-append signatures_of before (one ∷ []) in
    subst (λ (ss : List (List Signature)). GroupsSoFar fs (map places_of groups) (i + 1) ss) (sym added)
    (next_group fs (map places_of groups) i group.items one.items (map signatures_of before) (omega (arith, c.loop-places-test.true, length-map groups places_of)) (mapped_at places_of groups i group c.loop-places-test.true c.places-item.is) has c.loop-places.invariant)

pub returns-clause-has : goal.returns-clause-has
unfolding places_of signatures_of
returns-clause-has c =
    let core = core_term c.args.core.now in
    let groups = c.deref-places-items.result.now in
    let ss = map signatures_of c.loop-places.groups.items in
    let all : AllPlaces core.functions (map places_of groups) ss =
    all_groups core.functions (map places_of groups) c.loop-places.places-index ss (omega (arith, c.loop-places-test.false, length-map groups places_of)) c.loop-places.invariant in
    has_instances core ss (subst (λ (gs : List (Vec ℕ Global)). AllPlaces core.functions (map places_of gs) ss) c.deref-places-items.ensures.value all)

pub returns-clause-only : goal.returns-clause-only
unfolding places_of signatures_of
returns-clause-only c =
    let core = core_term c.args.core.now in
    let groups = c.deref-places-items.result.now in
    let ss = map signatures_of c.loop-places.groups.items in
    let all : AllPlaces core.functions (map places_of groups) ss =
    all_groups core.functions (map places_of groups) c.loop-places.places-index ss (omega (arith, c.loop-places-test.false, length-map groups places_of)) c.loop-places.invariant in
    only_instances core ss (subst (λ (gs : List (Vec ℕ Global)). AllPlaces core.functions (map places_of gs) ss) c.deref-places-items.ensures.value all)
