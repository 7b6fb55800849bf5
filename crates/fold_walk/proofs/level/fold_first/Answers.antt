use Rattle.std.proofs.Common.{◌≡◌, ◌↔◌, ◌∙◌, IsTrue, List, Bool, true, false, ℕ, Option, map, sym, subst}
use Rattle.std.specs.Prelude.{slice_get, IfNone, IfSome, Some}
use Rattle.core_ir.specs.declared.tree.CorePart.{CorePart}
use Rattle.core_ir.specs.declared.tree.PartedLoop.{out-PartedLoop}
use Rattle.core_ir.specs.Terms.{LetTerm}
use Rattle.core_ir.specs.View.{let_term}
use Rattle.fact_table.specs.Notes.{Note}
use Rattle.fact_table.specs.Table.{facts_of}
use Rattle.foldable_pairs.specs.Pairs.{CanProduce}
use Rattle.foldable_pairs.specs.Parts.{terms}
use Rattle.plain_facts.specs.Called.{shapes_of}
use Rattle.binding_users.specs.Users.{IsSoleUser}
use Rattle.fold_walk.specs.Walking.{facts_behind, state_of, ConsumerMade, NoConsumer}
use Rattle.fold_walk.proofs.Folds.{first_some, no_can, no_loop_first, no_user, none_taken}
use Rattle.fold_walk.proofs.level.fold_first.Goals as goal

pub returns-in_default-clause-none : goal.returns-in_default-clause-none
returns-in_default-clause-none c = λ h near.
    absurd (no_loop_first (shapes_of c.args.given.now.called.now) c.args.folding.now.progress.next (facts_of c.args.table.now) (let_term c.args.binding.now) (map let_term c.args.behind.now) c.args.results.now h c.in_default.ensures.none)

pub returns-then-not-branch-clause-none : goal.returns-then-not-branch-clause-none
returns-then-not-branch-clause-none c = λ h near.
    let given = c.args.given.now in
    let called = shapes_of given.called.now in
    let k = facts_of c.args.table.now in
    let loop = c.in-Some.parted.now in
    let op = (out-PartedLoop loop).op in
    let b : Bool = c.in_ok-can_produce.field-0 in
    let can = subst (λ (ps : List CorePart). IsTrue b ↔ CanProduce called k op (terms ps)) c.deref.ensures.value c.in_ok-can_produce.ensures.can in
    absurd (no_can called given.function c.args.folding.now.progress.next k (let_term c.args.binding.now) (map let_term c.args.behind.now) c.args.results.now c.in-Some.var loop c.in-Some.ensures.some
    (λ m. let e : true ≡ false = sym (can.1 m) ∙ c.if-not-branch.true in cc) h)

pub returns-in_default-user-clause-none : goal.returns-in_default-user-clause-none
returns-in_default-user-clause-none c = λ h near.
    let given = c.args.given.now in
    absurd (no_user (shapes_of given.called.now) given.function c.args.folding.now.progress.next (facts_of c.args.table.now) (let_term c.args.binding.now) (map let_term c.args.behind.now) c.args.results.now c.in-Some.var c.in-Some.parted.now
    c.in-Some.ensures.some (subst (λ (o : Option ℕ). IfNone o ((place : ℕ) → IsSoleUser c.in-Some.var (map let_term c.args.behind.now) c.args.results.now place → ⊥)) c.in_default-user.is c.in_ok-user.ensures.none) h)

pub returns-in-Some-2-clause-some : goal.returns-in-Some-2-clause-some
returns-in-Some-2-clause-some c =
    let given = c.args.given.now in
    let called = shapes_of given.called.now in
    let k = facts_of c.args.table.now in
    let l = let_term c.args.binding.now in
    let lets = map let_term c.args.behind.now in
    let loop = c.in-Some.parted.now in
    let op = (out-PartedLoop loop).op in
    let place = c.in-Some-user.place in
    let b : Bool = c.in_ok-can_produce.field-0 in
    let can = subst (λ (ps : List CorePart). IsTrue b ↔ CanProduce called k op (terms ps)) c.deref.ensures.value c.in_ok-can_produce.ensures.can in
    let p = state_of c.args.folding.now in
    let q = state_of c.fold_at.new.folding in
    let source = c.source_of-producer.ensures in
    let made = subst (λ (t : List Note). IfSome c.in_ok-new.field-0 (λ n. (u : LetTerm) → slice_get lets place ≡ Some u → ConsumerMade called given.function (facts_behind called l lets place (facts_of t)) p q c.source_of-producer.result u (let_term n)))
    c.in_ok-can_produce.ensures.facts c.in_ok-new.ensures.some in
    first_some called given.function k p q l c.args.results.now c.in-Some.var loop c.in-Some.ensures.some lets place (subst (λ (o : Option ℕ). IfSome o (λ n. IsSoleUser c.in-Some.var (map let_term c.args.behind.now) c.args.results.now n)) c.in-Some-user.is c.in_ok-user.ensures.some) c.source_of-producer.result c.in_ok-new.field-0
    c.in-Some-2.new c.in-Some-2.is made source.var source.frame source.parts (can.0 c.if-not-branch.false)

pub returns-in-None-clause-none : goal.returns-in-None-clause-none
returns-in-None-clause-none c =
    let given = c.args.given.now in
    let called = shapes_of given.called.now in
    let k = facts_of c.args.table.now in
    let l = let_term c.args.binding.now in
    let lets = map let_term c.args.behind.now in
    let loop = c.in-Some.parted.now in
    let place = c.in-Some-user.place in
    let above = c.args.folding.now.progress.next in
    let source = c.source_of-producer.ensures in
    let none = subst (λ (t : List Note). IfNone c.in_ok-new.field-0 ((u : LetTerm) → slice_get lets place ≡ Some u → NoConsumer called given.function (facts_behind called l lets place (facts_of t)) above c.source_of-producer.result u))
    c.in_ok-can_produce.ensures.facts c.in_ok-new.ensures.none in
    none_taken called given.function above k l lets c.args.results.now c.in-Some.var loop c.in-Some.ensures.some place (subst (λ (o : Option ℕ). IfSome o (λ n. IsSoleUser c.in-Some.var (map let_term c.args.behind.now) c.args.results.now n)) c.in-Some-user.is c.in_ok-user.ensures.some) c.source_of-producer.result c.in_ok-new.field-0 c.in-None.is none source.var source.frame source.parts
