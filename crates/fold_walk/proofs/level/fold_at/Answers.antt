use Rattle.std.proofs.Common.{map, subst}
use Rattle.core_ir.specs.Terms.{LetTerm}
use Rattle.core_ir.specs.View.{let_term}
use Rattle.fact_table.specs.Table.{facts_of}
use Rattle.plain_facts.specs.Called.{shapes_of}
use Rattle.fold_walk.specs.Pairing.{BindsNoLoop}
use Rattle.fold_walk.specs.Walking.{facts_behind, state_of, NoConsumer}
use Rattle.fold_walk.proofs.Consumers.{no_loop}
use Rattle.fold_walk.proofs.Places.{at_made, at_none, user_there, when_none}
use Rattle.fold_walk.proofs.level.fold_at.Goals as goal

pub returns-clause-some : goal.returns-clause-some
returns-clause-some c =
    let given = c.args.given.now in
    at_made (shapes_of given.called.now) given.function (facts_of c.args.table.now) (facts_of c.learn_binding.new.table) (facts_of c.learn_bindings.new.table) (let_term c.args.binding.now) c.args.behind.now c.args.place c.index-behind-place-2.result
    c.requires c.index-behind-place-2.is c.in_ok-learn_binding.ensures.learned c.in_ok-learn_bindings.ensures.learned (state_of c.args.folding.now) (state_of c.fold_into.new.folding) c.args.producer.now c.in_ok-new.new c.in_ok-new.ensures.some

pub returns-clause-none : goal.returns-clause-none
returns-clause-none c =
    let given = c.args.given.now in
    at_none (shapes_of given.called.now) given.function (facts_of c.args.table.now) (facts_of c.learn_binding.new.table) (facts_of c.learn_bindings.new.table) (let_term c.args.binding.now) c.args.behind.now c.args.place c.index-behind-place-2.result
    c.requires c.index-behind-place-2.is c.in_ok-learn_binding.ensures.learned c.in_ok-learn_bindings.ensures.learned (state_of c.args.folding.now) (state_of c.fold_into.new.folding) c.args.producer.now c.in_ok-new.new (state_of c.args.folding.now).next c.in_ok-new.ensures.none

pub returns-then-is_none-clause-none : goal.returns-then-is_none-clause-none
returns-then-is_none-clause-none c = λ user e.
    let given = c.args.given.now in
    let called = shapes_of given.called.now in
    let behind = c.args.behind.now in
    let place = c.args.place in
    let u = c.index-behind-place.result in
    let later = facts_behind called (let_term c.args.binding.now) (map let_term behind) place (facts_of c.args.table.now) in
    let p = state_of c.args.folding.now in
    subst (λ (v : LetTerm). NoConsumer called given.function later p.next c.args.producer.now v) (user_there behind place u c.requires c.index-behind-place.is user e)
    (no_loop called given.function later p c.args.producer.now (let_term u) (when_none c.bound_loop.result (BindsNoLoop (let_term u)) c.if-is_none.ensures c.bound_loop.ensures.none))
