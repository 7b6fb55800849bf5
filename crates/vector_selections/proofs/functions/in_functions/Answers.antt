use Rattle.plain_facts.specs.Called.{shapes_of}
use Rattle.core_forms.proofs.cleaning.Functions.{function_turn, all_done}
use Rattle.vector_selections.specs.Vectored.{vectored_function, vectors_in}
use Rattle.vector_selections.proofs.Turns.{none_left, count_turn, count_end}
use Rattle.vector_selections.proofs.functions.in_functions.Goals as goal

pub loop-function-preserved : goal.loop-function-preserved
loop-function-preserved c =
    let called = shapes_of c.args.called.now in
    let v = c.loop-function.invariant in
    let before = c.loop-function.function-iterator.rest.items in
    let rest = c.next.new.self.rest.items in
    let x = c.in-Some.function in
    let new = c.in_ok-function.ensures in
    record {
      functions = function_turn (vectored_function called) c.loop-function.vectored.items c.push.new.self.items before rest x c.in_ok-function.function _ v.functions c.in-Some.ensures.steps.0 c.in_ok-push.ensures.items new.term;
      count = count_turn (vectors_in called) before rest x c.loop-function.count _ c.in_ok-function.more _ v.count c.in-Some.ensures.steps.0 c.in-Some-checked_add.ensures.1 new.count;
    }

pub returns-clause-term : goal.returns-clause-term
returns-clause-term c =
    let none = none_left c.loop-function.function-iterator.rest.len c.loop-function.function-iterator.rest.items c.in-None.ensures.steps.0 c.loop-function.function-iterator.rest.ok.0 in
    all_done (vectored_function (shapes_of c.args.called.now)) c.loop-function.vectored.items c.loop-function.function-iterator.rest.items c.into_iter-function-iterator.result.rest.items c.args.functions.items
    c.loop-function.invariant.functions none c.into_iter-function-iterator.ensures.into_iter_gives.0

pub returns-clause-count : goal.returns-clause-count
returns-clause-count c =
    let none = none_left c.loop-function.function-iterator.rest.len c.loop-function.function-iterator.rest.items c.in-None.ensures.steps.0 c.loop-function.function-iterator.rest.ok.0 in
    count_end (vectors_in (shapes_of c.args.called.now)) c.loop-function.function-iterator.rest.items c.into_iter-function-iterator.result.rest.items c.args.functions.items c.loop-function.count
    c.loop-function.invariant.count none c.into_iter-function-iterator.ensures.into_iter_gives.0
