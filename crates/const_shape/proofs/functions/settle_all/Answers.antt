use Rattle.plain_facts.specs.Called.{shapes_of}
use Rattle.core_forms.proofs.cleaning.Functions.{function_turn, all_done}
use Rattle.const_shape.specs.Settling.{settled_by}
use Rattle.core_walk.proofs.Turns.{none_left}
use Rattle.const_shape.proofs.functions.settle_all.Goals as goal

pub loop-function-preserved : goal.loop-function-preserved
loop-function-preserved c =
    function_turn (settled_by (shapes_of c.args.called.now)) c.loop-function.settled.items c.push.new.self.items c.loop-function.function-iterator.rest.items c.next.new.self.rest.items
    c.in-Some.function c.in_ok-settle_function.field-0 _ c.loop-function.invariant c.in-Some.ensures.steps.0 c.in_ok-push.ensures.items c.in_ok-settle_function.ensures

pub returns : goal.returns
returns c =
    let none = none_left c.loop-function.function-iterator.rest.len c.loop-function.function-iterator.rest.items c.in-None.ensures.steps.0 c.loop-function.function-iterator.rest.ok.0 in
    all_done (settled_by (shapes_of c.args.called.now)) c.loop-function.settled.items c.loop-function.function-iterator.rest.items c.into_iter-function-iterator.result.rest.items c.args.functions.items
    c.loop-function.invariant none c.into_iter-function-iterator.ensures.into_iter_gives.0
