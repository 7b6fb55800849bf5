use Rattle.std.proofs.Common.{refl, map}
use Rattle.core_ir.specs.View.{fun_term}
use Rattle.plain_facts.specs.Called.{shapes_of}
use Rattle.scalarise.proofs.Turns.{none_made, function_turn, all_made, none_left}
use Rattle.scalarise.proofs.pass.merge_functions.Goals as goal

pub loop-function-init : goal.loop-function-init
loop-function-init c = none_made (shapes_of c.args.called.now) c.new-walked.result.items 0 (map fun_term c.into_iter-function-iterator.result.rest.items) c.new-walked.ensures.items refl

pub loop-function-preserved : goal.loop-function-preserved
loop-function-preserved c =
    function_turn (shapes_of c.args.called.now) c.loop-function.walked.items c.push.new.self.items c.loop-function.function-iterator.rest.items c.next.new.self.rest.items
    c.in-Some.function c.in_ok-function.function _ c.loop-function.merged c.in_ok-function.count c.loop-function.invariant c.in-Some.ensures.steps.0 c.in_ok-push.ensures.items c.in_ok-function.ensures

pub returns : goal.returns
returns c =
    let none = none_left c.loop-function.function-iterator.rest.len c.loop-function.function-iterator.rest.items c.in-None.ensures.steps.0 c.loop-function.function-iterator.rest.ok.0 in
    all_made (shapes_of c.args.called.now) c.loop-function.walked.items c.loop-function.function-iterator.rest.items c.into_iter-function-iterator.result.rest.items c.args.functions.items
    c.loop-function.merged c.loop-function.invariant none c.into_iter-function-iterator.ensures.into_iter_gives.0
