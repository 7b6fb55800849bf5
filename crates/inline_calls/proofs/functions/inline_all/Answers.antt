use Rattle.std.proofs.Common.{refl}
use Rattle.core_ir.specs.View.{core_term}
use Rattle.unreached_functions.proofs.Outside.{outside_through}
use Rattle.inline_calls.proofs.Passes.{same_all, first_pass, goes_on, all_through}
use Rattle.inline_calls.proofs.functions.inline_all.Goals as goal

pub returns-clause-outcome : goal.returns-clause-outcome
returns-clause-outcome c formed =
    let start = core_term c.in_ok-core.core in
    let well = c.in_ok-core.ensures.well formed in
    same_all (core_term c.args.core) start (core_term c.inline_functions-2.new.core) c.in_ok-core.ensures.outcome
    (same_all start (core_term c.inline_functions.new.core) (core_term c.inline_functions-2.new.core)
    (c.in_ok-inline_functions.ensures.outcome well) (c.in_ok-inline_functions-2.ensures.outcome (c.in_ok-inline_functions.ensures.well well)))

pub returns-clause-outside : goal.returns-clause-outside
returns-clause-outside c =
    let start = core_term c.in_ok-core.core in
    outside_through (core_term c.args.core) start (core_term c.inline_functions-2.new.core) c.in_ok-core.ensures.outside
    (outside_through start (core_term c.inline_functions.new.core) (core_term c.inline_functions-2.new.core)
    c.in_ok-inline_functions.ensures.outside c.in_ok-inline_functions-2.ensures.outside)

pub returns-clause-well : goal.returns-clause-well
returns-clause-well c formed = c.in_ok-inline_functions-2.ensures.well (c.in_ok-inline_functions.ensures.well (c.in_ok-core.ensures.well formed))

pub returns-clause-left : goal.returns-clause-left
returns-clause-left c formed =
    let well = c.in_ok-core.ensures.well formed in
    let between = c.inline_functions.new.core in
    let first = c.in_ok-inline_functions.ensures.come well (first_pass (core_term c.in_ok-core.core)) in
    let second = c.in_ok-inline_functions-2.ensures.come (c.in_ok-inline_functions.ensures.well well) (goes_on (core_term between) between.functions.items refl first) in
    all_through (core_term c.inline_functions-2.new.core) c.inline_functions-2.new.core.functions.items refl second
