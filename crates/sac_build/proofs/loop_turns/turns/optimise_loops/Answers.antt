use Rattle.std.proofs.Common.{◌∙◌}
use Rattle.std.proofs.lemmas.Result.{IfOk-weaker}
use Rattle.core_ir.specs.Outcome.{SameOutside}
use Rattle.core_ir.specs.View.{core_term}
use Rattle.core_ir.specs.WellFormed.{IsWellFormed}
use Rattle.core_facts.specs.calls.Arrays.{SameOutcomeOnArrays}
use Rattle.unreached_functions.proofs.Outside.{outside_through}
use Rattle.sac_build.specs.loop_turns.Steps.{CameByTurns, Turned}
use Rattle.sac_build.specs.declared.loop_turns.turns.Optimised.{Optimised}
use Rattle.sac_build.proofs.loop_turns.turns.optimise_loops.Goals as goal

pub returns-clause-outcome : goal.returns-clause-outcome
returns-clause-outcome c well =
    let old = core_term c.args.core in
    let vectored = core_term c.in_ok-vectored.vectored in
    let before = c.in_ok-vectored.ensures.well well in
    IfOk-weaker c.join_loops.result (λ (new : Optimised). Turned vectored (core_term new.core) new.folded new.scalarised) (λ (new : Optimised). SameOutcomeOnArrays old (core_term new.core))
    (λ new t args caps full. c.in_ok-vectored.ensures.outcome well args caps full ∙ (t.kept before).outcome args caps full) c.join_loops.ensures.turned

pub returns-clause-outside : goal.returns-clause-outside
returns-clause-outside c =
    let old = core_term c.args.core in
    let vectored = core_term c.in_ok-vectored.vectored in
    IfOk-weaker c.join_loops.result (λ (new : Optimised). Turned vectored (core_term new.core) new.folded new.scalarised) (λ (new : Optimised). SameOutside old (core_term new.core))
    (λ new t. outside_through old vectored (core_term new.core) c.in_ok-vectored.ensures.outside t.outside) c.join_loops.ensures.turned

pub returns-clause-well : goal.returns-clause-well
returns-clause-well c well =
    let vectored = core_term c.in_ok-vectored.vectored in
    let before = c.in_ok-vectored.ensures.well well in
    IfOk-weaker c.join_loops.result (λ (new : Optimised). Turned vectored (core_term new.core) new.folded new.scalarised) (λ (new : Optimised). IsWellFormed (core_term new.core))
    (λ new t. (t.kept before).well) c.join_loops.ensures.turned

pub returns-clause-turns : goal.returns-clause-turns
returns-clause-turns c well =
    let old = core_term c.args.core in
    let vectored = core_term c.in_ok-vectored.vectored in
    let before = c.in_ok-vectored.ensures.well well in
    IfOk-weaker c.join_loops.result (λ (new : Optimised). Turned vectored (core_term new.core) new.folded new.scalarised)
    (λ (new : Optimised). CameByTurns old (core_term new.core) new.folded new.scalarised)
    (λ new t. record { core = vectored; well = before; same = c.in_ok-vectored.ensures.outcome well; turns = (t.kept before).turns }) c.join_loops.ensures.turned

pub returns-clause-settled : goal.returns-clause-settled
returns-clause-settled c well = c.join_loops.ensures.settled (c.in_ok-vectored.ensures.well well)
