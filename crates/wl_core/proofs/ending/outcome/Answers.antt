use Rattle.std.proofs.Common.{sym}
use Rattle.wl_core.specs.Reading.{setup_of, state_of}
use Rattle.wl_core.proofs.States.{facts}
use Rattle.wl_core.proofs.Verdicts.{settled}
use Rattle.wl_core.proofs.Endings.{stored_is, combined_is}
use Rattle.wl_core.proofs.ending.outcome.Goals as goal

pub returns-in-Some : goal.returns-in-Some
returns-in-Some c =
    let u = c.args.setup.now in
    let b = c.args.state.now in
    let done = settled (setup_of u) (state_of (setup_of u) b) c.requires.reached.setup (facts u b c.requires.reached) c.requires.finished in
    sym (done.fault c.in-Some.fault c.in-Some.ensures)

pub returns-in_ok-joined-in-Write : goal.returns-in_ok-joined-in-Write
returns-in_ok-joined-in-Write c = stored_is c.args.setup.now c.args.state.now c.in_ok-joined-in-Write.field-0.items c.requires.reached c.requires.finished c.in_default.ensures c.in-Write.is c.in_ok-joined-in-Write.ensures

pub returns-in_ok-combined-in-Fold : goal.returns-in_ok-combined-in-Fold
returns-in_ok-combined-in-Fold c = combined_is c.args.setup.now c.args.state.now c.in-Fold.field-0 c.in-Fold.op _ c.requires.reached c.requires.finished c.in_default.ensures c.in-Fold.is c.in_ok-combined-in-Fold.ensures
