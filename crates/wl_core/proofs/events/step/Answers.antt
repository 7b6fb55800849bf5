use Rattle.std.proofs.Common.{sym, subst}
use Rattle.wl_core.specs.declared.events.Event.{Event}
use Rattle.wl_core.specs.declared.events.Event.TheVariants.{Draw, Keep, Release, Write, Stop}
use Rattle.wl_core.specs.Reading.{Answers}
use Rattle.wl_core.proofs.Moves.{answered}
use Rattle.wl_core.proofs.events.step.Goals as goal

pub returns-in-Draw : goal.returns-in-Draw
returns-in-Draw c =
    let a = answered c.args.setup.now c.args.state.now c.draw.new.state (Draw c.in-Draw.worker) c.draw.result c.requires c.draw.ensures in
    record { reached = a.0; answer = subst (λ (e : Event). Answers c.args.setup.now c.args.state.now e c.draw.new.state c.draw.result) (sym c.in-Draw.is) a.1 }

pub returns-in-Keep : goal.returns-in-Keep
returns-in-Keep c =
    let a = answered c.args.setup.now c.args.state.now c.keep.new.state (Keep c.in-Keep.worker c.in-Keep.buffer) c.keep.result c.requires c.keep.ensures in
    record { reached = a.0; answer = subst (λ (e : Event). Answers c.args.setup.now c.args.state.now e c.keep.new.state c.keep.result) (sym c.in-Keep.is) a.1 }

pub returns-in-Release : goal.returns-in-Release
returns-in-Release c =
    let a = answered c.args.setup.now c.args.state.now c.release.new.state (Release c.in-Release.worker c.in-Release.buffer) c.release.result c.requires c.release.ensures in
    record { reached = a.0; answer = subst (λ (e : Event). Answers c.args.setup.now c.args.state.now e c.release.new.state c.release.result) (sym c.in-Release.is) a.1 }

pub returns-in-Write : goal.returns-in-Write
returns-in-Write c =
    let a = answered c.args.setup.now c.args.state.now c.write.new.state (Write c.in-Write.worker) c.write.result c.requires c.write.ensures in
    record { reached = a.0; answer = subst (λ (e : Event). Answers c.args.setup.now c.args.state.now e c.write.new.state c.write.result) (sym c.in-Write.is) a.1 }

pub returns-in-Stop : goal.returns-in-Stop
returns-in-Stop c =
    let a = answered c.args.setup.now c.args.state.now c.stop.new.state (Stop c.in-Stop.worker) c.stop.result c.requires c.stop.ensures in
    record { reached = a.0; answer = subst (λ (e : Event). Answers c.args.setup.now c.args.state.now e c.stop.new.state c.stop.result) (sym c.in-Stop.is) a.1 }
