use Rattle.std.proofs.Common.{◌∙◌}
use Rattle.std.proofs.lemmas.List.{length-append}
use Rattle.run_values.proofs.Outside.{call_around}
use Rattle.run_values.proofs.frames.Frames.enter_call.Goals as goal

pub returns-clause-outer : goal.returns-clause-outer
returns-clause-outer c =
    let f = c.args.self.now in
    call_around f.outside.now f.slots.items c.push.new.self.items f.trail.items _ f.base c.in_ok-push.ensures.items (c.count-self.ensures ∙ length-append f.outside.now f.slots.items)
