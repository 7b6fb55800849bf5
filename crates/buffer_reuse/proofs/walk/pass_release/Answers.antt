use Rattle.std.proofs.Common.{◌∙◌, sym}
use Rattle.buffer_reuse.proofs.MarkTurns.{released}
use Rattle.buffer_reuse.proofs.walk.pass_release.Goals as goal

pub returns : goal.returns
returns c rest =
    released c.args.made.now.steps.items c.push.new.self.items c.args.made.now.taken c.args.x rest (sym c.is_taken.ensures ∙ c.if-is_taken.false) c.in_ok-push.ensures.items
