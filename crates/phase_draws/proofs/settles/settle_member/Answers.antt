use Rattle.std.proofs.Common.{ap, ◌∙◌}
use Rattle.phase_draws.specs.Crews.{drawn_by}
use Rattle.phase_draws.proofs.Settling.{frames}
use Rattle.phase_draws.proofs.settles.settle_member.Goals as goal

pub returns-clause-frames : goal.returns-clause-frames
returns-clause-frames g c =
    frames c.args.roster.now.frame c.leave.new.frame c.in-Some.seat c.args.roster.now.reports.items c.args.member.reports.items c.gather_reports.new.reports.items c.leave.ensures
    (c.requires.through.drawn ∙ ap drawn_by c.in-Some.is) c.requires.frames c.gather_reports.ensures.items
