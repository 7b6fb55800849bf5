use Rattle.phase_loop_laws.proofs.over_phases.Whole.{phase_ends_over}
use Rattle.phase_loop_laws.proofs.over_phases.phases_end_over.Goals as goal

pub returns : goal.returns
returns c code counted reached clear turns left nest parts plain calls live counts m e ρ backed shows v b base old shape inside is sole apart frame box spans long large own elements j same es end result =
    phase_ends_over code counted reached clear turns left nest parts plain calls live counts m e ρ backed shows v b base old shape inside is sole apart frame box spans own elements long large es end result j same
