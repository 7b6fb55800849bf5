use Rattle.std.proofs.Common.{ap, ◌∙◌}
use Rattle.sac_ast.specs.View
use Rattle.sac_print.specs.Canonical.{canonical}
use Rattle.sac_due.specs.declared.status.Status.TheVariants.{Done}
use Rattle.sac_top.proofs.Runs.{runs, checks, prints}
use Rattle.sac_top.proofs.Tracing.{stays}
use Rattle.sac_top.proofs.session.Session.answer_program.Goals as goal

pub returns-in-Run-clause-answer : goal.returns-in-Run-clause-answer
returns-in-Run-clause-answer g c = runs _ _ _ _ _ _ c.in-Run.is c.answer_input.ensures.answer

pub returns-in-Check-clause-answer : goal.returns-in-Check-clause-answer
returns-in-Check-clause-answer g c = checks _ _ _ _ _ _ c.in-Check.is c.answer_line.ensures

pub returns-in_ok-print_program-in-Print-clause-answer : goal.returns-in_ok-print_program-in-Print-clause-answer
returns-in_ok-print_program-in-Print-clause-answer g c =
    prints _ _ _ _ _ _ c.in-Print.is (ap (λ t. record { status = Done; text = t }) (c.in_ok-print_program-in-Print.ensures ∙ ap canonical (ap View.program c.program.ensures)))

pub returns-in-Check-clause-left : goal.returns-in-Check-clause-left
returns-in-Check-clause-left g c = stays _ c.requires.new
