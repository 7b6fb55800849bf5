use Rattle.std.proofs.Common.{sym, ◌∙◌}
use Rattle.counted_code.specs.Pieces.{parts_term}
use Rattle.reach_checks.specs.Groups.{clear_in}
use Rattle.reach_checks.proofs.Exact.{parts_call, parts_have_none, parts_say}
use Rattle.reach_checks.proofs.loops.parted_cells_are_clear.Goals as goal

pub returns-clause-unmarked : goal.returns-clause-unmarked
returns-clause-unmarked c t = parts_have_none (clear_in c.args.groups.now) (parts_term c.args.parts.now) (sym c.parts_are_clear.ensures ∙ t)

pub returns-clause-calls : goal.returns-clause-calls
returns-clause-calls c t = parts_call (clear_in c.args.groups.now) (parts_term c.args.parts.now) (sym c.parts_are_clear.ensures ∙ t)

pub returns-clause-exact : goal.returns-clause-exact
returns-clause-exact c u k = c.parts_are_clear.ensures ∙ parts_say (clear_in c.args.groups.now) (clear_in c.args.groups.now) (λ g e. e) (parts_term c.args.parts.now) u k
