use Rattle.std.proofs.Common.{sym, ◌∙◌}
use Rattle.counted_code.specs.Pieces.{gens_term}
use Rattle.reach_checks.specs.Groups.{clear_in}
use Rattle.reach_checks.proofs.Exact.{gens_call, gens_have_none, gens_say}
use Rattle.reach_checks.proofs.loops.cells_are_clear.Goals as goal

pub returns-clause-unmarked : goal.returns-clause-unmarked
returns-clause-unmarked c t = gens_have_none (clear_in c.args.groups.now) (gens_term c.args.gens.now) (sym c.gens_are_clear.ensures ∙ t)

pub returns-clause-calls : goal.returns-clause-calls
returns-clause-calls c t = gens_call (clear_in c.args.groups.now) (gens_term c.args.gens.now) (sym c.gens_are_clear.ensures ∙ t)

pub returns-clause-exact : goal.returns-clause-exact
returns-clause-exact c u k = c.gens_are_clear.ensures ∙ gens_say (clear_in c.args.groups.now) (clear_in c.args.groups.now) (λ g e. e) (gens_term c.args.gens.now) u k
