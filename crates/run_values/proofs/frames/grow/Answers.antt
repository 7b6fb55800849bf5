use Rattle.std.proofs.Common.{ap, ◌∙◌, rules}
use Rattle.run_values.specs.Scopes.{slots_of}
use Rattle.run_values.proofs.Slots.{grown}
use Rattle.run_values.proofs.frames.grow.Goals as goal

pub returns-clause-same : goal.returns-clause-same
returns-clause-same c = ap slots_of c.in_ok-resize.ensures.items ∙ grown c.args.slots.now.items c.in-Some.count _ (search rules)
