use Rattle.ref_counts.proofs.Forks.{fork_sound}
use Rattle.ref_counts.proofs.held.fork.Goals as goal

pub returns-clause-sound : goal.returns-clause-sound
returns-clause-sound c es =
    fork_sound es c.args.first c.args.second c.in_ok-new.field-0.value c.in_ok-new-2.field-0.value c.bound_of.result c.bound_of-2.result c.min-used_before.result
    c.in_ok-new.ensures.ok c.in_ok-new-2.ensures.ok (c.bound_of.ensures es) (c.bound_of-2.ensures es) c.min-used_before.ensures
