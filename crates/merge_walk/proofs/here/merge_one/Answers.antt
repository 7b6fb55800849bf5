use Rattle.std.proofs.Common.{◌≡◌, map}
use Rattle.core_ir.specs.View.{right_term}
use Rattle.core_facts.specs.Facts.{right_facts}
use Rattle.fact_table.specs.Table.{fact_of, facts_of}
use Rattle.plain_facts.specs.Called.{shapes_of}
use Rattle.plain_facts.proofs.known_rights.Told.{known_here}
use Rattle.merge_walk.proofs.Loops.{here_end, other_kept, since_known}
use Rattle.merge_walk.proofs.here.merge_one.Goals as goal

pub returns-in_ok-made-in-Parted-clause-merged : goal.returns-in_ok-made-in-Parted-clause-merged
returns-in_ok-made-in-Parted-clause-merged c =
    here_end (shapes_of c.args.called.now) (facts_of c.args.table.now) c.args.progress.now c.merge_loop.new.progress c.args.known.right c.in-Parted.outer c.in_ok-made-in-Parted.made c.of_parted.result
    c.in-Parted.is c.in_ok-made-in-Parted.ensures.merged c.of_parted.ensures.right

pub returns-in_ok-made-in-Parted-clause-known : goal.returns-in_ok-made-in-Parted-clause-known
returns-in_ok-made-in-Parted-clause-known c = since_known (shapes_of c.args.called.now) (facts_of c.args.table.now) c.of_parted.result (map fact_of c.args.known.values.items ≡ right_facts (shapes_of c.args.called.now) (right_term c.args.known.right) (facts_of c.args.table.now))
    (known_here (shapes_of c.args.called.now) (facts_of c.args.table.now) c.of_parted.result c.of_parted.ensures.known)

pub returns-in_default-clause-merged : goal.returns-in_default-clause-merged
returns-in_default-clause-merged c = other_kept (shapes_of c.args.called.now) (facts_of c.args.table.now) c.args.progress.now c.args.known.right c.in_default.not-Parted
