use Rattle.run_store.proofs.Wholes.{lent_keeps}
use Rattle.run_store.proofs.access.keep_lent.Goals as goal

pub returns-clause-kept : goal.returns-clause-kept
returns-clause-kept c m stands =
    lent_keeps c.keep.result c.args.heap.now c.in-Some.lent c.keep.new.self m c.args.id.place c.args.id.born c.in-Some.is stands c.keep.ensures.live c.keep.ensures.kept
