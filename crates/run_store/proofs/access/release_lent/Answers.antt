use Rattle.run_store.proofs.Wholes.{lent_releases}
use Rattle.run_store.proofs.access.release_lent.Goals as goal

pub returns-clause-released : goal.returns-clause-released
returns-clause-released c m stands =
    lent_releases c.release.result c.args.heap.now c.in-Some.lent c.release.new.self m c.args.id.place c.args.id.born c.in-Some.is stands c.release.ensures.live c.release.ensures.two
    c.release.ensures.released
