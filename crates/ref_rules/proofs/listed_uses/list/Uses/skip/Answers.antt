use Rattle.std.proofs.Common.{length, arith, ap}
use Rattle.ref_rules.proofs.listed_uses.Recorded.{skipped}
use Rattle.ref_rules.proofs.listed_uses.list.Uses.skip.Goals as goal

pub returns : goal.returns
returns c inner count later h =
    let es = c.self.inside.entries in
    let size = ap length c.self.view_is in
    skipped c.args.self.now c.args.place c.args.count c.saturating_add.result inner later c.saturating_add.ensures (omega (arith, es.ok.0, es.ok.1, es.small, size)) (omega (arith, c.ranges.place.fits)) count h
