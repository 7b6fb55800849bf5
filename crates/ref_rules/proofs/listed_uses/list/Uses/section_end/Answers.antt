use Rattle.std.proofs.Common.{length, arith, ap}
use Rattle.ref_rules.specs.listed_uses.Latest.{section}
use Rattle.ref_rules.proofs.listed_uses.Recorded.{section_counted}
use Rattle.ref_rules.proofs.listed_uses.list.Uses.section_end.Goals as goal

pub returns : goal.returns
returns c inner later h =
    let es = c.self.inside.entries in
    let size = ap length c.self.view_is in
    c.skip.ensures (section inner)
    (section_counted c.args.self.now c.args.place c.count_at.result c.saturating_add.result inner later c.count_at.ensures c.saturating_add.ensures (omega (arith, es.ok.0, es.ok.1, es.small, size)) h)
    later h
