use Rattle.std.proofs.Common.{rules, ◌≡◌, w64, FitsSigned, ◌+ℤ◌}
use Rattle.fold_pieces.proofs.Bounds.{no_room, none_beyond}
use Rattle.fold_pieces.proofs.holding.has_sum.Goals as goal

pub returns-in-None : goal.returns-in-None
returns-in-None c =
    let same : c.from.result ≡ c.args.by = search rules in
    let low : FitsSigned w64 c.args.axis.lo = search rules in
    let high : FitsSigned w64 c.args.axis.hi = search rules in
    none_beyond c.args.axis (c.args.number +ℤ c.args.by) low high
    (no_room c.args.number c.args.by c.from.result c.ranges.number c.ranges.by same c.in-None.ensures)
