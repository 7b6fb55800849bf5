use Rattle.sac_refusals.proofs.Places.{one_site, one_code, stuck_meets, deep_meets, stop_has_no_tree}
use Rattle.sac_refusals.proofs.first_stops.Goals as goal

pub returns : goal.returns
returns c = record { one = one_site; exclusive = one_code; stuck = stuck_meets; deep = deep_meets; no_tree = stop_has_no_tree }
