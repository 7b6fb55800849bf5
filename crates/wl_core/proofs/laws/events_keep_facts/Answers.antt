use Rattle.wl_core.proofs.Kept.{kept, reached_facts, held_twice}
use Rattle.wl_core.proofs.laws.events_keep_facts.Goals as goal

pub returns : goal.returns
returns c = record { reached = reached_facts; kept = kept; held_twice = λ u s w b is r. held_twice u s is (reached_facts u s is r) w b }
