use Rattle.std.proofs.Common.{◌≡◌, map, take, ℕ, Some}
use Rattle.std.specs.Prelude.{slice_get}
use Rattle.specialise.specs.Plans.{members}
use Rattle.specialise.proofs.building.renumbered_groups.Given as goal

abbrev pub invariant-loop-group : goal.invariant-loop-group
invariant-loop-group l = map (map (λ (n : ℕ). Some n)) (members l.new.items) ≡ map (map (slice_get l.places)) (members (take l.group-index l.groups))
