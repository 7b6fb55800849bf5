use Rattle.std.proofs.Common.{◌≡◌, map, take, ℕ, Some}
use Rattle.std.specs.Prelude.{slice_get}
use Rattle.specialise.proofs.building.renumbered.Given as goal

abbrev pub invariant-loop-number : goal.invariant-loop-number
invariant-loop-number l = map (λ (n : ℕ). Some n) l.new.items ≡ map (slice_get l.places) (take l.number-index l.group)
