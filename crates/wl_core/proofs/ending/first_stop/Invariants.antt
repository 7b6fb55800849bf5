use Rattle.std.proofs.Common.{◌≡◌, ℕ, ◌<◌, false}
use Rattle.wl_core.specs.Reading.{setup_of, state_of}
use Rattle.wl_core.proofs.ending.first_stop.Given as goal

abbrev pub invariant-loop-chunk : goal.invariant-loop-chunk
invariant-loop-chunk l = (c : ℕ) → c < l.chunk → (state_of (setup_of l.setup) l.state).stopped c ≡ false
