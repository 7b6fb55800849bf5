use Rattle.std.proofs.Common.{◌≡◌, ℕ, ◌<◌, false}
use Rattle.wl_core.specs.Machine.{end}
use Rattle.wl_core.specs.Reading.{setup_of, state_of}
use Rattle.wl_core.proofs.ending.chunks_done.Given as goal

abbrev pub invariant-loop-chunk : goal.invariant-loop-chunk
invariant-loop-chunk l =
    (c : ℕ) → c < l.chunk
    → (c < l.state.taken) × ((state_of (setup_of l.setup) l.state).next c ≡ end (setup_of l.setup) c) × ((state_of (setup_of l.setup) l.state).stopped c ≡ false)
