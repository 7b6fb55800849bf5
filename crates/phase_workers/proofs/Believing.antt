-- Ends that are believed only where something is known.
use Rattle.std.proofs.Common.{◌≡◌, ℕ, Result, Ok, Err, ap, subst}
use Rattle.buffer_heap.specs.Heaps.{HeapValue}
use Rattle.count_table.specs.Tallied.{PhaseTotals}
use Rattle.phase_books.specs.Homes.{IsBooked, chunks_in, left_in}
use Rattle.phase_books.specs.declared.results.Books.{Books}
use Rattle.phase_draws.specs.Endings.{IsTallied}
use Rattle.phase_workers.specs.Covered.{EndsIf}
use Rattle.sac_base.specs.declared.stop.Stop.{Stop}
use Rattle.sac_base.specs.declared.stop.Stop.TheVariants.{Faulted, Memory}

pub left_if : (Known : Type 0) (home : HeapValue) (end r : Result (Unit {0}) Stop) → EndsIf Known end r → EndsIf Known (left_in home end) (left_in home r)
left_if Known home end (Ok done) is = ap (left_in home) is
left_if Known home end (Err (Faulted f)) is = (ap (left_in home) is.0, is.1)
left_if Known home end (Err Memory) is = tt

tallied_if : (Known : Type 0) (n : ℕ) (before after : PhaseTotals) (end r : Result (Unit {0}) Stop) → EndsIf Known end r → IsTallied n before after end → IsTallied n before after r
tallied_if Known n before after end (Ok done) is t = subst (IsTallied n before after) is t
tallied_if Known n before after end (Err (Faulted f)) is t = subst (IsTallied n before after) is.0 t
tallied_if Known n before after end (Err Memory) is t = tt

pub booked_if : (Known : Type 0) (n : ℕ) (before after : Books) (end r : Result (Unit {0}) Stop) → EndsIf Known end r → IsBooked n before after end → IsBooked n before after r
booked_if Known n before after end r is booked =
    record { tally = tallied_if Known (chunks_in before.count n) before.count.tally after.count.tally end r is booked.tally; begun = booked.begun }
