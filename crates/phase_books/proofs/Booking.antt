-- The books of a phase.
use Rattle.std.proofs.Common.{◌≡◌, ℕ, Result, Ok, Err, refl, ap, ◌∙◌, sym, subst}
use Rattle.count_table.specs.Tallied.{PhaseTotals}
use Rattle.counted_code.specs.Values.{Ended, Done, Failed}
use Rattle.phase_draws.specs.Endings.{IsTallied, one_phase}
use Rattle.phase_books.specs.Homes.{Has, IsBooked, OrNoMemory, WillHave, chunks_in}
use Rattle.phase_books.specs.declared.results.Books.{Books}
use Rattle.run_loops.specs.Running.{ToldStop}
use Rattle.phase_count.specs.Tallies.{PhaseNumbers, counted_in}
use Rattle.phase_count.proofs.Tallying.{counts_as}
use Rattle.phase_count.specs.declared.OpenTally.{OpenTally}
use Rattle.phase_count.specs.declared.Totals.{Totals}
use Rattle.run_loops.specs.declared.state.State.{State}
use Rattle.sac_base.specs.declared.faults.Fault.{Fault}
use Rattle.sac_base.specs.declared.stop.Stop.{Stop}
use Rattle.sac_base.specs.declared.stop.Stop.TheVariants.{Faulted, Memory}

-- a heap that workers have left, with a buffer or without
pub emptied_tally : (n : ℕ) (before after : PhaseTotals) (r : Result (Unit {0}) Stop) → OrNoMemory r → after ≡ one_phase n before → IsTallied n before after r
emptied_tally n before after (Ok done) fine is = is
emptied_tally n before after (Err Memory) fine is = tt
emptied_tally n before after (Err (Faulted f)) fine is = absurd fine

-- once the phase is closed into it, the tally has the phases that are counted
closed : (n : ℕ) (before after : OpenTally) (p : PhaseNumbers) → WillHave n before p → after.tally ≡ one_phase (chunks_in before n) before.tally → after.before ≡ before.before → Has after p
closed n before after p will tally begun = tally ∙ will ∙ ap (λ (t : Totals). counted_in t.phases t.draws p) (sym begun)

pub done_has : (n : ℕ) (before after : Books) (p : PhaseNumbers) (end : Result (Unit {0}) Stop) → WillHave n before.count p → IsBooked n before after end → end ≡ Ok tt → Has after.count p
done_has n before after p end will booked is = closed n before.count after.count p will (subst (IsTallied (chunks_in before.count n) before.count.tally after.count.tally) is booked.tally) booked.begun

pub stopped_has : (n : ℕ) (before after : Books) (p : PhaseNumbers) (end : Result (Unit {0}) Stop) (f : Fault) → WillHave n before.count p → IsBooked n before after end → end ≡ Err (Faulted f) → Has after.count p
stopped_has n before after p end f will booked is = closed n before.count after.count p will (subst (IsTallied (chunks_in before.count n) before.count.tally after.count.tally) is booked.tally) booked.begun

-- a fault is told of each state with as many phases
pub stop_moved : {B : Type 0} (f : Fault) (s t : State) (w : Ended B) → t.phases ≡ s.phases → ToldStop (Faulted f) s w → ToldStop (Faulted f) t w
stop_moved f s t (Done b k) same told = absurd told
stop_moved f s t (Failed g phases) same told = (told.0, counts_as s.phases t.phases phases phases same refl told.1)
