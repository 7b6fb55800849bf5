use Rattle.std.proofs.Common.{IfOk, subst}
use Rattle.buffer_heap.specs.Heaps.{HeapValue}
use Rattle.count_table.specs.Tallied.{PhaseTotals}
use Rattle.phase_cells.specs.Idle.{counter, raise}
use Rattle.phase_draws.specs.Endings.{IsTallied}
use Rattle.phase_team.specs.Segments.{Costs}
use Rattle.phase_books.specs.Homes.{chunks_in}
use Rattle.phase_books.proofs.team.store_cells.Goals as goal

pub returns-clause-kept : goal.returns-clause-kept
returns-clause-kept g c =
    let takes = g.C.CellRuns.takes c.args.lent.now.cells.now in
    let after = c.array_phase-after.result in
    subst (λ (h : HeapValue). IfOk after.1 (λ _. Costs (λ kind p. raise (takes p) kind) 0 c.args.positions (counter h) (counter after.0.home))) c.replace-home.ensures.value c.array_phase-after.ensures.kept

pub returns-clause-tally : goal.returns-clause-tally
returns-clause-tally g c =
    let after = c.array_phase-after.result in
    subst (λ (t : PhaseTotals). IsTallied (chunks_in c.args.books.now.count c.args.positions) t after.0.tally after.1) c.replace-tally.ensures.value c.array_phase-after.ensures.tally
