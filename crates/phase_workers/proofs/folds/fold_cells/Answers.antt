use Rattle.std.proofs.Common.{ℕ, subst}
use Rattle.phase_books.specs.Homes.{IsBooked}
use Rattle.phase_workers.proofs.Openings.{lending_source}
use Rattle.run_values.specs.Scopes.{current}
use Rattle.phase_workers.proofs.folds.fold_cells.Goals as goal

pub each_fold-requires-clause-lending : goal.each_fold-requires-clause-lending
each_fold-requires-clause-lending g c κs within =
    let s = c.args.cells.now in
    let numbered = c.buffers_are_numbered.ensures in
    lending_source s.cells.context s.cells.heap.now (current s.cells.frames.now) s.cells.source s.live.now c.get-code.ensures.counted c.requires.counted c.requires.alive numbered.referred numbered.below numbered.single numbered.counters

pub returns-clause-booked : goal.returns-clause-booked
returns-clause-booked g c =
    let each = c.each_fold in
    subst (λ (k : ℕ). IsBooked k c.args.books.now each.new.books each.result) c.count-count.ensures each.ensures.booked
