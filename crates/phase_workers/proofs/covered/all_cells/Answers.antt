use Rattle.std.proofs.Common.{ℕ, length, subst}
use Rattle.phase_books.specs.Homes.{ComputesAll, IsBooked, left_in}
use Rattle.phase_team.specs.Segments.{cells_from, cost_from}
use Rattle.phase_workers.specs.Covered.{AreWhole, cell_of, must_be_there, taken_of}
use Rattle.phase_workers.proofs.Believing.{booked_if, left_if}
use Rattle.phase_workers.proofs.Covering.{all_believed, all_there, source_there}
use Rattle.phase_workers.proofs.Openings.{lending_source}
use Rattle.run_values.specs.Scopes.{current}
use Rattle.phase_workers.proofs.covered.all_cells.Goals as goal

pub each_cell-end-requires-clause-lending : goal.each_cell-end-requires-clause-lending
each_cell-end-requires-clause-lending g c κs within =
    let s = c.args.cells.now in
    let numbered = c.buffers_are_numbered.ensures in
    lending_source s.cells.context s.cells.heap.now (current s.cells.frames.now) s.cells.source s.live.now c.get-code.ensures.counted c.requires.counted c.requires.alive numbered.referred numbered.below numbered.single numbered.counters

pub returns-clause-computed : goal.returns-clause-computed
returns-clause-computed g c =
    let s = c.args.cells.now in
    let h = s.cells.heap.now in
    let p = s.cells.plan.now in
    let es = c.each_cell-end.new.into in
    let n = length p.frame in
    let home = c.each_cell-end.new.books.home in
    all_believed (cell_of s) h n (cost_from (taken_of s) 0 n) (AreWhole s)
    (λ whole. source_there s.cells.context h (current s.cells.frames.now) s.cells.source p s.cells.background whole)
    es (left_in home c.each_cell-end.result) (left_in home c.believed.result)
    (subst (λ k. ComputesAll (cells_from (λ p. must_be_there (cell_of s p)) 0 k) h (cost_from (taken_of s) 0 k) es (left_in home c.each_cell-end.result)) c.count-count.ensures c.each_cell-end.ensures.computed)
    (left_if (AreWhole s) home c.each_cell-end.result c.believed.result c.believed.ensures)

pub returns-clause-booked : goal.returns-clause-booked
returns-clause-booked g c =
    let s = c.args.cells.now in
    booked_if (AreWhole s) (length s.cells.plan.now.frame) c.args.books.now c.each_cell-end.new.books c.each_cell-end.result c.believed.result c.believed.ensures
    (subst (λ (k : ℕ). IsBooked k c.args.books.now c.each_cell-end.new.books c.each_cell-end.result) c.count-count.ensures c.each_cell-end.ensures.booked)

pub returns-clause-there : goal.returns-clause-there
returns-clause-there g c =
    let s = c.args.cells.now in
    let h = s.cells.heap.now in
    let p = s.cells.plan.now in
    let es = c.each_cell-end.new.into in
    let n = length p.frame in
    let home = c.each_cell-end.new.books.home in
    all_there (cell_of s) h home n (cost_from (taken_of s) 0 n) (AreWhole s)
    (λ whole. source_there s.cells.context h (current s.cells.frames.now) s.cells.source p s.cells.background whole)
    es c.each_cell-end.result c.believed.result
    (subst (λ k. ComputesAll (cells_from (λ p. must_be_there (cell_of s p)) 0 k) h (cost_from (taken_of s) 0 k) es (left_in home c.each_cell-end.result)) c.count-count.ensures c.each_cell-end.ensures.computed)
    c.believed.ensures
