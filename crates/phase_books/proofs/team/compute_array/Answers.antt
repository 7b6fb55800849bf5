use Rattle.phase_team.specs.Segments.{cells_from}
use Rattle.phase_books.specs.Homes.{chunks_in}
use Rattle.phase_books.proofs.Booking.{emptied_tally}
use Rattle.phase_books.proofs.Counters.{computes}
use Rattle.phase_books.proofs.team.compute_array.Goals as goal

pub returns-in-Ok-end-clause-computed : goal.returns-in-Ok-end-clause-computed
returns-in-Ok-end-clause-computed g c =
    let cells = c.args.cells.now in
    let end = c.in-Ok-end.ensures in
    computes (g.C.CellRuns.lends cells) c.args.books.now.home c.store_cells-end.new.books.home (g.C.CellRuns.takes cells) c.args.positions c.emptied.result c.requires.home
    end.kept c.emptied.ensures.empty c.emptied.ensures.stop (cells_from (g.C.CellRuns.cell cells) 0 c.args.positions) c.store_cells-end.new.into end.array

pub returns-in-Ok-end-clause-booked : goal.returns-in-Ok-end-clause-booked
returns-in-Ok-end-clause-booked g c =
    let before = c.args.books.now.count in
    let after = c.store_cells-end.new.books.count in
    record { tally = emptied_tally (chunks_in before c.args.positions) before.tally after.tally c.emptied.result c.emptied.ensures.stop c.in-Ok-end.ensures.tally; begun = c.store_cells-end.ensures.begun }
