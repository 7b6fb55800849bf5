use Rattle.std.proofs.Common.{refl}
use Rattle.phase_team.specs.Segments.{cells_from}
use Rattle.phase_books.specs.Homes.{chunks_in}
use Rattle.phase_books.proofs.Booking.{emptied_tally}
use Rattle.phase_books.proofs.Counters.{combines}
use Rattle.phase_books.proofs.team.compute_fold.Goals as goal

pub returns-in-Ok-end-clause-combined : goal.returns-in-Ok-end-clause-combined
returns-in-Ok-end-clause-combined g c =
    let cells = c.args.cells.now in
    let end = c.in-Ok-end.ensures in
    combines (g.C.CellRuns.lends cells) c.args.books.now.home c.fold_phase-end.new.home (g.C.CellRuns.takes cells) c.args.positions c.emptied.result c.requires.home
    end.kept c.emptied.ensures.empty c.emptied.ensures.stop c.args.op (cells_from (g.C.CellRuns.cell cells) 0 c.args.positions) c.args.value.now c.fold_phase-end.new.value end.combined

pub returns-in-Ok-end-clause-booked : goal.returns-in-Ok-end-clause-booked
returns-in-Ok-end-clause-booked g c =
    record { tally = emptied_tally (chunks_in c.args.books.now.count c.args.positions) c.args.books.now.count.tally c.fold_phase-end.new.tally c.emptied.result c.emptied.ensures.stop c.in-Ok-end.ensures.tally; begun = refl }
