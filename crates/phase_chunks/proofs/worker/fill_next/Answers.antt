use Rattle.std.proofs.Common.{◌≡◌, ℕ, ◌+◌, ◌-◌, ◌*◌, ◌++◌, ◌<◌, length, Some, Ok, sym, subst, arith, rules}
use borrow.Rule.Slice.PartMut.{post_of}
use Rattle.phase_team.specs.declared.cells.CellEnd.{CellEnd}
use Rattle.phase_team.specs.Segments.{Tells, row_at}
use Rattle.phase_team.proofs.Stored.{costs_free, one_stops, one_stored, stretched}
use Rattle.phase_chunks.proofs.worker.fill_next.Goals as goal

pub returns-then-together-gt0-clause-stored : goal.returns-then-together-gt0-clause-stored
returns-then-together-gt0-clause-stored g c =
    let cell = g.C.PhaseCells.cell c.args.work.now.cells.now in
    let n : ℕ = c.stretch-together.result in
    let rows = c.stretch-together.new._rows in
    let long : length c.stretch-together.new._rows ≡ c.args.stretch.count * c.args.work.now.share.width = search rules in
    let tells = subst (λ (w : ℕ). (j : ℕ) → j < n → cell (c.args.stretch.start + j) ≡ Ok (Some (row_at w j rows))) (sym c.requires.suits.width_is) c.stretch-together.ensures.tells in
    (omega arith, c.stretch-together.ensures.most, stretched cell c.args.stretch.start n c.args.stretch.count c.args.work.now.share.width rows c.stretch-together.ensures.most long tells)

pub returns-then-together-gt0-clause-spent : goal.returns-then-together-gt0-clause-spent
returns-then-together-gt0-clause-spent g c =
    let spent = g.C.PhaseCells.spent c.args.work.now.cells.now in
    costs_free (g.C.PhaseCells.cost c.args.work.now.cells.now) c.args.stretch.start c.stretch-together.result (spent c.args.worker.now.context) (spent c.stretch-together.new._worker) c.stretch-together.ensures.free c.stretch-together.ensures.spent

pub returns-in-Value-clause-stored : goal.returns-in-Value-clause-stored
returns-in-Value-clause-stored g c =
    let cell = g.C.PhaseCells.cell c.args.work.now.cells.now in
    let len : length c.cell.new.into ≡ c.args.work.now.share.width = search rules in
    (omega arith, c.requires.some, one_stored cell c.args.stretch.start c.args.work.now.share.width c.cell.new.into _ c.in-Value.ensures.tells len)

pub returns-in-Stopped-clause-stored : goal.returns-in-Stopped-clause-stored
returns-in-Stopped-clause-stored g c =
    let cell = g.C.PhaseCells.cell c.args.work.now.cells.now in
    one_stops cell c.args.stretch.start c.args.stretch.count c.args.work.now.share.width c.cell.new.into (c.cell.new.into ++ post_of 0 (c.args.work.now.share.width - 0) c.stretch-together.new._rows) c.in-Stopped.stop c.requires.some
    (subst (λ (e : CellEnd). Tells (cell c.args.stretch.start) c.cell.new.into e) c.in-Stopped.is c.cell.ensures.tells)
