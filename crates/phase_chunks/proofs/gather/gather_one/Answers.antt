use Rattle.std.proofs.Common.{rules, ◌≡◌, length, refl, subst, arith}
use Rattle.phase_team.specs.declared.cells.CellEnd.{CellEnd}
use Rattle.phase_team.specs.Segments.{value_if, Tells}
use Rattle.phase_chunks.proofs.Gathering.{comes_none, comes_one, next_cells, stops_next}
use Rattle.phase_chunks.proofs.gather.gather_one.Goals as goal

pub returns-in-Value-clause-ran : goal.returns-in-Value-clause-ran
returns-in-Value-clause-ran g c = λ n some.
    let cell = g.C.PhaseCells.cell c.args.work.now.cells.now in
    let len : length c.cell.new.into ≡ c.args.work.now.share.width = search rules in
    next_cells cell c.args.position 1 n c.args.op c.args.work.now.share.width (value_if c.args.held.now c.args.row.now) _ (omega arith) some
    (comes_one cell c.args.position c.args.op c.args.work.now.share.width (value_if c.args.held.now c.args.row.now) _ c.cell.new.into c.in-Value.ensures.tells len c.combine_held.ensures)

pub returns-in-NotHeld-clause-ran : goal.returns-in-NotHeld-clause-ran
returns-in-NotHeld-clause-ran g c = λ n some.
    let cell = g.C.PhaseCells.cell c.args.work.now.cells.now in
    next_cells cell c.args.position 1 n c.args.op c.args.work.now.share.width (value_if c.args.held.now c.args.row.now) _ (omega arith) some
    (comes_none cell c.args.position c.args.op c.args.work.now.share.width (value_if c.args.held.now c.args.row.now) _ c.in-NotHeld.ensures.tells refl)

pub returns-in-Stopped-clause-ran : goal.returns-in-Stopped-clause-ran
returns-in-Stopped-clause-ran g c = λ n some.
    let cell = g.C.PhaseCells.cell c.args.work.now.cells.now in
    let before = value_if c.args.held.now c.args.row.now in
    stops_next cell c.args.position n c.args.op c.args.work.now.share.width c.cell.new.into before before c.in-Stopped.stop some
    (subst (λ (e : CellEnd). Tells (cell c.args.position) c.cell.new.into e) c.in-Stopped.is c.cell.ensures.tells)
