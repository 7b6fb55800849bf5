use Rattle.std.proofs.Common.{rules}
use Rattle.run_store.proofs.Wholes.{own_cells, lent_cells}
use Rattle.run_store.proofs.access.buffer_cells.Goals as goal

pub returns-then-has : goal.returns-then-has
returns-then-has c m stands =
    lent_cells c.args.heap.now c.in-Some.lent m c.args.id.place c.args.id.born c.cells.result.now c.in-Some.is (search rules) c.cells.ensures stands

pub returns-then-is_held : goal.returns-then-is_held
returns-then-is_held c m stands =
    own_cells c.args.heap.now m c.args.id.place c.args.id.born c.cells-then-is_held.result.now (search rules) c.cells-then-is_held.ensures stands
