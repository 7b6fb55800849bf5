use Rattle.std.proofs.Common.{rules, ◌≡◌, List, ℤ, length, sym, subst}
use Rattle.phase_books.specs.Homes.{ComputesAll, left_in}
use Rattle.phase_loop_cells.specs.Cells.{source_cell, source_taken}
use Rattle.phase_team.specs.Segments.{cells_from, cost_from}
use Rattle.phase_workers.proofs.Ending.{taken_back}
use Rattle.run_values.specs.Scopes.{current}
use Rattle.phase_workers.proofs.arrays.array_cells.Goals as goal

pub returns-clause-computed : goal.returns-clause-computed
returns-clause-computed g c =
    let a = c.args in
    let h = a.state.now.heap.own in
    let e = current a.state.now.frames in
    let p = a.work.plan.now in
    let es = c.all_cells.new.into in
    let len : length es ≡ a.begun.now.target.cells.len = search rules in
    subst (λ (zs : List ℤ). ComputesAll (cells_from (source_cell a.context h e a.work.source p a.background) 0 (length p.frame)) h (cost_from (source_taken a.context h e a.work.source p) 0 (length p.frame)) zs (left_in c.all_cells.new.books.home c.all_cells.result))
    (sym (taken_back _ a.begun.now.target.cells.len es len)) c.all_cells.ensures.computed
