use Rattle.std.proofs.Common.{rules, ◌≡◌, List, ℤ, None, length, refl, sym, subst}
use Rattle.phase_books.specs.Homes.{CombinesAll, left_in}
use Rattle.phase_loop_cells.specs.Cells.{source_cell, source_taken}
use Rattle.phase_team.specs.Segments.{cells_from, cost_from}
use Rattle.phase_workers.proofs.Ending.{taken_back}
use Rattle.phase_workers.proofs.FoldEnding.{combined_as}
use Rattle.run_values.specs.Scopes.{current}
use Rattle.phase_workers.proofs.folds.fold_in.Goals as goal

pub returns-clause-combined : goal.returns-clause-combined
returns-clause-combined g c =
    let a = c.args in
    let h = a.state.now.heap.own in
    let e = current a.state.now.frames in
    let p = a.work.plan.now in
    let es = c.fold_cells.new.value in
    let begins = a.begun.now.target.cells in
    let start : c.deref_mut.result.now ≡ begins.items = search rules in
    let len : length es ≡ begins.len = search rules in
    let r = left_in c.fold_cells.new.books.home c.fold_cells.result in
    combined_as a.op (cells_from (source_cell a.context h e a.work.source p None) 0 (length p.frame)) h (cost_from (source_taken a.context h e a.work.source p) 0 (length p.frame)) c.deref_mut.result.now begins.items _ r r refl start
    (subst (λ (zs : List ℤ). CombinesAll a.op (cells_from (source_cell a.context h e a.work.source p None) 0 (length p.frame)) h (cost_from (source_taken a.context h e a.work.source p) 0 (length p.frame)) c.deref_mut.result.now zs r)
    (sym (taken_back _ begins.len es len)) c.fold_cells.ensures.combined)
