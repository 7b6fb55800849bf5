use Rattle.std.proofs.Common.{rules, ◌≡◌, ◌≤◌, ap, ◌∙◌, sym, subst, replicate, length, arith}
use Rattle.buffer_heap.specs.Heaps.{HeapValue, at}
use Rattle.phase_cells.specs.Idle.{StandsBehind}
use Rattle.phase_cells.proofs.Works.{begun}
use Rattle.run_store.proofs.Opening.{behind_heap}
use Rattle.phase_cells.proofs.worker.LentCellsPhaseCellsHeap.begin.Goals as goal

pub returns-clause-idle : goal.returns-clause-idle
returns-clause-idle g c =
    let lends = g.C.CellRuns.lends c.args.self.now.cells.now in
    let home = c.requires.home in
    let own : c.behind.result ≡ behind_heap lends = c.behind.ensures ∙ ap behind_heap c.heap-lends.ensures in
    let later : lends.births ≤ c.behind.result.births = (let same = ap (λ (h : HeapValue). h.births) own in omega (arith, same)) in
    let held : c.in_ok-holds.holds.items ≡ replicate (length c.heap-lends.result.now.places) 0 = search rules in
    record {
      empty = λ b. ap (λ h. at h b) own;
      none_held = held ∙ ap (λ (h : HeapValue). replicate (length h.places) 0) c.heap-lends.ensures;
      may_run = (c.in_ok-scratch.ensures, later, (home.before, subst (λ h. StandsBehind lends h home.before) (sym own) (begun lends home.before home.stands), home.opens_first));
    }
