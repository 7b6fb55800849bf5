use Rattle.std.proofs.Common.{rules, ◌≡◌, ap, ◌∙◌, subst, replicate, length, Some, refl}
use Rattle.buffer_heap.specs.Heaps.{HeapValue}
use Rattle.run_store.specs.Lents.{LentValue, lender_as}
use Rattle.run_store.specs.Stands.{lender_in, lender_of}
use Rattle.phase_cells.specs.Idle.{MayRun}
use Rattle.phase_cells.proofs.Works.{may_go_on, none_holds, opened}
use Rattle.phase_cells.proofs.worker.LentCellsPhaseCellsHeap.cell.Goals as goal

pub returns-clause-tells : goal.returns-clause-tells
returns-clause-tells g c =
    let self = c.args.self.now.cells.now in
    let lends = g.C.CellRuns.lends self in
    let own = c.args.worker.now.heap in
    let l : LentValue = c.new-lent.result in
    let scratch : c.args.worker.now.scratch ≡ Some c.in-Some.scratch = search rules in
    let may = subst (MayRun (g.C.CellRuns.ready self) (g.C.CellRuns.opens self) lends own) scratch c.requires.idle.may_run in
    let own_is : c.with-store.result.own ≡ own = search rules in
    let heap : l.heap ≡ lends = ap (λ (k : LentValue). k.heap) c.new-lent.ensures ∙ c.heap.ensures in
    let holds : l.holds ≡ replicate (length lends.places) 0 = search rules in
    let stands = opened lends own may.2.0 c.with-store.result l own_is c.with-store.ensures.lent heap (none_holds l (length lends.places) holds) may.2.1 in
    c.left_by-end.ensures.tells (g.C.CellRuns.cell self c.args.position) c.run-end.new.into (c.run-end.ensures.tells may.2.0 stands may.2.2)

pub returns-clause-idle : goal.returns-clause-idle
returns-clause-idle g c =
    let self = c.args.self.now.cells.now in
    let lends = g.C.CellRuns.lends self in
    let own = c.args.worker.now.heap in
    let l : LentValue = c.new-lent.result in
    let scratch : c.args.worker.now.scratch ≡ Some c.in-Some.scratch = search rules in
    let may = subst (MayRun (g.C.CellRuns.ready self) (g.C.CellRuns.opens self) lends own) scratch c.requires.idle.may_run in
    let own_is : c.with-store.result.own ≡ own = search rules in
    let heap : l.heap ≡ lends = ap (λ (k : LentValue). k.heap) c.new-lent.ensures ∙ c.heap.ensures in
    let holds : l.holds ≡ replicate (length lends.places) 0 = search rules in
    let none = none_holds l (length lends.places) holds in
    let stands = opened lends own may.2.0 c.with-store.result l own_is c.with-store.ensures.lent heap none may.2.1 in
    let lender : lender_of c.run-end.new.store ≡ Some (lender_as l) = c.run-end.ensures.lender ∙ ap lender_in c.with-store.ensures.lent in
    record {
      empty = c.left_by-end.ensures.empty;
      none_held = c.close-heap.ensures.holds (lender_as l) lender ∙ ap (λ (h : HeapValue). replicate (length h.places) 0) heap;
      may_run = may_go_on (g.C.CellRuns.ready self) (g.C.CellRuns.opens self) lends own c.left_by-end.new.heap may.2.0 (g.C.CellRuns.takes self c.args.position) c.run-end.new.store l c.run-end.result c.left_by-end.result c.run-end.new.scratch (Some c.run-end.new.scratch) c.stop_after.new.scratch
          lender heap may.1 (may.2.1 l heap none) c.run-end.ensures.ready (c.run-end.ensures.left may.2.0 stands may.2.2)
          (λ computed. (let same = c.left_by-end.ensures.same computed in (same.0, same.1 ∙ c.close-heap.ensures.own))) refl c.stop_after.ensures;
    }
