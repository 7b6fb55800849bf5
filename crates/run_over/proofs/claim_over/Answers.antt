use Rattle.std.proofs.Common.{◌∙◌, ◌+◌, ap, length, refl, sym, subst}
use Rattle.buffer_heap.specs.Heaps.{HeapValue, In, at, with_content, with_place}
use Rattle.run_store.specs.Stands.{Stands}
use Rattle.run_over.proofs.Over.{claimed_stands, out_live, sole_in}
use Rattle.run_over.proofs.claim_over.Goals as goal

pub reuse-cells-requires : goal.reuse-cells-requires
reuse-cells-requires c = sole_in c.args.heap.now.own c.args.id.place c.args.id.born (c.may_be_over.ensures c.if-not-may_be_over.false)

pub settle-requires : goal.settle-requires
settle-requires c =
    let id = c.args.id in
    let cells = c.reuse-cells.result.items in
    out_live c.args.heap.now.own id.place id.born cells (c.may_be_over.ensures c.if-not-may_be_over.false) c.reuse-cells.ensures.cells c.reuse-cells.new.self
    (ap (λ (h : HeapValue). h.places) c.reuse-cells.ensures.heap) (length cells) refl

pub returns-clause-claimed : goal.returns-clause-claimed
returns-clause-claimed c m stands =
    let s = c.args.heap.now in
    let id = c.args.id in
    let cells = c.reuse-cells.result.items in
    subst (λ h. Stands (record { own = h; lent = s.lent }) (record m { reused = m.reused + 1 }))
    (sym (c.settle.ensures ∙ ap (λ k. with_place k id.place (with_content (at k id.place) (In cells))) c.reuse-cells.ensures.heap))
    (claimed_stands s m id.place id.born cells (c.may_be_over.ensures c.if-not-may_be_over.false) c.reuse-cells.ensures.cells stands)
