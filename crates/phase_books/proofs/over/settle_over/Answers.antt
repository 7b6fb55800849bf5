use Rattle.std.proofs.Common.{ap, length, ◌∙◌, arith}
use Rattle.buffer_heap.specs.Heaps.{HeapValue, In, at, content_of, with_content, with_place}
use Rattle.run_store.specs.declared.store.Store.{Store}
use Rattle.run_over.proofs.Over.{named_in, out_live, same_in, sole_in, sole_named}
use Rattle.phase_books.proofs.over.settle_over.Goals as goal

pub cells-requires : goal.cells-requires
cells-requires c =
    let h = c.args.heap.now.own in
    named_in h c.args.id.place c.args.id.born (sole_named h c.args.id.place c.args.id.born (c.is_lone.ensures c.if-not-is_lone.false))

pub reuse-old-requires : goal.reuse-old-requires
reuse-old-requires c = sole_in c.args.heap.now.own c.args.id.place c.args.id.born (c.is_lone.ensures c.if-not-is_lone.false)

pub settle-requires : goal.settle-requires
settle-requires c =
    let h = c.args.heap.now.own in
    let id = c.args.id in
    let old = c.reuse-old.result.items in
    out_live h id.place id.born old (c.is_lone.ensures c.if-not-is_lone.false) c.reuse-old.ensures.cells c.reuse-old.new.self
    (ap (λ (h : HeapValue). h.places) c.reuse-old.ensures.heap) (length c.args.elements.items)
    (let long = ap length (same_in (content_of (at h id.place)) c.cells.result.now old c.cells.ensures c.reuse-old.ensures.cells) in
    let whole = c.if-cells-len.false in omega (arith, long, whole))

pub returns-clause-settled : goal.returns-clause-settled
returns-clause-settled c =
    let s = c.args.heap.now in
    let id = c.args.id in
    ap {B = Store} (λ (h : HeapValue). record s { own = h }) (c.put_spare.ensures ∙ c.settle.ensures ∙ ap (λ (k : HeapValue). with_place k id.place (with_content (at k id.place) (In c.args.elements.items))) c.reuse-old.ensures.heap)
