use Rattle.std.proofs.Common.{rules, ◌≡◌, ◌<◌, ◌∙◌, ap, length, w32, FitsSigned, arith}
use Rattle.std.proofs.lemmas.Int.{to_z-of_z}
use Rattle.buffer_heap.specs.Heaps.{at, content_of}
use Rattle.run_over.proofs.Over.{named_in, put_stands, same_in, sole_in, sole_named}
use Rattle.run_over.proofs.write_over.Goals as goal

pub cells-requires : goal.cells-requires
cells-requires c =
    let h = c.args.heap.now.own in
    named_in h c.args.id.place c.args.id.born (sole_named h c.args.id.place c.args.id.born (c.may_be_over.ensures c.if-not-may_be_over.false))

pub lift-cells-requires : goal.lift-cells-requires
lift-cells-requires c = sole_in c.args.heap.now.own c.args.id.place c.args.id.born (c.may_be_over.ensures c.if-not-may_be_over.false)

pub returns-clause-written : goal.returns-clause-written
returns-clause-written c m stands =
    let s = c.args.heap.now in
    let id = c.args.id in
    let old = c.lift-cells.result.items in
    let long = ap length (same_in (content_of (at s.own id.place)) c.cells.result.now old c.cells.ensures c.lift-cells.ensures.cells) in
    let inside : c.args.place < length old = omega (arith, long, c.if-place-cells.false) in
    let fits : FitsSigned w32 c.args.element = search rules in
    let whole = to_z-of_z w32 c.args.element fits in
    put_stands s m id.place id.born old (c.may_be_over.ensures c.if-not-may_be_over.false) c.lift-cells.ensures.cells stands c.args.place c.args.element inside
    c.lift-cells.new.self c.settle.new.self _ c.lift-cells.ensures.heap c.settle.ensures cc
