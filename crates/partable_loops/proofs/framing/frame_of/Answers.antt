use Rattle.fact_table.specs.Table.{facts_of}
use Rattle.partable_loops.proofs.Operations.{genarray_known, modarray_known, fold_known}
use Rattle.partable_loops.proofs.framing.frame_of.Goals as goal

pub returns-in_ok-known_shape-in-Genarray : goal.returns-in_ok-known_shape-in-Genarray
returns-in_ok-known_shape-in-Genarray c =
    genarray_known (facts_of c.args.table.now) c.args.op c.args.bounds.now c.genarray_frame.result c.in-Genarray.shape c.in-Genarray.default
    c.in_ok-whole-in-Genarray.whole.now c.in_ok-known_shape-in-Genarray.field-0.now c.in-Genarray.is c.in_ok-whole-in-Genarray.ensures
    c.in_ok-known_shape-in-Genarray.ensures c.genarray_frame.ensures

pub returns-in_ok-known_shape-in-Modarray : goal.returns-in_ok-known_shape-in-Modarray
returns-in_ok-known_shape-in-Modarray c =
    modarray_known (facts_of c.args.table.now) c.args.op c.args.bounds.now c.modarray_frame.result c.in-Modarray.array
    c.in_ok-known_shape-in-Modarray.field-0.now c.in-Modarray.is c.in_ok-known_shape-in-Modarray.ensures c.modarray_frame.ensures

pub returns-in_ok-known_shape-in-Fold : goal.returns-in_ok-known_shape-in-Fold
returns-in_ok-known_shape-in-Fold c =
    fold_known (facts_of c.args.table.now) c.args.op c.args.bounds.now c.fold_frame.result c.in-Fold.op c.in-Fold.neutral
    c.in_ok-known_shape-in-Fold.field-0.now c.in-Fold.is c.in_ok-known_shape-in-Fold.ensures c.fold_frame.ensures
