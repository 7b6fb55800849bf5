use Rattle.std.proofs.Common.{arith}
use Rattle.variable_bases.proofs.Notes.{param_noted}
use Rattle.variable_bases.proofs.table.BaseTable.of_params.Goals as goal

pub loop-left-preserved : goal.loop-left-preserved
loop-left-preserved c =
    (omega (arith, c.loop-left.invariant.0), param_noted c.args.params.now c.loop-left.left _ c.index-params-left.result c.loop-left.table c.note.new.self c.loop-left.invariant.0 (omega (arith, c.loop-left-test.true)) c.index-params-left.is c.loop-left.invariant.1 c.in_ok-note.ensures)
