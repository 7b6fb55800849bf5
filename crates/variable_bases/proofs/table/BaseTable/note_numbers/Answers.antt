use Rattle.variable_bases.proofs.Notes.{no_number, number_noted, numbers}
use Rattle.variable_bases.proofs.table.BaseTable.note_numbers.Goals as goal

pub loop-x-init : goal.loop-x-init
loop-x-init c = no_number c.args.xs.now c.args.self.now

pub loop-x-preserved : goal.loop-x-preserved
loop-x-preserved c =
    number_noted c.args.xs.now c.loop-x.x-index _ c.args.self.now c.loop-x.self c.note.new.self c.loop-x-test.true c.loop-x.invariant c.in_ok-note.ensures

pub returns : goal.returns
returns c = numbers c.args.xs.now c.loop-x.x-index c.args.self.now c.loop-x.self c.loop-x-test.false c.loop-x.invariant
