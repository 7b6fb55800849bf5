use Rattle.std.proofs.Common.{arith}
use Rattle.variable_bases.proofs.Notes.{no_note, base_noted, notes}
use Rattle.variable_bases.proofs.table.BaseTable.note_each.Goals as goal

pub loop-k-init : goal.loop-k-init
loop-k-init c = no_note c.args.xs.now c.args.bases.now c.args.self.now

pub loop-k-preserved : goal.loop-k-preserved
loop-k-preserved c =
    base_noted c.args.xs.now c.args.bases.now c.loop-k.k _ _ c.args.self.now c.loop-k.self c.note.new.self (omega (arith, c.loop-k-test.true, c.min-k-end.ensures)) c.loop-k.invariant c.in_ok-note.ensures

pub returns : goal.returns
returns c = notes c.args.xs.now c.args.bases.now c.loop-k.k c.args.self.now c.loop-k.self (λ fits. omega (arith, c.min-k-end.ensures, fits, c.loop-k-test.false)) c.loop-k.invariant
