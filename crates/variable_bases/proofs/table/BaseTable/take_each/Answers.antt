use Rattle.std.proofs.Common.{◌+◌, sym, ◌∙◌, subst, arith}
use Rattle.variable_bases.specs.declared.table.BaseTable.{BaseTable}
use Rattle.variable_bases.proofs.Notes.{TakesSoFar, no_take, base_taken, none_taken, takes}
use Rattle.variable_bases.proofs.table.BaseTable.take_each.Goals.{in-Some+in_ok-note, in_default}
use Rattle.variable_bases.proofs.table.BaseTable.take_each.Goals as goal

pub loop-k-init : goal.loop-k-init
loop-k-init c = no_take c.args.xs.now c.args.sources.now c.args.self.now

pub loop-k-preserved : goal.loop-k-preserved
loop-k-preserved c =
    elim c.match-of.branch [
      | in-Some+in_ok-note w ↦ subst (λ (t : BaseTable). TakesSoFar c.args.xs.now c.args.sources.now (c.loop-k.k + 1) c.args.self.now t) (sym w.self-is)
          (base_taken c.args.xs.now c.args.sources.now c.loop-k.k _ _ w.in-Some.base c.args.self.now c.loop-k.self w.note.new.self (omega (arith, c.loop-k-test.true, c.min-k-end.ensures)) (sym c.of.ensures ∙ w.in-Some.is) c.loop-k.invariant w.in_ok-note.ensures)
      | in_default w ↦ subst (λ (t : BaseTable). TakesSoFar c.args.xs.now c.args.sources.now (c.loop-k.k + 1) c.args.self.now t) (sym w.self-is)
          (none_taken c.args.xs.now c.args.sources.now c.loop-k.k _ c.args.self.now c.loop-k.self (omega (arith, c.loop-k-test.true, c.min-k-end.ensures)) (sym c.of.ensures ∙ w.in_default.is) c.loop-k.invariant)
    ]

pub returns : goal.returns
returns c = takes c.args.xs.now c.args.sources.now c.loop-k.k c.args.self.now c.loop-k.self (λ fits. omega (arith, c.min-k-end.ensures, fits, c.loop-k-test.false)) c.loop-k.invariant
