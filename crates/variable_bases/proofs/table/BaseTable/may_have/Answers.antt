use Rattle.variable_bases.proofs.Told.{other_lengths}
use Rattle.variable_bases.proofs.table.BaseTable.may_have.Goals as goal

pub returns-then-xs-bases : goal.returns-then-xs-bases
returns-then-xs-bases c = other_lengths c.args.self.now c.args.xs.now c.args.bases.now c.if-xs-bases.true
